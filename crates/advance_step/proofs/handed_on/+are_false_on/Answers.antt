use Rattle.std.proofs.Common.{subst}
use Rattle.term_model.specs.Terms.{contract}
use Rattle.term_model.specs.declared.terms.Contr.{Contr}
use Rattle.expr_eval.specs.Evaluable.{MayEvaluateIn}
use Rattle.expr_eval.proofs.PartFacts.{parts_of_parts_may_evaluate}
use Rattle.advance_step.proofs.handed_on.+are_false_on.Goals as goal

pub is_false_on-requires-clause-place : goal.is_false_on-requires-clause-place
is_false_on-requires-clause-place t c =
    let d = c.args.known.now.decls in
    let bs = c.args.scratch.now.entries in
    (parts_of_parts_may_evaluate d _ bs (subst (λ (x : Contr). MayEvaluateIn d (contract x) bs) c.in-Within.is c.requires.part)).0
