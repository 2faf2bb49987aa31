use Rattle.std.proofs.Common.{List, ◌≡◌, subst}
use Rattle.term_model.specs.Declarations.{Declarations, declarations}
use Rattle.term_model.specs.Terms.{contract}
use Rattle.term_model.specs.declared.terms.Contr.{Contr}
use Rattle.expr_eval.specs.declared.scratch.Binding.{Binding}
use Rattle.expr_eval.specs.Evaluable.{MayEvaluateIn}
use Rattle.expr_eval.specs.LawsEntries.{PartsOfPartsMayEvaluate, PartsMayEvaluate}
use Rattle.library_rows.proofs.evaluating.+factor_of.Goals as goal

-- the parts of a contract by its form
parts_of : PartsOfPartsMayEvaluate → (d : Declarations) (x y : Contr) (bs : List Binding) → x ≡ y → MayEvaluateIn d (contract x) bs → PartsMayEvaluate d (contract y) bs
parts_of law d x y bs is h = subst (λ (z : Contr). PartsMayEvaluate d (contract z) bs) is (law d (contract x) bs h)

pub eval-requires-clause-place : goal.eval-requires-clause-place
eval-requires-clause-place t c =
    (parts_of c.parts_may_be_evaluated.ensures.parts (declarations c.args.decls.now) _ _ c.args.scratch.now.entries c.in-Scale.is c.requires.place).0

pub kind_of-kind-requires : goal.kind_of-kind-requires
kind_of-kind-requires t c =
    record { place = (parts_of c.parts_may_be_evaluated.ensures.parts (declarations c.args.decls.now) _ _ c.args.scratch.now.entries c.in-Let.is c.requires.place).0 }

pub eval-requires-in-Let-clause-place : goal.eval-requires-in-Let-clause-place
eval-requires-in-Let-clause-place t c =
    (parts_of c.parts_may_be_evaluated.ensures.parts (declarations c.args.decls.now) _ _ c.args.scratch.now.entries c.in-Let.is c.requires.place).0
