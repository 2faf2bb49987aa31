use Rattle.std.proofs.Common.{ℤ, subst}
use Rattle.std.specs.Int.{w64}
use Rattle.std.proofs.lemmas.Int.{to_z-of_z}
use Rattle.expr_eval.specs.Answers.{IsAnswer}
use Rattle.term_model.specs.Declarations.{declarations}
use Rattle.term_model.specs.Terms.{expression}
use Rattle.expr_eval.proofs.TrialFacts.{answer_is}
use Rattle.flow_eval.proofs.ReadyFacts.{day_fits, may_evaluate}
use Rattle.flow_eval.proofs.walk.value_at.Goals as goal

pub eval-requires-clause-place : goal.eval-requires-clause-place
eval-requires-clause-place c = may_evaluate (declarations c.args.basis.now.decls.now) (expression c.args.e.now) c.args.scratch.now c.args.basis.now.fixings.now c.requires.ready

pub returns-clause-answer : goal.returns-clause-answer
returns-clause-answer c = λ g bs stand.
    answer_is (declarations c.args.basis.now.decls.now) (expression c.args.e.now) c.args.scratch.now.entries c.args.basis.now.fixings.now c.args.here.day c.eval.result
    (subst (λ (f : ℤ). IsAnswer (declarations c.args.basis.now.decls.now) (expression c.args.e.now) c.args.scratch.now.entries c.args.basis.now.fixings.now f c.eval.result) (to_z-of_z w64 c.args.here.day (day_fits c.args.here.day 0 c.requires.day)) c.eval.ensures.answer.answer) g bs stand
