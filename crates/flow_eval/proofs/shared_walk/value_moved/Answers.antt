use Rattle.std.proofs.Common.{◌≡◌, ◌+ℤ◌, ℤ, to_z, of_z, arith, sym, subst, ◌∙◌}
use Rattle.std.specs.Int.{w32, w64}
use Rattle.std.proofs.lemmas.Int.{to_z-of_z, ints}
use Rattle.term_model.specs.Declarations.{declarations}
use Rattle.term_model.specs.Terms.{expression}
use Rattle.expr_eval.specs.Answers.{IsAnswer}
use Rattle.expr_eval.proofs.TrialFacts.{answer_is}
use Rattle.flow_eval.proofs.ReadyFacts.{may_evaluate_stored}
use Rattle.flow_eval.proofs.MovedFacts.{answer_moved}
use Rattle.flow_eval.proofs.shared_walk.value_moved.Goals as goal

pub eval-requires-clause-place : goal.eval-requires-clause-place
eval-requires-clause-place c = may_evaluate_stored (declarations c.args.basis.now.decls.now) c.args.moved (expression c.args.e.now) c.args.scratch.now c.args.basis.now.fixings.now c.requires.ready

pub returns-clause-answer : goal.returns-clause-answer
returns-clause-answer c = λ g bs stand.
    let d = declarations c.args.basis.now.decls.now in
    let e = expression c.args.e.now in
    let F = c.args.basis.now.fixings.now in
    let k = c.args.moved in
    let f = c.args.here.day in
    let z = to_z-of_z w32 c.args.moved c.ranges.moved in
    let day : to_z w64 (of_z w64 c.day_moved.result) ≡ f +ℤ k = grind (arith, ints, to_z-of_z, z, c.day_moved.ensures.day) in
    answer_is d e c.args.scratch.now.entries F (f +ℤ k) c.eval.result (subst (λ (t : ℤ). IsAnswer d e c.args.scratch.now.entries F t c.eval.result) day c.eval.ensures.answer.answer) g bs stand
    ∙ sym (answer_moved d e k g bs F f)
