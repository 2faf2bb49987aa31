use Rattle.std.proofs.Common.{◌≡◌, ℤ, w64, refl, sym, subst, ap, ◌∙◌, Result}
use Rattle.std.proofs.lemmas.Int.{to_z-of_z}
use Rattle.term_model.specs.declared.values.Value.{Value}
use Rattle.term_model.specs.declared.values.Missing.{Missing}
use Rattle.term_model.specs.Declarations.{declarations}
use Rattle.term_model.specs.Terms.{expression}
use Rattle.expr_eval.specs.Answers.{IsSuitedAnswer}
use Rattle.expr_eval.specs.Fits.{Fits}
use Rattle.expr_eval.specs.Runs.{run_of, untyped}
use Rattle.expr_eval.proofs.EvaluableFacts.{may_run}
use Rattle.expr_eval.proofs.AnswerFacts.{promised}
use Rattle.expr_eval.proofs.values.eval.Goals as goal

pub evaluate-requires : goal.evaluate-requires
evaluate-requires c =
    let d = declarations c.args.decls.now in
    let e = expression c.args.e.now in
    subst (λ (f : ℤ). Fits d e c.args.scratch.now.entries c.args.fixings.now f) (sym (to_z-of_z w64 c.args.day c.ranges.day)) (may_run d e c.args.scratch.now.entries c.args.fixings.now c.args.day c.args.decls.now.labels_in c.requires.admitted c.requires.day c.requires.place)

found : (c : goal.After-without_kind) → IsSuitedAnswer (declarations c.args.decls.now) (expression c.args.e.now) c.args.scratch.now.entries c.args.fixings.now c.args.day (untyped c.evaluate.result)
found c =
    let d = declarations c.args.decls.now in
    let e = expression c.args.e.now in
    let r : c.evaluate.result ≡ run_of d e c.args.scratch.now.entries c.args.fixings.now c.args.day =
    c.evaluate.ensures ∙ ap (λ (f : ℤ). run_of d e c.args.scratch.now.entries c.args.fixings.now f) (to_z-of_z w64 c.args.day c.ranges.day) in
    promised d e c.args.scratch.now.entries c.args.fixings.now c.args.day c.evaluate.result c.args.decls.now.labels_in c.requires.admitted c.requires.place r

pub returns : goal.returns
returns c =
    let d = declarations c.args.decls.now in
    let e = expression c.args.e.now in
    let p = subst (λ (r : Result Value Missing). IsSuitedAnswer d e c.args.scratch.now.entries c.args.fixings.now c.args.day r) (sym c.without_kind.ensures) (found c) in
    record { answer = p; same = refl }
