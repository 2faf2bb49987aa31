use Rattle.std.proofs.Common.{sym, subst, arith}
use Rattle.std.specs.Int.{w32}
use Rattle.std.proofs.lemmas.Int.{to_z-of_z, ints}
use Rattle.term_model.specs.Declarations.{declarations}
use Rattle.term_model.specs.Shifts.{shifted}
use Rattle.term_model.specs.Terms.{expression}
use Rattle.expr_eval.specs.declared.scratch.Binding.{Binding}
use Rattle.fixing_files.specs.Knowledge.{Knowledge}
use Rattle.advance_step.specs.CarryingWalk.{EntersOn, IsEntry}
use Rattle.advance_step.proofs.EntryFacts.{answer_enters, answer_suits}
use Rattle.advance_step.proofs.questions.entry_for.Goals as goal

pub returns-clause-enters : goal.returns-clause-enters
returns-clause-enters c =
    let d = declarations c.known.inside.decls.now in
    let F = c.known.inside.fixings.now in
    let e = expression c.args.bound.now in
    let es = c.args.scratch.now.entries in
    let z = to_z-of_z w32 c.args.moved c.ranges.moved in
    let entry : Binding = record { kind = c.kind_of-kind.result; held = c.of.result } in
    let x = shifted c.args.moved e in
    subst (λ (b : Knowledge). EntersOn b x c.args.scratch.now c.args.span entry) c.known.view_is
    (answer_enters d e c.args.moved c.args.span.day _ es F c.eval-answer.result
    c.kind_of-kind.result
    c.of.result (grind (arith, ints, to_z-of_z, z, c.day_read.ensures.day))
    (sym c.kind_of-kind.ensures.kind) c.of.ensures c.eval-answer.ensures.answer.answer)

pub returns-clause-suits : goal.returns-clause-suits
returns-clause-suits c =
    let d = declarations c.known.inside.decls.now in
    let e = expression c.args.bound.now in
    let es = c.args.scratch.now.entries in
    let entry : Binding = record { kind = c.kind_of-kind.result; held = c.of.result } in
    subst (λ (b : Knowledge). IsEntry b.decls e es entry) c.known.view_is
    (answer_suits d e es c.eval-answer.result c.kind_of-kind.result c.of.result
    (sym c.kind_of-kind.ensures.kind) c.of.ensures c.eval-answer.ensures.answer.suits)
