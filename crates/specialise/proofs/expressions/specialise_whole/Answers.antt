use Rattle.std.proofs.Common.{ℤ, IfOk, subst, sym, w64}
use Rattle.std.proofs.lemmas.Int.{to_z-of_z}
use Rattle.term_model.specs.Declarations.{declarations}
use Rattle.term_model.specs.Terms.{expression}
use Rattle.fixing_files.specs.Knowledge.{Knowledge}
use Rattle.specialise.specs.Specialisable.{MaySpecialise}
use Rattle.specialise.specs.WalkAnswers.{TakesPlaceOfSteps}
use Rattle.specialise.proofs.expressions.specialise_whole.Goals as goal

pub accumulated-requires-clause-place : goal.accumulated-requires-clause-place
accumulated-requires-clause-place c =
    subst (λ (k : Knowledge). MaySpecialise k.decls (expression c.args.e.now)) (sym c.known.view_is) c.requires.place

pub returns : goal.returns
returns c =
    let here : Knowledge = record { decls = declarations c.known.inside.decls.now; fixings = c.known.inside.fixings.now } in
    let on_day = subst (λ (f : ℤ). IfOk c.accumulated.result (λ new. TakesPlaceOfSteps here f c.args.e.now new)) (to_z-of_z w64 c.args.day c.ranges.day) c.accumulated.ensures in
    subst (λ (k : Knowledge). IfOk c.accumulated.result (λ new. TakesPlaceOfSteps k c.args.day c.args.e.now new)) c.known.view_is on_day
