-- The laws of the specialiser: of every expression on every frame.
use Rattle.std.specs.Prelude.{ℤ, ◌≡◌, Option, None}
use Rattle.term_model.specs.Declarations.{Declarations}
use Rattle.term_model.specs.Terms.{Expression}
use Rattle.term_model.specs.Environments.{Environment}
use Rattle.term_model.specs.Shifts.{shifted}
use Rattle.term_model.specs.Redexes.{moved}
use Rattle.rewriting.specs.Keeping.{IsNoLarger}
use Rattle.specialise.specs.Specialising.{specialised}
use Rattle.specialise.specs.Specialised.{HasItsKind, HasItsValue, ReadsNoMore}

abbrev pub SpecialisedKinds : Type 0
SpecialisedKinds =
    (d : Declarations) (fixings : Environment) (frame : Option ℤ) (e : Expression) → HasItsKind d (specialised d fixings frame e) e

abbrev pub SpecialisedValues : Type 0
SpecialisedValues =
    (d : Declarations) (fixings : Environment) (frame : Option ℤ) (e : Expression)
    → HasItsValue d fixings frame (specialised d fixings frame e) e

abbrev pub SpecialisedReads : Type 0
SpecialisedReads =
    (d : Declarations) (fixings : Environment) (frame : Option ℤ) (e : Expression)
    → ReadsNoMore d fixings frame (specialised d fixings frame e) e

abbrev pub SpecialisedIsSmaller : Type 0
SpecialisedIsSmaller =
    (d : Declarations) (fixings : Environment) (frame : Option ℤ) (e : Expression) → IsNoLarger (specialised d fixings frame e) e

abbrev pub NothingIsTold : Type 0
NothingIsTold = (d : Declarations) (fixings : Environment) (e : Expression) → specialised d fixings None e ≡ e

-- an expression that is read some days later is specialised on the frame so many days later
abbrev pub SpecialisedShifts : Type 0
SpecialisedShifts =
    (d : Declarations) (fixings : Environment) (frame : Option ℤ) (e : Expression) (k : ℤ)
    → specialised d fixings frame (shifted k e) ≡ shifted k (specialised d fixings (moved k frame) e)
