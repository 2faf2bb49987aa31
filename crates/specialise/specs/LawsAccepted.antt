-- What is specialised of an accepted contract is accepted.
use Rattle.std.specs.Prelude.{ℤ, List, Option}
use Rattle.term_model.specs.Declarations.{Declarations}
use Rattle.term_model.specs.Terms.{Expression, Contract}
use Rattle.term_model.specs.Environments.{Environment, IsAdmitted}
use Rattle.term_model.specs.Values.{Entry}
use Rattle.term_model.specs.Bounds.{Range}
use Rattle.term_model.specs.Acceptance.{IsAccepted}
use Rattle.interval_check.specs.Nodes.{MeetsRules}
use Rattle.interval_check.specs.Narrowing.{AreNarrower}
use Rattle.interval_check.specs.Within.{AreWithin, KeepsLimits}
use Rattle.rewriting.specs.Replacing.{Replaces}
use Rattle.rewriting.specs.Keeping.{KeepsTypes, StaysWellFormed}
use Rattle.specialise.specs.Specialising.{specialised, specialised_in}

-- each type of the contract is a type of it
abbrev pub SpecialisedIsTyped : Type 0
SpecialisedIsTyped =
    (d : Declarations) (fixings : Environment) (frame : Option ℤ) (c : Contract) → KeepsTypes (specialised_in d fixings frame c) c

-- it is well formed under as many binders, and names no template where the contract names none
abbrev pub SpecialisedIsWellFormed : Type 0
SpecialisedIsWellFormed =
    (d : Declarations) (fixings : Environment) (frame : Option ℤ) (c : Contract) → StaysWellFormed d (specialised_in d fixings frame c) c

-- a specialised expression may stand for the expression
abbrev pub SpecialisedReplaces : Type 0
SpecialisedReplaces =
    (d : Declarations) (fixings : Environment) (frame : Option ℤ) (e : Expression) (g : List Range) (es : List Entry)
    → KeepsLimits d → IsAdmitted d fixings → AreNarrower g g → AreWithin g es
    → MeetsRules d e g → Replaces d (specialised d fixings frame e) e g

-- a claim of an accepted contract and admitted fixings, under declarations that keep their limits
abbrev pub WhereAccepted : Declarations → Environment → Contract → Type 0 → Type 0
WhereAccepted d fixings c P = KeepsLimits d → IsAdmitted d fixings → IsAccepted d c → P

abbrev pub SpecialisedIsAccepted : Type 0
SpecialisedIsAccepted =
    (d : Declarations) (c : Contract) (fixings : Environment) (frame : Option ℤ)
    → WhereAccepted d fixings c (IsAccepted d (specialised_in d fixings frame c))
