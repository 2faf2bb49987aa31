-- A turn of an accepted contract keeps the rules.
use Rattle.std.specs.Prelude.{List}
use Rattle.term_model.specs.Declarations.{Declarations}
use Rattle.term_model.specs.declared.rules.Rule.TheVariants.{Size}
use Rattle.term_model.specs.declared.values.Kind.{Kind}
use Rattle.term_model.specs.Terms.{Contract}
use Rattle.term_model.specs.Acceptance.{Meets}
use Rattle.rewriting.specs.Keeping.{KeepsTypes, StaysWellFormed}
use Rattle.simplify.specs.TurningContracts.{turned_in}

-- each type of the contract is a type of it
abbrev pub TurnsKeepTypes : Type 0
TurnsKeepTypes = (d : Declarations) (c : Contract) (ks : List Kind) → KeepsTypes (turned_in d ks c) c

-- it is well formed under as many binders, and names no template where the contract names none
abbrev pub TurnsKeepForms : Type 0
TurnsKeepForms = (d : Declarations) (c : Contract) (ks : List Kind) → StaysWellFormed d (turned_in d ks c) c

abbrev pub TurnsKeepSizes : Type 0
TurnsKeepSizes = (d : Declarations) (c : Contract) (ks : List Kind) → Meets d Size c → Meets d Size (turned_in d ks c)
