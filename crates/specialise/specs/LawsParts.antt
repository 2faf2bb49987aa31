-- How a contract is specialised part by part: what stands directly in an accepted contract, or in a part of it, is a part of
-- an accepted contract; and a well-formed expression has its offsets within their limit.
use Rattle.std.specs.Prelude.{ℕ}
use Rattle.term_model.specs.Declarations.{Declarations}
use Rattle.term_model.specs.Terms.{Expression}
use Rattle.term_model.specs.Terms.{Contract, Zero, Pay, Both, Scale, After, Let, Within}
use Rattle.term_core.specs.SharedTerms.{HasOffsets}
use Rattle.term_model.specs.WellFormed.{IsWellFormed}
use Rattle.term_model.specs.Acceptance.{IsAccepted}
use Rattle.specialise.specs.Specialisable.{IsPartOfAccepted, MaySpecialiseIn}

-- the parts of a contract
abbrev pub PartsMaySpecialiseIn : Declarations → Contract → Type 0
PartsMaySpecialiseIn d Zero = Unit {0}
PartsMaySpecialiseIn d (Pay a p q) = Unit {0}
PartsMaySpecialiseIn d (Both a b) = MaySpecialiseIn d a × MaySpecialiseIn d b
PartsMaySpecialiseIn d (Scale e c) = IsPartOfAccepted d e × MaySpecialiseIn d c
PartsMaySpecialiseIn d (After n c) = MaySpecialiseIn d c
PartsMaySpecialiseIn d (Let e c) = IsPartOfAccepted d e × MaySpecialiseIn d c
PartsMaySpecialiseIn d (Within e n a b) = IsPartOfAccepted d e × MaySpecialiseIn d a × MaySpecialiseIn d b

abbrev pub AcceptedMaySpecialise : Type 0
AcceptedMaySpecialise = (d : Declarations) (c : Contract) → IsAccepted d c → MaySpecialiseIn d c

abbrev pub PartsOfPartsMaySpecialise : Type 0
PartsOfPartsMaySpecialise = (d : Declarations) (c : Contract) → MaySpecialiseIn d c → PartsMaySpecialiseIn d c

abbrev pub WellFormedHaveOffsets : Type 0
WellFormedHaveOffsets = (d : Declarations) (k : ℕ) (e : Expression) → IsWellFormed d k e → HasOffsets e
