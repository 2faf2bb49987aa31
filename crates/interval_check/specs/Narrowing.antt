-- Narrower intervals: where names have narrower ranges, so have expressions, and every rule that held still holds.
use Rattle.std.specs.Prelude.{◌≡◌, ◌≤◌, List, [], ◌∷◌}
use Rattle.term_model.specs.Declarations.{Declarations}
use Rattle.term_model.specs.Terms.{Expression, Contract}
use Rattle.term_model.specs.Bounds.{Interval, Range, interval_of, total_of}
use Rattle.interval_check.specs.Nodes.{IsBounded, IsBoundedContract, MeetsRules, ContractMeetsRules}
use Rattle.interval_check.specs.Within.{IsIn, KeepsLimits}

-- both end points of an interval lie in another
pub record IsNarrower (i j : Interval) : Type 0 where
  pub low : IsIn j i.low
  pub high : IsIn j i.high

-- a range of the same kind, with a narrower interval
pub record IsNarrowerRange (r s : Range) : Type 0 where
  pub same_kind : r.kind ≡ s.kind
  pub inside : IsNarrower r.interval s.interval

-- each name has a narrower range
abbrev pub AreNarrower : List Range → List Range → Type 0
AreNarrower [] [] = Unit {0}
AreNarrower (r ∷ h) (s ∷ g) = IsNarrowerRange r s × AreNarrower h g
AreNarrower [] (s ∷ g) = ⊥
AreNarrower (r ∷ h) [] = ⊥

-- an expression that meets the rule on bounds meets it among narrower ranges, and has a narrower interval
abbrev pub IntervalsAreMonotone : Type 0
IntervalsAreMonotone =
    (d : Declarations) (e : Expression) (h g : List Range) → KeepsLimits d → AreNarrower h g → IsBounded d e g
    → IsBounded d e h × IsNarrower (interval_of d e h) (interval_of d e g)

-- a contract that meets the rule on bounds meets it among narrower ranges, and has no greater total
abbrev pub TotalsAreMonotone : Type 0
TotalsAreMonotone =
    (d : Declarations) (c : Contract) (h g : List Range) → KeepsLimits d → AreNarrower h g → IsBoundedContract d c g
    → IsBoundedContract d c h × (total_of d c h ≤ total_of d c g)

-- the other rules hold too
abbrev pub RulesAreMonotone : Type 0
RulesAreMonotone =
    (d : Declarations) (e : Expression) (h g : List Range) → KeepsLimits d → AreNarrower h g → MeetsRules d e g → MeetsRules d e h

abbrev pub ContractRulesAreMonotone : Type 0
ContractRulesAreMonotone =
    (d : Declarations) (c : Contract) (h g : List Range) → KeepsLimits d → AreNarrower h g → ContractMeetsRules d c g
    → ContractMeetsRules d c h
