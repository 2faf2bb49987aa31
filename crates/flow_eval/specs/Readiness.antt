-- When a part of an accepted contract can be walked: the names round it have entries that stand for values within their
-- ranges, there is room for the names in it, and its days and decimals are within those of the whole.
use Rattle.std.specs.Prelude.{ℕ, ℤ, pos, ◌+ℤ◌, ◌≤ℤ◌, ◌≤◌, ◌+◌, max, List, [], Option, Some, None}
use Rattle.term_model.specs.Declarations.{Declarations}
use Rattle.term_model.specs.Terms.{Expression, Contract, Zero, Pay, Both, Scale, After, Let, Within}
use Rattle.term_model.specs.Environments.{Environment, IsAdmitted, Place}
use Rattle.term_model.specs.Values.{Entry, kinds}
use Rattle.term_model.specs.Flows.{scale_of_contract}
use Rattle.term_model.specs.Bounds.{Range}
use Rattle.term_model.specs.Acceptance.{IsAccepted}
use Rattle.interval_check.specs.Nodes.{ContractMeetsRules}
use Rattle.interval_check.specs.Parts.{StandsIn}
use Rattle.interval_check.specs.Within.{AreWithin, KeepsLimits}
use Rattle.expr_eval.specs.Rooms.{Room}
use Rattle.expr_eval.specs.Standing.{StandFor}

-- an expression that stands in an accepted contract, with entries for the names round it
pub record CanAnswer (d : Declarations) (e : Expression) (r : Room) (fixings : Environment) : Type 0 where
  pub limits : KeepsLimits d
  pub whole : Contract
  pub accepted : IsAccepted d whole
  pub admitted : IsAdmitted d fixings
  pub ranges : List Range
  pub inside : StandsIn d e ranges whole []
  pub values : List Entry
  pub places : List (List Place)
  pub within : AreWithin ranges values
  pub stand : StandFor fixings r.entries values places

-- how many names are bound round the part of a contract that has the most of them
abbrev pub names_in : Contract → ℕ
names_in Zero = 0
names_in (Pay a p q) = 0
names_in (Both x y) = max (names_in x) (names_in y)
names_in (Scale e c) = names_in c
names_in (After n c) = names_in c
names_in (Let e c) = names_in c + 1
names_in (Within e n x y) = max (names_in x) (names_in y)

-- a contract inside an accepted one, with entries for the names round it; it has so many decimals left
pub record CanWalk (d : Declarations) (c : Contract) (decimals : ℕ) (r : Room) (fixings : Environment) : Type 0 where
  pub limits : KeepsLimits d
  pub whole : Contract
  pub accepted : IsAccepted d whole
  pub admitted : IsAdmitted d fixings
  pub ranges : List Range
  pub inside : (e : Expression) (h : List Range) → StandsIn d e h c ranges → StandsIn d e h whole []
  pub rules : ContractMeetsRules d c ranges
  pub values : List Entry
  pub places : List (List Place)
  pub within : AreWithin ranges values
  pub stand : StandFor fixings r.entries values places
  pub names : names_in c ≤ r.spare
  pub fits : scale_of_contract d c (kinds values) ≤ decimals
  pub most : decimals ≤ d.amounts

-- the last day that a contract on a day can reach
abbrev pub last_day : ℕ
last_day = 1_100_000

-- a day, and that many more, are among those of a portfolio
pub record IsAmongDays (f : ℤ) (days : ℕ) : Type 0 where
  pub first : pos 0 ≤ℤ f
  pub last : (f +ℤ pos days) ≤ℤ pos last_day

-- a day that was found is among so many
abbrev pub IsUpTo : Option ℕ → ℕ → Type 0
IsUpTo None days = Unit {0}
IsUpTo (Some k) days = k ≤ days
