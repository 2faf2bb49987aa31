-- Where a term may be specialised: an expression that, with one number added to all its offsets, is
-- a part of an accepted contract and stands there in no accumulator's body; a contract of which all
-- parts stand so in an accepted one.
use Rattle.std.specs.Prelude.{ℕ, ℤ, pos, ◌+ℤ◌, ◌-ℤ◌, ◌≤◌, ◌^◌, unsigned_abs, List, []}
use Rattle.term_model.specs.Declarations.{Declarations}
use Rattle.term_model.specs.Terms.{expression, Contract}
use Rattle.term_model.specs.Terms.{Expression, Obs, Neg, Num, Cmp, Not, Logic, Cond, Widen, Round}
use Rattle.term_model.specs.Terms.{Div, Acc}
use Rattle.term_core.specs.declared.shared.SharedContr.{SharedContr}
use Rattle.term_core.specs.declared.shared.SharedContr.TheVariants.{Zero as Zero', Pay as Pay'}
use Rattle.term_core.specs.declared.shared.SharedContr.TheVariants.{Both', Scale', After', Let'}
use Rattle.term_core.specs.declared.shared.SharedContr.TheVariants.{Within'}
use Rattle.term_model.specs.Shifts.{shifted}
use Rattle.term_core.specs.SharedTerms.{HasOffsets, StoresOffsets}
use Rattle.std.specs.declared.rc.Rc.{Rc}
use Rattle.std.specs.Global.{Global}
use Rattle.term_model.specs.declared.terms.Expr.{Expr}
use Rattle.term_model.specs.Bounds.{Range}
use Rattle.term_model.specs.Acceptance.{IsAccepted}
use Rattle.interval_check.specs.Parts.{StandsIn}

-- an expression that stands in an accepted contract, outside the bodies of accumulators
pub record IsPartOfAccepted (d : Declarations) (e : Expression) : Type 0 where
  pub contract : Contract
  pub ranges : List Range
  pub accepted : IsAccepted d contract
  pub stands : StandsIn d e ranges contract []

-- an expression that does so with its offsets moved, and has them within their limit as they are
pub record MaySpecialise (d : Declarations) (e : Expression) : Type 0 where
  pub moved : ℤ
  pub part : IsPartOfAccepted d (shifted moved e)
  pub offsets : HasOffsets e

-- a contract all of whose expressions stand in an accepted one
pub record MaySpecialiseIn (d : Declarations) (part : Contract) : Type 0 where
  pub contract : Contract
  pub ranges : List Range
  pub accepted : IsAccepted d contract
  pub inside :
      (e : Expression) (inner : List Range)
      → StandsIn d e inner part ranges → StandsIn d e inner contract []

-- a day on which contracts and their parts stand: from -10^11 to 10^11
abbrev pub IsNearDay : ℤ → Type 0
IsNearDay f = unsigned_abs f ≤ 10 ^ 11

-- a day on which places of expressions are looked up
abbrev pub IsLookedUp : ℤ → Type 0
IsLookedUp f = unsigned_abs f ≤ 10 ^ 12

-- what a walk over an expression meets on its way down, on a day
abbrev pub CanTell : Declarations → Expression → ℤ → Type 0
CanTell d (Obs l t) f = IsLookedUp f
CanTell d (Neg e) f = CanTell d e f
CanTell d (Num op a b) f = CanTell d a f × CanTell d b f
CanTell d (Cmp op a b) f = CanTell d a f × CanTell d b f
CanTell d (Not e) f = CanTell d e f
CanTell d (Logic op a b) f = CanTell d a f × CanTell d b f
CanTell d (Cond t a b) f = CanTell d t f × CanTell d a f × CanTell d b f
CanTell d (Widen s e) f = CanTell d e f
CanTell d (Round mode s e) f = CanTell d e f
CanTell d (Div mode s a b) f = CanTell d a f × CanTell d b f
CanTell d (Acc body n first) f =
    MaySpecialise d (Acc body n first) × IsLookedUp f × CanTell d first (f -ℤ pos n)
CanTell d e f = Unit {0}

-- a stored expression that is read some days later
pub record CanTellLater (d : Declarations) (e : Expression) (moved f : ℤ) : Type 0 where
  pub part : IsPartOfAccepted d (shifted moved e)
  pub offsets : HasOffsets e
  pub day : IsNearDay f

-- what a walk over a contract with shared parts meets
abbrev pub CanTellIn : Declarations → SharedContr → ℤ → Type 0
CanTellIn d Zero' f = Unit {0}
CanTellIn d (Pay' x p q) f = Unit {0}
CanTellIn d (Both' p a q b) f = CanTellIn d a f × CanTellIn d b f
CanTellIn d (Scale' e k q c) f = CanTellLater d (expression e.value) k f × CanTellIn d c f
CanTellIn d (After' n p c) f = IsNearDay f × CanTellIn d c (f +ℤ pos n)
CanTellIn d (Let' e k q c) f = CanTellLater d (expression e.value) k f × CanTellIn d c f
CanTellIn d (Within' e n q a r b) f = IsNearDay f × CanTellIn d b (f +ℤ pos n)

-- where that stores its offsets within their limit
abbrev pub MayTellIn : Declarations → SharedContr → ℤ → Type 0
MayTellIn d s f = CanTellIn d s f × StoresOffsets s

-- what a contract after some days meets: its body so many days later
abbrev pub MayTellAfter : Declarations → ℕ → SharedContr → ℤ → Type 0
MayTellAfter d n s f = IsNearDay f × MayTellIn d s (f +ℤ pos n)

-- what a contract that waits for a test meets: its second branch so many days later; the test and
-- the first branch stay
abbrev pub MayTellWithin :
    Declarations → Rc Expr Global → ℕ → SharedContr → SharedContr → ℤ → Type 0
MayTellWithin d test n hit miss f =
    MayTellAfter d n miss f × HasOffsets (expression test.value) × StoresOffsets hit
