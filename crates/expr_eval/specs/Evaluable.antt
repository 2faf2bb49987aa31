-- Where an expression may be evaluated, and with which entries for its names: in an accepted contract, outside the bodies
-- of accumulators, with an entry for each `let` in whose body it stands; or with none, where it uses no name from outside.
use Rattle.std.specs.Prelude.{ℤ, ◌≡◌, ◌⊎◌, List, [], ◌∷◌}
use Rattle.term_model.specs.Declarations.{Declarations}
use Rattle.term_model.specs.declared.values.Value.{Value}
use Rattle.term_model.specs.Terms.{Expression, Contract}
use Rattle.term_model.specs.Shifts.{shifted}
use Rattle.term_model.specs.WellFormed.{IsWellFormed}
use Rattle.term_model.specs.Values.{num}
use Rattle.term_model.specs.LawsKinds.{IsOfKind}
use Rattle.term_model.specs.Bounds.{Range}
use Rattle.term_model.specs.Acceptance.{IsAccepted}
use Rattle.interval_check.specs.Within.{IsIn, OnNumber}
use Rattle.interval_check.specs.Parts.{StandsIn}
use Rattle.expr_eval.specs.declared.scratch.Held.{Held}
use Rattle.expr_eval.specs.declared.scratch.Held.TheVariants.{Known, Lacking}
use Rattle.expr_eval.specs.declared.scratch.Binding.{Binding}

-- a value has the kind of a range, and a number lies in its interval
pub record IsValueIn (r : Range) (v : Value) : Type 0 where
  pub of_kind : IsOfKind r.kind v
  pub inside : OnNumber r.kind (IsIn r.interval (num v))

-- so it is with a known value; a lacking one is free
abbrev pub IsHeldIn : Range → Held → Type 0
IsHeldIn r (Known v) = IsValueIn r v
IsHeldIn r (Lacking m) = Unit {0}

-- an entry has the kind of a binding, and a known value lies in its range
pub record Suits (r : Range) (b : Binding) : Type 0 where
  pub same_kind : b.kind ≡ r.kind
  pub within : IsHeldIn r b.held

-- each binding has an entry that suits it
abbrev pub SuitAll : List Range → List Binding → Type 0
SuitAll [] [] = Unit {0}
SuitAll (r ∷ rs) (b ∷ bs) = Suits r b × SuitAll rs bs
SuitAll _ _ = ⊥

-- there are no entries, and no name that is used is bound outside
pub record NeedsNone (d : Declarations) (e : Expression) (bs : List Binding) : Type 0 where
  pub empty : bs ≡ []
  pub closed : IsWellFormed d 0 e

-- an expression, with one number added to all its offsets, is a part of an accepted contract, where names have these
-- ranges, and stands there in no accumulator's body; and the entries suit it
pub record MayEvaluate (d : Declarations) (e : Expression) (bs : List Binding) : Type 0 where
  pub contract : Contract
  pub moved : ℤ
  pub ranges : List Range
  pub accepted : IsAccepted d contract
  pub stands : StandsIn d (shifted moved e) ranges contract []
  pub entries : SuitAll ranges bs ⊎ NeedsNone d e bs

-- a contract is an accepted one or a part of it, where names have these ranges, and the entries suit it
pub record MayEvaluateIn (d : Declarations) (part : Contract) (bs : List Binding) : Type 0 where
  pub contract : Contract
  pub ranges : List Range
  pub accepted : IsAccepted d contract
  pub inside : (e : Expression) (inner : List Range) → StandsIn d e inner part ranges → StandsIn d e inner contract []
  pub entries : SuitAll ranges bs
