-- What a walk of the specialiser answers for a part: what takes its place, or nothing where the
-- part stays.
use Rattle.std.specs.Prelude.{ℕ, ℤ, pos, ◌-ℤ◌, ◌≡◌, Option, Some}
use Rattle.std.specs.declared.rc.Rc.{Rc}
use Rattle.std.specs.Global.{Global}
use Rattle.term_model.specs.declared.terms.Expr.{Expr}
use Rattle.term_core.specs.declared.shared.SharedContr.{SharedContr}
use Rattle.term_model.specs.Terms.{Expression, Obs, Acc, expression, Contract}
use Rattle.term_model.specs.Shifts.{shifted}
use Rattle.term_core.specs.SharedTerms.{shared}
use Rattle.rewriting.specs.Rebuilding.{after}
use Rattle.rewriting.specs.RebuildingContracts.{after_in, moved_after}
use Rattle.fixing_files.specs.Knowledge.{Knowledge}
use Rattle.specialise.specs.Specialising.{specialised, specialised_in}

-- an expression with what the facts tell on a day
abbrev pub told_on : Knowledge → ℤ → Expression → Expression
told_on k f e = specialised k.decls k.fixings (Some f) e

-- the same on a frame that is known or not, and of a contract on a day
abbrev pub IsToldOf : Knowledge → Option ℤ → Expression → Expression → Type 0
IsToldOf k frame r e = r ≡ specialised k.decls k.fixings frame e

abbrev pub IsToldOn : Knowledge → ℤ → Contract → Contract → Type 0
IsToldOn k f r c = r ≡ specialised_in k.decls k.fixings (Some f) c

-- what takes the place of an expression, on a frame that is known or not
abbrev pub TakesItsPlace : Knowledge → Option ℤ → Expr → Option Expr → Type 0
TakesItsPlace k frame e new = IsToldOf k frame (after (expression e) new) (expression e)

-- of an observable, on a day
abbrev pub TakesPlaceOfObs : Knowledge → ℤ → ℕ → ℤ → Option Expr → Type 0
TakesPlaceOfObs k f label offset new = after (Obs label offset) new ≡ told_on k f (Obs label offset)

-- of a stored expression that is read some days later, on a day
abbrev pub TakesItsPlaceLater : Knowledge → ℤ → ℤ → Rc Expr Global → Option Expr → Type 0
TakesItsPlaceLater k f moved e new =
    moved_after moved e new ≡ told_on k f (shifted moved (expression e.value))

-- of a contract that is written as c, on a day
abbrev pub TakesPlaceOf :
    Knowledge → ℤ → SharedContr → Contract → Option (Rc SharedContr Global) → Type 0
TakesPlaceOf k f s c new = IsToldOn k f (after_in (shared s) new) c

-- of a contract, on a day
abbrev pub TakesItsPlaceIn : Knowledge → ℤ → SharedContr → Option (Rc SharedContr Global) → Type 0
TakesItsPlaceIn k f s new = TakesPlaceOf k f s (shared s) new

abbrev pub IsAccumulator : Expression → Type 0
IsAccumulator (Acc body n first) = Unit {0}
IsAccumulator _ = ⊥

-- where an accumulator is not told, its start alone changes
abbrev pub steps_left : Knowledge → ℤ → Expression → Expression
steps_left k f (Acc body n first) = Acc body n (told_on k (f -ℤ pos n) first)
steps_left k f e = e

abbrev pub TakesPlaceOfSteps : Knowledge → ℤ → Expr → Option Expr → Type 0
TakesPlaceOfSteps k f e new = after (steps_left k f (expression e)) new ≡ told_on k f (expression e)
