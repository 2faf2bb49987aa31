-- What an evaluation needs so that its numbers fit 128 bits and its days 64, by structure: at each operator, of the values
-- that its parts answer.
use Rattle.std.specs.Prelude.{ℕ, ℤ, pos, ◌+ℤ◌, ◌-ℤ◌, ◌+◌, ◌^◌, ◌≤◌, ◌<◌, unsigned_abs, List, ◌∷◌, Ok, Err, ◌≡◌}
use Rattle.term_model.specs.Declarations.{Declarations}
use Rattle.term_model.specs.declared.values.Kind.TheVariants.{Number}
use Rattle.term_model.specs.Terms.{Expression, Obs, Neg, Num, Cmp, Not, Logic, Cond, Widen, Round, Div, Acc}
use Rattle.term_model.specs.Environments.{Environment}
use Rattle.expr_eval.specs.declared.scratch.Binding.{Binding}
use Rattle.expr_eval.specs.declared.operations.Typed.{Typed}
use Rattle.expr_eval.specs.Rooms.{kinds_of}
use Rattle.expr_eval.specs.Operations.{Negates, Combines, Compares, FitsKind, RoundsTo, DividesTo}
use Rattle.interval_check.specs.RangeTrials.{kind_found, kind_of_either}
use Rattle.expr_eval.specs.KindScales.{KindFits}
use Rattle.expr_eval.specs.Runs.{Answer, run_of, bound_to, days_tried, day_step}

-- of the value, where there is one
abbrev pub OnValue : Answer → (Typed → Type 0) → Type 0
OnValue (Ok v) P = P v
OnValue (Err m) P = Unit {0}

-- of both values
abbrev pub OnValues : Answer → Answer → (Typed → Typed → Type 0) → Type 0
OnValues a b P = OnValue a (λ x. OnValue b (λ y. P x y))

abbrev pub IsDay : ℤ → Type 0
IsDay f = unsigned_abs f ≤ 10 ^ 18

-- the body of an accumulator fits on a day, with a value for its name
abbrev pub DayFits : (List Binding → ℤ → Answer) → (List Binding → ℤ → Type 0) → List Binding → ℤ → Typed → Type 0
DayFits body fits g at v = fits (bound_to v ∷ g) at × OnValue (body (bound_to v ∷ g) at) (λ w. FitsKind v.kind w)

-- and on each of n days, with each value that it has then
abbrev pub DaysFit : (List Binding → ℤ → Answer) → (List Binding → ℤ → Type 0) → List Binding → ℤ → ℕ → Answer → Type 0
DaysFit body fits g from n start =
    (i : ℕ) (v : Typed) → i < n → days_tried i (day_step body g from) start ≡ Ok v → DayFits body fits g (from +ℤ pos (i + 1)) v

abbrev pub Fits : Declarations → Expression → List Binding → Environment → ℤ → Type 0
Fits d (Obs l t) g env f = IsDay f
Fits d (Neg e) g env f = Fits d e g env f × OnValue (run_of d e g env f) Negates
Fits d (Num op a b) g env f =
    Fits d a g env f × Fits d b g env f × OnValues (run_of d a g env f) (run_of d b g env f) (Combines op)
Fits d (Cmp op a b) g env f =
    Fits d a g env f × Fits d b g env f × OnValues (run_of d a g env f) (run_of d b g env f) Compares
Fits d (Not e) g env f = Fits d e g env f
Fits d (Logic op a b) g env f = Fits d a g env f × Fits d b g env f
Fits d (Cond t a b) g env f =
    Fits d t g env f × Fits d a g env f × Fits d b g env f
    × KindFits d a (kinds_of g) × KindFits d b (kinds_of g)
    × OnValue (run_of d a g env f) (λ v. FitsKind (kind_of_either v.kind (kind_found d b (kinds_of g))) v)
    × OnValue (run_of d b g env f) (λ v. FitsKind (kind_of_either (kind_found d a (kinds_of g)) v.kind) v)
Fits d (Widen s e) g env f = Fits d e g env f × OnValue (run_of d e g env f) (FitsKind (Number s))
Fits d (Round mode s e) g env f = Fits d e g env f × OnValue (run_of d e g env f) (RoundsTo s)
Fits d (Div mode s a b) g env f =
    Fits d a g env f × Fits d b g env f × OnValues (run_of d a g env f) (run_of d b g env f) (DividesTo s)
Fits d (Acc body n first) g env f =
    IsDay f × IsDay (f -ℤ pos n) × Fits d first g env (f -ℤ pos n)
    × DaysFit (λ h t. run_of d body h env t) (λ h t. Fits d body h env t) g (f -ℤ pos n) n (run_of d first g env (f -ℤ pos n))
Fits d _ g env f = Unit {0}

abbrev pub DayFitsIn : Declarations → Expression → List Binding → Environment → ℤ → Typed → Type 0
DayFitsIn d body g env at v = DayFits (λ h t. run_of d body h env t) (λ h t. Fits d body h env t) g at v

abbrev pub DaysFitIn : Declarations → Expression → List Binding → Environment → ℤ → ℕ → Answer → Type 0
DaysFitIn d body g env from n start = DaysFit (λ h t. run_of d body h env t) (λ h t. Fits d body h env t) g from n start
