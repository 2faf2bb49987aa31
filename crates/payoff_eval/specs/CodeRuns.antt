-- What the evaluator of code answers: as it goes, over the entries of bound names. It computes at so many decimals, and
-- asks for a factor only where a payment is reached.
use Rattle.std.specs.Prelude.{ℕ, ℤ, pos, int_lt, ◌+ℤ◌, ◌*ℤ◌, ◌-◌, ◌≤◌, ◌≤ℤ◌, List, ◌∷◌, Option, Some, None, Result, Ok, Err, if◌then◌else◌}
use Rattle.decimal.specs.Rounding.{raised}
use Rattle.term_model.specs.Declarations.{Declarations}
use Rattle.term_model.specs.declared.values.Missing.{Missing}
use Rattle.term_model.specs.Environments.{Environment}
use Rattle.term_model.specs.Kinds.{scale_of_kind}
use Rattle.term_model.specs.Values.{num}
use Rattle.term_model.specs.Flows.{unit_flow}
use Rattle.interval_check.specs.RangeTrials.{kind_found}
use Rattle.interval_check.specs.Safety.{IsSmall}
use Rattle.expr_eval.specs.declared.scratch.Binding.{Binding}
use Rattle.expr_eval.specs.Rooms.{kinds_of}
use Rattle.expr_eval.specs.Runs.{run_of, untyped}
use Rattle.expr_eval.specs.Answers.{held_of}
use Rattle.expr_eval.specs.KindScales.{KindFits}
use Rattle.expr_eval.specs.Fits.{Fits, IsDay}
use Rattle.expr_eval.specs.Trials.{ValueOrMissing, first_tried}
use Rattle.payoff_terms.specs.TemplateDates.{Date, day_of}
use Rattle.payoff_terms.specs.Dating.{at_setting}
use Rattle.payoff_terms.specs.Code.{ValueExpression, PayoffCode, Nothing, PayOn, Add, ScaleBy, LetBe, Loop, Cut}
use Rattle.payoff_terms.specs.CodeValues.{Asked, factor_on}
use Rattle.payoff_terms.specs.CodeReads.{concerns}
use Rattle.payoff_eval.specs.DatesFit.{DateFits, DatesFit}
use Rattle.payoff_eval.specs.Walks.{WorthOrMissing, nothing_reached, tries, then_added, then_scaled, then_branch}
use Rattle.payoff_eval.specs.declared.walk.Worth.{Worth}

abbrev pub answer_of : Declarations → ValueExpression → List Binding → Environment → List ℕ → ℤ → ValueOrMissing
answer_of d v g fixings xs b = untyped (run_of d (at_setting xs v) g fixings b)

abbrev pub scale_found : Declarations → ValueExpression → List Binding → List ℕ → ℕ
scale_found d v g xs = scale_of_kind (kind_found d (at_setting xs v) (kinds_of g))

abbrev pub bound_for : Declarations → ValueExpression → List Binding → Environment → List ℕ → ℤ → Binding
bound_for d v g fixings xs b =
    record { kind = kind_found d (at_setting xs v) (kinds_of g); held = held_of (answer_of d v g fixings xs b) }

abbrev pub paid : ℕ → Asked → ℤ → ℕ → ℕ → ℕ → Worth
paid decimals a day u p q =
    record { amount = raised (factor_on a day *ℤ unit_flow u p q a.flow) (decimals - 9); reached = concerns u p q a.flow }

abbrev pub run_code : Declarations → ℕ → PayoffCode → List Binding → Environment → List ℕ → Asked → ℤ → WorthOrMissing
run_code d decimals Nothing g fixings xs a b = Ok nothing_reached
run_code d decimals (PayOn x u p q) g fixings xs a b = Ok (paid decimals a (b +ℤ day_of xs x) u p q)
run_code d decimals (Add k l) g fixings xs a b = then_added (run_code d decimals k g fixings xs a b) (run_code d decimals l g fixings xs a b)
run_code d decimals (ScaleBy v k) g fixings xs a b =
    then_scaled (run_code d (decimals - scale_found d v g xs) k g fixings xs a b) (answer_of d v g fixings xs b)
run_code d decimals (LetBe v k) g fixings xs a b = run_code d decimals k (bound_for d v g fixings xs b ∷ g) fixings xs a b
run_code d decimals (Loop v x k l) g fixings xs a b =
    then_branch (first_tried (tries (day_of xs x)) (λ i. answer_of d v g fixings xs (b +ℤ pos i)))
    (λ n. run_code d decimals k g fixings xs a (b +ℤ pos n))
    (run_code d decimals l g fixings xs a b)
run_code d decimals (Cut x k) g fixings xs a b =
    if int_lt (b +ℤ day_of xs x) a.now then Ok nothing_reached else run_code d decimals k g fixings xs a b

-- what is left of an answer
abbrev pub amount_in : WorthOrMissing → Result ℤ Missing
amount_in (Ok w) = Ok w.amount
amount_in (Err m) = Err m

-- ---- what it needs in 128 bits

abbrev pub OnWorth : WorthOrMissing → (Worth → Type 0) → Type 0
OnWorth (Ok w) P = P w
OnWorth (Err m) P = Unit {0}

abbrev pub OnFactor : ValueOrMissing → (ℤ → Type 0) → Type 0
OnFactor (Ok v) P = P (num v)
OnFactor (Err m) P = Unit {0}

-- what is found, if anything, is small
abbrev pub IsSmallWorth : WorthOrMissing → Type 0
IsSmallWorth found = OnWorth found (λ w. IsSmall w.amount)

-- so is what it is worth times a factor
abbrev pub ScalesSafely : ValueOrMissing → WorthOrMissing → Type 0
ScalesSafely factor found = OnWorth found (λ w. OnFactor factor (λ m. IsSmall (m *ℤ w.amount)))

-- a value expression can be evaluated at a base
pub record ValueFits (d : Declarations) (v : ValueExpression) (g : List Binding) (fixings : Environment) (xs : List ℕ)
    (b : ℤ) : Type 0 where
  pub dates : DatesFit xs v
  pub fits : Fits d (at_setting xs v) g fixings b
  pub kind : KindFits d (at_setting xs v) (kinds_of g)
  pub day : IsDay b

-- a date and a base
pub record DayFits (xs : List ℕ) (x : Date) (b : ℤ) : Type 0 where
  pub date : DateFits xs x
  pub base : IsDay b

abbrev pub CodeFits : Declarations → ℕ → PayoffCode → List Binding → Environment → List ℕ → Asked → ℤ → Type 0
CodeFits d decimals Nothing g fixings xs a b = Unit {0}
CodeFits d decimals (PayOn x u p q) g fixings xs a b = DayFits xs x b × (9 ≤ decimals) × (decimals ≤ 21)
CodeFits d decimals (Add k l) g fixings xs a b =
    CodeFits d decimals k g fixings xs a b × CodeFits d decimals l g fixings xs a b
    × IsSmallWorth (run_code d decimals k g fixings xs a b) × IsSmallWorth (run_code d decimals l g fixings xs a b)
CodeFits d decimals (ScaleBy v k) g fixings xs a b =
    ValueFits d v g fixings xs b × (scale_found d v g xs ≤ decimals)
    × CodeFits d (decimals - scale_found d v g xs) k g fixings xs a b
    × ScalesSafely (answer_of d v g fixings xs b) (run_code d (decimals - scale_found d v g xs) k g fixings xs a b)
CodeFits d decimals (LetBe v k) g fixings xs a b =
    ValueFits d v g fixings xs b × CodeFits d decimals k (bound_for d v g fixings xs b ∷ g) fixings xs a b
CodeFits d decimals (Loop v x k l) g fixings xs a b =
    DayFits xs x b × (pos 0 ≤ℤ day_of xs x) × (day_of xs x ≤ℤ pos 100_000)
    × ((i : ℕ) → i ≤ 100_000 → ValueFits d v g fixings xs (b +ℤ pos i))
    × ((i : ℕ) → i ≤ 100_000 → CodeFits d decimals k g fixings xs a (b +ℤ pos i))
    × CodeFits d decimals l g fixings xs a b
CodeFits d decimals (Cut x k) g fixings xs a b = DayFits xs x b × CodeFits d decimals k g fixings xs a b

-- a day that was found is among the first n
abbrev pub IsUpTo : Option ℕ → ℕ → Type 0
IsUpTo (Some k) n = k ≤ n
IsUpTo None n = Unit {0}
