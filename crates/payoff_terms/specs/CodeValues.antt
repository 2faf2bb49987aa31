-- What payoff code is worth on a day, for an ordered pair of parties and an asset: a whole number in units of the code's
-- scale. A payment has the discount factor of its day, seen from the current day; a `loop` moves the base to the first
-- day on which its test is true.
use Rattle.std.specs.Prelude.{ℕ, ℤ, pos, negsuc, int_lt, ◌+ℤ◌, ◌-ℤ◌, ◌*ℤ◌, ◌+◌, ◌-◌, max, Bool, List, ◌∷◌, Option, Some, None, if◌then◌else◌}
use Rattle.decimal.specs.Rounding.{raised}
use Rattle.term_model.specs.Declarations.{Declarations}
use Rattle.term_model.specs.declared.values.Kind.{Kind}
use Rattle.term_model.specs.declared.values.Value.{Value}
use Rattle.term_model.specs.Environments.{Environment}
use Rattle.term_model.specs.Kinds.{kind_of, scale_of}
use Rattle.term_model.specs.Values.{Entry, kinds, num, truth, kind_or, value_of, first_of}
use Rattle.term_model.specs.Flows.{Flow, unit_flow}
use Rattle.term_model.specs.Factors.{CurveRow, discount_factor}
use Rattle.payoff_terms.specs.TemplateDates.{day_of}
use Rattle.payoff_terms.specs.Dating.{at_setting, undated}
use Rattle.payoff_terms.specs.Code.{ValueExpression, PayoffCode, Nothing, PayOn, Add, ScaleBy, LetBe, Loop, Cut}

-- what is asked: on which day, by which curve, by what a payment gone by counts, and between whom in what
pub record Asked : Type 0 where
  pub now : ℤ
  pub curve : List CurveRow
  pub gone : ℤ
  pub flow : Flow

-- the factor of a day
abbrev pub factor_on : Asked → ℤ → ℤ
factor_on a day = discount_factor a.curve a.gone (day -ℤ a.now)

-- the value of a value expression at a base, at a setting
abbrev pub value_at : Declarations → ValueExpression → List Entry → Environment → List ℕ → ℤ → Value
value_at d v g env xs b = value_of d (at_setting xs v) g env b

abbrev pub kind_at : Declarations → ValueExpression → List Kind → Kind
kind_at d v ks = kind_or (kind_of d (undated v) ks)

abbrev pub entry_at : Declarations → ValueExpression → List Entry → Environment → List ℕ → ℤ → Entry
entry_at d v g env xs b = record { value = value_at d v g env xs b; kind = kind_at d v (kinds g) }

-- the scale of code
abbrev pub scale_of_code : Declarations → PayoffCode → List Kind → ℕ
scale_of_code d Nothing ks = 0
scale_of_code d (PayOn x a p q) ks = 9
scale_of_code d (Add a b) ks = max (scale_of_code d a ks) (scale_of_code d b ks)
scale_of_code d (ScaleBy v k) ks = scale_of d (undated v) ks + scale_of_code d k ks
scale_of_code d (LetBe v k) ks = scale_of_code d k (kind_at d v ks ∷ ks)
scale_of_code d (Loop v x a b) ks = max (scale_of_code d a ks) (scale_of_code d b ks)
scale_of_code d (Cut x k) ks = scale_of_code d k ks

-- the least of the days 0 to n that passes; there is none where n is below 0
abbrev pub first_upto : ℤ → (ℕ → Bool) → Option ℕ
first_upto (pos n) p = first_of n p
first_upto (negsuc n) p = None

-- the first day, counted from the base, on which a test is true
abbrev pub first_true_at : Declarations → ValueExpression → List Entry → Environment → List ℕ → ℤ → ℤ → Option ℕ
first_true_at d v g env xs b n = first_upto n (λ i. truth (value_at d v g env xs (b +ℤ pos i)))

-- the value of code at a base
abbrev pub code_value : Declarations → PayoffCode → List Entry → Environment → List ℕ → Asked → ℤ → ℤ
code_value d Nothing g env xs a b = pos 0
code_value d (PayOn x u p q) g env xs a b = factor_on a (b +ℤ day_of xs x) *ℤ unit_flow u p q a.flow
code_value d (Add k l) g env xs a b =
    let i = scale_of_code d k (kinds g) in
    let j = scale_of_code d l (kinds g) in
    raised (code_value d k g env xs a b) (max i j - i) +ℤ raised (code_value d l g env xs a b) (max i j - j)
code_value d (ScaleBy v k) g env xs a b = num (value_at d v g env xs b) *ℤ code_value d k g env xs a b
code_value d (LetBe v k) g env xs a b = code_value d k (entry_at d v g env xs b ∷ g) env xs a b
code_value d (Loop v x k l) g env xs a b =
    let i = scale_of_code d k (kinds g) in
    let j = scale_of_code d l (kinds g) in
    elim (first_true_at d v g env xs b (day_of xs x)) [
      | Some n ↦ raised (code_value d k g env xs a (b +ℤ pos n)) (max i j - i)
      | None ↦ raised (code_value d l g env xs a b) (max i j - j)
    ]
code_value d (Cut x k) g env xs a b =
    if int_lt (b +ℤ day_of xs x) a.now then pos 0 else code_value d k g env xs a b
