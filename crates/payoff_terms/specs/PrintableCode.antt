-- What a text can stand for: closed code whose numbers are within the limits of texts and of which at most 400 terms are
-- open at once. A date has a number of at most 2,000,000 days either way, a literal a mantissa of at most 10^37 in
-- size, a scale is at most 27, and an accumulator runs over at most 100,000 days.
use Rattle.std.specs.Prelude.{◌≤◌, ◌^◌, unsigned_abs}
use Rattle.term_model.specs.Declarations.{Declarations}
use Rattle.payoff_terms.specs.TemplateDates.{Date}
use Rattle.payoff_terms.specs.CodeSizes.{height_of_code}
use Rattle.payoff_terms.specs.WellFormedCode.{IsClosedCode}
use Rattle.payoff_terms.specs.Code.{ValueExpression, Lit, Yes, Var, Model, Neg, Num, Cmp, Not, Logic, Cond, Widen, Round, Div, Acc, PayoffCode, Nothing, PayOn, Add, ScaleBy, LetBe, Loop, Cut}

abbrev pub HasNumberOfTexts : Date → Type 0
HasNumberOfTexts x = unsigned_abs x.days ≤ 2_000_000

abbrev pub ValueHasNumbersOfTexts : ValueExpression → Type 0
ValueHasNumbersOfTexts (Lit m s) = (unsigned_abs m ≤ 10 ^ 37) × (s ≤ 27)
ValueHasNumbersOfTexts (Yes b) = Unit {0}
ValueHasNumbersOfTexts (Var back) = Unit {0}
ValueHasNumbersOfTexts (Model l x) = HasNumberOfTexts x
ValueHasNumbersOfTexts (Neg v) = ValueHasNumbersOfTexts v
ValueHasNumbersOfTexts (Num op v w) = ValueHasNumbersOfTexts v × ValueHasNumbersOfTexts w
ValueHasNumbersOfTexts (Cmp op v w) = ValueHasNumbersOfTexts v × ValueHasNumbersOfTexts w
ValueHasNumbersOfTexts (Not v) = ValueHasNumbersOfTexts v
ValueHasNumbersOfTexts (Logic op v w) = ValueHasNumbersOfTexts v × ValueHasNumbersOfTexts w
ValueHasNumbersOfTexts (Cond t v w) = ValueHasNumbersOfTexts t × ValueHasNumbersOfTexts v × ValueHasNumbersOfTexts w
ValueHasNumbersOfTexts (Widen s v) = (s ≤ 27) × ValueHasNumbersOfTexts v
ValueHasNumbersOfTexts (Round mode s v) = (s ≤ 27) × ValueHasNumbersOfTexts v
ValueHasNumbersOfTexts (Div mode s v w) = (s ≤ 27) × ValueHasNumbersOfTexts v × ValueHasNumbersOfTexts w
ValueHasNumbersOfTexts (Acc body days first) =
    (days ≤ 100_000) × ValueHasNumbersOfTexts body × ValueHasNumbersOfTexts first

abbrev pub CodeHasNumbersOfTexts : PayoffCode → Type 0
CodeHasNumbersOfTexts Nothing = Unit {0}
CodeHasNumbersOfTexts (PayOn x a p q) = HasNumberOfTexts x
CodeHasNumbersOfTexts (Add k l) = CodeHasNumbersOfTexts k × CodeHasNumbersOfTexts l
CodeHasNumbersOfTexts (ScaleBy v k) = ValueHasNumbersOfTexts v × CodeHasNumbersOfTexts k
CodeHasNumbersOfTexts (LetBe v k) = ValueHasNumbersOfTexts v × CodeHasNumbersOfTexts k
CodeHasNumbersOfTexts (Loop v x k l) =
    ValueHasNumbersOfTexts v × HasNumberOfTexts x × CodeHasNumbersOfTexts k × CodeHasNumbersOfTexts l
CodeHasNumbersOfTexts (Cut x k) = HasNumberOfTexts x × CodeHasNumbersOfTexts k

pub record IsPrintableCode (d : Declarations) (k : PayoffCode) : Type 0 where
  pub closed : IsClosedCode d k
  pub numbers : CodeHasNumbersOfTexts k
  pub shallow : height_of_code k ≤ 400
