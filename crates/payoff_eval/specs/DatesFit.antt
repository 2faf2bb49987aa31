-- Where each date of a value expression has a day: its templates have numbers, and the day is near the base.
use Rattle.std.specs.Prelude.{ℕ, ℤ, ◌≤◌, ◌<◌, ◌*◌, ◌^◌, unsigned_abs, List, length, All}
use Rattle.payoff_terms.specs.TemplateDates.{Date, day_of}
use Rattle.payoff_terms.specs.Code.{ValueExpression, Model, Neg, Num, Cmp, Not, Logic, Cond, Widen, Round, Div, Acc}

pub record DateFits (xs : List ℕ) (x : Date) : Type 0 where
  pub declared : All (λ t. t < length xs) x.names
  pub near : unsigned_abs (day_of xs x) ≤ 2_000_000

-- a day on which a date can fall at a base
abbrev pub IsDayOfDate : ℤ → Type 0
IsDayOfDate day = unsigned_abs day ≤ 2 * 10 ^ 18

abbrev pub DatesFit : List ℕ → ValueExpression → Type 0
DatesFit xs (Model l x) = DateFits xs x
DatesFit xs (Neg e) = DatesFit xs e
DatesFit xs (Num op a b) = DatesFit xs a × DatesFit xs b
DatesFit xs (Cmp op a b) = DatesFit xs a × DatesFit xs b
DatesFit xs (Not e) = DatesFit xs e
DatesFit xs (Logic op a b) = DatesFit xs a × DatesFit xs b
DatesFit xs (Cond t a b) = DatesFit xs t × DatesFit xs a × DatesFit xs b
DatesFit xs (Widen s e) = DatesFit xs e
DatesFit xs (Round mode s e) = DatesFit xs e
DatesFit xs (Div mode s a b) = DatesFit xs a × DatesFit xs b
DatesFit xs (Acc body n first) = DatesFit xs body × DatesFit xs first
DatesFit xs e = Unit {0}
