-- What printing asks of code: literals within the limits of decimals, names under their binders, dates with numbers of
-- texts, and a depth of at most 400. It asks less than that a text can stand for it: a name that is not declared is
-- written as nothing.
use Rattle.std.specs.Prelude.{ℕ, suc, ◌≤◌, ◌<◌, ◌^◌, unsigned_abs}
use Rattle.payoff_terms.specs.PrintableCode.{HasNumberOfTexts}
use Rattle.payoff_terms.specs.CodeSizes.{height_of_code}
use Rattle.payoff_terms.specs.Code.{ValueExpression, Lit, Yes, Var, Model, Neg, Num, Cmp, Not, Logic, Cond, Widen, Round, Div, Acc, PayoffCode, Nothing, PayOn, Add, ScaleBy, LetBe, Loop, Cut}

-- a value expression under n binders
abbrev pub IsWritableValue : ℕ → ValueExpression → Type 0
IsWritableValue n (Lit m k) = (unsigned_abs m ≤ 10 ^ 37) × (k ≤ 27)
IsWritableValue n (Yes b) = Unit {0}
IsWritableValue n (Var back) = back < n
IsWritableValue n (Model l x) = HasNumberOfTexts x
IsWritableValue n (Neg v) = IsWritableValue n v
IsWritableValue n (Num op v w) = IsWritableValue n v × IsWritableValue n w
IsWritableValue n (Cmp op v w) = IsWritableValue n v × IsWritableValue n w
IsWritableValue n (Not v) = IsWritableValue n v
IsWritableValue n (Logic op v w) = IsWritableValue n v × IsWritableValue n w
IsWritableValue n (Cond t v w) = IsWritableValue n t × IsWritableValue n v × IsWritableValue n w
IsWritableValue n (Widen k v) = IsWritableValue n v
IsWritableValue n (Round mode k v) = IsWritableValue n v
IsWritableValue n (Div mode k v w) = IsWritableValue n v × IsWritableValue n w
IsWritableValue n (Acc body days first) = IsWritableValue (suc n) body × IsWritableValue n first

-- code under n binders
abbrev pub IsWritableUnder : ℕ → PayoffCode → Type 0
IsWritableUnder n Nothing = Unit {0}
IsWritableUnder n (PayOn x a p q) = HasNumberOfTexts x
IsWritableUnder n (Add k l) = IsWritableUnder n k × IsWritableUnder n l
IsWritableUnder n (ScaleBy v k) = IsWritableValue n v × IsWritableUnder n k
IsWritableUnder n (LetBe v k) = IsWritableValue n v × IsWritableUnder (suc n) k
IsWritableUnder n (Loop v x k l) = IsWritableValue n v × HasNumberOfTexts x × IsWritableUnder n k × IsWritableUnder n l
IsWritableUnder n (Cut x k) = HasNumberOfTexts x × IsWritableUnder n k

-- code of which at most 400 terms are open at once
pub record IsWritableCode (k : PayoffCode) : Type 0 where
  pub writable : IsWritableUnder 0 k
  pub shallow : height_of_code k ≤ 400
