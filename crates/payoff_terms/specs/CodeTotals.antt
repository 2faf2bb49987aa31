-- The most that payoff code can be worth in size, whatever is observed and on whatever day: a payment counts with the
-- greatest factor, which is 10 at nine decimals.
use Rattle.std.specs.Prelude.{ℕ, ◌+◌, ◌-◌, ◌*◌, ◌^◌, max, List, ◌∷◌}
use Rattle.term_model.specs.Declarations.{Declarations}
use Rattle.term_model.specs.Bounds.{Range, range_kinds, interval_of, greatest_size}
use Rattle.payoff_terms.specs.Dating.{undated}
use Rattle.payoff_terms.specs.CodeValues.{kind_at, scale_of_code}
use Rattle.payoff_terms.specs.Code.{ValueExpression, PayoffCode, Nothing, PayOn, Add, ScaleBy, LetBe, Loop, Cut}

-- what a name has that is bound to v
abbrev pub range_at : Declarations → ValueExpression → List Range → Range
range_at d v g = record { interval = interval_of d (undated v) g; kind = kind_at d v (range_kinds g) }

abbrev pub total_of_code : Declarations → PayoffCode → List Range → ℕ
total_of_code d Nothing g = 0
total_of_code d (PayOn x a p q) g = 10 ^ 10
total_of_code d (Add k l) g =
    let i = scale_of_code d k (range_kinds g) in
    let j = scale_of_code d l (range_kinds g) in
    total_of_code d k g * 10 ^ (max i j - i) + total_of_code d l g * 10 ^ (max i j - j)
total_of_code d (ScaleBy v k) g = total_of_code d k g * greatest_size (interval_of d (undated v) g)
total_of_code d (LetBe v k) g = total_of_code d k (range_at d v g ∷ g)
total_of_code d (Loop v x k l) g =
    let i = scale_of_code d k (range_kinds g) in
    let j = scale_of_code d l (range_kinds g) in
    max (total_of_code d k g * 10 ^ (max i j - i)) (total_of_code d l g * 10 ^ (max i j - j))
total_of_code d (Cut x k) g = total_of_code d k g

-- the total at nine more decimals than the portfolio's
abbrev pub aligned_code_total : Declarations → PayoffCode → List Range → ℕ
aligned_code_total d k g = total_of_code d k g * 10 ^ (d.amounts + 9 - scale_of_code d k (range_kinds g))
