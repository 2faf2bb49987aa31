-- The value of a contract on a day: the sum of what it pays from its first day to its horizon, each amount with the
-- discount factor of its day. With 0 for days gone by it is the discounted sum of the remaining flows.
use Rattle.std.specs.Prelude.{ℕ, zero, suc, ℤ, pos, ◌+ℤ◌, ◌*ℤ◌}
use Rattle.term_model.specs.Declarations.{Declarations}
use Rattle.term_model.specs.Terms.{Contract}
use Rattle.term_model.specs.Environments.{Environment}
use Rattle.term_model.specs.Flows.{amount_of}
use Rattle.term_model.specs.Horizons.{horizon_of}
use Rattle.payoff_terms.specs.CodeValues.{Asked, factor_on}

-- what the days before n add up to
abbrev pub sum_before : ℕ → (ℕ → ℤ) → ℤ
sum_before zero x = pos 0
sum_before (suc n) x = sum_before n x +ℤ x n

abbrev pub present_value : Declarations → Contract → Environment → ℤ → Asked → ℤ
present_value d c env f a =
    sum_before (suc (horizon_of c)) (λ n. factor_on a (f +ℤ pos n) *ℤ amount_of d c env f (pos n) a.flow)
