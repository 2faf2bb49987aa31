-- The horizon of a contract: the count of days, from the one on which it stands, after which it pays nothing more,
-- whatever is observed. It is 0 for a contract that pays nothing at all.
use Rattle.std.specs.Prelude.{ℕ, zero, suc, ◌+◌, max}
use Rattle.term_model.specs.Terms.{Contract, Zero, Pay, Both, Scale, After, Let, Within}
use Rattle.term_model.specs.Flows.{count_of}

-- n days later, where there is anything to pay at all
abbrev pub delayed : ℕ → ℕ → ℕ
delayed n zero = zero
delayed n (suc h) = n + suc h

abbrev pub horizon_of : Contract → ℕ
horizon_of Zero = 0
horizon_of (Pay a p q) = 1
horizon_of (Both a b) = max (horizon_of a) (horizon_of b)
horizon_of (Scale e c) = horizon_of c
horizon_of (After n c) = delayed (count_of n) (horizon_of c)
horizon_of (Let e c) = horizon_of c
horizon_of (Within e n a b) = delayed (count_of n) (max (horizon_of a) (horizon_of b))
