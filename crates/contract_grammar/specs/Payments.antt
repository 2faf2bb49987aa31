-- How many payments a contract holds.
use Rattle.std.specs.Prelude.{ℕ, ◌+◌}
use Rattle.term_model.specs.Terms.{Contract, Zero, Pay, Both, Scale, After, Let, Within}

-- the payments of all branches together
abbrev pub payments_in : Contract → ℕ
payments_in Zero = 0
payments_in (Pay asset from to) = 1
payments_in (Both a b) = payments_in a + payments_in b
payments_in (Scale e c) = payments_in c
payments_in (After n c) = payments_in c
payments_in (Let e c) = payments_in c
payments_in (Within e n a b) = payments_in a + payments_in b
