-- The horizon of a contract is at most a day past its reach.
use Rattle.std.proofs.Common.{ℕ, zero, suc, ◌+◌, ◌≤◌, max, arith}
use Rattle.term_model.specs.Terms.{Zero, Pay, Both, Scale, After, Let, Within}
use Rattle.term_model.specs.Flows.{count_of}
use Rattle.term_model.specs.Horizons.{horizon_of, delayed}
use Rattle.term_model.specs.Sizes.{reach}
use Rattle.term_model.specs.LawsFlows.{HorizonIsWithinReach}

delayed_within : (n h r : ℕ) → h ≤ r + 1 → delayed n h ≤ n + r + 1
delayed_within n zero r le = omega arith
delayed_within n (suc h) r le = omega arith

greater_within : (h i r s : ℕ) → h ≤ r + 1 → i ≤ s + 1 → max h i ≤ max r s + 1
greater_within h i r s le le' = omega arith

pub horizon_within : HorizonIsWithinReach
horizon_within Zero = omega arith
horizon_within (Pay a p q) = omega arith
horizon_within (Both a b) = greater_within (horizon_of a) (horizon_of b) (reach a) (reach b) (horizon_within a) (horizon_within b)
horizon_within (Scale e c) = horizon_within c
horizon_within (After n c) = delayed_within (count_of n) (horizon_of c) (reach c) (horizon_within c)
horizon_within (Let e c) = horizon_within c
horizon_within (Within e n a b) =
    delayed_within (count_of n) (max (horizon_of a) (horizon_of b)) (max (reach a) (reach b))
    (greater_within (horizon_of a) (horizon_of b) (reach a) (reach b) (horizon_within a) (horizon_within b))
