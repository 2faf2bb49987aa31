-- The horizon is at most one day past the reach, and the reach is limited by the rule on sizes.
use Rattle.std.proofs.Common.{ℕ, zero, suc, ◌+◌, ◌≤◌, max, [], IsTrue, arith}
use Rattle.std.proofs.lemmas.Bool.Decides.{nat_tests}
use Rattle.term_model.specs.Terms.{Contract, Zero, Pay, Both, Scale, After, Let, Within}
use Rattle.term_model.specs.Flows.{count_of}
use Rattle.term_model.specs.Sizes.{reach, height_of_contract, nodes_of_contract, past_of_contract, work_of_contract}
use Rattle.term_model.specs.Smallness.{is_small, within_limits, days_of_contract}
use Rattle.term_model.specs.Horizons.{delayed, horizon_of}
use Rattle.term_model.proofs.TimeFacts.{whole_passes}
use Rattle.contract_check.specs.Smallness.{MeetsSize}

delayed_most : (n h m : ℕ) → h ≤ m → delayed n h ≤ n + m
delayed_most n zero m le = omega arith
delayed_most n (suc h) m le = omega arith

pub horizon_most : (c : Contract) → horizon_of c ≤ reach c + 1
horizon_most Zero = omega arith
horizon_most (Pay a p q) = omega arith
horizon_most (Both a b) = omega (arith, horizon_most a, horizon_most b)
horizon_most (Scale e c) = horizon_most c
horizon_most (After n c) = omega (arith, delayed_most (count_of n) (horizon_of c) (reach c + 1) (horizon_most c))
horizon_most (Let e c) = horizon_most c
horizon_most (Within e n a b) =
    let both : max (horizon_of a) (horizon_of b) ≤ max (reach a) (reach b) + 1 = omega (arith, horizon_most a, horizon_most b) in
    omega (arith, delayed_most (count_of n) (max (horizon_of a) (horizon_of b)) (max (reach a) (reach b) + 1) both)

far_within : (h n days far back steps : ℕ) → IsTrue (within_limits h n days far back steps) → far ≤ 100_000
far_within h n days far back steps p = grind (arith, nat_tests)

pub reach_limited : (c : Contract) → MeetsSize c → reach c ≤ 100_000
reach_limited c h =
    far_within (height_of_contract c) (nodes_of_contract c) (days_of_contract c) (reach c) (past_of_contract c) (work_of_contract c) (whole_passes (λ s. IsTrue (is_small s)) c [] 0 h)
