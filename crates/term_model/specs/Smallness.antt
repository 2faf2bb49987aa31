-- The rule on sizes, after templates got their numbers: a height of at most 200, at most 100,000 nodes, day counts and
-- a reach of at most 100,000 days, at most 1,000,000 days of reach and past together, and a work of at most 10,000,000.
use Rattle.std.specs.Prelude.{ℕ, ◌+◌, ◌&&◌, Bool, nat_le}
use Rattle.term_model.specs.Terms.{Expression, Acc, Contract, After, Within}
use Rattle.term_model.specs.Flows.{count_of}
use Rattle.term_model.specs.Limits.{most_days, most_height, most_nodes, most_reach_and_past, most_work}
use Rattle.term_model.specs.Sizes.{nodes, height, past, work, nodes_of_contract, height_of_contract, reach, past_of_contract, work_of_contract}
use Rattle.term_model.specs.Sites.{Site, Part, OfExpression, OfContract}

abbrev pub days_of : Expression → ℕ
days_of (Acc body n first) = n
days_of _ = 0

abbrev pub days_of_contract : Contract → ℕ
days_of_contract (After n c) = count_of n
days_of_contract (Within e n a b) = count_of n
days_of_contract _ = 0

-- a height, a number of nodes, a day count, a reach, a past and a work
abbrev pub within_limits : ℕ → ℕ → ℕ → ℕ → ℕ → ℕ → Bool
within_limits h n days far back steps =
    nat_le h most_height
    && (nat_le n most_nodes
    && (nat_le days most_days
    && (nat_le far most_days
    && (nat_le (far + back) most_reach_and_past
    && nat_le steps most_work))))

abbrev pub part_is_small : Part → Bool
part_is_small (OfExpression e) = within_limits (height e) (nodes e) (days_of e) 0 (past e) (work e)
part_is_small (OfContract c) =
    within_limits (height_of_contract c) (nodes_of_contract c) (days_of_contract c) (reach c) (past_of_contract c) (work_of_contract c)

abbrev pub is_small : Site → Bool
is_small s = part_is_small s.part
