-- The size of a part, or the place of its first node that breaks the rule on sizes. This goes by structure, each part
-- once; proofs/SizeFacts shows that it finds what the rule says.
use Rattle.std.specs.Prelude.{ℕ, ◌+◌, Result}
use Rattle.term_model.specs.Terms.{Expression, Lit, Yes, Var, Obs, Neg, Num, Cmp, Not, Logic, Cond, Widen, Round, Div, Acc}
use Rattle.term_model.specs.Terms.{Contract, Zero, Pay, Both, Scale, After, Let, Within}
use Rattle.term_model.specs.Flows.{count_of}
use Rattle.term_model.specs.Sizes.{nodes, nodes_of_contract, days_before}
use Rattle.term_core.specs.Trying.{then_do, moved}
use Rattle.scale_check.specs.declared.part_sizes.Size.{Size}
use Rattle.scale_check.specs.PartSizes.{leaf, over_one, over_two, over_three, over_days, unit, together, delayed, tested, limited}

abbrev pub Answer : Type 0
Answer = Result Size ℕ

abbrev pub one_tried : Answer → Answer
one_tried a = then_do (moved 1 a) (λ s. limited 0 (over_one s))

-- an operator on two operands, of which the first has n nodes
abbrev pub two_tried : ℕ → Answer → Answer → Answer
two_tried n a b = then_do (moved 1 a) (λ s. then_do (moved (1 + n) b) (λ t. limited 0 (over_two s t)))

-- an `if`, of which the test has m nodes, and the first branch n
abbrev pub three_tried : ℕ → ℕ → Answer → Answer → Answer → Answer
three_tried m n t a b =
    then_do (moved 1 t) (λ s. then_do (moved (1 + m) a) (λ x. then_do (moved m (moved (1 + n) b)) (λ y. limited 0 (over_three s x y))))

-- an accumulator over some days, whose body has n nodes
abbrev pub acc_tried : ℕ → ℕ → Answer → Answer → Answer
acc_tried n days first body =
    then_do (moved (1 + n) first) (λ s. then_do (moved 1 body) (λ t. limited days (over_days t days s)))

abbrev pub size_tried : Expression → Answer
size_tried (Lit m s) = limited 0 (leaf 0)
size_tried (Yes b) = limited 0 (leaf 0)
size_tried (Var back) = limited 0 (leaf 0)
size_tried (Obs l t) = limited 0 (leaf (days_before t))
size_tried (Neg e) = one_tried (size_tried e)
size_tried (Num op a b) = two_tried (nodes a) (size_tried a) (size_tried b)
size_tried (Cmp op a b) = two_tried (nodes a) (size_tried a) (size_tried b)
size_tried (Not e) = one_tried (size_tried e)
size_tried (Logic op a b) = two_tried (nodes a) (size_tried a) (size_tried b)
size_tried (Cond t a b) = three_tried (nodes t) (nodes a) (size_tried t) (size_tried a) (size_tried b)
size_tried (Widen s e) = one_tried (size_tried e)
size_tried (Round mode s e) = one_tried (size_tried e)
size_tried (Div mode s a b) = two_tried (nodes a) (size_tried a) (size_tried b)
size_tried (Acc body n first) = acc_tried (nodes body) n (size_tried first) (size_tried body)

-- an expression of n nodes, and a contract that it stands before
abbrev pub behind_tried : ℕ → Answer → Answer → Answer
behind_tried n e c = then_do (moved 1 e) (λ s. then_do (moved (1 + n) c) (λ t. limited 0 (together s t)))

abbrev pub contract_tried : Contract → Answer
contract_tried Zero = limited 0 unit
contract_tried (Pay a p q) = limited 0 unit
contract_tried (Both a b) =
    then_do (moved 1 (contract_tried a)) (λ s. then_do (moved (1 + nodes_of_contract a) (contract_tried b)) (λ t. limited 0 (together s t)))
contract_tried (Scale e c) = behind_tried (nodes e) (size_tried e) (contract_tried c)
contract_tried (After n c) = then_do (moved 1 (contract_tried c)) (λ s. limited (count_of n) (delayed (count_of n) s))
contract_tried (Let e c) = behind_tried (nodes e) (size_tried e) (contract_tried c)
contract_tried (Within e n a b) =
    then_do (moved 1 (size_tried e))
    (λ s. then_do (moved (1 + nodes e) (contract_tried a))
    (λ x. then_do (moved (nodes e) (moved (1 + nodes_of_contract a) (contract_tried b)))
    (λ y. limited (count_of n) (tested s (count_of n) x y))))
