-- The sort of an expression, or the place of its first node that has none; and the place of a contract's first node
-- that breaks the rule on sorts. This goes by structure, each part once; proofs/SortFacts shows that it finds what the
-- rule says.
use Rattle.std.specs.Prelude.{ℕ, ◌+◌, List, ◌∷◌, Result, Ok, Err, slice_get}
use Rattle.term_model.specs.Declarations.{Declarations}
use Rattle.term_model.specs.Terms.{Expression, Lit, Yes, Var, Obs, Neg, Num, Cmp, Not, Logic, Cond, Widen, Round, Div, Acc}
use Rattle.term_model.specs.Terms.{Contract, Zero, Pay, Both, Scale, After, Let, Within}
use Rattle.term_model.specs.Environments.{label_of}
use Rattle.term_model.specs.Kinds.{kind_of_label}
use Rattle.term_model.specs.Sizes.{nodes, nodes_of_contract}
use Rattle.time_types.specs.declared.observed_sorts.Sort.{Sort}
use Rattle.time_types.specs.declared.observed_sorts.Sort.TheVariants.{Truth, Number}
use Rattle.time_types.specs.SortKinds.{sort_of}
use Rattle.term_core.specs.Trying.{then_do, moved, or_here}

abbrev pub Answer : Type 0
Answer = Result Sort ℕ

-- the answer where a sort is found as wanted, else a fault here
abbrev pub expected : Sort → Sort → Sort → Answer
expected Truth Truth answer = Ok answer
expected Number Number answer = Ok answer
expected Truth Number answer = Err 0
expected Number Truth answer = Err 0

-- an operator on one operand, by the operand's answer
abbrev pub one_tried : Sort → Sort → Answer → Answer
one_tried wanted answer a = then_do (moved 1 a) (λ s. expected wanted s answer)

-- an operator on two operands, of which the first has n nodes
abbrev pub two_tried : Sort → Sort → ℕ → Answer → Answer → Answer
two_tried wanted answer n a b =
    then_do (moved 1 a) (λ s. then_do (moved (1 + n) b) (λ t. then_do (expected wanted s answer) (λ _. expected wanted t answer)))

abbrev pub sort_tried : Declarations → Expression → List Sort → Answer
sort_tried d (Lit m s) ss = Ok Number
sort_tried d (Yes b) ss = Ok Truth
sort_tried d (Var back) ss = or_here (slice_get ss back)
sort_tried d (Obs l t) ss = or_here (sort_of (kind_of_label (label_of d l)))
sort_tried d (Neg e) ss = one_tried Number Number (sort_tried d e ss)
sort_tried d (Num op a b) ss = two_tried Number Number (nodes a) (sort_tried d a ss) (sort_tried d b ss)
sort_tried d (Cmp op a b) ss = two_tried Number Truth (nodes a) (sort_tried d a ss) (sort_tried d b ss)
sort_tried d (Not e) ss = one_tried Truth Truth (sort_tried d e ss)
sort_tried d (Logic op a b) ss = two_tried Truth Truth (nodes a) (sort_tried d a ss) (sort_tried d b ss)
sort_tried d (Cond t a b) ss =
    then_do (moved 1 (sort_tried d t ss))
    (λ s. then_do (moved (1 + nodes t) (sort_tried d a ss))
    (λ x. then_do (moved (nodes t) (moved (1 + nodes a) (sort_tried d b ss)))
    (λ y. then_do (expected Truth s Truth) (λ _. expected x y x))))
sort_tried d (Widen s e) ss = one_tried Number Number (sort_tried d e ss)
sort_tried d (Round mode s e) ss = one_tried Number Number (sort_tried d e ss)
sort_tried d (Div mode s a b) ss = two_tried Number Number (nodes a) (sort_tried d a ss) (sort_tried d b ss)
sort_tried d (Acc body n first) ss =
    then_do (moved (1 + nodes body) (sort_tried d first ss)) (λ s. then_do (moved 1 (sort_tried d body (s ∷ ss))) (λ t. expected s t s))

-- of a contract: nothing, or the place of the fault
abbrev pub Sorted : Type 0
Sorted = Result (Unit {0}) ℕ

abbrev pub required : Sort → Sort → Sorted
required wanted s = then_do (expected wanted s s) (λ _. Ok tt)

abbrev pub sorts_tried : Declarations → Contract → List Sort → Sorted
sorts_tried d Zero ss = Ok tt
sorts_tried d (Pay a p q) ss = Ok tt
sorts_tried d (Both a b) ss =
    then_do (moved 1 (sorts_tried d a ss)) (λ _. moved (1 + nodes_of_contract a) (sorts_tried d b ss))
sorts_tried d (Scale e c) ss =
    then_do (moved 1 (sort_tried d e ss)) (λ s. then_do (moved (1 + nodes e) (sorts_tried d c ss)) (λ _. required Number s))
sorts_tried d (After n c) ss = moved 1 (sorts_tried d c ss)
sorts_tried d (Let e c) ss =
    then_do (moved 1 (sort_tried d e ss)) (λ s. moved (1 + nodes e) (sorts_tried d c (s ∷ ss)))
sorts_tried d (Within e n a b) ss =
    then_do (moved 1 (sort_tried d e ss))
    (λ s. then_do (moved (1 + nodes e) (sorts_tried d a ss))
    (λ _. then_do (moved (nodes e) (moved (1 + nodes_of_contract a) (sorts_tried d b ss))) (λ _. required Truth s)))
