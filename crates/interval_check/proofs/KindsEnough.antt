-- The rules on sorts and scales ask of the names of an expression only their kinds.
use Rattle.std.proofs.Common.{◌≡◌, List, ◌∷◌, ap, subst}
use Rattle.term_model.specs.Declarations.{Declarations}
use Rattle.term_model.specs.declared.values.Kind.{Kind}
use Rattle.term_model.specs.Terms.{Expression, Lit, Yes, Var, Obs, Neg, Num, Cmp, Not, Logic, Cond, Widen, Round, Div, Acc}
use Rattle.term_model.specs.Terms.{Contract, Zero, Pay, Both, Scale, After, Let, Within}
use Rattle.term_model.specs.Kinds.{kind_of}
use Rattle.term_model.specs.Values.{kind_or}
use Rattle.term_model.specs.Sites.{Part, OfExpression, OfContract, Once}
use Rattle.term_model.specs.Bounds.{Range, range_kinds}
use Rattle.interval_check.specs.Nodes.{EachNode, EachContractNode, range_after, range_of}

-- a rule that sees the kinds of names alone
abbrev pub AmongKinds : (List Kind → Part → Type 0) → List Range → Part → Type 0
AmongKinds Q g part = Q (range_kinds g) part

abbrev KindsAreEnough : (List Kind → Part → Type 0) → Declarations → Expression → Type 0
KindsAreEnough Q d e =
    (g h : List Range) → range_kinds g ≡ range_kinds h → EachNode (AmongKinds Q) Once d e g → EachNode (AmongKinds Q) Once d e h

along : (Q : List Kind → Part → Type 0) (g h : List Range) (part : Part) → range_kinds g ≡ range_kinds h → Q (range_kinds g) part → Q (range_kinds h) part
along Q g h part same q = subst (λ (ks : List Kind). Q ks part) same q

pub kinds_are_enough : (Q : List Kind → Part → Type 0) (d : Declarations) (e : Expression) → KindsAreEnough Q d e
kinds_are_enough Q d (Lit m s) g h same p = along Q g h (OfExpression (Lit m s)) same p
kinds_are_enough Q d (Yes b) g h same p = along Q g h (OfExpression (Yes b)) same p
kinds_are_enough Q d (Var back) g h same p = along Q g h (OfExpression (Var back)) same p
kinds_are_enough Q d (Obs l t) g h same p = along Q g h (OfExpression (Obs l t)) same p
kinds_are_enough Q d (Neg e) g h same p = (kinds_are_enough Q d e g h same p.0, along Q g h (OfExpression (Neg e)) same p.1)
kinds_are_enough Q d (Num op a b) g h same p =
    (kinds_are_enough Q d a g h same p.0, kinds_are_enough Q d b g h same p.1, along Q g h (OfExpression (Num op a b)) same p.2)
kinds_are_enough Q d (Cmp op a b) g h same p =
    (kinds_are_enough Q d a g h same p.0, kinds_are_enough Q d b g h same p.1, along Q g h (OfExpression (Cmp op a b)) same p.2)
kinds_are_enough Q d (Not e) g h same p = (kinds_are_enough Q d e g h same p.0, along Q g h (OfExpression (Not e)) same p.1)
kinds_are_enough Q d (Logic op a b) g h same p =
    (kinds_are_enough Q d a g h same p.0, kinds_are_enough Q d b g h same p.1, along Q g h (OfExpression (Logic op a b)) same p.2)
kinds_are_enough Q d (Cond t a b) g h same p =
    (kinds_are_enough Q d t g h same p.0, kinds_are_enough Q d a g h same p.1, kinds_are_enough Q d b g h same p.2, along Q g h (OfExpression (Cond t a b)) same p.3)
kinds_are_enough Q d (Widen s e) g h same p =
    (kinds_are_enough Q d e g h same p.0, along Q g h (OfExpression (Widen s e)) same p.1)
kinds_are_enough Q d (Round mode s e) g h same p =
    (kinds_are_enough Q d e g h same p.0, along Q g h (OfExpression (Round mode s e)) same p.1)
kinds_are_enough Q d (Div mode s a b) g h same p =
    (kinds_are_enough Q d a g h same p.0, kinds_are_enough Q d b g h same p.1, along Q g h (OfExpression (Div mode s a b)) same p.2)
kinds_are_enough Q d (Acc body n first) g h same p = (
  kinds_are_enough Q d first g h same p.0,
  (
    kinds_are_enough Q d body (range_after d body 0 first g ∷ g) (range_after d body 0 first h ∷ h) (ap (λ (ks : List Kind). kind_or (kind_of d first ks) ∷ ks) same) p.1.0,
    along Q g h (OfExpression (Acc body n first)) same p.1.1,
  ),
)

pub kinds_are_enough_for : (Q : List Kind → Part → Type 0) (d : Declarations) (c : Contract) (g h : List Range) → range_kinds g ≡ range_kinds h → EachContractNode (AmongKinds Q) Once d c g → EachContractNode (AmongKinds Q) Once d c h
kinds_are_enough_for Q d Zero g h same p = along Q g h (OfContract Zero) same p
kinds_are_enough_for Q d (Pay a x y) g h same p = along Q g h (OfContract (Pay a x y)) same p
kinds_are_enough_for Q d (Both a b) g h same p =
    (kinds_are_enough_for Q d a g h same p.0, kinds_are_enough_for Q d b g h same p.1, along Q g h (OfContract (Both a b)) same p.2)
kinds_are_enough_for Q d (Scale e c) g h same p =
    (kinds_are_enough Q d e g h same p.0, kinds_are_enough_for Q d c g h same p.1, along Q g h (OfContract (Scale e c)) same p.2)
kinds_are_enough_for Q d (After n c) g h same p =
    (kinds_are_enough_for Q d c g h same p.0, along Q g h (OfContract (After n c)) same p.1)
kinds_are_enough_for Q d (Let e c) g h same p = (
  kinds_are_enough Q d e g h same p.0,
  kinds_are_enough_for Q d c (range_of d e g ∷ g) (range_of d e h ∷ h) (ap (λ (ks : List Kind). kind_or (kind_of d e ks) ∷ ks) same) p.1,
  along Q g h (OfContract (Let e c)) same p.2,
)
kinds_are_enough_for Q d (Within e n a b) g h same p =
    (kinds_are_enough Q d e g h same p.0, kinds_are_enough_for Q d a g h same p.1, kinds_are_enough_for Q d b g h same p.2, along Q g h (OfContract (Within e n a b)) same p.3)
