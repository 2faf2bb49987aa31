-- The list of a contract's literals has every one of them.
use Rattle.std.proofs.Common.{List, [], ◌∷◌, ◌++◌}
use Rattle.std.specs.Prelude.{◌↔◌}
use Rattle.std.specs.List.{All}
use Rattle.std.proofs.lemmas.List.Elements.{All-nil, All-cons, All-head, All-tail, All-append}
use Rattle.term_model.specs.Terms.{Expression, Lit, Yes, Var, Obs, Neg, Num, Cmp, Not, Logic, Cond, Widen, Round, Div, Acc}
use Rattle.term_model.specs.Terms.{Zero, Pay, Both, Scale, After, Let, Within}
use Rattle.term_model.specs.Literals.{HasLiterals, HasLiteralsIn}
use Rattle.exposure.specs.LiteralLists.{AllLiteralsAreListed, IsWritten, Literal, literals_in, literals_of}

left : (xs ys : List Literal) → All IsWritten (xs ++ ys) → All IsWritten xs
left [] ys h = All-nil IsWritten
left (x ∷ xs) ys h =
    All-cons IsWritten x xs (All-head IsWritten x (xs ++ ys) h) (left xs ys (All-tail IsWritten x (xs ++ ys) h))

right : (xs ys : List Literal) → All IsWritten (xs ++ ys) → All IsWritten ys
right [] ys h = h
right (x ∷ xs) ys h = right xs ys (All-tail IsWritten x (xs ++ ys) h)

both : (P Q : Type 0) (xs ys : List Literal) → P ↔ All IsWritten xs → Q ↔ All IsWritten ys → (P × Q) ↔ All IsWritten (xs ++ ys)
both P Q xs ys h k = (
  (λ t. All-append IsWritten xs ys (h.0 t.0) (k.0 t.1)),
  (λ all. (h.1 (left xs ys all), k.1 (right xs ys all))),
)

three : (P Q R : Type 0) (xs ys zs : List Literal) → P ↔ All IsWritten xs → Q ↔ All IsWritten ys → R ↔ All IsWritten zs → (P × Q × R) ↔ All IsWritten (xs ++ (ys ++ zs))
three P Q R xs ys zs h k l = (
  (λ t. All-append IsWritten xs (ys ++ zs) (h.0 t.0) (All-append IsWritten ys zs (k.0 t.1) (l.0 t.2))),
  (λ all. let rest = right xs (ys ++ zs) all in (h.1 (left xs (ys ++ zs) all), k.1 (left ys zs rest), l.1 (right ys zs rest))),
)

none : (Unit {0}) ↔ All IsWritten []
none = ((λ t. All-nil IsWritten), (λ all. tt))

listed : (e : Expression) → HasLiterals e ↔ All IsWritten (literals_of e)
listed (Lit m s) = (
  (λ h. All-cons IsWritten (record { mantissa = m; scale = s }) [] h (All-nil IsWritten)),
  (λ all. All-head IsWritten (record { mantissa = m; scale = s }) [] all),
)
listed (Yes b) = none
listed (Var k) = none
listed (Obs label offset) = none
listed (Neg e) = listed e
listed (Num op a b) = both (HasLiterals a) (HasLiterals b) (literals_of a) (literals_of b) (listed a) (listed b)
listed (Cmp op a b) = both (HasLiterals a) (HasLiterals b) (literals_of a) (literals_of b) (listed a) (listed b)
listed (Not e) = listed e
listed (Logic op a b) = both (HasLiterals a) (HasLiterals b) (literals_of a) (literals_of b) (listed a) (listed b)
listed (Cond t a b) =
    three (HasLiterals t) (HasLiterals a) (HasLiterals b) (literals_of t) (literals_of a) (literals_of b) (listed t) (listed a) (listed b)
listed (Widen s e) = listed e
listed (Round mode s e) = listed e
listed (Div mode s a b) = both (HasLiterals a) (HasLiterals b) (literals_of a) (literals_of b) (listed a) (listed b)
listed (Acc body n first) =
    both (HasLiterals body) (HasLiterals first) (literals_of body) (literals_of first) (listed body) (listed first)

pub all_literals_are_listed : AllLiteralsAreListed
all_literals_are_listed Zero = none
all_literals_are_listed (Pay a p q) = none
all_literals_are_listed (Both a b) =
    both (HasLiteralsIn a) (HasLiteralsIn b) (literals_in a) (literals_in b) (all_literals_are_listed a) (all_literals_are_listed b)
all_literals_are_listed (Scale e c) =
    both (HasLiterals e) (HasLiteralsIn c) (literals_of e) (literals_in c) (listed e) (all_literals_are_listed c)
all_literals_are_listed (After n c) = all_literals_are_listed c
all_literals_are_listed (Let e c) =
    both (HasLiterals e) (HasLiteralsIn c) (literals_of e) (literals_in c) (listed e) (all_literals_are_listed c)
all_literals_are_listed (Within e n a b) =
    three (HasLiterals e) (HasLiteralsIn a) (HasLiteralsIn b) (literals_of e) (literals_in a) (literals_in b) (listed e) (all_literals_are_listed a) (all_literals_are_listed b)
