-- The size of a term: its nodes, and its observables once more. It falls where a redex goes, and where an observable
-- becomes a literal.
use Rattle.std.specs.Prelude.{ℕ, ◌+◌}
use Rattle.term_model.specs.Terms.{Expression, Lit, Yes, Var, Obs, Neg, Num, Cmp, Not, Logic, Cond, Widen, Round, Div, Acc}
use Rattle.term_model.specs.Terms.{Contract, Zero, Pay, Both, Scale, After, Let, Within}

abbrev pub size : Expression → ℕ
size (Lit m s) = 1
size (Yes b) = 1
size (Var back) = 1
size (Obs l t) = 2
size (Neg e) = size e + 1
size (Num op a b) = size a + size b + 1
size (Cmp op a b) = size a + size b + 1
size (Not e) = size e + 1
size (Logic op a b) = size a + size b + 1
size (Cond t a b) = size t + size a + size b + 1
size (Widen s e) = size e + 1
size (Round mode s e) = size e + 1
size (Div mode s a b) = size a + size b + 1
size (Acc body n first) = size body + size first + 1

abbrev pub size_in : Contract → ℕ
size_in Zero = 1
size_in (Pay a p q) = 1
size_in (Both a b) = size_in a + size_in b + 1
size_in (Scale e c) = size e + size_in c + 1
size_in (After n c) = size_in c + 1
size_in (Let e c) = size e + size_in c + 1
size_in (Within e n a b) = size e + size_in a + size_in b + 1
