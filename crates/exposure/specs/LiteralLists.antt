-- The literals of a contract, in the order in which they stand in it.
use Rattle.std.specs.Prelude.{◌↔◌, ◌≤◌, ◌^◌, ℕ, ℤ, unsigned_abs, List, [], ◌∷◌, ◌++◌}
use Rattle.std.specs.List.{All}
use Rattle.term_model.specs.Terms.{Expression, Lit, Yes, Var, Obs, Neg, Num, Cmp, Not, Logic, Cond, Widen, Round, Div, Acc}
use Rattle.term_model.specs.Terms.{Contract, Zero, Pay, Both, Scale, After, Let, Within}
use Rattle.term_model.specs.Literals.{HasLiteralsIn}

-- a number as it is written: its digits, and how many of them are decimals
pub record Literal : Type 0 where
  pub mantissa : ℤ
  pub scale : ℕ

abbrev pub literals_of : Expression → List Literal
literals_of (Lit m s) = record { mantissa = m; scale = s } ∷ []
literals_of (Yes b) = []
literals_of (Var k) = []
literals_of (Obs label offset) = []
literals_of (Neg e) = literals_of e
literals_of (Num op a b) = literals_of a ++ literals_of b
literals_of (Cmp op a b) = literals_of a ++ literals_of b
literals_of (Not e) = literals_of e
literals_of (Logic op a b) = literals_of a ++ literals_of b
literals_of (Cond t a b) = literals_of t ++ (literals_of a ++ literals_of b)
literals_of (Widen s e) = literals_of e
literals_of (Round mode s e) = literals_of e
literals_of (Div mode s a b) = literals_of a ++ literals_of b
literals_of (Acc body n first) = literals_of body ++ literals_of first

abbrev pub literals_in : Contract → List Literal
literals_in Zero = []
literals_in (Pay a p q) = []
literals_in (Both a b) = literals_in a ++ literals_in b
literals_in (Scale e c) = literals_of e ++ literals_in c
literals_in (After n c) = literals_in c
literals_in (Let e c) = literals_of e ++ literals_in c
literals_in (Within e n a b) = literals_of e ++ (literals_in a ++ literals_in b)

-- a literal that a text can have
abbrev pub IsWritten : Literal → Type 0
IsWritten x = (unsigned_abs x.mantissa ≤ 10 ^ 37) × (x.scale ≤ 27)

-- the list has every literal: a contract's are within the limits of texts exactly where each of the list is
abbrev pub AllLiteralsAreListed : Type 0
AllLiteralsAreListed = (c : Contract) → HasLiteralsIn c ↔ All IsWritten (literals_in c)
