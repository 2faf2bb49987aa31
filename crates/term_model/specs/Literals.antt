-- The literals of a term are within the limits of texts: a mantissa of at most 10^37 in size, and at most 27 decimals.
use Rattle.std.specs.Prelude.{◌≤◌, ◌^◌, unsigned_abs}
use Rattle.term_model.specs.Terms.{Expression, Lit, Neg, Num, Cmp, Not, Logic, Cond, Widen, Round, Div, Acc}
use Rattle.term_model.specs.Terms.{Contract, Zero, Pay, Both, Scale, After, Let, Within}

abbrev pub HasLiterals : Expression → Type 0
HasLiterals (Lit m s) = (unsigned_abs m ≤ 10 ^ 37) × (s ≤ 27)
HasLiterals (Neg e) = HasLiterals e
HasLiterals (Num op a b) = HasLiterals a × HasLiterals b
HasLiterals (Cmp op a b) = HasLiterals a × HasLiterals b
HasLiterals (Not e) = HasLiterals e
HasLiterals (Logic op a b) = HasLiterals a × HasLiterals b
HasLiterals (Cond t a b) = HasLiterals t × HasLiterals a × HasLiterals b
HasLiterals (Widen s e) = HasLiterals e
HasLiterals (Round mode s e) = HasLiterals e
HasLiterals (Div mode s a b) = HasLiterals a × HasLiterals b
HasLiterals (Acc body n first) = HasLiterals body × HasLiterals first
HasLiterals e = Unit {0}

abbrev pub HasLiteralsIn : Contract → Type 0
HasLiteralsIn Zero = Unit {0}
HasLiteralsIn (Pay a p q) = Unit {0}
HasLiteralsIn (Both a b) = HasLiteralsIn a × HasLiteralsIn b
HasLiteralsIn (Scale e c) = HasLiterals e × HasLiteralsIn c
HasLiteralsIn (After n c) = HasLiteralsIn c
HasLiteralsIn (Let e c) = HasLiterals e × HasLiteralsIn c
HasLiteralsIn (Within e n a b) = HasLiterals e × HasLiteralsIn a × HasLiteralsIn b
