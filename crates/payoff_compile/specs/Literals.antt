-- Each literal of a term has a mantissa of at most 10^37 in size. The rules of acceptance ask it of every literal that is
-- evaluated, but not of one in the body of an accumulator of no days.
use Rattle.std.specs.Prelude.{◌≤◌, unsigned_abs}
use Rattle.term_model.specs.Limits.{greatest_mantissa}
use Rattle.term_model.specs.Terms.{Expression, Lit, Yes, Var, Obs, Neg, Num, Cmp, Not, Logic, Cond, Widen, Round, Div, Acc}
use Rattle.term_model.specs.Terms.{Contract, Zero, Pay, Both, Scale, After, Let, Within}

abbrev pub HasSmallLiterals : Expression → Type 0
HasSmallLiterals (Lit m s) = unsigned_abs m ≤ greatest_mantissa
HasSmallLiterals (Yes b) = Unit {0}
HasSmallLiterals (Var back) = Unit {0}
HasSmallLiterals (Obs l t) = Unit {0}
HasSmallLiterals (Neg e) = HasSmallLiterals e
HasSmallLiterals (Num op a b) = HasSmallLiterals a × HasSmallLiterals b
HasSmallLiterals (Cmp op a b) = HasSmallLiterals a × HasSmallLiterals b
HasSmallLiterals (Not e) = HasSmallLiterals e
HasSmallLiterals (Logic op a b) = HasSmallLiterals a × HasSmallLiterals b
HasSmallLiterals (Cond t a b) = HasSmallLiterals t × HasSmallLiterals a × HasSmallLiterals b
HasSmallLiterals (Widen s e) = HasSmallLiterals e
HasSmallLiterals (Round mode s e) = HasSmallLiterals e
HasSmallLiterals (Div mode s a b) = HasSmallLiterals a × HasSmallLiterals b
HasSmallLiterals (Acc body n first) = HasSmallLiterals body × HasSmallLiterals first

abbrev pub ContractHasSmallLiterals : Contract → Type 0
ContractHasSmallLiterals Zero = Unit {0}
ContractHasSmallLiterals (Pay a p q) = Unit {0}
ContractHasSmallLiterals (Both a b) = ContractHasSmallLiterals a × ContractHasSmallLiterals b
ContractHasSmallLiterals (Scale e c) = HasSmallLiterals e × ContractHasSmallLiterals c
ContractHasSmallLiterals (After n c) = ContractHasSmallLiterals c
ContractHasSmallLiterals (Let e c) = HasSmallLiterals e × ContractHasSmallLiterals c
ContractHasSmallLiterals (Within e n a b) =
    HasSmallLiterals e × ContractHasSmallLiterals a × ContractHasSmallLiterals b
