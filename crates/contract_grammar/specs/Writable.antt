-- What printing asks of a contract: literals within the limits of decimals, names under their binders, and a depth of at
-- most 200. It asks less than that a text can stand for it: a name that is not declared is written as nothing.
use Rattle.std.specs.Prelude.{ℕ, suc, ◌≤◌, ◌<◌, ◌^◌, unsigned_abs}
use Rattle.term_model.specs.Sizes.{height_of_contract}
use Rattle.term_model.specs.Terms.{Expression, Lit, Yes, Var, Obs, Neg, Num, Cmp, Not, Logic, Cond, Widen, Round, Div, Acc, Contract, Zero, Pay, Both, Scale, After, Let, Within}

-- an expression under n binders
abbrev pub IsWritable : ℕ → Expression → Type 0
IsWritable n (Lit m k) = (unsigned_abs m ≤ 10 ^ 37) × (k ≤ 27)
IsWritable n (Yes b) = Unit {0}
IsWritable n (Var back) = back < n
IsWritable n (Obs l t) = Unit {0}
IsWritable n (Neg e) = IsWritable n e
IsWritable n (Num op a b) = IsWritable n a × IsWritable n b
IsWritable n (Cmp op a b) = IsWritable n a × IsWritable n b
IsWritable n (Not e) = IsWritable n e
IsWritable n (Logic op a b) = IsWritable n a × IsWritable n b
IsWritable n (Cond t a b) = IsWritable n t × IsWritable n a × IsWritable n b
IsWritable n (Widen k e) = IsWritable n e
IsWritable n (Round mode k e) = IsWritable n e
IsWritable n (Div mode k a b) = IsWritable n a × IsWritable n b
IsWritable n (Acc body days first) = IsWritable (suc n) body × IsWritable n first

-- a contract under n binders
abbrev pub IsWritableContract : ℕ → Contract → Type 0
IsWritableContract n Zero = Unit {0}
IsWritableContract n (Pay asset from to) = Unit {0}
IsWritableContract n (Both a b) = IsWritableContract n a × IsWritableContract n b
IsWritableContract n (Scale e c) = IsWritable n e × IsWritableContract n c
IsWritableContract n (After d c) = IsWritableContract n c
IsWritableContract n (Let e c) = IsWritable n e × IsWritableContract (suc n) c
IsWritableContract n (Within e d a b) = IsWritable n e × IsWritableContract n a × IsWritableContract n b

-- a contract of which at most 200 terms are open at once
pub record IsWritableTerm (c : Contract) : Type 0 where
  pub writable : IsWritableContract 0 c
  pub shallow : height_of_contract c ≤ 200
