-- The days before its own to which the accumulators of an expression go back. Offsets do not count, so the number stays
-- where they are moved; and it is at most the past.
use Rattle.std.proofs.Common.{◌≡◌, ℕ, ℤ, ◌+◌, ◌-◌, ◌≤◌, max, refl, ap₂, arith}
use Rattle.term_model.specs.Terms.{Expression, Lit, Yes, Var, Obs, Neg, Num, Cmp, Not, Logic, Cond, Widen, Round, Div, Acc}
use Rattle.term_model.specs.Shifts.{shifted}
use Rattle.term_model.specs.Sizes.{past}

abbrev pub span : Expression → ℕ
span (Lit m s) = 0
span (Yes b) = 0
span (Var back) = 0
span (Obs l t) = 0
span (Neg e) = span e
span (Num op a b) = max (span a) (span b)
span (Cmp op a b) = max (span a) (span b)
span (Not e) = span e
span (Logic op a b) = max (span a) (span b)
span (Cond t a b) = max (span t) (max (span a) (span b))
span (Widen s e) = span e
span (Round mode s e) = span e
span (Div mode s a b) = max (span a) (span b)
span (Acc body n first) = max (span first + n) (span body + (n - 1))

pub span-shifted : (k : ℤ) (e : Expression) → span (shifted k e) ≡ span e
span-shifted k (Lit m s) = refl
span-shifted k (Yes b) = refl
span-shifted k (Var back) = refl
span-shifted k (Obs l t) = refl
span-shifted k (Neg e) = span-shifted k e
span-shifted k (Num op a b) = ap₂ max (span-shifted k a) (span-shifted k b)
span-shifted k (Cmp op a b) = ap₂ max (span-shifted k a) (span-shifted k b)
span-shifted k (Not e) = span-shifted k e
span-shifted k (Logic op a b) = ap₂ max (span-shifted k a) (span-shifted k b)
span-shifted k (Cond t a b) = ap₂ max (span-shifted k t) (ap₂ max (span-shifted k a) (span-shifted k b))
span-shifted k (Widen s e) = span-shifted k e
span-shifted k (Round mode s e) = span-shifted k e
span-shifted k (Div mode s a b) = ap₂ max (span-shifted k a) (span-shifted k b)
span-shifted k (Acc body n first) = ap₂ (λ (x y : ℕ). max (x + n) (y + (n - 1))) (span-shifted k first) (span-shifted k body)

pub span-past : (e : Expression) → span e ≤ past e
span-past (Lit m s) = omega arith
span-past (Yes b) = omega arith
span-past (Var back) = omega arith
span-past (Obs l t) = omega arith
span-past (Neg e) = span-past e
span-past (Num op a b) = let p = span-past a in let q = span-past b in omega arith
span-past (Cmp op a b) = let p = span-past a in let q = span-past b in omega arith
span-past (Not e) = span-past e
span-past (Logic op a b) = let p = span-past a in let q = span-past b in omega arith
span-past (Cond t a b) = let o = span-past t in let p = span-past a in let q = span-past b in omega arith
span-past (Widen s e) = span-past e
span-past (Round mode s e) = span-past e
span-past (Div mode s a b) = let p = span-past a in let q = span-past b in omega arith
span-past (Acc body n first) = let p = span-past first in let q = span-past body in omega arith
