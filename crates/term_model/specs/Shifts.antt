-- An expression whose observables are all read some days later. It has the value of that many days later, because the
-- days of an accumulator move with it; and each offset has to stay within its limit.
use Rattle.std.specs.Prelude.{ℤ, pos, ◌+ℤ◌, ◌≡◌, ◌⊎◌}
use Rattle.term_model.specs.Limits.{IsOffset}
use Rattle.term_model.specs.Terms.{Expression, Obs, Neg, Num, Cmp, Not, Logic, Cond, Widen, Round, Div, Acc}

-- each observable is read k days later
abbrev pub shifted : ℤ → Expression → Expression
shifted k (Obs l t) = Obs l (t +ℤ k)
shifted k (Neg e) = Neg (shifted k e)
shifted k (Num op a b) = Num op (shifted k a) (shifted k b)
shifted k (Cmp op a b) = Cmp op (shifted k a) (shifted k b)
shifted k (Not e) = Not (shifted k e)
shifted k (Logic op a b) = Logic op (shifted k a) (shifted k b)
shifted k (Cond t a b) = Cond (shifted k t) (shifted k a) (shifted k b)
shifted k (Widen s e) = Widen s (shifted k e)
shifted k (Round mode s e) = Round mode s (shifted k e)
shifted k (Div mode s a b) = Div mode s (shifted k a) (shifted k b)
shifted k (Acc body n first) = Acc (shifted k body) n (shifted k first)
shifted k e = e

-- each observable's offset, k days later, is an offset
abbrev pub CanShift : ℤ → Expression → Type 0
CanShift k (Obs l t) = IsOffset (t +ℤ k)
CanShift k (Neg e) = CanShift k e
CanShift k (Num op a b) = CanShift k a × CanShift k b
CanShift k (Cmp op a b) = CanShift k a × CanShift k b
CanShift k (Not e) = CanShift k e
CanShift k (Logic op a b) = CanShift k a × CanShift k b
CanShift k (Cond t a b) = CanShift k t × CanShift k a × CanShift k b
CanShift k (Widen s e) = CanShift k e
CanShift k (Round mode s e) = CanShift k e
CanShift k (Div mode s a b) = CanShift k a × CanShift k b
CanShift k (Acc body n first) = CanShift k body × CanShift k first
CanShift k e = Unit {0}

-- where k is 0, nothing is asked of offsets: the shift is a copy
abbrev pub CanMove : ℤ → Expression → Type 0
CanMove k (Obs l t) = (k ≡ pos 0) ⊎ IsOffset (t +ℤ k)
CanMove k (Neg e) = CanMove k e
CanMove k (Num op a b) = CanMove k a × CanMove k b
CanMove k (Cmp op a b) = CanMove k a × CanMove k b
CanMove k (Not e) = CanMove k e
CanMove k (Logic op a b) = CanMove k a × CanMove k b
CanMove k (Cond t a b) = CanMove k t × CanMove k a × CanMove k b
CanMove k (Widen s e) = CanMove k e
CanMove k (Round mode s e) = CanMove k e
CanMove k (Div mode s a b) = CanMove k a × CanMove k b
CanMove k (Acc body n first) = CanMove k body × CanMove k first
CanMove k e = Unit {0}
