-- Shifts by nothing, shifts of shifts, and what they ask of offsets.
use Rattle.std.proofs.Common.{◌≡◌, ℕ, ℤ, pos, ◌+◌, ◌+ℤ◌, refl, ap, ap₂, arith, subst, inl, inr}
use Rattle.std.proofs.lemmas.Int.{ints}
use Rattle.term_model.specs.Terms.{expression}
use Rattle.term_model.specs.Terms.{Expression, Lit, Yes, Var, Obs, Neg, Num, Cmp, Not, Logic, Cond, Widen, Round, Div, Acc}
use Rattle.term_model.specs.Terms.{Contract, Zero, Pay, Both, Scale, After, Let, Within}
use Rattle.term_model.specs.Shifts.{shifted, CanMove, CanShift}

pub shifted_zero : (e : Expression) → shifted (pos 0) e ≡ e
shifted_zero (Lit m s) = refl
shifted_zero (Yes b) = refl
shifted_zero (Var back) = refl
shifted_zero (Obs l t) = ap (Obs l) (omega (arith, ints))
shifted_zero (Neg e) = ap Neg (shifted_zero e)
shifted_zero (Num op a b) = ap₂ (Num op) (shifted_zero a) (shifted_zero b)
shifted_zero (Cmp op a b) = ap₂ (Cmp op) (shifted_zero a) (shifted_zero b)
shifted_zero (Not e) = ap Not (shifted_zero e)
shifted_zero (Logic op a b) = ap₂ (Logic op) (shifted_zero a) (shifted_zero b)
shifted_zero (Cond t a b) = cc (shifted_zero t, shifted_zero a, shifted_zero b)
shifted_zero (Widen s e) = ap (Widen s) (shifted_zero e)
shifted_zero (Round mode s e) = ap (Round mode s) (shifted_zero e)
shifted_zero (Div mode s a b) = ap₂ (Div mode s) (shifted_zero a) (shifted_zero b)
shifted_zero (Acc body n first) = ap₂ (λ (x y : Expression). Acc x n y) (shifted_zero body) (shifted_zero first)

pub shifted_twice : (k j : ℤ) (e : Expression) → shifted k (shifted j e) ≡ shifted (j +ℤ k) e
shifted_twice k j (Lit m s) = refl
shifted_twice k j (Yes b) = refl
shifted_twice k j (Var back) = refl
shifted_twice k j (Obs l t) = ap (Obs l) (omega (arith, ints))
shifted_twice k j (Neg e) = ap Neg (shifted_twice k j e)
shifted_twice k j (Num op a b) = ap₂ (Num op) (shifted_twice k j a) (shifted_twice k j b)
shifted_twice k j (Cmp op a b) = ap₂ (Cmp op) (shifted_twice k j a) (shifted_twice k j b)
shifted_twice k j (Not e) = ap Not (shifted_twice k j e)
shifted_twice k j (Logic op a b) = ap₂ (Logic op) (shifted_twice k j a) (shifted_twice k j b)
shifted_twice k j (Cond t a b) = cc (shifted_twice k j t, shifted_twice k j a, shifted_twice k j b)
shifted_twice k j (Widen s e) = ap (Widen s) (shifted_twice k j e)
shifted_twice k j (Round mode s e) = ap (Round mode s) (shifted_twice k j e)
shifted_twice k j (Div mode s a b) = ap₂ (Div mode s) (shifted_twice k j a) (shifted_twice k j b)
shifted_twice k j (Acc body n first) = ap₂ (λ (x y : Expression). Acc x n y) (shifted_twice k j body) (shifted_twice k j first)

-- a copy asks nothing of offsets
pub copy_moves : (e : Expression) → CanMove (pos 0) e
copy_moves (Lit m s) = tt
copy_moves (Yes b) = tt
copy_moves (Var back) = tt
copy_moves (Obs l t) = inl refl
copy_moves (Neg e) = copy_moves e
copy_moves (Num op a b) = (copy_moves a, copy_moves b)
copy_moves (Cmp op a b) = (copy_moves a, copy_moves b)
copy_moves (Not e) = copy_moves e
copy_moves (Logic op a b) = (copy_moves a, copy_moves b)
copy_moves (Cond t a b) = (copy_moves t, copy_moves a, copy_moves b)
copy_moves (Widen s e) = copy_moves e
copy_moves (Round mode s e) = copy_moves e
copy_moves (Div mode s a b) = (copy_moves a, copy_moves b)
copy_moves (Acc body n first) = (copy_moves body, copy_moves first)

-- a shift asks what a move does
pub shift_moves : (k : ℤ) (e : Expression) → CanShift k e → CanMove k e
shift_moves k (Lit m s) h = tt
shift_moves k (Yes b) h = tt
shift_moves k (Var back) h = tt
shift_moves k (Obs l t) h = inr h
shift_moves k (Neg e) h = shift_moves k e h
shift_moves k (Num op a b) h = (shift_moves k a h.0, shift_moves k b h.1)
shift_moves k (Cmp op a b) h = (shift_moves k a h.0, shift_moves k b h.1)
shift_moves k (Not e) h = shift_moves k e h
shift_moves k (Logic op a b) h = (shift_moves k a h.0, shift_moves k b h.1)
shift_moves k (Cond t a b) h = (shift_moves k t h.0, shift_moves k a h.1, shift_moves k b h.2)
shift_moves k (Widen s e) h = shift_moves k e h
shift_moves k (Round mode s e) h = shift_moves k e h
shift_moves k (Div mode s a b) h = (shift_moves k a h.0, shift_moves k b h.1)
shift_moves k (Acc body n first) h = (shift_moves k body h.0, shift_moves k first h.1)
