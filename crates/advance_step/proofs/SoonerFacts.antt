-- An expression that reads an observable not too far back is moved by few days, and one that reads none may be moved by any.
use Rattle.std.proofs.Common.{◌≡◌, ◌≤◌, ℕ, ◌+◌, ◌-◌, max, ℤ, pos, negsuc, ◌+ℤ◌, ◌≤ℤ◌, refl, ap, ap₂, sym, ◌∙◌, arith}
use Rattle.std.proofs.lemmas.Int.{ints}
use Rattle.term_model.specs.Limits.{IsOffset}
use Rattle.term_model.specs.Terms.{Expression, Lit, Yes, Var, Obs, Neg, Num, Cmp, Not, Logic, Cond, Widen, Round, Div, Acc}
use Rattle.term_model.specs.Shifts.{shifted}
use Rattle.term_core.specs.SharedTerms.{HasOffsets}
use Rattle.term_model.specs.Sizes.{past, days_before}
use Rattle.term_model.proofs.ShiftedFacts.{shifted_twice}
use Rattle.advance_step.specs.CarryingWalk.{CanMove}

-- r is k, where k is as few days as an observable can be moved by
abbrev pub IsNear : ℤ → ℤ → ℤ → Type 0
IsNear k r u = negsuc 1_999_999 ≤ℤ k → r ≡ u

not_far : (t k : ℤ) → IsOffset t → days_before (t +ℤ k) ≤ 1_000_000 → negsuc 1_999_999 ≤ℤ k
not_far t k o h = by_sign t k (t +ℤ k) refl o h
  where
    by_sign : (t k u : ℤ) → u ≡ t +ℤ k → IsOffset t → days_before u ≤ 1_000_000 → negsuc 1_999_999 ≤ℤ k
    by_sign t k (pos n) e o h = let high = o.1 in omega (arith, ints, e)
    by_sign t k (negsuc n) e o h = let high = o.1 in omega (arith, ints, e, h)

left_past : (a b : ℕ) → max a b ≤ 1_000_000 → a ≤ 1_000_000
left_past a b h = omega arith

right_past : (a b : ℕ) → max a b ≤ 1_000_000 → b ≤ 1_000_000
right_past a b h = omega arith

more_past : (a n : ℕ) → a + n ≤ 1_000_000 → a ≤ 1_000_000
more_past a n h = omega arith

near_enough : (e : Expression) (k r u : ℤ) → HasOffsets e → past (shifted k e) ≤ 1_000_000 → IsNear k r u → shifted r e ≡ shifted u e
near_enough (Lit m s) k r u o c h = refl
near_enough (Yes b) k r u o c h = refl
near_enough (Var back) k r u o c h = refl
near_enough (Obs l t) k r u o c h = ap (λ (z : ℤ). Obs l (t +ℤ z)) (h (not_far t k o c))
near_enough (Neg e) k r u o c h = ap Neg (near_enough e k r u o c h)
near_enough (Num op a b) k r u o c h = ap₂ (Num op) (near_enough a k r u o.0 (left_past _ _ c) h) (near_enough b k r u o.1 (right_past _ _ c) h)
near_enough (Cmp op a b) k r u o c h = ap₂ (Cmp op) (near_enough a k r u o.0 (left_past _ _ c) h) (near_enough b k r u o.1 (right_past _ _ c) h)
near_enough (Not e) k r u o c h = ap Not (near_enough e k r u o c h)
near_enough (Logic op a b) k r u o c h = ap₂ (Logic op) (near_enough a k r u o.0 (left_past _ _ c) h) (near_enough b k r u o.1 (right_past _ _ c) h)
near_enough (Cond t a b) k r u o c h =
    let rest = right_past (past (shifted k t)) (max (past (shifted k a)) (past (shifted k b))) c in
    let one = near_enough t k r u o.0 (left_past (past (shifted k t)) (max (past (shifted k a)) (past (shifted k b))) c) h in
    let two = near_enough a k r u o.1 (left_past _ _ rest) h in
    let three = near_enough b k r u o.2 (right_past _ _ rest) h in
    cc (one, two, three)
near_enough (Widen s e) k r u o c h = ap (Widen s) (near_enough e k r u o c h)
near_enough (Round mode s e) k r u o c h = ap (Round mode s) (near_enough e k r u o c h)
near_enough (Div mode s a b) k r u o c h = ap₂ (Div mode s) (near_enough a k r u o.0 (left_past _ _ c) h) (near_enough b k r u o.1 (right_past _ _ c) h)
near_enough (Acc body n first) k r u o c h =
    let before = more_past (past (shifted k first)) n (left_past _ _ c) in
    let within = more_past (past (shifted k body)) (n - 1) (right_past (past (shifted k first) + n) (past (shifted k body) + (n - 1)) c) in
    ap₂ (λ (x y : Expression). Acc x n y) (near_enough body k r u o.0 within h) (near_enough first k r u o.1 before h)

pub moved_sooner : (e : Expression) (k r : ℤ) (j : ℕ) → IsNear k r (k +ℤ negsuc j) → CanMove k e → shifted r e ≡ shifted (negsuc j) (shifted k e)
moved_sooner e k r j h m = near_enough e k r (k +ℤ negsuc j) m.offsets m.recent h ∙ sym (shifted_twice (negsuc j) k e)
