-- An expression that is read later has the size and the height of the expression, uses the same names, and is a literal
-- where the expression is one.
use Rattle.std.proofs.Common.{◌≡◌, ℕ, suc, ℤ, ◌+◌, ◌||◌, Bool, true, false, ◌-◌, if◌then◌else◌, refl, ap, ap₂, sym, nat_lt, ◌==◌}
use Rattle.term_model.specs.Terms.{Expression, Lit, Yes, Var, Obs, Neg, Num, Cmp, Not, Logic, Cond, Widen, Round, Div, Acc}
use Rattle.term_model.specs.Sizes.{height}
use Rattle.term_model.specs.Redexes.{is_literal, is_zero_literal, uses}
use Rattle.term_model.specs.Shifts.{shifted}
use Rattle.rewriting.specs.Measures.{size}
use Rattle.rewriting.specs.Substituting.{substituted, name_without}

pub shifted_size : (k : ℤ) (e : Expression) → size (shifted k e) ≡ size e
shifted_size k (Lit m s) = refl
shifted_size k (Yes b) = refl
shifted_size k (Var back) = refl
shifted_size k (Obs l t) = refl
shifted_size k (Neg e) = ap (λ (n : ℕ). n + 1) (shifted_size k e)
shifted_size k (Num op a b) = cc (shifted_size k a, shifted_size k b)
shifted_size k (Cmp op a b) = cc (shifted_size k a, shifted_size k b)
shifted_size k (Not e) = ap (λ (n : ℕ). n + 1) (shifted_size k e)
shifted_size k (Logic op a b) = cc (shifted_size k a, shifted_size k b)
shifted_size k (Cond t a b) = cc (shifted_size k t, shifted_size k a, shifted_size k b)
shifted_size k (Widen s e) = ap (λ (n : ℕ). n + 1) (shifted_size k e)
shifted_size k (Round mode s e) = ap (λ (n : ℕ). n + 1) (shifted_size k e)
shifted_size k (Div mode s a b) = cc (shifted_size k a, shifted_size k b)
shifted_size k (Acc body n first) = cc (shifted_size k body, shifted_size k first)

pub shifted_height : (k : ℤ) (e : Expression) → height (shifted k e) ≡ height e
shifted_height k (Lit m s) = refl
shifted_height k (Yes b) = refl
shifted_height k (Var back) = refl
shifted_height k (Obs l t) = refl
shifted_height k (Neg e) = ap (λ (n : ℕ). n + 1) (shifted_height k e)
shifted_height k (Num op a b) = cc (shifted_height k a, shifted_height k b)
shifted_height k (Cmp op a b) = cc (shifted_height k a, shifted_height k b)
shifted_height k (Not e) = ap (λ (n : ℕ). n + 1) (shifted_height k e)
shifted_height k (Logic op a b) = cc (shifted_height k a, shifted_height k b)
shifted_height k (Cond t a b) = cc (shifted_height k t, shifted_height k a, shifted_height k b)
shifted_height k (Widen s e) = ap (λ (n : ℕ). n + 1) (shifted_height k e)
shifted_height k (Round mode s e) = ap (λ (n : ℕ). n + 1) (shifted_height k e)
shifted_height k (Div mode s a b) = cc (shifted_height k a, shifted_height k b)
shifted_height k (Acc body n first) = cc (shifted_height k body, shifted_height k first)

pub shifted_uses : (k : ℤ) (j : ℕ) (e : Expression) → uses j (shifted k e) ≡ uses j e
shifted_uses k j (Lit m s) = refl
shifted_uses k j (Yes b) = refl
shifted_uses k j (Var back) = refl
shifted_uses k j (Obs l t) = refl
shifted_uses k j (Neg e) = shifted_uses k j e
shifted_uses k j (Num op a b) = ap₂ (λ (x y : Bool). x || y) (shifted_uses k j a) (shifted_uses k j b)
shifted_uses k j (Cmp op a b) = ap₂ (λ (x y : Bool). x || y) (shifted_uses k j a) (shifted_uses k j b)
shifted_uses k j (Not e) = shifted_uses k j e
shifted_uses k j (Logic op a b) = ap₂ (λ (x y : Bool). x || y) (shifted_uses k j a) (shifted_uses k j b)
shifted_uses k j (Cond t a b) = ap₂ (λ (x y : Bool). x || y) (shifted_uses k j t) (ap₂ (λ (x y : Bool). x || y) (shifted_uses k j a) (shifted_uses k j b))
shifted_uses k j (Widen s e) = shifted_uses k j e
shifted_uses k j (Round mode s e) = shifted_uses k j e
shifted_uses k j (Div mode s a b) = ap₂ (λ (x y : Bool). x || y) (shifted_uses k j a) (shifted_uses k j b)
shifted_uses k j (Acc body n first) = ap₂ (λ (x y : Bool). x || y) (shifted_uses k (j + 1) body) (shifted_uses k j first)

pub shifted_literal : (k : ℤ) (e : Expression) → is_literal (shifted k e) ≡ is_literal e
shifted_literal k (Lit m s) = refl
shifted_literal k (Yes b) = refl
shifted_literal k (Var back) = refl
shifted_literal k (Obs l t) = refl
shifted_literal k (Neg e) = refl
shifted_literal k (Num op a b) = refl
shifted_literal k (Cmp op a b) = refl
shifted_literal k (Not e) = refl
shifted_literal k (Logic op a b) = refl
shifted_literal k (Cond t a b) = refl
shifted_literal k (Widen s e) = refl
shifted_literal k (Round mode s e) = refl
shifted_literal k (Div mode s a b) = refl
shifted_literal k (Acc body n first) = refl

pub shifted_zero_literal : (k : ℤ) (e : Expression) → is_zero_literal (shifted k e) ≡ is_zero_literal e
shifted_zero_literal k (Lit m s) = refl
shifted_zero_literal k (Yes b) = refl
shifted_zero_literal k (Var back) = refl
shifted_zero_literal k (Obs l t) = refl
shifted_zero_literal k (Neg e) = refl
shifted_zero_literal k (Num op a b) = refl
shifted_zero_literal k (Cmp op a b) = refl
shifted_zero_literal k (Not e) = refl
shifted_zero_literal k (Logic op a b) = refl
shifted_zero_literal k (Cond t a b) = refl
shifted_zero_literal k (Widen s e) = refl
shifted_zero_literal k (Round mode s e) = refl
shifted_zero_literal k (Div mode s a b) = refl
shifted_zero_literal k (Acc body n first) = refl

pub literal_stays : (k : ℤ) (e : Expression) → is_literal e ≡ true → shifted k e ≡ e
literal_stays k (Lit m s) h = refl
literal_stays k (Yes b) h = refl
literal_stays k (Var back) h = absurd (cc)
literal_stays k (Obs l t) h = absurd (cc)
literal_stays k (Neg e) h = absurd (cc)
literal_stays k (Num op a b) h = absurd (cc)
literal_stays k (Cmp op a b) h = absurd (cc)
literal_stays k (Not e) h = absurd (cc)
literal_stays k (Logic op a b) h = absurd (cc)
literal_stays k (Cond t a b) h = absurd (cc)
literal_stays k (Widen s e) h = absurd (cc)
literal_stays k (Round mode s e) h = absurd (cc)
literal_stays k (Div mode s a b) h = absurd (cc)
literal_stays k (Acc body n first) h = absurd (cc)

name_shifted : (k : ℤ) (j : ℕ) (x : Expression) (back : ℕ) → is_literal x ≡ true → name_without j x back ≡ shifted k (name_without j x back)
name_shifted k j x back h = at (nat_lt back j) (back == j)
  where
    at : (b c : Bool) → (if b then Var back else (if c then x else Var (back - 1))) ≡ shifted k (if b then Var back else (if c then x else Var (back - 1)))
    at true c = refl
    at false true = sym (literal_stays k x h)
    at false false = refl

-- a literal takes the place of a name in what is read later as in the expression
pub substituted_shifted : (k : ℤ) (j : ℕ) (x : Expression) (e : Expression) → is_literal x ≡ true → substituted j x (shifted k e) ≡ shifted k (substituted j x e)
substituted_shifted k j x (Lit m s) h = refl
substituted_shifted k j x (Yes b) h = refl
substituted_shifted k j x (Var back) h = name_shifted k j x back h
substituted_shifted k j x (Obs l t) h = refl
substituted_shifted k j x (Neg e) h = ap (Neg) (substituted_shifted k j x e h)
substituted_shifted k j x (Num op a b) h = ap₂ (Num op) (substituted_shifted k j x a h) (substituted_shifted k j x b h)
substituted_shifted k j x (Cmp op a b) h = ap₂ (Cmp op) (substituted_shifted k j x a h) (substituted_shifted k j x b h)
substituted_shifted k j x (Not e) h = ap (Not) (substituted_shifted k j x e h)
substituted_shifted k j x (Logic op a b) h = ap₂ (Logic op) (substituted_shifted k j x a h) (substituted_shifted k j x b h)
substituted_shifted k j x (Cond t a b) h = cc (substituted_shifted k j x t h, substituted_shifted k j x a h, substituted_shifted k j x b h)
substituted_shifted k j x (Widen s e) h = ap (Widen s) (substituted_shifted k j x e h)
substituted_shifted k j x (Round mode s e) h = ap (Round mode s) (substituted_shifted k j x e h)
substituted_shifted k j x (Div mode s a b) h = ap₂ (Div mode s) (substituted_shifted k j x a h) (substituted_shifted k j x b h)
substituted_shifted k j x (Acc body n first) h = ap₂ (λ (y z : Expression). Acc y n z) (substituted_shifted k (suc j) x body h) (substituted_shifted k j x first h)
