-- Products of whole numbers, and numbers at more decimals.
use Rattle.std.proofs.Common.{◌≡◌, ℕ, zero, suc, ℤ, pos, negsuc, ◌+ℤ◌, ◌*ℤ◌, neg_ℤ, ◌≤◌, ◌+◌, ◌-◌, ◌*◌, ◌^◌, max, ap, sym, ◌∙◌, mul_assoc, arith}
use Rattle.std.proofs.Math.IntN.{*ℤ_comm, *ℤ-zero, suc_ℤ-*ℤ}
use Rattle.std.proofs.lemmas.Nat.{pow-add}
use Rattle.std.proofs.lemmas.Int.{ints}
use Rattle.decimal.specs.Rounding.{raised}
use Rattle.term_model.proofs.FlowFacts.{mul-neg}

pub neg-mul : (x y : ℤ) → neg_ℤ x *ℤ y ≡ neg_ℤ (x *ℤ y)
neg-mul x y = *ℤ_comm (neg_ℤ x) y ∙ mul-neg y x ∙ ap neg_ℤ (*ℤ_comm y x)

-- a property of ℤ that holds of naturals and is kept by the sign
pub by_sign : (f g : ℤ → ℤ) → ((n : ℕ) → f (pos n) ≡ g (pos n)) → ((x : ℤ) → f (neg_ℤ x) ≡ neg_ℤ (f x)) → ((x : ℤ) → g (neg_ℤ x) ≡ neg_ℤ (g x)) → (x : ℤ) → f x ≡ g x
by_sign f g h p q (pos n) = h n
by_sign f g h p q (negsuc n) = p (pos (suc n)) ∙ ap neg_ℤ (h (suc n)) ∙ sym (q (pos (suc n)))

pub mul-mul : (x : ℤ) (a b : ℕ) → (x *ℤ pos a) *ℤ pos b ≡ x *ℤ pos (a * b)
mul-mul x a b =
    by_sign (λ y. (y *ℤ pos a) *ℤ pos b) (λ y. y *ℤ pos (a * b)) (λ n. ap pos (mul_assoc n a b)) (λ y. ap (λ (z : ℤ). z *ℤ pos b) (neg-mul y (pos a)) ∙ neg-mul (y *ℤ pos a) (pos b)) (λ y. neg-mul y (pos (a * b))) x

-- the factors of a product change places
pub mul-swap : (x : ℤ) (a : ℕ) (y : ℤ) → (x *ℤ pos a) *ℤ y ≡ (x *ℤ y) *ℤ pos a
mul-swap x a y =
    by_sign (λ z. (x *ℤ pos a) *ℤ z) (λ z. (x *ℤ z) *ℤ pos a) (λ n. mul-mul x a n ∙ ap (λ (k : ℕ). x *ℤ pos k) (omega arith) ∙ sym (mul-mul x n a)) (λ z. mul-neg (x *ℤ pos a) z) (λ z. ap (λ (v : ℤ). v *ℤ pos a) (mul-neg x z) ∙ neg-mul (x *ℤ z) (pos a)) y

pub mul_suc : (x : ℤ) (k : ℕ) → x *ℤ pos (suc k) ≡ x *ℤ pos k +ℤ x
mul_suc x k = *ℤ_comm x (pos (suc k)) ∙ suc_ℤ-*ℤ (pos k) x ∙ ap (λ (z : ℤ). z +ℤ x) (*ℤ_comm (pos k) x)

pub regrouped : (a b x y : ℤ) → (a +ℤ b) +ℤ (x +ℤ y) ≡ (a +ℤ x) +ℤ (b +ℤ y)
regrouped a b x y = omega (arith, ints)

pub sum-mul : (x y : ℤ) (k : ℕ) → (x +ℤ y) *ℤ pos k ≡ x *ℤ pos k +ℤ y *ℤ pos k
sum-mul x y zero = *ℤ-zero (x +ℤ y) ∙ ap (λ (z : ℤ). z +ℤ pos 0) (sym (*ℤ-zero x)) ∙ ap (λ (z : ℤ). x *ℤ pos 0 +ℤ z) (sym (*ℤ-zero y))
sum-mul x y (suc k) =
    mul_suc (x +ℤ y) k ∙ ap (λ (z : ℤ). z +ℤ (x +ℤ y)) (sum-mul x y k) ∙ regrouped (x *ℤ pos k) (y *ℤ pos k) x y ∙ ap (λ (z : ℤ). z +ℤ (y *ℤ pos k +ℤ y)) (sym (mul_suc x k)) ∙ ap (λ (z : ℤ). x *ℤ pos (suc k) +ℤ z) (sym (mul_suc y k))

pub raised-raised : (x : ℤ) (a b : ℕ) → raised (raised x a) b ≡ raised x (a + b)
raised-raised x a b = mul-mul x (10 ^ a) (10 ^ b) ∙ ap (λ (k : ℕ). x *ℤ pos k) (sym (pow-add 10 a b))

-- two parts of a contract, each at its own scale, at the greater scale, and that at the portfolio's decimals
pub parts_raised : (x y : ℤ) (amounts i j : ℕ) → i ≤ amounts → j ≤ amounts → raised x (amounts - i) +ℤ raised y (amounts - j) ≡ raised (raised x (max i j - i) +ℤ raised y (max i j - j)) (amounts - max i j)
parts_raised x y amounts i j h k =
    let one : (max i j - i) + (amounts - max i j) ≡ amounts - i = omega arith in
    let other : (max i j - j) + (amounts - max i j) ≡ amounts - j = omega arith in
    let x_is = raised-raised x (max i j - i) (amounts - max i j) ∙ ap (λ (n : ℕ). raised x n) one in
    let y_is = raised-raised y (max i j - j) (amounts - max i j) ∙ ap (λ (n : ℕ). raised y n) other in
    sym (sum-mul (raised x (max i j - i)) (raised y (max i j - j)) (10 ^ (amounts - max i j)) ∙ ap (λ (z : ℤ). z +ℤ raised (raised y (max i j - j)) (amounts - max i j)) x_is ∙ ap (λ (z : ℤ). raised x (amounts - i) +ℤ z) y_is)

assoc-pos : (x : ℤ) (n : ℕ) (z : ℤ) → (x *ℤ pos n) *ℤ z ≡ x *ℤ (pos n *ℤ z)
assoc-pos x n z =
    by_sign (λ u. (x *ℤ pos n) *ℤ u) (λ u. x *ℤ (pos n *ℤ u)) (λ m. mul-mul x n m) (λ u. mul-neg (x *ℤ pos n) u) (λ u. ap (λ (v : ℤ). x *ℤ v) (mul-neg (pos n) u) ∙ mul-neg x (pos n *ℤ u)) z

pub mul-assoc : (x y z : ℤ) → (x *ℤ y) *ℤ z ≡ x *ℤ (y *ℤ z)
mul-assoc x y z =
    by_sign (λ u. (x *ℤ u) *ℤ z) (λ u. x *ℤ (u *ℤ z)) (λ n. assoc-pos x n z) (λ u. ap (λ (v : ℤ). v *ℤ z) (mul-neg x u) ∙ neg-mul (x *ℤ u) z) (λ u. ap (λ (v : ℤ). x *ℤ v) (neg-mul u z) ∙ mul-neg x (u *ℤ z)) y

pub neg_sum : (x y : ℤ) → neg_ℤ x +ℤ neg_ℤ y ≡ neg_ℤ (x +ℤ y)
neg_sum x y = omega (arith, ints)

pub mul-sum : (m x y : ℤ) → m *ℤ (x +ℤ y) ≡ m *ℤ x +ℤ m *ℤ y
mul-sum m x y =
    by_sign (λ u. u *ℤ (x +ℤ y)) (λ u. u *ℤ x +ℤ u *ℤ y)
    (λ n. *ℤ_comm (pos n) (x +ℤ y) ∙ sum-mul x y n ∙ ap (λ (z : ℤ). z +ℤ y *ℤ pos n) (*ℤ_comm x (pos n)) ∙ ap (λ (z : ℤ). pos n *ℤ x +ℤ z) (*ℤ_comm y (pos n)))
    (λ u. neg-mul u (x +ℤ y))
    (λ u. ap (λ (z : ℤ). z +ℤ neg_ℤ u *ℤ y) (neg-mul u x) ∙ ap (λ (z : ℤ). neg_ℤ (u *ℤ x) +ℤ z) (neg-mul u y) ∙ neg_sum (u *ℤ x) (u *ℤ y)) m

-- a factor goes past another
pub mul-past : (m u x : ℤ) → m *ℤ (u *ℤ x) ≡ u *ℤ (m *ℤ x)
mul-past m u x = sym (mul-assoc m u x) ∙ ap (λ (z : ℤ). z *ℤ x) (*ℤ_comm m u) ∙ mul-assoc u m x
