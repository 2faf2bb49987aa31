-- Totals at the portfolio's decimals, by the totals of parts.
use Rattle.std.proofs.Common.{◌≡◌, ℕ, ◌+◌, ◌-◌, ◌*◌, ◌^◌, max, ◌≤◌, ◌<◌, ◌⊎◌, inl, inr, ap, sym, ◌∙◌, arith}
use Rattle.std.proofs.Math.Nat.{add-mul, mul_assoc, mul_right_comm, mul-le-mul_right, le-mul_of_pos_right, le_of_mul-le-mul_right}
use Rattle.std.proofs.lemmas.Nat.{pow-add}
use Rattle.std.proofs.lemmas.Bool.{cases_lt}
use Rattle.decimal.proofs.PowerFacts.{ten_above}
use Rattle.interval_check.proofs.TurnoverFacts.{product_at_most}

-- from scale i to scale m and on to k decimals
pub raised_twice : (t i m k : ℕ) → i ≤ m → m ≤ k → t * 10 ^ (m - i) * 10 ^ (k - m) ≡ t * 10 ^ (k - i)
raised_twice t i m k h g =
    let steps : (m - i) + (k - m) ≡ k - i = omega arith in
    mul_assoc t (10 ^ (m - i)) (10 ^ (k - m)) ∙ ap (λ (x : ℕ). t * x) (sym (pow-add 10 (m - i) (k - m)) ∙ ap (λ (x : ℕ). 10 ^ x) steps)

-- of two parts, added
pub sum_raised_twice : (t u i j k : ℕ) → i ≤ k → j ≤ k → (t * 10 ^ (max i j - i) + u * 10 ^ (max i j - j)) * 10 ^ (k - max i j) ≡ t * 10 ^ (k - i) + u * 10 ^ (k - j)
sum_raised_twice t u i j k h g =
    let split = add-mul (t * 10 ^ (max i j - i)) (u * 10 ^ (max i j - j)) (10 ^ (k - max i j)) in
    let left = raised_twice t i (max i j) k (omega arith) (omega arith) in
    let right = raised_twice u j (max i j) k (omega arith) (omega arith) in
    omega arith

max_times : (x y p : ℕ) → max x y * p ≡ max (x * p) (y * p)
max_times x y p = by (cases_lt x y)
  where
    by : (x < y) ⊎ (y ≤ x) → max x y * p ≡ max (x * p) (y * p)
    by (inl less) =
        let most : max x y ≡ y = omega arith in
        let le : x ≤ y = omega arith in
        let times = mul-le-mul_right p le in
        ap (λ (m : ℕ). m * p) most ∙ omega arith
    by (inr least) =
        let most : max x y ≡ x = omega arith in
        let times = mul-le-mul_right p least in
        ap (λ (m : ℕ). m * p) most ∙ omega arith

-- and the greater of two
pub max_raised_twice : (t u i j k : ℕ) → i ≤ k → j ≤ k → max (t * 10 ^ (max i j - i)) (u * 10 ^ (max i j - j)) * 10 ^ (k - max i j) ≡ max (t * 10 ^ (k - i)) (u * 10 ^ (k - j))
max_raised_twice t u i j k h g =
    let split = max_times (t * 10 ^ (max i j - i)) (u * 10 ^ (max i j - j)) (10 ^ (k - max i j)) in
    let left = raised_twice t i (max i j) k (omega arith) (omega arith) in
    let right = raised_twice u j (max i j) k (omega arith) (omega arith) in
    omega arith

-- a body of a lower scale and a lower total, under a factor of the same scale and a lower size
pub product_raised : (s i j t u x y k : ℕ) → s + j ≤ k → i ≤ j → t * 10 ^ (k - i) ≤ u * 10 ^ (k - j) → x ≤ y → t * x * 10 ^ (k - (s + i)) ≤ u * y * 10 ^ (k - (s + j))
product_raised s i j t u x y k fit le h size =
    let p = k - (s + i) in
    let q = k - (s + j) in
    let left : t * 10 ^ p * 10 ^ s ≡ t * 10 ^ (k - i) = mul_assoc t (10 ^ p) (10 ^ s) ∙ ap (λ (z : ℕ). t * z) (sym (pow-add 10 p s) ∙ ap (λ (z : ℕ). 10 ^ z) (omega arith)) in
    let right : u * 10 ^ q * 10 ^ s ≡ u * 10 ^ (k - j) = mul_assoc u (10 ^ q) (10 ^ s) ∙ ap (λ (z : ℕ). u * z) (sym (pow-add 10 q s) ∙ ap (λ (z : ℕ). 10 ^ z) (omega arith)) in
    let whole : t * 10 ^ p * 10 ^ s ≤ u * 10 ^ q * 10 ^ s = omega arith in
    let body : t * 10 ^ p ≤ u * 10 ^ q = le_of_mul-le-mul_right whole (ten_above s) in
    let most = product_at_most (t * 10 ^ p) x (u * 10 ^ q) y body size in
    let turn = mul_right_comm t x (10 ^ p) in
    let turn' = mul_right_comm u y (10 ^ q) in
    omega arith

-- a total is at most what it is at more decimals
pub below_raised : (t k : ℕ) → t ≤ t * 10 ^ k
below_raised t k = le-mul_of_pos_right t (ten_above k)
