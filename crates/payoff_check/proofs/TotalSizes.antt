-- A total at fewer decimals is not greater, and when it is small at some decimals.
use Rattle.std.proofs.Common.{ℕ, ◌≡◌, ◌-◌, ◌+◌, ◌*◌, ◌^◌, ◌≤◌, ◌<◌, true, false, ap, sym, ◌∙◌, inl, inr, arith}
use Rattle.std.specs.Prelude.{nat_le}
use Rattle.std.proofs.lemmas.Bool.{cases_Bool}
use Rattle.std.proofs.lemmas.Bool.Decides.{nat_tests}
use Rattle.std.proofs.Math.Nat.{add-mul}
use Rattle.std.proofs.lemmas.Nat.{mul-le, pow-add}
use Rattle.decimal.proofs.PowerFacts.{ten_above, ten_most}
use Rattle.payoff_check.specs.declared.totals.CodeTotal.{CodeTotal}
use Rattle.payoff_check.specs.BoundTrials.{at_decimals}

pub at_less : (s k : ℕ) (t : CodeTotal) → s ≤ k → at_decimals k t ≤ 10 ^ 37 → at_decimals s t ≤ 10 ^ 37
at_less s k t h p =
    omega (arith, mul-le t.amount (10 ^ (s - t.scale)) t.amount (10 ^ (k - t.scale)) (omega arith) (ten_most (s - t.scale) (k - t.scale) (omega arith)))

in_two : (k : ℕ) → k ≤ 37 → 10 ^ 37 ≡ 10 ^ (37 - k) * 10 ^ k
in_two k h = let parts : 37 ≡ (37 - k) + k = omega (arith, h) in ap (λ (n : ℕ). 10 ^ n) parts ∙ pow-add 10 (37 - k) k

small_with : (a p q g : ℕ) → 0 < q → g ≡ p * q → nat_le a p ≡ nat_le (a * q) g
small_with a p q g some whole = elim (cases_Bool (nat_le a p)) [
  | inl e ↦
      let low : a ≤ p = grind (arith, nat_tests) in
      let most : a * q ≤ p * q = mul-le a q p q low (omega arith) in
      let fits : nat_le (a * q) g ≡ true = grind (arith, nat_tests, most, whole) in
      e ∙ sym fits
  | inr e ↦
      let high : p + 1 ≤ a = grind (arith, nat_tests) in
      let more : (p + 1) * q ≤ a * q = mul-le (p + 1) q a q high (omega arith) in
      let past : g < a * q = omega (arith, more, some, whole, add-mul p 1 q) in
      let high : nat_le (a * q) g ≡ false = grind (arith, nat_tests, past) in
      e ∙ sym high
]

-- a product with a power of ten is at most 10^37 where the number is at most what is left of 10^37
pub small_times : (a k : ℕ) → k ≤ 37 → nat_le a (10 ^ (37 - k)) ≡ nat_le (a * 10 ^ k) (10 ^ 37)
small_times a k h = small_with a (10 ^ (37 - k)) (10 ^ k) (10 ^ 37) (ten_above k) (in_two k h)
