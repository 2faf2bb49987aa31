-- Two tests that agree up to a day: they have one first day, or both are first true after it.
use Rattle.std.proofs.Common.{◌≡◌, ℕ, zero, suc, ◌≤◌, ◌<◌, Bool, true, false, if◌then◌else◌, Option, Some, None, refl, ap, ap₂, inl, inr, ◌⊎◌, arith}
use Rattle.std.proofs.lemmas.Bool.{cases_lt}
use Rattle.term_model.specs.Values.{first_of}
use Rattle.term_model.proofs.FirstFacts.{or_last}

-- no first day up to day n, among the days up to m
abbrev pub IsLate : ℕ → ℕ → Option ℕ → Type 0
IsLate n m (Some k) = n < k
IsLate n m None = n < m

abbrev pub SameOrLate : ℕ → ℕ → Option ℕ → Option ℕ → Type 0
SameOrLate n m o u = (o ≡ u) ⊎ (IsLate n m o × IsLate n m u)

late_last : (n m : ℕ) (b : Bool) → n < m → IsLate n m (if b then Some m else None)
late_last n m true h = h
late_last n m false h = h

late_more : (n m : ℕ) (o : Option ℕ) (b : Bool) → IsLate n m o → IsLate n (suc m) (or_last o (suc m) b)
late_more n m (Some k) b h = h
late_more n m None b h = late_last n (suc m) b (omega arith)

same_more : (n m : ℕ) (o : Option ℕ) (a b : Bool) → n < suc m → SameOrLate n (suc m) (or_last o (suc m) a) (or_last o (suc m) b)
same_more n m (Some k) a b h = inl refl
same_more n m None a b h = inr (late_last n (suc m) a h, late_last n (suc m) b h)

more : (n m : ℕ) (o u : Option ℕ) (a b : Bool) → (suc m ≤ n → a ≡ b) → SameOrLate n m o u → SameOrLate n (suc m) (or_last o (suc m) a) (or_last u (suc m) b)
more n m o u a b same (inr h) = inr (late_more n m o a h.0, late_more n m u b h.1)
more n m o u a b same (inl e) =
    elim (cases_lt n (suc m)) [
      | inl lt ↦ rw e (same_more n m u a b lt)
      | inr le ↦ inl (ap₂ (λ (x : Option ℕ) (y : Bool). or_last x (suc m) y) e (same le))
    ]

pub first_same : (n m : ℕ) (p q : ℕ → Bool) → ((i : ℕ) → i ≤ n → p i ≡ q i) → SameOrLate n m (first_of m p) (first_of m q)
first_same n zero p q same = inl (ap (λ (b : Bool). if b then Some zero else None) (same zero (omega arith)))
first_same n (suc m) p q same = more n m (first_of m p) (first_of m q) (p (suc m)) (q (suc m)) (same (suc m)) (first_same n m p q same)
