-- The index of a template among others in rising order.
use Rattle.std.proofs.Common.{◌≡◌, ℕ, zero, suc, ◌<◌, ◌≤◌, true, false, nat_le, List, [], ◌∷◌, length, get_or, refl, ap, arith}
use Rattle.std.specs.Prelude.{insert}
use Rattle.std.proofs.lemmas.Bool.Decides.{nat_tests}
use Rattle.payoff_terms.specs.TemplateDates.{insert_name}

le_true : (t u : ℕ) → t ≤ u → nat_le t u ≡ true
le_true t u h = grind (arith, nat_tests)

le_false : (t u : ℕ) → u < t → nat_le t u ≡ false
le_false t u h = grind (arith, nat_tests)

pub index_is : (us : List ℕ) (i t : ℕ) → i ≤ length us → (i < length us → t ≤ get_or us i 0) → ((k : ℕ) → k < i → get_or us k 0 < t) → insert us i t ≡ insert_name t us
index_is [] zero t le here below = refl
index_is [] (suc i) t le here below = absurd (omega arith)
index_is (u ∷ us) zero t le here below = rw (le_true t u (here (omega arith))) refl
index_is (u ∷ us) (suc i) t le here below =
    rw (le_false t u (below zero (omega arith)))
    (ap (λ (vs : List ℕ). u ∷ vs) (index_is us i t (omega arith) (λ l. here (omega arith)) (λ k l. below (suc k) (omega arith))))
