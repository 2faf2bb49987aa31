-- Templates that are sorted are those that were written, each put where it belongs.
use Rattle.std.proofs.Common.{◌≡◌, ◌∙◌, ℕ, zero, suc, ◌+◌, ◌<◌, ◌≤◌, Bool, true, false, cond, nat_le, List, [], ◌∷◌, length, get_or, refl, sym, ap, arith, ◌⊎◌, inl, inr}
use Rattle.std.specs.Prelude.{◌==◌}
use Rattle.std.specs.List.{sum_by}
use Rattle.std.specs.List.Sorted.{IsNonDecreasing, IsPermutation, IsSorted}
use Rattle.std.specs.Ordering.{nat_cmp}
use Rattle.std.proofs.lemmas.Bool.Decides.{nat_tests}
use Rattle.std.proofs.lemmas.List.Sums.{sum_by-cons}
use Rattle.std.proofs.lemmas.List.Sorted.{IsNonDecreasingBy-from_sort, sum_by-IsPermutation}
use Rattle.payoff_terms.specs.TemplateDates.{AreInOrderFrom, insert_name, insert_names}
use Rattle.payoff_terms.proofs.RisingFacts.{inserts_in_order}

-- how often a number stands in a list
abbrev times : ℕ → List ℕ → ℕ
times x [] = 0
times x (y ∷ ys) = cond (y == x) 1 0 + times x ys

module _ (x : ℕ) where
  times_sum : (ys : List ℕ) → times x ys ≡ sum_by (λ y. cond (y == x) 1 0) ys
  times_sum [] = refl
  times_sum (y ∷ ys) = omega (arith, times_sum ys, sum_by-cons (λ (y : ℕ). cond (y == x) 1 0) y ys)

  inserted_by : (b : Bool) (t u : ℕ) (us vs : List ℕ) → times x vs ≡ times x (t ∷ us) → times x (cond b (t ∷ u ∷ us) (u ∷ vs)) ≡ times x (t ∷ u ∷ us)
  inserted_by true t u us vs e = refl
  inserted_by false t u us vs e = omega (arith, e)

  inserted_one : (t : ℕ) (us : List ℕ) → times x (insert_name t us) ≡ times x (t ∷ us)
  inserted_one t [] = refl
  inserted_one t (u ∷ us) = inserted_by (nat_le t u) t u us (insert_name t us) (inserted_one t us)

  inserted_all : (ts : List ℕ) → times x (insert_names ts []) ≡ times x ts
  inserted_all [] = refl
  inserted_all (t ∷ ts) = omega (arith, inserted_one t (insert_names ts []), inserted_all ts)

order_sorted : (low : ℕ) (xs : List ℕ) → ((d : ℕ) → 0 < length xs → low ≤ get_or xs 0 d) → IsNonDecreasing xs → AreInOrderFrom low xs
order_sorted low [] least h = tt
order_sorted low (x ∷ xs) least h = (
  least 0 (omega arith),
  order_sorted x xs (λ d some. h 0 1 d (omega arith) (omega arith)) (λ i j d le within. h (suc i) (suc j) d (omega arith) (omega arith)),
)

less_or_more : (x y : ℕ) → (x < y) ⊎ ((y < x) ⊎ (x ≡ y))
less_or_more zero zero = inr (inr refl)
less_or_more zero (suc y) = inl (omega arith)
less_or_more (suc x) zero = inr (inl (omega arith))
less_or_more (suc x) (suc y) = elim (less_or_more x y) [
  | inl less ↦ inl (omega arith)
  | inr (inl more) ↦ inr (inl (omega arith))
  | inr (inr e) ↦ inr (inr (omega arith))
]

-- a number below the first stands nowhere
none_below : (low x : ℕ) (ys : List ℕ) → x < low → AreInOrderFrom low ys → times x ys ≡ 0
none_below low x [] less h = refl
none_below low x (y ∷ ys) less h =
    let other : (y == x) ≡ false = grind (arith, nat_tests, h.0) in
    rw other (omega (arith, none_below y x ys (omega (arith, h.0)) h.1))

itself : (x : ℕ) (ys : List ℕ) → times x (x ∷ ys) ≡ suc (times x ys)
itself x ys = let same : (x == x) ≡ true = grind (arith, nat_tests) in rw same (omega arith)

-- lists in order are equal that have each number as often
module _ (x y : ℕ) (xs ys : List ℕ) (up : AreInOrderFrom x xs) (up' : AreInOrderFrom y ys) (same : (z : ℕ) → times z (x ∷ xs) ≡ times z (y ∷ ys)) where
  no_less : x < y → ⊥
  no_less less = omega (arith, same x, itself x xs, none_below y x (y ∷ ys) less (omega arith, up'))

  no_more : y < x → ⊥
  no_more less = omega (arith, same y, itself y ys, none_below x y (x ∷ xs) less (omega arith, up))

  first_same : x ≡ y
  first_same = elim (less_or_more x y) [
    | inl less ↦ absurd (no_less less)
    | inr (inl more) ↦ absurd (no_more more)
    | inr (inr e) ↦ e
  ]

  rest_same : (z : ℕ) → times z xs ≡ times z ys
  rest_same z =
      let head : cond (x == z) 1 0 ≡ cond (y == z) 1 0 = ap {B = ℕ} (λ (n : ℕ). cond (n == z) 1 0) first_same in
      omega (arith, same z, head)

one_order : (low low' : ℕ) (xs ys : List ℕ) → AreInOrderFrom low xs → AreInOrderFrom low' ys → ((z : ℕ) → times z xs ≡ times z ys) → xs ≡ ys
one_order low low' [] [] up up' same = refl
one_order low low' [] (y ∷ ys) up up' same = absurd (omega (arith, same y, itself y ys))
one_order low low' (x ∷ xs) [] up up' same = absurd (omega (arith, same x, itself x xs))
one_order low low' (x ∷ xs) (y ∷ ys) up up' same =
    let first = first_same x y xs ys up.1 up'.1 same in
    let rest = one_order x y xs ys up.1 up'.1 (rest_same x y xs ys up.1 up'.1 same) in
    λ i. first i ∷ rest i

pub sorted_so : (ts us : List ℕ) → IsPermutation ts us → IsSorted nat_cmp us → us ≡ insert_names ts []
sorted_so ts us moved rising =
    one_order 0 0 us (insert_names ts []) (order_sorted 0 us (λ d some. omega arith) (IsNonDecreasingBy-from_sort (λ x. x) us rising)) (inserts_in_order ts [] tt)
    (λ x. times_sum x us ∙ sum_by-IsPermutation (λ y. cond (y == x) 1 0) ts us moved ∙ sym (times_sum x ts) ∙ sym (inserted_all x ts))
