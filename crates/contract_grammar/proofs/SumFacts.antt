-- The items of a sum: what they leave of the limits, and in which order names stand.
use Rattle.std.proofs.Common.{◌≡◌, ℕ, zero, suc, ◌+◌, ◌-◌, ◌≤◌, ◌<◌, Bool, true, false, cond, ◌&&◌, Option, Some, None, Result, Ok, Err, List, [], ◌∷◌, length, refl, ap, subst, inl, inr, arith}
use Rattle.std.specs.Prelude.{nat_le, nat_lt}
use Rattle.std.proofs.lemmas.Bool.{cases_Bool}
use Rattle.std.proofs.lemmas.Bool.Decides.{nat_tests}
use Rattle.term_model.specs.DayCounts.{Days}
use Rattle.term_model.specs.WellFormed.{AreBelow}
use Rattle.contract_grammar.specs.Tokens.{Tok}
use Rattle.contract_grammar.specs.Words.{Bytes, is_integer, is_name}
use Rattle.contract_grammar.specs.Versions.{Two}
use Rattle.contract_grammar.specs.Judgements.{or_fault, up_to, use_at, whole}
use Rattle.contract_grammar.specs.Names.{index_in}
use Rattle.contract_grammar.specs.Sums.{AreInOrder, IsCountOfTexts, IsTally, Tally, item_at, no_items, sum_of, with_name, with_number, with_use}
use Rattle.contract_grammar.specs.Spelling.{Repeat, SumOf, further_item, more, none}
use Rattle.contract_grammar.specs.declared.faults.TextKind.{TextKind}
use Rattle.contract_grammar.specs.declared.faults.TextKind.TheVariants.{Number, Unknown}
use Rattle.contract_grammar.proofs.TextNumbers.{by_value, small, use_within}

-- ---- one more name

length_step : (b : Bool) (t u : ℕ) (us vs : List ℕ) → length vs ≡ suc (length us) → length (cond b (t ∷ u ∷ us) (u ∷ vs)) ≡ suc (length (u ∷ us))
length_step true t u us vs e = refl
length_step false t u us vs e = ap suc e

pub length_with : (t : ℕ) (us : List ℕ) → length (with_name t us) ≡ suc (length us)
length_with t [] = refl
length_with t (u ∷ us) = length_step (nat_lt t u) t u us (with_name t us) (length_with t us)

order_step : (low t u : ℕ) (us : List ℕ) (b : Bool) → nat_lt t u ≡ b → low ≤ t → AreInOrder low (u ∷ us) → (u ≤ t → AreInOrder u (with_name t us)) → AreInOrder low (cond b (t ∷ u ∷ us) (u ∷ with_name t us))
order_step low t u us true e le h k = (le, (grind (arith, nat_tests), h.1))
order_step low t u us false e le h k = (h.0, k (grind (arith, nat_tests)))

pub order_with : (low t : ℕ) (us : List ℕ) → low ≤ t → AreInOrder low us → AreInOrder low (with_name t us)
order_with low t [] le h = (le, tt)
order_with low t (u ∷ us) le h = order_step low t u us (nat_lt t u) refl le h (λ up. order_with u t us up h.1)

below_step : (n t u : ℕ) (us vs : List ℕ) (b : Bool) → t < n → AreBelow n (u ∷ us) → AreBelow n vs → AreBelow n (cond b (t ∷ u ∷ us) (u ∷ vs))
below_step n t u us vs true l h k = (l, h)
below_step n t u us vs false l h k = (h.0, k)

pub below_with : (n t : ℕ) (us : List ℕ) → t < n → AreBelow n us → AreBelow n (with_name t us)
below_with n t [] l h = (l, tt)
below_with n t (u ∷ us) l h = below_step n t u us (with_name t us) (nat_lt t u) l h (below_with n t us l h.1)

-- ---- one item

-- what an item does: it adds a number within the limit, or a name, of which there are at most 4
pub record Adds (templates : List Bytes) (p q : Tally) : Type 0 where
  pub tally : IsTally p → IsTally q
  pub below : AreBelow (length templates) p.names → AreBelow (length templates) q.names

adds_number : (templates : List Bytes) (p q : Tally) (o : Option ℕ) (m : ℕ) → up_to (100_000 - p.number) m ≡ o → with_number p o ≡ Ok q → Adds templates p q
adds_number templates p q None m is e = absurd cc
adds_number templates p q (Some n) m is e =
    let less = small (100_000 - p.number) m n is in
    let same : record { number = p.number + n; names = p.names } ≡ q = cc in
    subst (λ (r : Tally). Adds templates p r) same (record { tally = λ h. record { number = omega (arith, h.number); few = h.few; order = h.order }; below = λ h. h })

adds_use : (templates : List Bytes) (p q : Tally) (t : Tok) (r : Result ℕ TextKind) → length p.names < 4 → use_at templates t ≡ r → with_use p r ≡ Ok q → Adds templates p q
adds_use templates p q t (Err kind) few is e = absurd cc
adds_use templates p q t (Ok i) few is e =
    let same : record { number = p.number; names = with_name i p.names } ≡ q = cc in
    subst (λ (r : Tally). Adds templates p r) same (record {
      tally = λ h. record { number = h.number; few = omega (arith, length_with i p.names); order = order_with 0 i p.names (omega arith) h.order };
      below = λ h. below_with (length templates) i p.names (use_within templates t i is) h;
    })

fewer : (n : ℕ) → nat_le 4 n ≡ false → n < 4
fewer n e = grind (arith, nat_tests)

by_name : (templates : List Bytes) (p q : Tally) (t : Tok) → cond (is_name t && nat_le 4 (length p.names)) (Err Number) (with_use p (use_at templates t)) ≡ Ok q → Adds templates p q
by_name templates p q t e = elim (cases_Bool (is_name t)) [
  | inl is ↦ elim (cases_Bool (nat_le 4 (length p.names))) [
    | inl many ↦ let h = rw (is, many) at e in absurd cc
    | inr few ↦
        let h : with_use p (or_fault Unknown (index_in templates t.text)) ≡ Ok q = rw (is, few) at e in
        let used : use_at templates t ≡ or_fault Unknown (index_in templates t.text) = rw is refl in
        adds_use templates p q t (or_fault Unknown (index_in templates t.text)) (fewer (length p.names) few) used h
  ]
  | inr other ↦ let h = rw other at e in absurd cc
]

pub adds : (templates : List Bytes) (p q : Tally) (t : Tok) → item_at templates p t ≡ Ok q → Adds templates p q
adds templates p q t e = elim (cases_Bool (is_integer t)) [
  | inl is ↦ let h : with_number p (up_to (100_000 - p.number) (whole t)) ≡ Ok q = rw is at e in adds_number templates p q (up_to (100_000 - p.number) (whole t)) (whole t) refl h
  | inr other ↦ let h : cond (is_name t && nat_le 4 (length p.names)) (Err Number) (with_use p (use_at templates t)) ≡ Ok q = rw other at e in by_name templates p q t h
]

-- ---- all items

then_adds : (templates : List Bytes) (p q r : Tally) → Adds templates p q → Adds templates q r → Adds templates p r
then_adds templates p q r x y = record { tally = λ h. y.tally (x.tally h); below = λ h. y.below (x.below h) }

further_adds : (templates : List Bytes) (p q : Tally) (ts rest : List Tok) → Repeat (further_item templates) p q ts rest → Adds templates p q
further_adds templates p q ts rest none = record { tally = λ h. h; below = λ h. h }
further_adds templates p q ts rest (more {b = r} {between = k} x xs) =
    then_adds templates p r q (by_value (item_at templates p) r _ x.between k (λ t e. adds templates p r t e) x.two) (further_adds templates r q k rest xs)

-- a sum that is spelled
pub record IsSum (templates : List Bytes) (n : Days) : Type 0 where
  pub tally : Tally
  pub limits : IsTally tally
  pub below : AreBelow (length templates) tally.names
  pub is : n ≡ sum_of tally.number tally.names

pub sum_is : (templates : List Bytes) (n : Days) (ts rest : List Tok) → SumOf templates n ts rest → IsSum templates n
sum_is templates n ts rest x =
    let first = by_value (item_at templates no_items) x.first (Adds templates no_items x.first) ts x.spelled.between (λ t e. adds templates no_items x.first t e) x.spelled.one in
    let whole' = then_adds templates no_items x.first x.all first (further_adds templates x.first x.all x.spelled.between rest x.spelled.two) in
    record { tally = x.all; limits = whole'.tally (record { number = omega arith; few = omega arith; order = tt }); below = whole'.below tt; is = x.is }

pub count_of_texts : (k : ℕ) (us : List ℕ) → IsTally (record { number = k; names = us }) → IsCountOfTexts Two (sum_of k us)
count_of_texts k [] h = h.number
count_of_texts zero (t ∷ []) h = tt
count_of_texts (suc k) (t ∷ []) h = (h, refl)
count_of_texts zero (t ∷ u ∷ us) h = (h, refl)
count_of_texts (suc k) (t ∷ u ∷ us) h = (h, refl)
