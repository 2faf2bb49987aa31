-- The values of the first scenarios of a set, and their total.
use Rattle.std.proofs.Common.{◌≡◌, ◌∙◌, ◌⊎◌, inl, inr, ℕ, zero, suc, ◌+◌, ◌*◌, ◌^◌, ◌<◌, ◌≤◌, ℤ, pos, ◌+ℤ◌, ◌*ℤ◌, false, List, [], ◌∷◌, ◌++◌, length, take, get_or, Some, refl, sym, ap, subst, arith}
use Rattle.std.specs.Prelude.{All, int_lt, unsigned_abs, Err}
use Rattle.interval_check.specs.Safety.{IsSmall}
use Rattle.std.proofs.Common.{FitsSigned}
use Rattle.std.specs.Int.{w128}
use Rattle.std.proofs.lemmas.Int.{fits_signed_from_abs}
use Rattle.std.proofs.lemmas.Bool.Decides.{nat_tests}
use Rattle.std.proofs.lemmas.Int.{ints}
use Rattle.std.proofs.lemmas.List.{map_more, take_all}
use Rattle.std.proofs.lemmas.List.Elements.{All-push}
use Rattle.std.proofs.lemmas.Option.{slice_get-get_or}
use Rattle.scenario_set.specs.Scenarios.{NamedMap}
use Rattle.scenario_set.specs.Totals.{AreFew, Inquiry, IsFixedIn, LacksIn, most_worth, total_of, values_in, worth_in}
use Rattle.scenario_set.specs.TotalSteps.{AnswersIn, AnswersSum, IsWorthIn, SumsUpTo, TakesValue}
use Rattle.scenario_set.specs.declared.sums.Summed.{Summed}
use Rattle.scenario_set.specs.declared.outcomes.TotalsErr.{TotalsErr}
use Rattle.scenario_set.specs.declared.outcomes.TotalsErr.TheVariants.{TooMany, Missing, NoMemory}

total_more : (vs : List ℤ) (w : ℤ) → total_of (vs ++ w ∷ []) ≡ total_of vs +ℤ w
total_more [] w = omega (arith, ints)
total_more (v ∷ vs) w =
    let rest = total_more vs w in
    ap (λ (z : ℤ). v +ℤ z) rest ∙ joins v (total_of vs) w
  where
    joins : (a b c : ℤ) → a +ℤ (b +ℤ c) ≡ (a +ℤ b) +ℤ c
    joins a b c = omega (arith, ints)

size_more : (t w : ℤ) (a b : ℕ) → unsigned_abs t ≤ a → unsigned_abs w ≤ b → unsigned_abs (t +ℤ w) ≤ a + b
size_more t w a b h k = omega (arith, ints, h, k)

times_more : (n m : ℕ) → (n + 1) * m ≡ n * m + m
times_more n m = grind arith

times_up : (n m k : ℕ) → n ≤ k → n * m ≤ k * m
times_up n m k h = grind arith

fixed_more : (q : Inquiry) (set : List NamedMap) (n : ℕ) (worth : ℤ) → ((j : ℕ) → j < n → IsFixedIn q set j) → IsWorthIn q set n worth → (j : ℕ) → j < n + 1 → IsFixedIn q set j
fixed_more q set n worth before w j h = elim (split j n h) [
  | inl below ↦ before j below
  | inr here ↦ subst (λ (k : ℕ). IsFixedIn q set k) (sym here) (record { scenario = w.scenario; stands = w.stands; fixed = w.fixed })
]
  where
    split : (j n : ℕ) → j < n + 1 → (j < n) ⊎ (j ≡ n)
    split zero zero h = inr refl
    split zero (suc n) h = inl (omega arith)
    split (suc j) zero h = absurd (omega (arith, h))
    split (suc j) (suc n) h = elim (split j n (omega (arith, h))) [ inl below ↦ inl (omega (arith, below)) | inr here ↦ inr (ap (λ (k : ℕ). suc k) here) ]

-- one scenario more
pub sums_more :
    (q : Inquiry) (set : List NamedMap) (n : ℕ) (values : List ℤ) (total worth : ℤ) → n < length set
    → SumsUpTo q set n values total → IsWorthIn q set n worth → SumsUpTo q set (n + 1) (values ++ worth ∷ []) (total +ℤ worth)
sums_more q set n values total worth within sums w =
    let of_map : NamedMap → ℤ = λ s. worth_in q.book q.setting q.asked s.map in
    let at : ◌≡◌ (Some (get_or set n w.scenario)) (Some w.scenario) = sym (slice_get-get_or set n w.scenario within) ∙ w.stands in
    let read : get_or set n w.scenario ≡ w.scenario = cc in
    let last : of_map (get_or set n w.scenario) ≡ worth = ap of_map read ∙ sym w.is in
    let listed = map_more of_map set n w.scenario within in
    record {
      values_are =
          ap (λ (vs : List ℤ). vs ++ worth ∷ []) sums.values_are
          ∙ ap (λ (v : ℤ). values_in q.book q.setting q.asked (take n set) ++ v ∷ []) (sym last)
          ∙ sym listed;
      total_is = ap (λ (t : ℤ). t +ℤ worth) sums.total_is ∙ sym (total_more values worth);
      fixed = fixed_more q set n worth sums.fixed w;
      sizes = All-push (λ (v : ℤ). unsigned_abs v ≤ most_worth q) values worth sums.sizes w.size;
      size = rw (times_more n (most_worth q)) (size_more total worth (n * most_worth q) (most_worth q) sums.size w.size);
    }

pub all_values : (q : Inquiry) (set : List NamedMap) (values : List ℤ) (total : ℤ) → SumsUpTo q set (length set) values total → values ≡ values_in q.book q.setting q.asked set
all_values q set values total sums =
    sums.values_are ∙ ap (λ (l : List NamedMap). values_in q.book q.setting q.asked l) (take_all (length set) set (omega arith))

-- a value fits 128 bits
pub worth_fits : (q : Inquiry) (set : List NamedMap) (n : ℕ) (worth : ℤ) → n < length set → length set * most_worth q ≤ 10 ^ 37 → IsWorthIn q set n worth → FitsSigned w128 worth
worth_fits q set n worth within few w =
    let most = times_up 1 (most_worth q) (length set) (omega (arith, within)) in
    let small : unsigned_abs worth ≤ 10 ^ 37 = let size = w.size in omega (arith, size, most, few) in
    fits_signed_from_abs w128 worth (omega (arith, small))

-- what was taken is the next sum
pub takes_more :
    (q : Inquiry) (set : List NamedMap) (n : ℕ) (before after : Summed) (worth : ℤ) → n < length set
    → SumsUpTo q set n before.values.items before.total → IsWorthIn q set n worth → TakesValue before after worth
    → SumsUpTo q set (n + 1) after.values.items after.total
takes_more q set n before after worth within sums w t =
    rw (t.values, t.total) (sums_more q set n before.values.items before.total worth within sums w)

-- what stops in a scenario stops the sum
pub stops_is : (q : Inquiry) (set : List NamedMap) (n : ℕ) (values : List ℤ) (total : ℤ) (e : TotalsErr) → SumsUpTo q set n values total → AnswersIn q set n (Err e) → AnswersSum q set (Err e)
stops_is q set n values total (TooMany count) sums h = h
stops_is q set n values total (Missing j l t) sums h = (
  (λ k below. sums.fixed k (omega (arith, below, h.0))),
  subst (λ (i : ℕ). LacksIn q set i (record { label = l; day = t })) (sym h.0) h.1,
)
stops_is q set n values total NoMemory sums h = tt

-- the values and their total are small
pub all_small :
    (q : Inquiry) (set : List NamedMap) (values : List ℤ) (total : ℤ) → 1 ≤ length set → AreFew q set
    → SumsUpTo q set (length set) values total → All IsSmall values × IsSmall total
all_small q set values total some few sums = (
  (λ k d within. let size = sums.sizes k d within in let most = times_up 1 (most_worth q) (length set) some in omega (arith, size, most, few)),
  (let size = sums.size in omega (arith, size, few)),
)

few_by : (count most : ℕ) → int_lt (pos (10 ^ 37)) (pos count *ℤ pos most) ≡ false → count * most ≤ 10 ^ 37
few_by count most h = grind (arith, ints, nat_tests)

-- scenarios that are not too many
pub are_few :
    (q : Inquiry) (set : List NamedMap) (count : ℕ) (bound : ℤ) → count ≡ length set → bound ≡ pos (most_worth q)
    → int_lt (pos (10 ^ 37)) (pos count *ℤ bound) ≡ false → AreFew q set
are_few q set count bound long most h =
    subst (λ (n : ℕ). n * most_worth q ≤ 10 ^ 37) long
    (few_by count (most_worth q) (subst (λ (b : ℤ). int_lt (pos (10 ^ 37)) (pos count *ℤ b) ≡ false) most h))
