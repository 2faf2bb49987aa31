-- Curves: the row at or below an offset, and what is kept of all rows.
use Rattle.std.proofs.Common.{◌≡◌, ◌∙◌, ℕ, zero, suc, ◌-◌, ◌<◌, ◌≤◌, ℤ, pos, Bool, true, false, List, [], ◌∷◌, length, get_or, refl, sym, subst, inl, inr, arith, to_z, w64}
use Rattle.std.specs.Prelude.{◌<ℤ◌, ◌≤ℤ◌, int_le, int_lt}
use Rattle.std.specs.List.Sorted.{IsPartitionPoint, IsPartitionedBy}
use Rattle.std.proofs.lemmas.Bool.{cases_Bool}
use Rattle.std.proofs.lemmas.Int.{ints}
use Rattle.term_model.specs.Factors.{HasFactors, IsCurve, IsFactor, Rises, discount_factor, last_factor}
use Rattle.term_model.specs.LawsFactors.{CurvesAnswerFactors}
use Rattle.fixing_files.specs.Curves.{AreNear, IsKept, rows_of}
use Rattle.fixing_files.specs.declared.curves.CurveStep.{CurveStep}

-- what is known of each row

pub near_at : (steps : List CurveStep) (i : ℕ) (d : CurveStep) → AreNear (rows_of steps) → i < length steps → (get_or steps i d).offset ≤ 2_000_000
near_at [] i d h lt = absurd (omega (arith, lt))
near_at (s ∷ rest) zero d h lt = h.0
near_at (s ∷ rest) (suc i) d h lt = near_at rest i d h.1 (omega (arith, lt))

factor_in : (steps : List CurveStep) (i : ℕ) (d : CurveStep) → HasFactors (rows_of steps) → i < length steps → IsFactor (get_or steps i d).factor
factor_in [] i d h lt = absurd (omega (arith, lt))
factor_in (s ∷ rest) zero d h lt = h.0
factor_in (s ∷ rest) (suc i) d h lt = factor_in rest i d h.1 (omega (arith, lt))

curve_factors : (steps : List CurveStep) → IsCurve (rows_of steps) → HasFactors (rows_of steps)
curve_factors [] h = absurd h
curve_factors (s ∷ rest) h = h.2

above_first : (first : ℕ) (steps : List CurveStep) (i : ℕ) (d : CurveStep) → Rises first (rows_of steps) → i < length steps → first < (get_or steps i d).offset
above_first first [] i d h lt = absurd (omega (arith, lt))
above_first first (s ∷ rest) zero d h lt = h.0
above_first first (s ∷ rest) (suc i) d h lt = let more = above_first s.offset rest i d h.1 (omega (arith, lt)) in omega (arith, h.0, more)

no_lower : (first : ℕ) (steps : List CurveStep) (i j : ℕ) (d : CurveStep) → Rises first (rows_of steps) → i ≤ j → j < length steps → (get_or steps i d).offset ≤ (get_or steps j d).offset
no_lower first [] i j d h le lt = absurd (omega (arith, lt))
no_lower first (s ∷ rest) zero zero d h le lt = omega arith
no_lower first (s ∷ rest) zero (suc j) d h le lt = let more = above_first s.offset rest j d h.1 (omega (arith, lt)) in omega (arith, more)
no_lower first (s ∷ rest) (suc i) zero d h le lt = absurd (omega (arith, le))
no_lower first (s ∷ rest) (suc i) (suc j) d h le lt = no_lower s.offset rest i j d h.1 (omega (arith, le)) (omega (arith, lt))

offsets_rise : (steps : List CurveStep) (i j : ℕ) (d : CurveStep) → IsCurve (rows_of steps) → i ≤ j → j < length steps → (get_or steps i d).offset ≤ (get_or steps j d).offset
offsets_rise [] i j d h le lt = absurd h
offsets_rise (s ∷ rest) zero j d h le lt = omega (arith, h.0)
offsets_rise (s ∷ rest) (suc i) zero d h le lt = absurd (omega (arith, le))
offsets_rise (s ∷ rest) (suc i) (suc j) d h le lt = no_lower 0 rest i j d h.1 (omega (arith, le)) (omega (arith, lt))

-- the rows at or below an offset come first

abbrev pub is_at_or_below : ℤ → CurveStep → Bool
is_at_or_below o s = int_le (to_z w64 s.offset) o

pub parted_rows : (steps : List CurveStep) (o : ℤ) → IsKept (rows_of steps) → IsPartitionedBy (is_at_or_below o) steps
parted_rows steps o kept i j d le lt h =
    let rise = offsets_rise steps i j d kept.curve le lt in
    let near = near_at steps j d kept.near lt in
    grind (arith, ints)

-- the first k rows are at or below o, and the others above it
pub record IsSplit (steps : List CurveStep) (o : ℤ) (k : ℕ) : Type 0 where
  pub below : (i : ℕ) (d : CurveStep) → i < k → i < length steps → pos (get_or steps i d).offset ≤ℤ o
  pub above : (i : ℕ) (d : CurveStep) → k ≤ i → i < length steps → o <ℤ pos (get_or steps i d).offset

pub split_rows : (steps : List CurveStep) (o : ℤ) (k : ℕ) → IsKept (rows_of steps) → IsPartitionPoint (λ s. is_at_or_below o s ≡ true) (λ s. is_at_or_below o s ≡ false) steps k → IsSplit steps o k
split_rows steps o k kept parts = record {
  below = λ i d lt within.
      let near = near_at steps i d kept.near within in
      let is = parts.0 i d (omega arith) lt in
      grind (arith, ints);
  above = λ i d le within.
      let near = near_at steps i d kept.near within in
      let is = parts.1 i d le within in
      grind (arith, ints);
}

-- the factor of the row before place k, or v where there is none
abbrev pub factor_before : List CurveStep → ℤ → ℕ → ℤ
factor_before [] v k = v
factor_before (s ∷ rest) v zero = v
factor_before (s ∷ rest) v (suc k) = factor_before rest s.factor k

split_tail : (s : CurveStep) (rest : List CurveStep) (o : ℤ) (k : ℕ) → IsSplit (s ∷ rest) o (suc k) → IsSplit rest o k
split_tail s rest o k h = record {
  below = λ i d lt within. h.below (suc i) d (omega (arith, lt)) (omega (arith, within));
  above = λ i d le within. h.above (suc i) d (omega (arith, le)) (omega (arith, within));
}

last_is : (steps : List CurveStep) (v o : ℤ) (k : ℕ) → IsSplit steps o k → last_factor (rows_of steps) v o ≡ factor_before steps v k
last_is [] v o k h = refl
last_is (s ∷ rest) v o zero h =
    let over = h.above 0 s (omega arith) (omega arith) in
    let is : int_lt o (pos s.offset) ≡ true = grind (arith, ints) in
    rw is refl
last_is (s ∷ rest) v o (suc k) h =
    let under = h.below 0 s (omega arith) (omega arith) in
    let is : int_lt o (pos s.offset) ≡ false = grind (arith, ints) in
    rw is (last_is rest s.factor o k (split_tail s rest o k h))

-- no row is at or below a day gone by
gone_by : (steps : List CurveStep) (o : ℤ) (k : ℕ) (w : ℤ) → IsCurve (rows_of steps) → IsSplit steps o k → o <ℤ pos 0 → factor_before steps w k ≡ w
gone_by [] o k w h split gone = absurd h
gone_by (s ∷ rest) o zero w h split gone = refl
gone_by (s ∷ rest) o (suc k) w h split gone =
    let under = split.below 0 s (omega arith) (omega arith) in
    absurd (omega (arith, ints, under, gone))

factor_is : (steps : List CurveStep) (w o : ℤ) (k : ℕ) → IsCurve (rows_of steps) → IsSplit steps o k → discount_factor (rows_of steps) w o ≡ factor_before steps w k
factor_is steps w o k h split = elim (cases_Bool (int_lt o (pos 0))) [
  | inl gone ↦
      let before : o <ℤ pos 0 = grind (arith, ints) in
      rw gone (sym (gone_by steps o k w h split before))
  | inr ahead ↦ rw ahead (last_is steps w o k split)
]

before_first : (steps : List CurveStep) (v : ℤ) → factor_before steps v 0 ≡ v
before_first [] v = refl
before_first (s ∷ rest) v = refl

next_factor : (steps : List CurveStep) (v : ℤ) (k : ℕ) (d : CurveStep) → k < length steps → factor_before steps v (suc k) ≡ (get_or steps k d).factor
next_factor [] v k d within = absurd (omega (arith, within))
next_factor (s ∷ rest) v zero d within = before_first rest s.factor
next_factor (s ∷ rest) v (suc k) d within = next_factor rest s.factor k d (omega (arith, within))

before_next : (steps : List CurveStep) (v : ℤ) (k : ℕ) (d : CurveStep) → 0 < k → k ≤ length steps → factor_before steps v k ≡ (get_or steps (k - 1) d).factor
before_next steps v k d some within =
    let next : suc (k - 1) ≡ k = omega (arith, some) in
    subst (λ (n : ℕ). factor_before steps v n ≡ (get_or steps (k - 1) d).factor) next (next_factor steps v (k - 1) d (omega (arith, some, within)))

abbrev pub no_step : CurveStep
no_step = record { offset = 0; factor = pos 0 }

-- the factor that is read, where a row is at or below o
pub read_factor : (steps : List CurveStep) (w o : ℤ) (k : ℕ) → IsKept (rows_of steps) → IsSplit steps o k → 0 < k → k ≤ length steps
    → discount_factor (rows_of steps) w o ≡ (get_or steps (k - 1) no_step).factor
read_factor steps w o k kept split some within = factor_is steps w o k kept.curve split ∙ before_next steps w k no_step some within

-- the factor that stands, where none is
pub no_factor : (steps : List CurveStep) (w o : ℤ) (k : ℕ) → IsKept (rows_of steps) → IsSplit steps o k → k ≡ 0 → discount_factor (rows_of steps) w o ≡ w
no_factor steps w o k kept split none =
    factor_is steps w o k kept.curve split ∙ subst (λ (n : ℕ). factor_before steps w n ≡ w) (sym none) (before_first steps w)

pub factor_fits : (steps : List CurveStep) (k : ℕ) → IsKept (rows_of steps) → k < length steps → IsFactor (get_or steps k no_step).factor
factor_fits steps k kept within = factor_in steps k no_step (curve_factors steps kept.curve) within

pub answers_factor : CurvesAnswerFactors → (steps : List CurveStep) (w o r : ℤ) → IsCurve (rows_of steps) → IsFactor w → r ≡ discount_factor (rows_of steps) w o → IsFactor r
answers_factor law steps w o r curve unit is = subst IsFactor (sym is) (law (rows_of steps) w o curve unit)
