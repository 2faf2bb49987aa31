-- Where tests stop that are tried on one day after another.
use Rattle.std.proofs.Common.{◌≡◌, ℕ, zero, suc, ◌+◌, ◌≤◌, ◌<◌, ◌^◌, ℤ, pos, ◌+ℤ◌, Bool, true, false, Some, None, Ok, Err, if◌then◌else◌, refl, ap, sym, ◌∙◌, subst, inl, inr, arith, eq-or-lt_of_le, add-one}
use Rattle.std.specs.Prelude.{IfOk}
use Rattle.std.proofs.lemmas.Int.{ints}
use Rattle.term_model.specs.declared.values.Missing.{Missing}
use Rattle.term_model.specs.Values.{truth}
use Rattle.expr_eval.specs.declared.stops.Stop.{Stop}
use Rattle.expr_eval.specs.declared.stops.Stop.TheVariants.{Never, Met, Lacking}
use Rattle.expr_eval.specs.Runs.{Answer, untyped}
use Rattle.expr_eval.specs.Comparing.{truth_found}
use Rattle.expr_eval.specs.Trials.{DayOrMissing, IsOneOf, first_tried, or_next}
use Rattle.expr_eval.specs.Stops.{IsCounted, TruthOrMissing, counted_from, day_of, days_before, either_met, first_stop, goes_on, or_first, or_stop_on, stop_on}

-- days that are the same, each for each

pub same_stop : (n : ℕ) (a b : ℕ → TruthOrMissing) → ((i : ℕ) → i < n → a i ≡ b i) → first_stop n a ≡ first_stop n b
same_stop zero a b h = refl
same_stop (suc n) a b h =
    ap (λ (s : Stop). or_stop_on s n (a n)) (same_stop n a b (λ i l. h i (omega arith))) ∙ ap (or_stop_on (first_stop n b) n) (h n (omega arith))

-- what has stopped has stopped

stays_met : (n i : ℕ) (a : ℕ → TruthOrMissing) (k : ℕ) → i ≤ n → first_stop i a ≡ Met k → first_stop n a ≡ Met k
stays_met zero i a k h e =
    let z : i ≡ zero = omega arith in
    subst (λ (j : ℕ). first_stop j a ≡ Met k) z e
stays_met (suc n) i a k h e =
    elim (eq-or-lt_of_le h) [
      | inl z ↦ subst (λ (j : ℕ). first_stop j a ≡ Met k) z e
      | inr l ↦ ap (λ (s : Stop). or_stop_on s n (a n)) (stays_met n i a k (omega arith) e)
    ]

stays_lacking : (n i : ℕ) (a : ℕ → TruthOrMissing) (k : ℕ) (m : Missing) → i ≤ n → first_stop i a ≡ Lacking k m → first_stop n a ≡ Lacking k m
stays_lacking zero i a k m h e =
    let z : i ≡ zero = omega arith in
    subst (λ (j : ℕ). first_stop j a ≡ Lacking k m) z e
stays_lacking (suc n) i a k m h e =
    elim (eq-or-lt_of_le h) [
      | inl z ↦ subst (λ (j : ℕ). first_stop j a ≡ Lacking k m) z e
      | inr l ↦ ap (λ (s : Stop). or_stop_on s n (a n)) (stays_lacking n i a k m (omega arith) e)
    ]

-- so it is on all the days
pub stays : (n i : ℕ) (a : ℕ → TruthOrMissing) (s : Stop) → goes_on s ≡ false → i ≤ n → first_stop i a ≡ s → first_stop n a ≡ s
stays n i a Never g h e = absurd (cc)
stays n i a (Met k) g h e = stays_met n i a k h e
stays n i a (Lacking k m) g h e = stays_lacking n i a k m h e

next_stop : (i : ℕ) (a : ℕ → TruthOrMissing) (r : TruthOrMissing) → first_stop i a ≡ Never → a i ≡ r → first_stop (suc i) a ≡ stop_on i r
next_stop i a r e h = ap (λ (s : Stop). or_stop_on s i (a i)) e ∙ ap (stop_on i) h

pub stops_met : (n i : ℕ) (a : ℕ → TruthOrMissing) → i < n → first_stop i a ≡ Never → a i ≡ Ok true → first_stop n a ≡ Met i
stops_met n i a l e h = stays_met n (suc i) a i (omega arith) (next_stop i a (Ok true) e h)

pub stops_lacking : (n i : ℕ) (a : ℕ → TruthOrMissing) (m : Missing) → i < n → first_stop i a ≡ Never → a i ≡ Err m → first_stop n a ≡ Lacking i m
stops_lacking n i a m l e h = stays_lacking n (suc i) a i m (omega arith) (next_stop i a (Err m) e h)

pub stops_not : (i : ℕ) (a : ℕ → TruthOrMissing) → first_stop i a ≡ Never → a i ≡ Ok false → first_stop (i + 1) a ≡ Never
stops_not i a e h = rw add-one (next_stop i a (Ok false) e h)

-- it is the first day of the values, and one of the days

one_day : (r : Answer) (s : Stop) (n : ℕ) → day_of (or_stop_on s n (truth_found r)) ≡ or_next (day_of s) n (untyped r)
one_day (Ok v) Never n = by_truth (truth v.value) n
  where
    by_truth : (b : Bool) (i : ℕ) → day_of (stop_on i (Ok b)) ≡ Ok (if b then Some i else None)
    by_truth true i = refl
    by_truth false i = refl
one_day (Err m) Never n = refl
one_day r (Met k) n = refl
one_day r (Lacking k m) n = refl

pub tried_stop : (n : ℕ) (a : ℕ → Answer) → day_of (first_stop n (λ i. truth_found (a i))) ≡ first_tried n (λ i. untyped (a i))
tried_stop zero a = refl
tried_stop (suc n) a =
    one_day (a n) (first_stop n (λ i. truth_found (a i))) n ∙ ap (λ (t : DayOrMissing). or_next t n (untyped (a n))) (tried_stop n a)

abbrev pub AtMost : Stop → ℕ → Type 0
AtMost Never n = Unit {0}
AtMost (Met k) n = k < n
AtMost (Lacking k m) n = k < n

at_most_on : (r : TruthOrMissing) (s : Stop) (n : ℕ) → AtMost s n → AtMost (or_stop_on s n r) (suc n)
at_most_on (Ok true) Never n h = omega arith
at_most_on (Ok false) Never n h = tt
at_most_on (Err m) Never n h = omega arith
at_most_on r (Met k) n h = omega arith
at_most_on r (Lacking k m) n h = omega arith

pub at_most : (n : ℕ) (a : ℕ → TruthOrMissing) → AtMost (first_stop n a) n
at_most zero a = tt
at_most (suc n) a = at_most_on (a n) (first_stop n a) n (at_most n a)

pub one_of : (s : Stop) (n : ℕ) → AtMost s n → IfOk (day_of s) (λ o. IsOneOf n o)
one_of Never n h = tt
one_of (Met k) n h = h
one_of (Lacking k m) n h = tt

pub days_at_most : (s : Stop) (n : ℕ) → AtMost s n → days_before s n ≤ n
days_at_most Never n h = omega arith
days_at_most (Met k) n h = omega arith
days_at_most (Lacking k m) n h = omega arith

pub counts : (s : Stop) (n done : ℕ) → AtMost s n → done + n < 2 ^ 32 → IsCounted s done
counts Never n done h l = tt
counts (Met k) n done h l = omega arith
counts (Lacking k m) n done h l = omega arith

-- days before these, on which it went on

counted_more : (s : Stop) (done c : ℕ) (r : TruthOrMissing) → or_stop_on (counted_from s done) (done + c) r ≡ counted_from (or_stop_on s c r) done
counted_more Never done c (Ok true) = refl
counted_more Never done c (Ok false) = refl
counted_more Never done c (Err m) = refl
counted_more (Met k) done c r = refl
counted_more (Lacking k m) done c r = refl

pub stops_later : (c j done : ℕ) (a : ℕ → TruthOrMissing) → j ≡ done + c → first_stop done a ≡ Never → first_stop j a ≡ counted_from (first_stop c (λ i. a (done + i))) done
stops_later zero j done a e h =
    let z : j ≡ done = omega arith in
    rw z h
stops_later (suc c) j done a e h =
    let z : j ≡ suc (done + c) = omega arith in
    rw z (ap (λ (s : Stop). or_stop_on s (done + c) (a (done + c))) (stops_later c (done + c) done a refl h) ∙ counted_more (first_stop c (λ i. a (done + i))) done c (a (done + c)))

pub is_never : (s : Stop) → goes_on s ≡ true → s ≡ Never
is_never Never h = refl
is_never (Met k) h = absurd (cc)
is_never (Lacking k m) h = absurd (cc)

pub more_days : (g : ℤ → TruthOrMissing) (from first : ℤ) (done c j : ℕ) (s : Stop) → Never ≡ first_stop done (λ i. g (from +ℤ pos i)) → first ≡ from +ℤ pos done
    → s ≡ first_stop c (λ i. g (first +ℤ pos i)) → j ≡ done + c → counted_from s done ≡ first_stop j (λ i. g (from +ℤ pos i))
more_days g from first done c j s before day is all =
    ap (λ (t : Stop). counted_from t done) (is ∙ same_stop c (λ i. g (first +ℤ pos i)) (λ i. g (from +ℤ pos (done + i))) (λ i l. ap g (moved i)))
    ∙ sym (stops_later c j done (λ i. g (from +ℤ pos i)) all (sym before))
  where
    moved : (i : ℕ) → first +ℤ pos i ≡ from +ℤ pos (done + i)
    moved i = omega (arith, ints, day)

pub stopped_too : (s : Stop) (done : ℕ) → goes_on s ≡ false → goes_on (counted_from s done) ≡ false
stopped_too Never done h = h
stopped_too (Met k) done h = refl
stopped_too (Lacking k m) done h = refl

pub found_later : (n done c : ℕ) (a : ℕ → TruthOrMissing) (s : Stop) → counted_from s done ≡ first_stop (done + c) a → goes_on s ≡ false → done + c ≤ n → counted_from s done ≡ first_stop n a
found_later n done c a s is stopped l = sym (stays n (done + c) a (counted_from s done) (stopped_too s done stopped) l (sym is))

pub never_later : (done c : ℕ) (a : ℕ → TruthOrMissing) (s : Stop) → counted_from s done ≡ first_stop (done + c) a → goes_on s ≡ true → first_stop (done + c) a ≡ Never
never_later done c a s is goes = sym is ∙ ap (λ (t : Stop). counted_from t done) (is_never s goes)

-- days on none of which it is met

pub none_met : (n : ℕ) (a : ℕ → TruthOrMissing) → ((i : ℕ) → i < n → a i ≡ Ok false) → first_stop n a ≡ Never
none_met zero a h = refl
none_met (suc n) a h = next_stop n a (Ok false) (none_met n a (λ i l. h i (omega arith))) (h n (omega arith))

-- the first stop of two tests of which either stops both

met_then : (k n : ℕ) (s : Stop) (r : TruthOrMissing) → or_stop_on (or_first (Met k) s) n r ≡ or_first (Met k) s
met_then k n Never r = refl
met_then k n (Met j) r = refl
met_then k n (Lacking j m) r = refl

lacking_then : (k n : ℕ) (m : Missing) (s : Stop) (r : TruthOrMissing) → or_stop_on (or_first (Lacking k m) s) n r ≡ or_first (Lacking k m) s
lacking_then k n m Never r = refl
lacking_then k n m (Met j) r = refl
lacking_then k n m (Lacking j o) r = refl

left_never : (s : Stop) → or_first Never s ≡ s
left_never Never = refl
left_never (Met k) = refl
left_never (Lacking k m) = refl

-- a day on which the left test has not stopped before
either_on : (n : ℕ) (x : TruthOrMissing) (y : TruthOrMissing) (b : Stop) (t : Stop) → t ≡ or_stop_on b n y
    → or_stop_on b n (either_met x y) ≡ or_first (stop_on n x) (if goes_on (stop_on n x) then t else b)
either_on n (Ok true) y Never t e = refl
either_on n (Ok true) y (Met k) t e = refl
either_on n (Ok true) y (Lacking k m) t e = refl
either_on n (Ok false) y b t e = sym (left_never t ∙ e)
either_on n (Err m) y Never t e = refl
either_on n (Err m) y (Met k) t e = refl
either_on n (Err m) y (Lacking k o) t e = refl

before_on : (n : ℕ) (x : TruthOrMissing) (b : ℕ → TruthOrMissing) → first_stop (days_before (stop_on n x) (suc n)) b ≡ (if goes_on (stop_on n x) then first_stop (suc n) b else first_stop n b)
before_on n (Ok true) b = refl
before_on n (Ok false) b = refl
before_on n (Err m) b = refl

either_next : (n : ℕ) (s : Stop) (x : TruthOrMissing) (b : ℕ → TruthOrMissing) (u : Stop) → u ≡ or_first s (first_stop (days_before s n) b)
    → or_stop_on u n (either_met x (b n)) ≡ or_first (or_stop_on s n x) (first_stop (days_before (or_stop_on s n x) (suc n)) b)
either_next n (Met k) x b u e = ap (λ (t : Stop). or_stop_on t n (either_met x (b n))) e ∙ met_then k n (first_stop k b) (either_met x (b n))
either_next n (Lacking k m) x b u e = ap (λ (t : Stop). or_stop_on t n (either_met x (b n))) e ∙ lacking_then k n m (first_stop k b) (either_met x (b n))
either_next n Never x b u e =
    ap (λ (t : Stop). or_stop_on t n (either_met x (b n))) (e ∙ left_never (first_stop n b))
    ∙ either_on n x (b n) (first_stop n b) (first_stop (suc n) b) refl
    ∙ ap (or_first (stop_on n x)) (sym (before_on n x b))

pub either_stops : (n : ℕ) (a b : ℕ → TruthOrMissing) → first_stop n (λ i. either_met (a i) (b i)) ≡ or_first (first_stop n a) (first_stop (days_before (first_stop n a) n) b)
either_stops zero a b = refl
either_stops (suc n) a b = either_next n (first_stop n a) (a n) b (first_stop n (λ i. either_met (a i) (b i))) (either_stops n a b)
