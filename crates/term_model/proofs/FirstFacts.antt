-- The first day on which a test is true, among more days and among fewer.
use Rattle.std.proofs.Common.{◌≡◌, ℕ, zero, suc, pos, ◌≤◌, ◌<◌, min, Bool, true, false, if◌then◌else◌, List, [], ◌++◌, Option, Some, None, refl, ap, sym, subst, ◌∙◌, is_some, inl, inr, ◌⊎◌, arith, eq-or-lt_of_le, append-nil}
use Rattle.std.proofs.lemmas.Bool.{cases_lt}
use Rattle.term_model.specs.Environments.{Place}
use Rattle.term_model.specs.Values.{first_of}
use Rattle.term_model.specs.Reads.{upto, tested}
use Rattle.term_model.proofs.FlowFacts.{first_within}
use Rattle.term_model.proofs.AlikeFacts.{Alike, then_alike, same_alike, other_alike}

-- one day more
abbrev pub or_last : Option ℕ → ℕ → Bool → Option ℕ
or_last o n b = elim o [ Some i ↦ Some i | None ↦ if b then Some n else None ]

-- a first day is one among more days
more_days : (n m : ℕ) (p : ℕ → Bool) (k : ℕ) → n ≤ m → first_of n p ≡ Some k → first_of m p ≡ Some k
more_days n zero p k le h =
    let e : n ≡ zero = omega arith in
    subst (λ (i : ℕ). first_of i p ≡ Some k) e h
more_days n (suc m) p k le h =
    elim (eq-or-lt_of_le le) [
      | inl e ↦ subst (λ (i : ℕ). first_of i p ≡ Some k) e h
      | inr lt ↦ ap (λ (o : Option ℕ). or_last o (suc m) (p (suc m))) (more_days n m p k (omega arith) h)
    ]

some_holds : (n k : ℕ) (p : ℕ → Bool) (o : Option ℕ) (b : Bool) → p (suc n) ≡ b → ((j : ℕ) → o ≡ Some j → p j ≡ true) → or_last o (suc n) b ≡ Some k → p k ≡ true
some_holds n k p (Some i) b e before h = before k (cc)
some_holds n k p None true e before h =
    let i : suc n ≡ k = cc in
    subst (λ (j : ℕ). p j ≡ true) i e
some_holds n k p None false e before h = absurd (cc)

zero_holds : (p : ℕ → Bool) (k : ℕ) (b : Bool) → p zero ≡ b → (if b then Some zero else None) ≡ Some k → p k ≡ true
zero_holds p k true e h =
    let i : zero ≡ k = cc in
    subst (λ (j : ℕ). p j ≡ true) i e
zero_holds p k false e h = absurd (cc)

-- the test is true on the first day
first_holds : (n : ℕ) (p : ℕ → Bool) (k : ℕ) → first_of n p ≡ Some k → p k ≡ true
first_holds zero p k h = zero_holds p k (p zero) refl h
first_holds (suc n) p k h = some_holds n k p (first_of n p) (p (suc n)) refl (first_holds n p) h

none_before : (n : ℕ) (o : Option ℕ) (b : Bool) → or_last o n b ≡ None → (o ≡ None) × (b ≡ false)
none_before n (Some i) b h = absurd (cc)
none_before n None true h = absurd (cc)
none_before n None false h = (refl, refl)

zero_fails : (b : Bool) → (if b then Some zero else None) ≡ None → b ≡ false
zero_fails true h = absurd (cc)
zero_fails false h = refl

-- and on none of the days where there is no first
none_holds : (n : ℕ) (p : ℕ → Bool) (k : ℕ) → first_of n p ≡ None → k ≤ n → p k ≡ false
none_holds zero p k h le =
    let e : zero ≡ k = omega arith in
    subst (λ (j : ℕ). p j ≡ false) e (zero_fails (p zero) h)
none_holds (suc n) p k h le =
    elim (eq-or-lt_of_le le) [
      | inl e ↦ subst (λ (j : ℕ). p j ≡ false) (sym e) (none_before (suc n) (first_of n p) (p (suc n)) h).1
      | inr lt ↦ none_holds n p k (none_before (suc n) (first_of n p) (p (suc n)) h).0 (omega arith)
    ]

-- a first day among more days, and none among fewer
later_first : (n m : ℕ) (p : ℕ → Bool) (k : ℕ) → first_of n p ≡ None → first_of m p ≡ Some k → n < k
later_first n m p k none some =
    elim (cases_lt n k) [ inl lt ↦ lt | inr le ↦ absurd (cc (none_holds n p k none le, first_holds m p k some)) ]

-- the last day that is tried: the first, or the last of all
abbrev last_of : Option ℕ → ℕ → ℕ
last_of (Some k) n = k
last_of None n = n

-- the lists of the days that are tried
abbrev pub scan : ℕ → (ℕ → Bool) → (ℕ → List Place) → List Place
scan zero p f = f zero
scan (suc n) p f = scan n p f ++ (if is_some (first_of n p) then [] else f (suc n))

none_more : (n : ℕ) (b : Bool) (f : ℕ → List Place) → upto (last_of (or_last None (suc n) b) (suc n)) f ≡ upto n f ++ f (suc n)
none_more n true f = refl
none_more n false f = refl

scan_step : (n : ℕ) (o : Option ℕ) (b : Bool) (f : ℕ → List Place) (xs : List Place) → upto (last_of o n) f ≡ xs → upto (last_of (or_last o (suc n) b) (suc n)) f ≡ xs ++ (if is_some o then [] else f (suc n))
scan_step n (Some i) b f xs h = h ∙ sym (append-nil xs)
scan_step n None b f xs h = none_more n b f ∙ ap (λ (ys : List Place). ys ++ f (suc n)) h

scan_zero : (b : Bool) (f : ℕ → List Place) → upto (last_of (if b then Some zero else None) zero) f ≡ f zero
scan_zero true f = refl
scan_zero false f = refl

scan_is : (n : ℕ) (p : ℕ → Bool) (f : ℕ → List Place) → upto (last_of (first_of n p) n) f ≡ scan n p f
scan_is zero p f = scan_zero (p zero) f
scan_is (suc n) p f = scan_step n (first_of n p) (p (suc n)) f (scan n p f) (scan_is n p f)

tested_is : (m b : ℕ) (o t : Option ℕ) → ((k : ℕ) → t ≡ Some k → k ≤ min m b) → ((k : ℕ) → t ≡ Some k → o ≡ Some k) → ((k : ℕ) → t ≡ None → o ≡ Some k → min m b < k) → ((k : ℕ) → o ≡ Some k → k ≤ m) → tested o m (pos b) ≡ last_of t (min m b)
tested_is m b None (Some k) low same late most = absurd (cc (same k refl))
tested_is m b (Some i) (Some k) low same late most =
    let e : i ≡ k = cc (same k refl) in
    omega (arith, low k refl)
tested_is m b None None low same late most = refl
tested_is m b (Some i) None low same late most = omega (arith, late i refl refl, most i refl)

-- the days that are tested up to day b
pub scanned : (m b : ℕ) (p : ℕ → Bool) (f : ℕ → List Place) → upto (tested (first_of m p) m (pos b)) f ≡ scan (min m b) p f
scanned m b p f =
    ap (λ (i : ℕ). upto i f) (tested_is m b (first_of m p) (first_of (min m b) p) (first_within (min m b) p) (λ k h. more_days (min m b) m p k (omega arith) h) (λ k none some. later_first (min m b) m p k none some) (first_within m p))
    ∙ scan_is (min m b) p f

day_alike : {ok : Place → Bool} {xs ys : List Place} (n : ℕ) (v w : Bool) → Alike Bool ok xs v ys w → Alike (Option ℕ) ok xs (if v then Some n else None) ys (if w then Some n else None)
day_alike n v w h = other_alike (if v then Some n else None) (if w then Some n else None) (λ e. ap (λ (t : Bool). if t then Some n else None) e) h

next_of : {ok : Place → Bool} {xs ys : List Place} (n : ℕ) (v w : Bool) (o : Option ℕ) → Alike Bool ok xs v ys w → Alike (Option ℕ) ok (if is_some o then [] else xs) (or_last o n v) (if is_some o then [] else ys) (or_last o n w)
next_of n v w (Some i) h = same_alike [] (Some i)
next_of n v w None h = day_alike n v w h

next_alike : {ok : Place → Bool} {xs ys : List Place} (n : ℕ) (v w : Bool) (o u : Option ℕ) → o ≡ u → Alike Bool ok xs v ys w → Alike (Option ℕ) ok (if is_some o then [] else xs) (or_last o n v) (if is_some u then [] else ys) (or_last u n w)
next_alike {ok} {xs} {ys} n v w o u e h =
    subst (λ (r : Option ℕ). Alike (Option ℕ) ok (if is_some o then [] else xs) (or_last o n v) (if is_some r then [] else ys) (or_last r n w)) e (next_of n v w o h)

-- the days that are tried are alike, and so is the first on which the test is true
pub scan_alike : {ok : Place → Bool} (n : ℕ) (p q : ℕ → Bool) (f g : ℕ → List Place) → ((i : ℕ) → Alike Bool ok (f i) (p i) (g i) (q i)) → Alike (Option ℕ) ok (scan n p f) (first_of n p) (scan n q g) (first_of n q)
scan_alike zero p q f g h = day_alike zero (p zero) (q zero) (h zero)
scan_alike (suc n) p q f g h =
    then_alike (scan_alike n p q f g h) (λ e. next_alike (suc n) (p (suc n)) (q (suc n)) (first_of n p) (first_of n q) e (h (suc n)))

-- the first day, known up to day b: it is the same, or both are after day b
abbrev pub IsAfter : ℕ → ℕ → Option ℕ → Type 0
IsAfter m b None = b < m
IsAfter m b (Some k) = b < k

never : (m b : ℕ) (o : Option ℕ) → m ≤ b → ((k : ℕ) → o ≡ Some k → min m b < k) → ((k : ℕ) → o ≡ Some k → k ≤ m) → o ≡ None
never m b None le late most = refl
never m b (Some k) le late most = absurd (omega (arith, late k refl, most k refl))

both_none : (m b : ℕ) (o u : Option ℕ) → m ≤ b → ((k : ℕ) → o ≡ Some k → min m b < k) → ((k : ℕ) → o ≡ Some k → k ≤ m) → ((k : ℕ) → u ≡ Some k → min m b < k) → ((k : ℕ) → u ≡ Some k → k ≤ m) → o ≡ u
both_none m b o u le late most late' most' = never m b o le late most ∙ sym (never m b u le late' most')

after_short : (m b : ℕ) (o : Option ℕ) → b < m → ((k : ℕ) → o ≡ Some k → min m b < k) → IsAfter m b o
after_short m b None short late = short
after_short m b (Some k) short late = omega (arith, late k refl)

agree_none : (m b : ℕ) (o u : Option ℕ) → ((k : ℕ) → o ≡ Some k → min m b < k) → ((k : ℕ) → o ≡ Some k → k ≤ m) → ((k : ℕ) → u ≡ Some k → min m b < k) → ((k : ℕ) → u ≡ Some k → k ≤ m) → (o ≡ u) ⊎ (IsAfter m b o × IsAfter m b u)
agree_none m b o u late most late' most' =
    elim (cases_lt b m) [
      | inl lt ↦ inr (after_short m b o lt late, after_short m b u lt late')
      | inr le ↦ inl (both_none m b o u le late most late' most')
    ]

agree_at : (m b : ℕ) (p q : ℕ → Bool) (t : Option ℕ) → first_of (min m b) p ≡ t → t ≡ first_of (min m b) q → (first_of m p ≡ first_of m q) ⊎ (IsAfter m b (first_of m p) × IsAfter m b (first_of m q))
agree_at m b p q (Some k) e h =
    inl (more_days (min m b) m p k (omega arith) e ∙ sym (more_days (min m b) m q k (omega arith) (sym h)))
agree_at m b p q None e h =
    agree_none m b (first_of m p) (first_of m q) (λ k some. later_first (min m b) m p k e some) (first_within m p) (λ k some. later_first (min m b) m q k (sym h) some) (first_within m q)

pub agree : (m b : ℕ) (p q : ℕ → Bool) → first_of (min m b) p ≡ first_of (min m b) q → (first_of m p ≡ first_of m q) ⊎ (IsAfter m b (first_of m p) × IsAfter m b (first_of m q))
agree m b p q h = agree_at m b p q (first_of (min m b) p) refl h
