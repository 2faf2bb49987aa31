-- What the expansion of a guarded plan pays: a plan of one payment more is that payment, and the plan of the others from
-- its day on.
use Rattle.std.proofs.Common.{◌≡◌, ℕ, zero, suc, ℤ, pos, ◌+ℤ◌, ◌-ℤ◌, ◌*ℤ◌, ◌<ℤ◌, ◌≤ℤ◌, ◌+◌, ◌-◌, ◌*◌, ◌<◌, max, int_lt, Bool, true, false, ◌||◌, if◌then◌else◌, [], Option, Some, None, refl, ap, sym, ◌∙◌, int_eq, arith, inl, inr, add-zero, add-suc, zero-mul, add-mul, one-mul, eq-or-lt_of_le, zero-le, ◌^◌, suc-mul}
use Rattle.std.specs.List.{list_any, range_with_len}
use Rattle.std.proofs.Math.IntN.{+ℤ_assoc, +ℤ_idl, +ℤ_idr}
use Rattle.std.proofs.lemmas.Bool.{cases_Bool}
use Rattle.std.proofs.lemmas.Int.{ints}
use Rattle.decimal.specs.Rounding.{raised}
use Rattle.decimal.proofs.RoundedFacts.{raised_none}
use Rattle.term_model.specs.Declarations.{Declarations}
use Rattle.term_model.specs.Environments.{Environment, observed}
use Rattle.term_model.specs.Values.{truth, first_of}
use Rattle.term_model.specs.Flows.{Flow, flow_of, scale_of_contract, unit_flow, on_day_zero}
use Rattle.term_model.proofs.FlowFacts.{first_within, one_zero}
use Rattle.term_model.proofs.Products.{sum-mul}
use Rattle.schedule_forms.specs.declared.plans.Leg.{Leg}
use Rattle.schedule_forms.specs.declared.plans.Plan.TheVariants.{Guarded}
use Rattle.schedule_forms.specs.PaymentSizes.{scale_of_size}
use Rattle.schedule_forms.specs.PaymentDays.{payment_day, last_day, pays_on}
use Rattle.schedule_forms.specs.PlanFlows.{leg_flow, first_true_day, plan_flow}
use Rattle.schedule_forms.specs.Expansions.{payment, cover_payment, guarded}
use Rattle.schedule_forms.proofs.DayFacts.{same_day, day_same, other_day, any_none, any_later}
use Rattle.schedule_forms.proofs.FlowFacts.{IsSized, on_day, day_missed, once, amount_on, payment_later, payment_scale, joined, apart}

-- the first of numbers up to a, or else of those from a on
abbrev pub then_first : Option ℕ → ℕ → Option ℕ → Option ℕ
then_first (Some g) a o = Some g
then_first None a (Some g) = Some (a + g)
then_first None a None = None

abbrev or_last : Option ℕ → ℕ → Bool → Option ℕ
or_last o n b = elim o [ Some i ↦ Some i | None ↦ if b then Some n else None ]

first_step : (o u : Option ℕ) (a b : ℕ) (t : Bool) → or_last (then_first o a u) (suc (a + b)) t ≡ then_first o a (or_last u (suc b) t)
first_step (Some g) u a b t = refl
first_step None (Some g) a b t = refl
first_step None None a b true = ap (λ (n : ℕ). Some n) (sym (add-suc a b))
first_step None None a b false = refl

last_failed : (n : ℕ) (o : Option ℕ) (b : Bool) → or_last o n b ≡ None → b ≡ false
last_failed n (Some i) b h = absurd (cc)
last_failed n None true h = absurd (cc)
last_failed n None false h = refl

zero_failed : (b : Bool) → (if b then Some zero else None) ≡ None → b ≡ false
zero_failed true h = absurd (cc)
zero_failed false h = refl

-- where the test has failed up to a, it has failed at a
pub failed_last : (a : ℕ) (p : ℕ → Bool) → first_of a p ≡ None → p a ≡ false
failed_last zero p h = zero_failed (p zero) h
failed_last (suc a) p h = last_failed (suc a) (first_of a p) (p (suc a)) h

none_here : (o : Option ℕ) (a : ℕ) (b : Bool) → (o ≡ None → b ≡ false) → o ≡ then_first o a (if b then Some zero else None)
none_here (Some g) a b h = refl
none_here None a true h = absurd (cc (h refl))
none_here None a false h = refl

pub first_more : (a b : ℕ) (p : ℕ → Bool) → first_of (a + b) p ≡ then_first (first_of a p) a (first_of b (λ i. p (a + i)))
first_more a zero p =
    let at_last : first_of a p ≡ None → p (a + zero) ≡ false = λ h. ap p (add-zero a) ∙ failed_last a p h in
    ap (λ (n : ℕ). first_of n p) (add-zero a) ∙ none_here (first_of a p) a (p (a + zero)) at_last
first_more a (suc b) p =
    ap (λ (n : ℕ). first_of n p) (add-suc a b)
    ∙ ap (λ (o : Option ℕ). or_last o (suc (a + b)) (p (suc (a + b)))) (first_more a b p)
    ∙ first_step (first_of a p) (first_of b (λ i. p (a + i))) a b (p (suc (a + b)))
    ∙ ap (λ (n : ℕ). then_first (first_of a p) a (or_last (first_of b (λ i. p (a + i))) (suc b) (p n))) (sym (add-suc a b))

-- a leg whose first payment is some days from here, with so many further ones
abbrev pub starting : Leg → ℕ → ℕ → Leg
starting leg days further = record leg { first = days; times = suc further }

or_no : (b : Bool) → (b || false) ≡ b
or_no true = refl
or_no false = refl

first_day : (leg : Leg) (x m : ℕ) → payment_day (starting leg x m) 0 ≡ x
first_day leg x m = omega (arith, zero-mul leg.every)

-- a leg of one payment
pub leg_once : (d : Declarations) (leg : Leg) (env : Environment) (f n : ℤ) (w : Flow) (x : ℕ) → leg_flow d (starting leg x 0) env f n w ≡ on_day n x (amount_on d leg env w (f +ℤ n))
leg_once d leg env f n w x =
    let a = amount_on d leg env w (f +ℤ n) in
    ap (λ (b : Bool). if b then a else pos 0) (or_no (int_eq n (pos (payment_day (starting leg x 0) 0))))
    ∙ ap (λ (k : ℕ). on_day n k a) (first_day leg x 0)

same_test : (a b x y : ℤ) → (a ≡ b → x ≡ y) → (x ≡ y → a ≡ b) → int_eq a b ≡ int_eq x y
same_test a b x y to from =
    elim (cases_Bool (int_eq a b)) [
      | inl e ↦ e ∙ sym (day_same x y (to (same_day a b e)))
      | inr e ↦ e ∙ sym (other_day x y (λ k. absurd (cc (e, day_same a b (from k)))))
    ]

next_day : (leg : Leg) (x m : ℕ) (n : ℤ) (i : ℕ) → int_eq n (pos (payment_day (starting leg x (suc m)) (i + 1))) ≡ int_eq (n -ℤ pos x) (pos (payment_day (starting leg leg.every m) i))
next_day leg x m n i =
    let grown : (i + 1) * leg.every ≡ i * leg.every + leg.every = add-mul i 1 leg.every ∙ ap (λ (k : ℕ). i * leg.every + k) (one-mul leg.every) in
    same_test n (pos (x + (i + 1) * leg.every)) (n -ℤ pos x) (pos (leg.every + i * leg.every))
    (λ e. omega (arith, ints, grown)) (λ e. omega (arith, ints, grown))

next_days : (leg : Leg) (x m : ℕ) (n : ℤ) → list_any (λ i. int_eq n (pos (payment_day (starting leg x (suc m)) i))) (range_with_len (0 + 1) (suc m)) ≡ pays_on (starting leg leg.every m) (n -ℤ pos x)
next_days leg x m n =
    any_later (λ i. int_eq n (pos (payment_day (starting leg x (suc m)) i))) 0 (suc m)
    ∙ ap (λ (p : ℕ → Bool). list_any p (range_with_len 0 (suc m))) (λ i j. next_day leg x m n j i)

-- a leg of one payment more
pub leg_more : (d : Declarations) (leg : Leg) (env : Environment) (f n : ℤ) (w : Flow) (x m : ℕ) → 0 < leg.every → leg_flow d (starting leg x (suc m)) env f n w ≡ on_day n x (amount_on d leg env w (f +ℤ n)) +ℤ leg_flow d (starting leg leg.every m) env (f +ℤ pos x) (n -ℤ pos x) w
leg_more d leg env f n w x m every =
    let a = amount_on d leg env w (f +ℤ n) in
    let now = int_eq n (pos (payment_day (starting leg x (suc m)) 0)) in
    let later = list_any (λ i. int_eq n (pos (payment_day (starting leg x (suc m)) i))) (range_with_len (0 + 1) (suc m)) in
    let day : f +ℤ n ≡ f +ℤ pos x +ℤ (n -ℤ pos x) = omega (arith, ints) in
    sym (joined now later a (apart (starting leg x (suc m)) n 0 (suc m) every))
    ∙ ap (λ (k : ℕ). on_day n k a +ℤ (if later then a else pos 0)) (first_day leg x (suc m))
    ∙ ap (λ (b : Bool). on_day n x a +ℤ (if b then a else pos 0)) (next_days leg x m n)
    ∙ ap (λ (z : ℤ). on_day n x a +ℤ (if pays_on (starting leg leg.every m) (n -ℤ pos x) then amount_on d leg env w z else pos 0)) day

-- before its first payment a leg pays nothing
pub leg_before : (d : Declarations) (leg : Leg) (env : Environment) (f n : ℤ) (w : Flow) (x m : ℕ) → n <ℤ pos x → leg_flow d (starting leg x m) env f n w ≡ pos 0
leg_before d leg env f n w x m before =
    ap (λ (b : Bool). if b then amount_on d leg env w (f +ℤ n) else pos 0)
    (any_none (λ i. int_eq n (pos (payment_day (starting leg x m) i))) 0 (suc m)
    (λ i low. other_day n (pos (payment_day (starting leg x m) i)) (λ k. absurd (omega (arith, ints, k)))))

-- the first day of a flag up to x, or else the first of the days from x on
first_after : (d : Declarations) (flag : ℕ) (env : Environment) (f : ℤ) (x b : ℕ) → first_true_day d flag env f (x + b) ≡ then_first (first_true_day d flag env f x) x (first_true_day d flag env (f +ℤ pos x) b)
first_after d flag env f x b =
    first_more x b (λ i. truth (observed d env flag (f +ℤ pos i)))
    ∙ ap (λ (p : ℕ → Bool). then_first (first_true_day d flag env f x) x (first_of b p)) (λ i k. ap (λ (z : ℤ). truth (observed d env flag z)) (sym (+ℤ_assoc f (pos x) (pos k))) i)

not_first : (n : ℕ) (p : ℕ → Bool) → p 0 ≡ false → first_of n p ≡ Some 0 → ⊥
not_first zero p h e = zero_not (p 0) h e
  where
    zero_not : (b : Bool) → b ≡ false → (if b then Some zero else None) ≡ Some 0 → ⊥
    zero_not true h e = cc
    zero_not false h e = cc
not_first (suc n) p h e = more_not n (first_of n p) (p (suc n)) (not_first n p h) e
  where
    more_not : (n : ℕ) (o : Option ℕ) (b : Bool) → (o ≡ Some 0 → ⊥) → or_last o (suc n) b ≡ Some 0 → ⊥
    more_not n (Some i) b h e = h e
    more_not n None true h e =
        let same : suc n ≡ 0 = cc in
        omega arith
    more_not n None false h e = cc

-- where the flag is false on the days up to x, it is false on day x, the first of those behind
not_at_once : (d : Declarations) (flag : ℕ) (env : Environment) (f : ℤ) (x b : ℕ) → first_true_day d flag env f x ≡ None → first_true_day d flag env (f +ℤ pos x) b ≡ Some 0 → ⊥
not_at_once d flag env f x b none at_once =
    let failed = failed_last x (λ i. truth (observed d env flag (f +ℤ pos i))) none in
    not_first b (λ i. truth (observed d env flag (f +ℤ pos x +ℤ pos i)))
    (ap (λ (z : ℤ). truth (observed d env flag z)) (+ℤ_idr (f +ℤ pos x)) ∙ failed) at_once

-- what is paid, by the first day of the flag
abbrev by_first : Option ℕ → ℤ → ℤ → ℤ → ℤ
by_first o n paid cover =
    elim o [
      | Some g ↦ if int_lt n (pos g) then paid else (if int_eq n (pos g) then cover else pos 0)
      | None ↦ paid
    ]

lt_here : (n m : ℤ) → int_lt n m ≡ true → n <ℤ m
lt_here n m h = grind (arith, ints)

not_lt : (n m : ℤ) → int_lt n m ≡ false → m ≤ℤ n
not_lt n m h = grind (arith, ints)

lt_moved : (n : ℤ) (x g : ℕ) → int_lt (n -ℤ pos x) (pos g) ≡ int_lt n (pos (x + g))
lt_moved n x g = grind (arith, ints)

eq_moved : (n : ℤ) (x g : ℕ) → int_eq (n -ℤ pos x) (pos g) ≡ int_eq n (pos (x + g))
eq_moved n x g = same_test (n -ℤ pos x) (pos g) n (pos (x + g)) (λ e. omega (arith, ints)) (λ e. omega (arith, ints))

raised_on : (n x : ℤ) (k a : ℕ) → raised (on_day n k x) a ≡ on_day n k (raised x a)
raised_on n x k a = by_test (int_eq n (pos k)) x a
  where
    by_test : (b : Bool) (x : ℤ) (a : ℕ) → raised (if b then x else pos 0) a ≡ (if b then raised x a else pos 0)
    by_test true x a = refl
    by_test false x a = one_zero (pos 0) a refl

-- where the flag is true on day k, the cover is paid then, and nothing was paid before
hit_pays : (mant u paid n : ℤ) (k a : ℕ) → (n <ℤ pos k → paid ≡ pos 0) → raised (mant *ℤ on_day_zero (n -ℤ pos k) u) a ≡ by_first (Some k) n paid (raised (mant *ℤ u) a)
hit_pays mant u paid n k a before =
    ap (λ (z : ℤ). raised z a) (once mant u n k) ∙ raised_on n (mant *ℤ u) k a ∙ by_test (int_lt n (pos k)) refl
  where
    by_test : (b : Bool) → int_lt n (pos k) ≡ b → on_day n k (raised (mant *ℤ u) a) ≡ (if b then paid else on_day n k (raised (mant *ℤ u) a))
    by_test true e =
        let lt = lt_here n (pos k) e in
        day_missed n (raised (mant *ℤ u) a) k (λ same. absurd (omega (arith, ints, same, lt))) ∙ sym (before lt)
    by_test false e = refl

-- one payment, and what is paid behind it
late_pays : (u : Option ℕ) (n y l cover : ℤ) (x a : ℕ) → (u ≡ Some 0 → ⊥) → raised (on_day n x y) a +ℤ by_first u (n -ℤ pos x) (raised l a) cover ≡ by_first (then_first None x u) n (raised (on_day n x y +ℤ l) a) cover
late_pays None n y l cover x a h = sym (sum-mul (on_day n x y) l (10 ^ a))
late_pays (Some g) n y l cover x a h =
    ap (λ (b : Bool). raised (on_day n x y) a +ℤ (if b then raised l a else on_day (n -ℤ pos x) g cover)) (lt_moved n x g)
    ∙ ap (λ (b : Bool). raised (on_day n x y) a +ℤ (if int_lt n (pos (x + g)) then raised l a else (if b then cover else pos 0))) (eq_moved n x g)
    ∙ by_test (int_lt n (pos (x + g))) refl
  where
    some : 0 < g
    some = elim (eq-or-lt_of_le (zero-le {n = g})) [ inl e ↦ absurd (h (ap (λ (k : ℕ). Some k) (sym e))) | inr lt ↦ lt ]

    by_test : (b : Bool) → int_lt n (pos (x + g)) ≡ b → raised (on_day n x y) a +ℤ (if b then raised l a else on_day n (x + g) cover) ≡ (if b then raised (on_day n x y +ℤ l) a else on_day n (x + g) cover)
    by_test true e = sym (sum-mul (on_day n x y) l (10 ^ a))
    by_test false e =
        let past = not_lt n (pos (x + g)) e in
        let nothing : on_day n x y ≡ pos 0 = day_missed n y x (λ same. absurd (omega (arith, ints, same, past, some))) in
        ap (λ (z : ℤ). z +ℤ on_day n (x + g) cover) (one_zero (on_day n x y) a nothing) ∙ +ℤ_idl (on_day n (x + g) cover)

-- the scales of both branches
cover_scale : (d : Declarations) (leg : Leg) (mant : ℤ) (scale : ℕ) → scale_of_contract d (cover_payment leg mant scale) [] ≡ scale
cover_scale d leg mant scale = omega arith

pub guarded_scale : (d : Declarations) (leg : Leg) (flag : ℕ) (mant : ℤ) (scale x m : ℕ) → IsSized d leg.size → scale_of_contract d (guarded leg flag (cover_payment leg mant scale) x m) [] ≡ max scale (scale_of_size leg.size)
guarded_scale d leg flag mant scale x zero h = omega (arith, payment_scale d leg h)
guarded_scale d leg flag mant scale x (suc m) h = omega (arith, payment_scale d leg h, guarded_scale d leg flag mant scale leg.every m h)

miss_raised : (c p g i j : ℕ) (x y : ℤ) → c ≡ i → p ≡ j → g ≡ max i j → raised (raised x (max p g - p) +ℤ raised y (max p g - g)) (max c (max p g) - max p g) ≡ raised x (max i j - j) +ℤ y
miss_raised c p g i j x y hc hp hg =
    let same : max p g - p ≡ max i j - j = omega arith in
    raised_none (raised x (max p g - p) +ℤ raised y (max p g - g)) (max c (max p g) - max p g) (omega arith)
    ∙ ap (λ (k : ℕ). raised x k +ℤ raised y (max p g - g)) same
    ∙ ap (λ (z : ℤ). raised x (max i j - j) +ℤ z) (raised_none y (max p g - g) (omega arith))

abbrev branch : Option ℕ → (ℕ → ℤ) → ℤ → ℤ
branch o hit miss = elim o [ Some k ↦ hit k | None ↦ miss ]

by_option : (o : Option ℕ) (hit : ℕ → ℤ) (miss y : ℤ) → ((k : ℕ) → o ≡ Some k → hit k ≡ y) → (o ≡ None → miss ≡ y) → branch o hit miss ≡ y
by_option (Some k) hit miss y h n = h k refl
by_option None hit miss y h n = n refl

-- the last day of a leg of one payment, and of one more
last_once : (leg : Leg) (x : ℕ) → last_day (starting leg x 0) ≡ x
last_once leg x = omega (arith, zero-mul leg.every)

last_more : (leg : Leg) (x m : ℕ) → last_day (starting leg x (suc m)) ≡ x + last_day (starting leg leg.every m)
last_more leg x m =
    let one : suc (suc m) - 1 ≡ suc m = omega arith in
    let other : suc m - 1 ≡ m = omega arith in
    let grown : suc m * leg.every ≡ m * leg.every + leg.every = suc-mul m leg.every in
    ap (λ (k : ℕ). x + k * leg.every) one ∙ omega (arith, grown) ∙ sym (ap (λ (k : ℕ). x + (leg.every + k * leg.every)) other)

-- a flag that is true on day k of those up to a leg's first is first true then, of those up to its last
first_stays : (d : Declarations) (leg : Leg) (flag : ℕ) (env : Environment) (f : ℤ) (x m k : ℕ) → first_true_day d flag env f x ≡ Some k → first_true_day d flag env f (last_day (starting leg x m)) ≡ Some k
first_stays d leg flag env f x zero k e = ap (λ (n : ℕ). first_true_day d flag env f n) (last_once leg x) ∙ e
first_stays d leg flag env f x (suc m) k e =
    ap (λ (n : ℕ). first_true_day d flag env f n) (last_more leg x m)
    ∙ first_after d flag env f x (last_day (starting leg leg.every m))
    ∙ ap (λ (o : Option ℕ). then_first o x (first_true_day d flag env (f +ℤ pos x) (last_day (starting leg leg.every m)))) e

-- the test of a flag on own days is that of the flag on their days
tested : (d : Declarations) (flag : ℕ) (env : Environment) (f : ℤ) (x : ℕ) → first_of x (λ k. truth (observed d env flag (f +ℤ pos k +ℤ pos 0))) ≡ first_true_day d flag env f x
tested d flag env f x =
    ap (λ (p : ℕ → Bool). first_of x p) (λ i k. ap (λ (z : ℤ). truth (observed d env flag z)) (+ℤ_idr (f +ℤ pos k)) i)

-- where the flag is true on day k, up to the first payment
hit_case : (d : Declarations) (leg : Leg) (flag : ℕ) (mant : ℤ) (scale : ℕ) (env : Environment) (f n : ℤ) (w : Flow) (x m k a : ℕ) → first_true_day d flag env f x ≡ Some k → a ≡ max scale (scale_of_size leg.size) - scale → raised (mant *ℤ on_day_zero (n -ℤ pos k) (unit_flow leg.asset leg.to leg.from w)) a ≡ plan_flow d (Guarded (starting leg x m) flag mant scale) env f n w
hit_case d leg flag mant scale env f n w x m k a e known =
    let j = scale_of_size leg.size in
    let u = unit_flow leg.asset leg.to leg.from w in
    let paid = raised (leg_flow d (starting leg x m) env f n w) (max scale j - j) in
    let near = first_within x (λ i. truth (observed d env flag (f +ℤ pos i))) k e in
    ap (λ (b : ℕ). raised (mant *ℤ on_day_zero (n -ℤ pos k) u) b) known
    ∙ hit_pays mant u paid n k (max scale j - scale)
    (λ lt. one_zero (leg_flow d (starting leg x m) env f n w) (max scale j - j) (leg_before d leg env f n w x m (omega (arith, ints, lt, near))))
    ∙ sym (ap (λ (o : Option ℕ). by_first o n paid (raised (mant *ℤ u) (max scale j - scale))) (first_stays d leg flag env f x m k e))

-- where it is true on none of these days, and the first payment is the last
miss_once : (d : Declarations) (leg : Leg) (flag : ℕ) (mant : ℤ) (scale : ℕ) (env : Environment) (f n : ℤ) (w : Flow) (x b : ℕ) → first_true_day d flag env f x ≡ None → b ≡ max scale (scale_of_size leg.size) - scale_of_size leg.size → raised (flow_of d (payment leg) [] env (f +ℤ pos x) (n -ℤ pos x) w) b ≡ plan_flow d (Guarded (starting leg x 0) flag mant scale) env f n w
miss_once d leg flag mant scale env f n w x b none known =
    let j = scale_of_size leg.size in
    let u = unit_flow leg.asset leg.to leg.from w in
    let paid = raised (leg_flow d (starting leg x 0) env f n w) (max scale j - j) in
    ap (λ (k : ℕ). raised (flow_of d (payment leg) [] env (f +ℤ pos x) (n -ℤ pos x) w) k) known
    ∙ ap (λ (z : ℤ). raised z (max scale j - j)) (payment_later d leg env f n w x ∙ sym (leg_once d leg env f n w x))
    ∙ sym (ap (λ (o : Option ℕ). by_first o n paid (raised (mant *ℤ u) (max scale j - scale))) (ap (λ (k : ℕ). first_true_day d flag env f k) (last_once leg x) ∙ none))

-- and where there are further ones
miss_more : (d : Declarations) (leg : Leg) (flag : ℕ) (mant : ℤ) (scale : ℕ) (env : Environment) (f n : ℤ) (w : Flow) (x m : ℕ) → 0 < leg.every → first_true_day d flag env f x ≡ None → raised (flow_of d (payment leg) [] env (f +ℤ pos x) (n -ℤ pos x) w) (max scale (scale_of_size leg.size) - scale_of_size leg.size) +ℤ plan_flow d (Guarded (starting leg leg.every m) flag mant scale) env (f +ℤ pos x) (n -ℤ pos x) w ≡ plan_flow d (Guarded (starting leg x (suc m)) flag mant scale) env f n w
miss_more d leg flag mant scale env f n w x m every none =
    let j = scale_of_size leg.size in
    let last = last_day (starting leg leg.every m) in
    let rest = first_true_day d flag env (f +ℤ pos x) last in
    let cover = raised (mant *ℤ unit_flow leg.asset leg.to leg.from w) (max scale j - scale) in
    let y = amount_on d leg env w (f +ℤ n) in
    let l = leg_flow d (starting leg leg.every m) env (f +ℤ pos x) (n -ℤ pos x) w in
    let first : first_true_day d flag env f (last_day (starting leg x (suc m))) ≡ then_first None x rest =
    ap (λ (k : ℕ). first_true_day d flag env f k) (last_more leg x m) ∙ first_after d flag env f x last ∙ ap (λ (o : Option ℕ). then_first o x rest) none in
    ap (λ (z : ℤ). raised z (max scale j - j) +ℤ by_first rest (n -ℤ pos x) (raised l (max scale j - j)) cover) (payment_later d leg env f n w x)
    ∙ late_pays rest n y l cover x (max scale j - j) (not_at_once d flag env f x last none)
    ∙ sym (
    ap (λ (o : Option ℕ). by_first o n (raised (leg_flow d (starting leg x (suc m)) env f n w) (max scale j - j)) cover) first
    ∙ ap (λ (z : ℤ). by_first (then_first None x rest) n (raised z (max scale j - j)) cover) (leg_more d leg env f n w x m every)
    )

same_greater : (c p i j : ℕ) → c ≡ i → p ≡ j → max c p - c ≡ max i j - i
same_greater c p i j h k = omega arith

more_greater : (c p g i j : ℕ) → c ≡ i → p ≡ j → g ≡ max i j → max c (max p g) - c ≡ max i j - i
more_greater c p g i j h k e = omega arith

-- the expansion of a guarded plan whose first payment is x days from here, with m further ones
pub guarded_flows : (d : Declarations) (leg : Leg) (flag : ℕ) (mant : ℤ) (scale : ℕ) (env : Environment) (w : Flow) → 0 < leg.every → IsSized d leg.size → (m x : ℕ) (f n : ℤ) → flow_of d (guarded leg flag (cover_payment leg mant scale) x m) [] env f n w ≡ plan_flow d (Guarded (starting leg x m) flag mant scale) env f n w
guarded_flows d leg flag mant scale env w every h zero x f n =
    let c = scale_of_contract d (cover_payment leg mant scale) [] in
    let p = scale_of_contract d (payment leg) [] in
    let u = unit_flow leg.asset leg.to leg.from w in
    let hit : ℕ → ℤ = λ k. raised (mant *ℤ on_day_zero (n -ℤ pos k) u) (max c p - c) in
    let miss = raised (flow_of d (payment leg) [] env (f +ℤ pos x) (n -ℤ pos x) w) (max c p - p) in
    ap (λ (o : Option ℕ). branch o hit miss) (tested d flag env f x)
    ∙ by_option (first_true_day d flag env f x) hit miss (plan_flow d (Guarded (starting leg x 0) flag mant scale) env f n w)
    (λ k e. hit_case d leg flag mant scale env f n w x 0 k _ e (same_greater _ _ _ _ (cover_scale d leg mant scale) (payment_scale d leg h)))
    (λ e. miss_once d leg flag mant scale env f n w x _ e (omega (arith, cover_scale d leg mant scale, payment_scale d leg h)))
guarded_flows d leg flag mant scale env w every h (suc m) x f n =
    let c = scale_of_contract d (cover_payment leg mant scale) [] in
    let p = scale_of_contract d (payment leg) [] in
    let g = scale_of_contract d (guarded leg flag (cover_payment leg mant scale) leg.every m) [] in
    let u = unit_flow leg.asset leg.to leg.from w in
    let one = flow_of d (payment leg) [] env (f +ℤ pos x) (n -ℤ pos x) w in
    let further = flow_of d (guarded leg flag (cover_payment leg mant scale) leg.every m) [] env (f +ℤ pos x) (n -ℤ pos x) w in
    let hit : ℕ → ℤ = λ k. raised (mant *ℤ on_day_zero (n -ℤ pos k) u) (max c (max p g) - c) in
    let miss = raised (raised one (max p g - p) +ℤ raised further (max p g - g)) (max c (max p g) - max p g) in
    ap (λ (o : Option ℕ). branch o hit miss) (tested d flag env f x)
    ∙ by_option (first_true_day d flag env f x) hit miss (plan_flow d (Guarded (starting leg x (suc m)) flag mant scale) env f n w)
    (λ k e. hit_case d leg flag mant scale env f n w x (suc m) k _ e (more_greater _ _ _ _ _ (cover_scale d leg mant scale) (payment_scale d leg h) (guarded_scale d leg flag mant scale leg.every m h)))
    (λ e.
    miss_raised c p g scale (scale_of_size leg.size) one further (cover_scale d leg mant scale) (payment_scale d leg h) (guarded_scale d leg flag mant scale leg.every m h)
    ∙ ap (λ (z : ℤ). raised one (max scale (scale_of_size leg.size) - scale_of_size leg.size) +ℤ z) (guarded_flows d leg flag mant scale env w every h m leg.every (f +ℤ pos x) (n -ℤ pos x))
    ∙ miss_more d leg flag mant scale env f n w x m every e)
