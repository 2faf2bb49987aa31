-- What the trial of a quotient's operands tells of their end points.
use Rattle.std.proofs.Common.{◌≡◌, ℕ, ℤ, pos, ◌+◌, ◌-◌, ◌^◌, ◌≤◌, Bool, true, false, ◌&&◌, not, nat_le, unsigned_abs, if◌then◌else◌, Err, refl, ap, ◌∙◌, sym, subst, arith, zero-mul}
use Rattle.std.proofs.lemmas.Bool.Decides.{nat_tests}
use Rattle.decimal.specs.declared.rounding.Mode.{Mode}
use Rattle.decimal.specs.Rounding as rounding
use Rattle.decimal.specs.Rounding.{raised, divided, DivFits}
use Rattle.term_model.specs.declared.values.Kind.TheVariants.{Number}
use Rattle.term_model.specs.Bounds.{Interval, Range, single, lifted, hull, fits, has_zero, fit_divided}
use Rattle.interval_check.specs.Intervals.{fitting}
use Rattle.interval_check.specs.RangeTrials.{Answer, ranged, scale_in, quotient}
use Rattle.interval_check.proofs.OperatorFacts.{left_true, right_true}

-- a quotient by 0
by_zero : (mode : Mode) (a : ℤ) (i j s : ℕ) (up : Bool) → (if up then rounding.quotient mode (raised a (s + j - i)) (pos 0) else rounding.quotient mode a (raised (pos 0) (i - (s + j)))) ≡ pos 0
by_zero mode a i j s true = refl
by_zero mode a i j s false =
    ap (λ (n : ℕ). rounding.quotient mode a (pos n)) (zero-mul (10 ^ (i - (s + j))))

pub divided_by_zero : (mode : Mode) (a : ℤ) (i : ℕ) (b : ℤ) (j s : ℕ) → b ≡ pos 0 → divided mode a i b j s ≡ pos 0
unfolding divided
divided_by_zero mode a i b j s e =
    ap (λ (x : ℤ). divided mode a i x j s) e ∙ by_zero mode a i j s (nat_le i (s + j))

is_le : (a b : ℕ) → nat_le a b ≡ true → a ≤ b
is_le a b e = grind (arith, nat_tests)

-- what is known of the operands of a quotient that passed
pub record Parts (a : ℕ) (i : Interval) (b : ℕ) (j : Interval) (s : ℕ) : Type 0 where
  pub top_low : unsigned_abs (raised i.low (s + b - a)) ≤ 10 ^ 37
  pub top_high : unsigned_abs (raised i.high (s + b - a)) ≤ 10 ^ 37
  pub below_low : unsigned_abs (raised j.low (a - (s + b))) ≤ 10 ^ 37
  pub below_high : unsigned_abs (raised j.high (a - (s + b))) ≤ 10 ^ 37
  pub up : s + b ≤ a + 37
  pub down : a ≤ s + b + 37

pub parts : (a : ℕ) (i : Interval) (b : ℕ) (j : Interval) (s : ℕ) → fit_divided a i b j s ≡ true → Parts a i b j s
parts a i b j s e =
    let tops = fits (lifted (λ m. raised m (s + b - a)) i) in
    let belows = fits (lifted (λ m. raised m (a - (s + b))) j) in
    let e1 = right_true (not (has_zero j)) (nat_le (s + b) (a + 37) && (nat_le a (s + b + 37) && (tops && belows))) e in
    let e2 = right_true (nat_le (s + b) (a + 37)) (nat_le a (s + b + 37) && (tops && belows)) e1 in
    let e3 = right_true (nat_le a (s + b + 37)) (tops && belows) e2 in
    let top = left_true tops belows e3 in
    let below = right_true tops belows e3 in
    record {
      top_low = is_le _ _ (left_true (nat_le (unsigned_abs (raised i.low (s + b - a))) (10 ^ 37)) (nat_le (unsigned_abs (raised i.high (s + b - a))) (10 ^ 37)) top);
      top_high = is_le _ _ (right_true (nat_le (unsigned_abs (raised i.low (s + b - a))) (10 ^ 37)) (nat_le (unsigned_abs (raised i.high (s + b - a))) (10 ^ 37)) top);
      below_low = is_le _ _ (left_true (nat_le (unsigned_abs (raised j.low (a - (s + b)))) (10 ^ 37)) (nat_le (unsigned_abs (raised j.high (a - (s + b)))) (10 ^ 37)) below);
      below_high = is_le _ _ (right_true (nat_le (unsigned_abs (raised j.low (a - (s + b)))) (10 ^ 37)) (nat_le (unsigned_abs (raised j.high (a - (s + b)))) (10 ^ 37)) below);
      up = is_le _ _ (left_true (nat_le (s + b) (a + 37)) (nat_le a (s + b + 37) && (tops && belows)) e1);
      down = is_le _ _ (left_true (nat_le a (s + b + 37)) (tops && belows) e2);
    }

-- the four pairs of end points
pub low_low : (a : ℕ) (i : Interval) (b : ℕ) (j : Interval) (s : ℕ) (m n : ℤ) → m ≡ i.low → n ≡ j.low → fit_divided a i b j s ≡ true → DivFits m a n b s
low_low a i b j s m n p q e =
    let h = parts a i b j s e in
    subst (λ (x : ℤ). DivFits x a n b s) (sym p) (subst (λ (y : ℤ). DivFits i.low a y b s) (sym q) (h.top_low, h.below_low, h.up, h.down))

pub low_high : (a : ℕ) (i : Interval) (b : ℕ) (j : Interval) (s : ℕ) (m n : ℤ) → m ≡ i.low → n ≡ j.high → fit_divided a i b j s ≡ true → DivFits m a n b s
low_high a i b j s m n p q e =
    let h = parts a i b j s e in
    subst (λ (x : ℤ). DivFits x a n b s) (sym p) (subst (λ (y : ℤ). DivFits i.low a y b s) (sym q) (h.top_low, h.below_high, h.up, h.down))

pub high_low : (a : ℕ) (i : Interval) (b : ℕ) (j : Interval) (s : ℕ) (m n : ℤ) → m ≡ i.high → n ≡ j.low → fit_divided a i b j s ≡ true → DivFits m a n b s
high_low a i b j s m n p q e =
    let h = parts a i b j s e in
    subst (λ (x : ℤ). DivFits x a n b s) (sym p) (subst (λ (y : ℤ). DivFits i.high a y b s) (sym q) (h.top_high, h.below_low, h.up, h.down))

pub high_high : (a : ℕ) (i : Interval) (b : ℕ) (j : Interval) (s : ℕ) (m n : ℤ) → m ≡ i.high → n ≡ j.high → fit_divided a i b j s ≡ true → DivFits m a n b s
high_high a i b j s m n p q e =
    let h = parts a i b j s e in
    subst (λ (x : ℤ). DivFits x a n b s) (sym p) (subst (λ (y : ℤ). DivFits i.high a y b s) (sym q) (h.top_high, h.below_high, h.up, h.down))

abbrev pub ends_by : Mode → ℕ → ℤ → ℕ → Interval → ℕ → Interval
ends_by mode s a i t j = hull (single (divided mode a i t.low j s)) (single (divided mode a i t.high j s))

-- the range of a quotient, from those of each end point of its numerator
pub quotient_is : (mode : Mode) (s : ℕ) (r t : Range) (i j : ℕ) (a b : ℤ) (x y z : Interval) → i ≡ scale_in r → j ≡ scale_in t → a ≡ r.interval.low → b ≡ r.interval.high → fit_divided i r.interval j t.interval s ≡ true → x ≡ ends_by mode s a i t.interval j → y ≡ ends_by mode s b i t.interval j → z ≡ hull x y → ranged (fitting z) (Number s) ≡ quotient mode s r t
quotient_is mode s r t i j a b x y z ei ej ea eb pass ex ey ez =
    let G : ℕ → ℕ → ℤ → ℤ → Answer = λ k l m n. ranged (fitting (hull (ends_by mode s m k t.interval l) (ends_by mode s n k t.interval l))) (Number s) in
    let F : ℕ → ℕ → Bool → Answer = λ k l c. if c then G k l r.interval.low r.interval.high else Err 0 in
    ap (λ (w : Interval). ranged (fitting w) (Number s)) ez
    ∙ ap (λ (w : Interval). ranged (fitting (hull w y)) (Number s)) ex
    ∙ ap (λ (w : Interval). ranged (fitting (hull (ends_by mode s a i t.interval j) w)) (Number s)) ey
    ∙ ap (λ (m : ℤ). G i j m b) ea
    ∙ ap (λ (n : ℤ). G i j r.interval.low n) eb
    ∙ ap (λ (c : Bool). F i j c) (sym pass)
    ∙ ap (λ (k : ℕ). F k j (fit_divided k r.interval j t.interval s)) ei
    ∙ ap (λ (l : ℕ). F (scale_in r) l (fit_divided (scale_in r) r.interval l t.interval s)) ej
