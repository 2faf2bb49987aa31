-- Numbers that are no mantissas: those past 37 decimals, and those between end points of which one is none.
pub use Rattle.decimal.proofs.MantissaFacts.{no_mantissa, raised_past}
use Rattle.std.proofs.Common.{◌≡◌, ℕ, ℤ, ◌*ℤ◌, ◌≤ℤ◌, ◌^◌, ◌≤◌, Some, None, unsigned_abs, ap, ◌∙◌, sym, arith}
use Rattle.std.specs.Int.{int_min, int_max}
use Rattle.std.proofs.lemmas.Bool.Decides.{nat_tests}
use Rattle.std.proofs.lemmas.Int.{ints, clamps}
use Rattle.term_model.specs.Bounds.{Interval, single, hull, corners}
use Rattle.interval_check.specs.Intervals.{mantissa, fitting, EndsFit}

size_between : (l m h : ℤ) (n : ℕ) → l ≤ℤ m → m ≤ℤ h → unsigned_abs l ≤ n → unsigned_abs h ≤ n → unsigned_abs m ≤ n
size_between l m h n a b c d = omega (arith, ints)

-- an interval that holds the end points of one which does not fit does not fit
wider : (i j : Interval) → j.low ≤ℤ i.low → i.low ≤ℤ j.high → j.low ≤ℤ i.high → i.high ≤ℤ j.high → fitting i ≡ None → fitting j ≡ None
wider i j a b c d e = grind (arith, nat_tests, size_between)

-- a mantissa that was found
found_is : (m x : ℤ) → mantissa m ≡ Some x → x ≡ m
found_is m x e = grind (arith, nat_tests)

found_small : (m x : ℤ) → mantissa m ≡ Some x → unsigned_abs m ≤ 10 ^ 37
found_small m x e = grind (arith, nat_tests)

pub both_small : (i : Interval) → unsigned_abs i.low ≤ 10 ^ 37 → unsigned_abs i.high ≤ 10 ^ 37 → fitting i ≡ Some i
both_small i l h = grind (arith, nat_tests)

pub same_ends : (a b x y : ℤ) → a ≡ x → b ≡ y → ◌≡◌ {A = Interval} (record { low = a; high = b }) (record { low = x; high = y })
same_ends a b x y e f = cc

-- The hull of two numbers.

abbrev pub pair_hull : ℤ → ℤ → Interval
pair_hull a b = hull (single a) (single b)

pub both_there : (a b x y : ℤ) → mantissa a ≡ Some x → mantissa b ≡ Some y → fitting (hull (single a) (single b)) ≡ Some (record { low = int_min x y; high = int_max x y })
both_there a b x y e f =
    let i = pair_hull a b in
    let p : unsigned_abs a ≤ 10 ^ 37 = found_small a x e in
    let q : unsigned_abs b ≤ 10 ^ 37 = found_small b y f in
    both_small i (omega (arith, ints, clamps)) (omega (arith, ints, clamps))
    ∙ ap (λ (t : ℤ). Some (pair_hull t b)) (sym (found_is a x e))
    ∙ ap (λ (t : ℤ). Some (pair_hull x t)) (sym (found_is b y f))

-- The hull of four.

pub no_lower : (a b c d : ℤ) → fitting (hull (single a) (single b)) ≡ None → fitting (hull (hull (single a) (single b)) (hull (single c) (single d))) ≡ None
no_lower a b c d e =
    wider (pair_hull a b) (hull (pair_hull a b) (pair_hull c d)) (omega (arith, ints, clamps)) (omega (arith, ints, clamps)) (omega (arith, ints, clamps)) (omega (arith, ints, clamps)) e

pub no_upper : (a b c d : ℤ) → fitting (hull (single c) (single d)) ≡ None → fitting (hull (hull (single a) (single b)) (hull (single c) (single d))) ≡ None
no_upper a b c d e =
    wider (pair_hull c d) (hull (pair_hull a b) (pair_hull c d)) (omega (arith, ints, clamps)) (omega (arith, ints, clamps)) (omega (arith, ints, clamps)) (omega (arith, ints, clamps)) e

fitting_is : (i x : Interval) → fitting i ≡ Some x → x ≡ i
fitting_is i x e = grind (arith, nat_tests)

fitting_low : (i x : Interval) → fitting i ≡ Some x → unsigned_abs i.low ≤ 10 ^ 37
fitting_low i x e = grind (arith, nat_tests)

fitting_high : (i x : Interval) → fitting i ≡ Some x → unsigned_abs i.high ≤ 10 ^ 37
fitting_high i x e = grind (arith, nat_tests)

-- intervals that fit have a hull that fits
pub hull_there : (i j x y : Interval) → fitting i ≡ Some x → fitting j ≡ Some y → fitting (hull i j) ≡ Some (hull x y)
hull_there i j x y e f =
    let p : unsigned_abs i.low ≤ 10 ^ 37 = fitting_low i x e in
    let q : unsigned_abs i.high ≤ 10 ^ 37 = fitting_high i x e in
    let r : unsigned_abs j.low ≤ 10 ^ 37 = fitting_low j y f in
    let s : unsigned_abs j.high ≤ 10 ^ 37 = fitting_high j y f in
    both_small (hull i j) (omega (arith, ints, clamps)) (omega (arith, ints, clamps))
    ∙ ap (λ (t : Interval). Some (hull t j)) (sym (fitting_is i x e))
    ∙ ap (λ (t : Interval). Some (hull x t)) (sym (fitting_is j y f))

pub hull_small : (i j : Interval) → EndsFit i → EndsFit j → EndsFit (hull i j)
hull_small i j p q = record { low = omega (arith, ints, clamps); high = omega (arith, ints, clamps) }

-- the products of two intervals, from those of each end point of the first
pub products_there : (i j x y z : Interval) (a b : ℤ) → a ≡ i.low → b ≡ i.high → Some x ≡ fitting (hull (single (a *ℤ j.low)) (single (a *ℤ j.high))) → Some y ≡ fitting (hull (single (b *ℤ j.low)) (single (b *ℤ j.high))) → z ≡ hull x y → Some z ≡ fitting (corners (λ m n. m *ℤ n) i j)
products_there i j x y z a b p q e f g =
    ap (λ (t : Interval). Some t) g
    ∙ sym (hull_there (pair_hull (a *ℤ j.low) (a *ℤ j.high)) (pair_hull (b *ℤ j.low) (b *ℤ j.high)) x y (sym e) (sym f))
    ∙ ap (λ (t : ℤ). fitting (hull (pair_hull (t *ℤ j.low) (t *ℤ j.high)) (pair_hull (b *ℤ j.low) (b *ℤ j.high)))) p
    ∙ ap (λ (t : ℤ). fitting (hull (pair_hull (i.low *ℤ j.low) (i.low *ℤ j.high)) (pair_hull (t *ℤ j.low) (t *ℤ j.high)))) q
