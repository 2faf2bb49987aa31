-- Facts of the operators on ranges, and of declared labels.
use Rattle.std.proofs.Common.{◌≡◌, ℕ, zero, suc, ℤ, ◌-◌, ◌^◌, ◌≤◌, max, unsigned_abs, Bool, true, false, ◌&&◌, List, [], ◌∷◌, Some, None, Option, nat_le, if◌then◌else◌, slice_get, Ok, refl, ap, ◌∙◌, sym, arith}
use Rattle.std.proofs.lemmas.Bool.Decides.{nat_tests}
use Rattle.std.proofs.lemmas.Int.{ints}
use Rattle.decimal.specs.declared.rounding.Mode.{Mode}
use Rattle.decimal.specs.Rounding as rounding
use Rattle.decimal.specs.Rounding.{raised, at_scale}
use Rattle.term_model.specs.declared.name.Name.{Name}
use Rattle.term_model.specs.declared.label.Label.{Label}
use Rattle.term_model.specs.declared.label.Label.TheVariants.{Number as NumberLabel}
use Rattle.term_model.specs.declared.values.Kind.TheVariants.{Number}
use Rattle.term_model.specs.Declarations.{Declarations}
use Rattle.term_model.specs.Environments.{label_of}
use Rattle.term_model.specs.Limits.{is_label, are_labels}
use Rattle.term_model.specs.Bounds.{Interval, Range, lifted, aligned}
use Rattle.interval_check.specs.Intervals.{fitting}
use Rattle.interval_check.proofs.IntervalFacts.{same_ends, both_small}
use Rattle.interval_check.specs.Ranges.{IsFit}
use Rattle.interval_check.specs.RangeTrials.{aligned_both, both_fit, ranged, scale_in, widened, rounded}

unraised : (m : ℤ) (k : ℕ) → k ≡ 0 → raised m k ≡ m
unraised m k e = ap (λ (n : ℕ). raised m n) e ∙ omega (arith, ints)

-- an interval stays as it is where it is aligned to its own scale
stays_aligned : (a b : ℕ) (i : Interval) → a ≡ b → unsigned_abs i.low ≤ 10 ^ 37 → unsigned_abs i.high ≤ 10 ^ 37 → fitting (aligned a b i) ≡ Some i
stays_aligned a b i e l h =
    let none : max a b - a ≡ 0 = omega arith in
    ap fitting (same_ends _ _ _ _ (unraised i.low _ none) (unraised i.high _ none)) ∙ both_small i l h

-- so do the intervals of two ranges of one scale
pub stays_both : (r t : Range) → scale_in r ≡ scale_in t → IsFit r → IsFit t → aligned_both r t ≡ Ok (record { left = r.interval; right = t.interval })
stays_both r t e f g =
    let left = stays_aligned (scale_in r) (scale_in t) r.interval e f.low f.high in
    let right = stays_aligned (scale_in t) (scale_in r) t.interval (sym e) g.low g.high in
    ap (λ (o : Option Interval). both_fit o (fitting (aligned (scale_in t) (scale_in r) t.interval))) left
    ∙ ap (λ (o : Option Interval). both_fit (Some r.interval) o) right

-- to round to a scale that is not less is to widen
pub rounds_up : (mode : Mode) (s : ℕ) (r : Range) → scale_in r ≤ s → widened (Number s) r ≡ rounded mode s r
unfolding at_scale
rounds_up mode s r h =
    let t : nat_le (scale_in r) s ≡ true = grind (arith, nat_tests) in
    ap (λ (b : Bool). ranged (fitting (lifted (λ m. if b then raised m (s - scale_in r) else rounding.rounded mode m (10 ^ (scale_in r - s))) r.interval)) (Number s)) (sym t)

one_scale : (n : Name) (s : ℕ) (l h : ℤ) → is_label (NumberLabel s l h) ≡ true → s ≤ 27
one_scale n s l h e = grind (arith, nat_tests)

pub left_true : (a b : Bool) → (a && b) ≡ true → a ≡ true
left_true true b e = refl
left_true false b e = e

pub right_true : (a b : Bool) → (a && b) ≡ true → b ≡ true
right_true true b e = e
right_true false b e = absurd (cc)

-- a declared scale
pub declared_scale : (es : List (Name × Label)) (i : ℕ) (n : Name) (s : ℕ) (l h : ℤ) → are_labels es ≡ true → slice_get es i ≡ Some (n, NumberLabel s l h) → s ≤ 27
declared_scale [] i n s l h e f = absurd (cc)
declared_scale (x ∷ es) zero n s l h e f =
    let same : x ≡ (n, NumberLabel s l h) = cc in
    one_scale n s l h (ap (λ (y : Name × Label). is_label y.1) (sym same) ∙ left_true (is_label x.1) (are_labels es) e)
declared_scale (x ∷ es) (suc i) n s l h e f = declared_scale es i n s l h (right_true (is_label x.1) (are_labels es) e) f

abbrev label_part : Option (Name × Label) → Option Label
label_part o = elim o [ Some e ↦ Some e.1 | None ↦ None ]

found_scale : (es : List (Name × Label)) (i : ℕ) (o : Option (Name × Label)) (s : ℕ) (l h : ℤ) → are_labels es ≡ true → slice_get es i ≡ o → label_part o ≡ Some (NumberLabel s l h) → s ≤ 27
found_scale es i None s l h e f g = absurd (cc)
found_scale es i (Some x) s l h e f g =
    let same : x.1 ≡ NumberLabel s l h = cc in
    declared_scale es i x.0 s l h e (f ∙ ap (λ (v : Label). Some (x.0, v)) same)

pub label_scale : (d : Declarations) (i s : ℕ) (l h : ℤ) → are_labels d.labels ≡ true → label_of d i ≡ Some (NumberLabel s l h) → s ≤ 27
label_scale d i s l h e f = found_scale d.labels i (slice_get d.labels i) s l h e refl f
