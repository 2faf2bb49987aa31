-- What is observed times a literal, rounded: each rule holds at each node of it.
use Rattle.std.proofs.Common.{◌≡◌, ℕ, ℤ, pos, negsuc, ◌*ℤ◌, ◌-ℤ◌, ◌≤ℤ◌, ◌+◌, ◌^◌, ◌≤◌, max, unsigned_abs, nat_le, le-leb, Bool, true, false, cond, List, Some, refl, ap, ap₂, sym, subst, ◌∙◌, arith}
use Rattle.std.specs.Prelude.{int_lt}
use Rattle.std.specs.Int.{int_max, int_min}
use Rattle.std.proofs.lemmas.Bool.{and_from}
use Rattle.std.proofs.lemmas.Int.{ints}
use Rattle.decimal.specs.declared.Mode.{Mode}
use Rattle.decimal.specs.Rounding.{at_scale}
use Rattle.term_model.specs.Declarations.{Declarations}
use Rattle.term_model.specs.Environments.{label_of}
use Rattle.term_model.specs.declared.label.Label.TheVariants.{Number as NumberLabel}
use Rattle.term_model.specs.declared.rules.Rule.{Rule}
use Rattle.term_model.specs.declared.rules.Rule.TheVariants.{Sort, Time, Scale as ScaleRule, Size as SizeRule, Bound}
use Rattle.term_model.specs.declared.terms.NumOp.TheVariants.{Times}
use Rattle.term_model.specs.Terms.{Lit, Obs, Num, Round}
use Rattle.term_model.specs.Sizes.{days_before}
use Rattle.term_model.specs.Bounds.{Interval, fits, greatest_size, lifted}
use Rattle.term_model.specs.Sites.{Trial, Layer, sites_of, AllPass}
use Rattle.term_model.specs.Acceptance.{Passes}
use Rattle.contract_check.specs.SimpleFactors.{IsFactor, IsGreatest, product, rounded}
use Rattle.contract_check.proofs.SimpleRules.{limits_kept}

-- ---- the greatest size of a product

same_cond : (b : Bool) (x : ℤ) → cond b x x ≡ x
same_cond true x = refl
same_cond false x = refl

-- two numbers as the end points of an interval
abbrev ends : ℤ → ℤ → Interval
ends x y = record { low = int_min x y; high = int_max x y }

product_is : (i : Interval) (m a b : ℤ) → a ≡ i.low *ℤ m → b ≡ i.high *ℤ m → product i m ≡ ends a b
product_is i m a b p q =
    let x = i.low *ℤ m in
    let y = i.high *ℤ m in
    let least : int_min (int_min x x) (int_min y y) ≡ int_min a b = ap₂ int_min (same_cond (int_lt x x) x) (same_cond (int_lt y y) y) ∙ ap₂ int_min (sym p) (sym q) in
    let most : int_max (int_max x x) (int_max y y) ≡ int_max a b = ap₂ int_max (same_cond (int_lt x x) x) (same_cond (int_lt y y) y) ∙ ap₂ int_max (sym p) (sym q) in
    λ j. record { low = least j; high = most j }

either_fits : (t : Bool) (x y : ℤ) → unsigned_abs x ≤ 10 ^ 37 → unsigned_abs y ≤ 10 ^ 37 → fits (record { low = cond t y x; high = cond t x y }) ≡ true
either_fits true x y h k = and_from _ _ (le-leb (unsigned_abs y) (10 ^ 37) k) (le-leb (unsigned_abs x) (10 ^ 37) h)
either_fits false x y h k = and_from _ _ (le-leb (unsigned_abs x) (10 ^ 37) h) (le-leb (unsigned_abs y) (10 ^ 37) k)

either_size : (t : Bool) (x y : ℤ) (f : ℤ → ℤ) → greatest_size (lifted f (record { low = cond t y x; high = cond t x y })) ≡ max (unsigned_abs (f x)) (unsigned_abs (f y))
either_size true x y f = omega arith
either_size false x y f = refl

pub greatest_is : (mode : Mode) (i : Interval) (m a b : ℤ) (from to size : ℕ) → a ≡ i.low *ℤ m → b ≡ i.high *ℤ m → unsigned_abs a ≤ 10 ^ 37 → unsigned_abs b ≤ 10 ^ 37
    → size ≡ max (unsigned_abs (at_scale mode a from to)) (unsigned_abs (at_scale mode b from to)) → size ≤ 10 ^ 18 → IsGreatest mode i m from to size
greatest_is mode i m a b from to size p q fa fb is small =
    let whole = product_is i m a b p q in
    let f : ℤ → ℤ = λ y. at_scale mode y from to in
    record {
      product_fits = subst (λ (x : Interval). fits x ≡ true) (sym whole) (either_fits (int_lt b a) a b fa fb);
      right_size = is ∙ sym (either_size (int_lt b a) a b f) ∙ ap (λ (x : Interval). greatest_size (lifted f x)) (sym whole);
      small = small;
    }

-- ---- such a product as a factor

recent : (u : ℤ) → (pos 0 -ℤ pos 900_000) ≤ℤ u → days_before u ≤ 900_000
recent (pos n) h = omega arith
recent (negsuc n) h = omega (arith, ints, h)

small_fits : (i : Interval) (size : ℕ) → size ≡ greatest_size i → size ≤ 10 ^ 18 → fits i ≡ true
small_fits i size is small =
    and_from _ _ (le-leb (unsigned_abs i.low) (10 ^ 37) (omega (arith, is, small))) (le-leb (unsigned_abs i.high) (10 ^ 37) (omega (arith, is, small)))

module _ (d : Declarations) (mode : Mode) (s l : ℕ) (u m : ℤ) (k t : ℕ) (low high : ℤ) (size : ℕ) (label : label_of d l ≡ Some (NumberLabel t low high)) (ago : (pos 0 -ℤ pos 900_000) ≤ℤ u) (bounds : fits (record { low = low; high = high }) ≡ true) (literal : nat_le (unsigned_abs m) (10 ^ 37) ≡ true) (own : k ≤ 27) (both : t + k ≤ 27) (to : s ≤ 9) (greatest : IsGreatest mode (record { low = low; high = high }) m (t + k) s size) where
  met : (rule : Rule) (w : Trial) (r : List Layer) (j : ℕ) → AllPass (Passes d rule) (sites_of w (Round mode s (Num Times (Obs l u) (Lit m k))) r j)
  met Sort w r j = rw label (refl, (refl, (refl, (refl, tt))))
  met Time w r j = (tt, (tt, (tt, (tt, tt))))
  met ScaleRule w r j =
      rw label (
        and_from _ _ (le-leb t 27 (omega (arith, both))) refl,
        (and_from _ _ (le-leb k 27 own) refl, (and_from _ _ (le-leb (t + k) 27 both) refl, (and_from _ _ (le-leb s 27 (omega (arith, to))) refl, tt))),
      )
  met SizeRule w r j =
      let back : days_before u ≤ 900_000 = recent u ago in (
        limits_kept 1 1 0 0 (days_before u) 1 (omega arith) (omega arith) (omega arith) (omega arith) back (omega arith),
        (
          refl,
          (
            limits_kept 2 3 0 0 (max (days_before u) 0) 3 (omega arith) (omega arith) (omega arith) (omega arith) (omega (arith, back)) (omega arith),
            (limits_kept 3 4 0 0 (max (days_before u) 0) 4 (omega arith) (omega arith) (omega arith) (omega arith) (omega (arith, back)) (omega arith), tt),
          ),
        ),
      )
  met Bound w r j =
      rw label (
        bounds,
        (and_from _ _ literal literal, (greatest.product_fits, (small_fits (rounded mode (record { low = low; high = high }) m (t + k) s) size greatest.right_size greatest.small, tt))),
      )

  pub product_factor : u ≤ℤ pos 0 → IsFactor d (Round mode s (Num Times (Obs l u) (Lit m k))) (record { height = 3; nodes = 4; scale = s; size = size })
  product_factor by =
      record {
        met = met;
        number = λ ks. rw label refl;
        right_height = refl;
        right_nodes = refl;
        few = omega arith;
        low = omega arith;
        recent = omega (arith, recent u ago);
        little = omega arith;
        known = λ x le. (omega (arith, ints, by, le), tt);
        decimals = to;
        right_size = rw label greatest.right_size;
        small = greatest.small;
      }
