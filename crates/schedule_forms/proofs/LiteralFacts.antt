-- The literals of an accepted expansion are within the limits of texts.
use Rattle.std.proofs.Common.{ℕ, zero, suc, ℤ, ◌+◌, ◌<◌, ◌≤◌, ◌^◌, true, ◌&&◌, nat_le, unsigned_abs, IsTrue, map, arith}
use Rattle.std.specs.List.{range_with_len}
use Rattle.std.proofs.lemmas.Bool.Decides.{nat_tests}
use Rattle.std.proofs.lemmas.List.FromFn.{length-map-range_with_len}
use Rattle.term_model.specs.Declarations.{Declarations}
use Rattle.term_model.specs.DayCounts.{Num as Count}
use Rattle.term_model.specs.declared.rules.Rule.TheVariants.{Scale as ScaleRule, Bound}
use Rattle.term_model.specs.Terms.{Contract, Lit, After}
use Rattle.term_model.specs.Literals.{HasLiterals, HasLiteralsIn}
use Rattle.term_model.specs.Limits.{greatest_mantissa}
use Rattle.term_model.specs.Sites.{Once, EachDay}
use Rattle.term_model.specs.Acceptance.{Passes}
use Rattle.schedule_forms.specs.declared.plans.Size.{Size}
use Rattle.schedule_forms.specs.declared.plans.Size.TheVariants.{Fixed, Fixing}
use Rattle.schedule_forms.specs.declared.plans.Leg.{Leg}
use Rattle.schedule_forms.specs.PaymentSizes.{expression_of_size}
use Rattle.schedule_forms.specs.PaymentDays.{payment_day}
use Rattle.schedule_forms.specs.Expansions.{payment, payments, balanced, guarded}
use Rattle.schedule_forms.proofs.TreeFacts.{Each, each_left, each_right, tree_by}
use Rattle.schedule_forms.proofs.TrialFacts.{TriedExpression}

within : (m s : ℕ) → IsTrue (nat_le s 27 && true) → IsTrue (true && (nat_le m greatest_mantissa && nat_le m greatest_mantissa)) → (m ≤ 10 ^ 37) × (s ≤ 27)
within m s h k = grind (arith, nat_tests)

pub number_literals : (d : Declarations) (m : ℤ) (s : ℕ) → TriedExpression (Passes d ScaleRule) Once (Lit m s) → TriedExpression (Passes d Bound) EachDay (Lit m s) → HasLiterals (Lit m s)
number_literals d m s h k = within (unsigned_abs m) s h.passes.0 k.passes.0

pub size_literals : (d : Declarations) (size : Size) → TriedExpression (Passes d ScaleRule) Once (expression_of_size size) → TriedExpression (Passes d Bound) EachDay (expression_of_size size) → HasLiterals (expression_of_size size)
size_literals d (Fixed m s) h k = number_literals d m s h k
size_literals d (Fixing mode scale label lag m s) h k = (tt, within (unsigned_abs m) s h.passes.1.0 k.passes.1.0)

each_literals : (leg : Leg) (a m : ℕ) → HasLiterals (expression_of_size leg.size) → Each HasLiteralsIn (map (λ i. After (Count (payment_day leg i)) (payment leg)) (range_with_len a m))
each_literals leg a zero h = tt
each_literals leg a (suc m) h = ((h, tt), each_literals leg (a + 1) m h)

pub leg_literals : (leg : Leg) → 0 < leg.times → HasLiterals (expression_of_size leg.size) → HasLiteralsIn (balanced (payments leg))
leg_literals leg some h =
    let f : ℕ → Contract = λ i. After (Count (payment_day leg i)) (payment leg) in
    tree_by (λ cs c. Each HasLiteralsIn cs → HasLiteralsIn c) (λ c h. h.0)
    (λ xs ys a b even p q h. (p (each_left HasLiteralsIn xs ys h), q (each_right HasLiteralsIn xs ys h)))
    (payments leg) (omega (arith, length-map-range_with_len f 0 leg.times)) (each_literals leg 0 leg.times h)

pub guard_literals : (leg : Leg) (flag : ℕ) (cover : Contract) (days m : ℕ) → HasLiterals (expression_of_size leg.size) → HasLiteralsIn cover → HasLiteralsIn (guarded leg flag cover days m)
guard_literals leg flag cover days zero h k = (tt, k, (h, tt))
guard_literals leg flag cover days (suc m) h k = (tt, k, ((h, tt), guard_literals leg flag cover leg.every m h k))
