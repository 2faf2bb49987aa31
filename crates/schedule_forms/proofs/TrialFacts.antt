-- Where a rule passes everywhere in the expansion of a plan, it passes everywhere in the sizes that are written there.
use Rattle.std.proofs.Common.{◌≡◌, ℕ, zero, suc, ℤ, pos, ◌+◌, ◌<◌, IsTrue, List, [], ◌∷◌, ◌++◌, length, map, Option, Some, None, is_some, refl, arith}
use Rattle.std.specs.List.{range_with_len}
use Rattle.std.proofs.lemmas.List.FromFn.{length-map-range_with_len}
use Rattle.term_model.specs.Declarations.{Declarations}
use Rattle.term_model.specs.DayCounts.{Num as Count}
use Rattle.term_model.specs.declared.rules.Rule.TheVariants.{Sort}
use Rattle.term_model.specs.declared.values.Kind.{Kind}
use Rattle.term_model.specs.declared.values.Kind.TheVariants.{Truth, Number}
use Rattle.term_model.specs.Terms.{Expression, Contract, Lit, Obs, Both, After, Within}
use Rattle.term_model.specs.Kinds.{on_number}
use Rattle.term_model.specs.Sizes.{nodes, nodes_of_contract}
use Rattle.term_model.specs.Sites.{Trial, Once, Layer, Later, Undated, Site, AllPass, sites_of, sites_of_contract}
use Rattle.term_model.specs.Acceptance.{Passes}
use Rattle.term_model.proofs.Trials.{AllPass-left, AllPass-right}
use Rattle.schedule_forms.specs.declared.plans.Size.{Size}
use Rattle.schedule_forms.specs.declared.plans.Size.TheVariants.{Fixed, Fixing}
use Rattle.schedule_forms.specs.declared.plans.Leg.{Leg}
use Rattle.schedule_forms.specs.PaymentSizes.{expression_of_size}
use Rattle.schedule_forms.specs.PaymentDays.{payment_day}
use Rattle.schedule_forms.specs.Expansions.{payment, payments, balanced, cover_payment, guarded}
use Rattle.schedule_forms.proofs.TreeFacts.{Each, tree_by}
use Rattle.schedule_forms.proofs.FlowFacts.{IsSized}

-- every node of a contract passes, and of an expression, wherever it stands
pub record Tried (P : Site → Type 0) (w : Trial) (c : Contract) : Type 0 where
  pub layers : List Layer
  pub number : ℕ
  pub passes : AllPass P (sites_of_contract w c layers number)

pub record TriedExpression (P : Site → Type 0) (w : Trial) (e : Expression) : Type 0 where
  pub layers : List Layer
  pub number : ℕ
  pub passes : AllPass P (sites_of w e layers number)

each_join : (Q : Contract → Type 0) (xs ys : List Contract) → Each Q xs → Each Q ys → Each Q (xs ++ ys)
each_join Q [] ys h k = k
each_join Q (x ∷ xs) ys h k = (h.0, each_join Q xs ys h.1 k)

left_tried : (P : Site → Type 0) (w : Trial) (a b : Contract) → Tried P w (Both a b) → Tried P w a
left_tried P w a b h = record { layers = h.layers; number = h.number + 1; passes = AllPass-left P _ _ h.passes }

right_tried : (P : Site → Type 0) (w : Trial) (a b : Contract) → Tried P w (Both a b) → Tried P w b
right_tried P w a b h =
    record { layers = h.layers; number = _; passes = AllPass-left P _ _ (AllPass-right P (sites_of_contract w a h.layers (h.number + 1)) _ h.passes) }

tree_tried : (P : Site → Type 0) (w : Trial) (cs : List Contract) → 0 < length cs → Tried P w (balanced cs) → Each (Tried P w) cs
tree_tried P w cs some h =
    tree_by (λ cs c. Tried P w c → Each (Tried P w) cs) (λ c h. (h, tt))
    (λ xs ys a b even p q h. each_join (Tried P w) xs ys (p (left_tried P w a b h)) (q (right_tried P w a b h))) cs some h

later_tried : (P : Site → Type 0) (w : Trial) (n : ℕ) (c : Contract) → Tried P w (After (Count n) c) → Tried P w c
later_tried P w n c h = record { layers = _; number = h.number + 1; passes = AllPass-left P _ _ h.passes }

pub size_tried : (P : Site → Type 0) (w : Trial) (leg : Leg) → Tried P w (payment leg) → TriedExpression P w (expression_of_size leg.size)
size_tried P w leg h = record { layers = h.layers; number = h.number + 1; passes = AllPass-left P _ _ h.passes }

pub cover_tried : (P : Site → Type 0) (w : Trial) (leg : Leg) (mant : ℤ) (scale : ℕ) → Tried P w (cover_payment leg mant scale) → TriedExpression P w (Lit mant scale)
cover_tried P w leg mant scale h = record { layers = h.layers; number = h.number + 1; passes = (h.passes.0, tt) }

first_each : (Q : Contract → Type 0) (f : ℕ → Contract) (n : ℕ) → 0 < n → Each Q (map f (range_with_len 0 n)) → Q (f 0)
first_each Q f zero some h = absurd (omega arith)
first_each Q f (suc n) some h = h.0

-- of a leg
pub leg_tried : (P : Site → Type 0) (w : Trial) (leg : Leg) → 0 < leg.times → Tried P w (balanced (payments leg)) → TriedExpression P w (expression_of_size leg.size)
leg_tried P w leg some h =
    let f : ℕ → Contract = λ i. After (Count (payment_day leg i)) (payment leg) in
    let all = tree_tried P w (payments leg) (omega (arith, length-map-range_with_len f 0 leg.times)) h in
    size_tried P w leg (later_tried P w (payment_day leg 0) (payment leg) (first_each (Tried P w) f leg.times some all))

pub swap_tried : (P : Site → Type 0) (w : Trial) (a b : Contract) → Tried P w (Both a b) → Tried P w a × Tried P w b
swap_tried P w a b h = (left_tried P w a b h, right_tried P w a b h)

within_parts : (P : Site → Type 0) (w : Trial) (e : Expression) (days : ℕ) (a b : Contract) → Tried P w (Within e (Count days) a b) → Tried P w a × Tried P w b
within_parts P w e days a b h =
    let behind = AllPass-right P (sites_of w e (Undated ∷ h.layers) (h.number + 1)) _ h.passes in (
      record { layers = Undated ∷ h.layers; number = h.number + 1 + nodes e; passes = AllPass-left P _ _ behind },
      record {
        layers = Later days ∷ h.layers;
        number = h.number + 1 + nodes e + nodes_of_contract a;
        passes = AllPass-left P _ _ (AllPass-right P (sites_of_contract w a (Undated ∷ h.layers) (h.number + 1 + nodes e)) _ behind);
      },
    )

-- of a guarded plan: the cover and the next payment
pub guard_tried : (P : Site → Type 0) (w : Trial) (leg : Leg) (flag : ℕ) (cover : Contract) (days m : ℕ) → Tried P w (guarded leg flag cover days m) → Tried P w cover × Tried P w (payment leg)
guard_tried P w leg flag cover days zero h = within_parts P w (Obs flag (pos 0)) days cover (payment leg) h
guard_tried P w leg flag cover days (suc m) h =
    let further = guarded leg flag cover leg.every m in
    let parts = within_parts P w (Obs flag (pos 0)) days cover (Both (payment leg) further) h in
    (parts.0, left_tried P w (payment leg) further parts.1)

number_of : (s : ℕ) (o : Option Kind) → IsTrue (is_some (on_number (λ _. Some (Number s)) o)) → on_number (λ _. Some (Number s)) o ≡ Some (Number s)
number_of s None h = absurd (cc)
number_of s (Some Truth) h = absurd (cc)
number_of s (Some (Number i)) h = refl

-- a size that is sorted is a number of its own scale
pub sized_is : (d : Declarations) (size : Size) → TriedExpression (Passes d Sort) Once (expression_of_size size) → IsSized d size
sized_is d (Fixed mant scale) h = refl
sized_is d (Fixing mode scale label lag mant mant_scale) h = number_of scale _ h.passes.1.1.1.0
