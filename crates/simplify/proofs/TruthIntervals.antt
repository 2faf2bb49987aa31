-- Truth values have the interval of 0.
use Rattle.std.proofs.Common.{◌≡◌, ℕ, zero, suc, pos, ◌-◌, Option, Some, None, List, ◌∷◌, [], slice_get, refl, ap, ap₂, ◌∙◌}
use Rattle.decimal.specs.Rounding.{raised}
use Rattle.term_model.specs.declared.label.Label.{Label}
use Rattle.term_model.specs.declared.label.Label.TheVariants.{Number as NumberLabel, Flag}
use Rattle.term_model.specs.declared.values.Kind.{Kind}
use Rattle.term_model.specs.declared.values.Kind.TheVariants.{Truth as TruthKind, Number}
use Rattle.term_model.specs.Terms.{Lit, Yes, Var, Obs, Neg, Num, Cmp, Not, Logic, Cond, Widen, Round, Div, Acc}
use Rattle.term_model.specs.Environments.{label_of}
use Rattle.term_model.specs.Kinds.{kind_of, kind_of_label, scale_of, scale_or_zero, scale_of_kind, scale_of_op, joined, of_acc}
use Rattle.term_model.specs.Values.{kind_or}
use Rattle.term_model.specs.Bounds.{Interval, Range, range_kinds, single, lifted, hull, aligned, stepped, interval_of, interval_of_label, interval_of_range}
use Rattle.interval_check.proofs.KindsFound.{one_number, two_numbers, truth_then}
use Rattle.simplify.specs.LawsRulesStand.{TruthsAreNothing, TruthsHaveNothing}

name_nothing : (g : List Range) (back : ℕ) → TruthsAreNothing g → slice_get (range_kinds g) back ≡ Some TruthKind → interval_of_range (slice_get g back) ≡ single (pos 0)
name_nothing [] back t e = refl
name_nothing (r ∷ g) zero t e =
    let kind : r.kind ≡ TruthKind = cc e in
    t.0 kind
name_nothing (r ∷ g) (suc back) t e = name_nothing g back t.1 e

label_nothing : (o : Option Label) → kind_of_label o ≡ Some TruthKind → interval_of_label o ≡ single (pos 0)
label_nothing None e = refl
label_nothing (Some Flag) e = refl
label_nothing (Some (NumberLabel scale low high)) e = absurd (cc)

both_truth : (o u : Option Kind) → joined o u ≡ Some TruthKind → (o ≡ Some TruthKind) × (u ≡ Some TruthKind)
both_truth None u e = absurd (cc)
both_truth (Some TruthKind) None e = absurd (cc)
both_truth (Some TruthKind) (Some TruthKind) e = (refl, refl)
both_truth (Some TruthKind) (Some (Number s)) e = absurd (cc)
both_truth (Some (Number r)) None e = absurd (cc)
both_truth (Some (Number r)) (Some TruthKind) e = absurd (cc)
both_truth (Some (Number r)) (Some (Number s)) e = absurd (cc)

acc_truth : (o : Option Kind) (f : Kind → Option Kind) → of_acc o f ≡ Some TruthKind → (o ≡ Some TruthKind) × (f TruthKind ≡ Some TruthKind)
acc_truth None f e = absurd (cc)
acc_truth (Some TruthKind) f e = (refl, (truth_then (f TruthKind) (Some TruthKind) TruthKind e).first)
acc_truth (Some (Number s)) f e =
    let p = one_number (λ _. Number s) (f (Number s)) TruthKind e in
    let never : Number s ≡ TruthKind = p.whole in
    absurd (cc)

hull_nothing : (i j : Interval) (r s : ℕ) → i ≡ single (pos 0) → j ≡ single (pos 0) → r ≡ 0 → s ≡ 0 → hull (aligned r s i) (aligned s r j) ≡ single (pos 0)
hull_nothing i j r s a b c e =
    ap₂ (λ (x y : Interval). hull (aligned r s x) (aligned s r y)) a b ∙ ap₂ (λ (m n : ℕ). hull (aligned m n (single (pos 0))) (aligned n m (single (pos 0)))) c e

stepped_nothing : (n : ℕ) (F : Interval → Interval) (i : Interval) → i ≡ single (pos 0) → (F (single (pos 0)) ≡ single (pos 0)) → stepped n F i ≡ single (pos 0)
stepped_nothing zero F i e h = e
stepped_nothing (suc n) F i e h = ap F (stepped_nothing n F i e h) ∙ h

-- one day of an accumulator over truth values
day_nothing : (k : Kind) (r : Kind → ℕ) (I : Kind → Interval → Interval) → k ≡ TruthKind → (r TruthKind ≡ 0) → I TruthKind (single (pos 0)) ≡ single (pos 0) → lifted (λ m. raised m (scale_of_kind k - r k)) (I k (single (pos 0))) ≡ single (pos 0)
day_nothing k r I e z h =
    ap (λ (j : Kind). lifted (λ m. raised m (scale_of_kind j - r j)) (I j (single (pos 0)))) e
    ∙ ap₂ (λ (n : ℕ) (i : Interval). lifted (λ m. raised m (0 - n)) i) z h

pub truths_have_nothing : TruthsHaveNothing
truths_have_nothing d (Lit m s) g t e = absurd (cc)
truths_have_nothing d (Yes b) g t e = refl
truths_have_nothing d (Var back) g t e = name_nothing g back t e
truths_have_nothing d (Obs l u) g t e = label_nothing (label_of d l) e
truths_have_nothing d (Neg x) g t e = let never : Number _ ≡ TruthKind = (one_number (λ s. Number s) (kind_of d x (range_kinds g)) TruthKind e).whole in absurd (cc)
truths_have_nothing d (Num op x y) g t e =
    let never : Number _ ≡ TruthKind = (two_numbers (λ r s. Number (scale_of_op op r s)) (kind_of d x (range_kinds g)) (kind_of d y (range_kinds g)) TruthKind e).whole in
    absurd (cc)
truths_have_nothing d (Cmp op x y) g t e = refl
truths_have_nothing d (Not x) g t e = refl
truths_have_nothing d (Logic op x y) g t e = refl
truths_have_nothing d (Cond c x y) g t e =
    let p = truth_then (kind_of d c (range_kinds g)) (joined (kind_of d x (range_kinds g)) (kind_of d y (range_kinds g))) TruthKind e in
    let q = both_truth (kind_of d x (range_kinds g)) (kind_of d y (range_kinds g)) p.rest in
    hull_nothing (interval_of d x g) (interval_of d y g) (scale_of d x (range_kinds g)) (scale_of d y (range_kinds g)) (truths_have_nothing d x g t q.0) (truths_have_nothing d y g t q.1) (ap scale_or_zero q.0) (ap scale_or_zero q.1)
truths_have_nothing d (Widen s x) g t e = let never : Number s ≡ TruthKind = (one_number (λ _. Number s) (kind_of d x (range_kinds g)) TruthKind e).whole in absurd (cc)
truths_have_nothing d (Round mode s x) g t e = let never : Number s ≡ TruthKind = (one_number (λ _. Number s) (kind_of d x (range_kinds g)) TruthKind e).whole in absurd (cc)
truths_have_nothing d (Div mode s x y) g t e =
    let never : Number s ≡ TruthKind = (two_numbers (λ _ _. Number s) (kind_of d x (range_kinds g)) (kind_of d y (range_kinds g)) TruthKind e).whole in
    absurd (cc)
truths_have_nothing d (Acc body n first) g t e =
    let ks = range_kinds g in
    let p = acc_truth (kind_of d first ks) (λ k. kind_of d body (k ∷ ks)) e in
    let k = kind_or (kind_of d first ks) in
    stepped_nothing n (λ i. lifted (λ m. raised m (scale_of_kind k - scale_of d body (k ∷ ks))) (interval_of d body (record { interval = i; kind = k } ∷ g))) (interval_of d first g) (truths_have_nothing d first g t p.0)
    (day_nothing k (λ j. scale_of d body (j ∷ ks)) (λ j i. interval_of d body (record { interval = i; kind = j } ∷ g)) (ap kind_or p.0) (ap scale_or_zero p.1) (truths_have_nothing d body (record { interval = single (pos 0); kind = TruthKind } ∷ g) (λ _. refl, t) p.1))
