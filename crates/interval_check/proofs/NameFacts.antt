-- What an expression is asks only of the names that it uses: where k of them agree, and it is well formed under k binders,
-- its kind and its interval are the same, and so is every rule.
use Rattle.std.proofs.Common.{◌≡◌, ℕ, zero, suc, ◌+◌, ◌-◌, ◌<◌, List, [], ◌∷◌, Option, Some, None, slice_get, neg_ℤ, refl, ap, sym, ◌∙◌, arith}
use Rattle.decimal.specs.Rounding.{raised, at_scale, divided}
use Rattle.term_model.specs.Declarations.{Declarations}
use Rattle.term_model.specs.declared.values.Kind.{Kind}
use Rattle.term_model.specs.declared.values.Kind.TheVariants.{Truth as TruthKind, Number}
use Rattle.term_model.specs.Terms.{Expression, Lit, Yes, Var, Obs, Neg, Num, Cmp, Not, Logic, Cond, Widen, Round, Div, Acc}
use Rattle.term_model.specs.WellFormed.{IsWellFormed}
use Rattle.term_model.specs.Kinds.{kind_of, scale_of, scale_of_kind, scale_or_zero, scale_of_op, on_number, on_numbers, on_truth, joined, of_acc}
use Rattle.term_model.specs.Values.{kind_or}
use Rattle.term_model.specs.Bounds.{Interval, Range, range_kinds, lifted, swapped, hull, corners, aligned, of_op, interval_of_range, interval_of, stepped}

-- the first k names are the same
abbrev pub AgreeOn : {A : Type 0} → ℕ → List A → List A → Type 0
AgreeOn k xs ys = (back : ℕ) → back < k → slice_get xs back ≡ slice_get ys back

-- and so are they under a binder
pub under : {A : Type 0} (k : ℕ) (x y : A) (xs ys : List A) → x ≡ y → AgreeOn k xs ys → AgreeOn (k + 1) (x ∷ xs) (y ∷ ys)
under k x y xs ys e h zero l = ap Some e
under k x y xs ys e h (suc back) l = h back (omega arith)

kind_at : (g : List Range) (back : ℕ) → slice_get (range_kinds g) back ≡ elim (slice_get g back) [ Some r ↦ Some r.kind | None ↦ None ]
kind_at [] back = refl
kind_at (r ∷ g) zero = refl
kind_at (r ∷ g) (suc back) = kind_at g back

pub kinds_agree : (k : ℕ) (g h : List Range) → AgreeOn k g h → AgreeOn k (range_kinds g) (range_kinds h)
kinds_agree k g h same back l =
    kind_at g back ∙ ap (λ (o : Option Range). elim o as (λ x. Option Kind) [ Some r ↦ Some r.kind | None ↦ None ]) (same back l) ∙ sym (kind_at h back)

-- kinds

two : (F : Option Kind → Option Kind → Option Kind) (o o' u u' : Option Kind) → o ≡ o' → u ≡ u' → F o u ≡ F o' u'
two F o o' u u' e e' = ap (λ (x : Option Kind). F x u) e ∙ ap (F o') e'

three : (F : Option Kind → Option Kind → Option Kind → Option Kind) (t t' o o' u u' : Option Kind) → t ≡ t' → o ≡ o' → u ≡ u' → F t o u ≡ F t' o' u'
three F t t' o o' u u' e e' e'' = ap (λ (x : Option Kind). F x o u) e ∙ two (F t') o o' u u' e' e''

of_acc_same : (o : Option Kind) (f f' : Kind → Option Kind) → f (kind_or o) ≡ f' (kind_or o) → of_acc o f ≡ of_acc o f'
of_acc_same None f f' e = refl
of_acc_same (Some TruthKind) f f' e = ap (λ (x : Option Kind). on_truth x (Some TruthKind)) e
of_acc_same (Some (Number s)) f f' e = ap (on_number (λ _. Some (Number s))) e

pub kind_same : (d : Declarations) (e : Expression) (k : ℕ) (ks js : List Kind) → IsWellFormed d k e → AgreeOn k ks js → kind_of d e ks ≡ kind_of d e js
kind_same d (Lit m s) k ks js h same = refl
kind_same d (Yes b) k ks js h same = refl
kind_same d (Var back) k ks js h same = same back h
kind_same d (Obs l t) k ks js h same = refl
kind_same d (Neg e) k ks js h same = ap (on_number (λ s. Some (Number s))) (kind_same d e k ks js h same)
kind_same d (Num op a b) k ks js h same = two (on_numbers (λ s t. Some (Number (scale_of_op op s t)))) _ _ _ _ (kind_same d a k ks js h.0 same) (kind_same d b k ks js h.1 same)
kind_same d (Cmp op a b) k ks js h same = two (on_numbers (λ s t. Some TruthKind)) _ _ _ _ (kind_same d a k ks js h.0 same) (kind_same d b k ks js h.1 same)
kind_same d (Not e) k ks js h same = ap (λ (o : Option Kind). on_truth o (Some TruthKind)) (kind_same d e k ks js h same)
kind_same d (Logic op a b) k ks js h same = two (λ o u. on_truth o (on_truth u (Some TruthKind))) _ _ _ _ (kind_same d a k ks js h.0 same) (kind_same d b k ks js h.1 same)
kind_same d (Cond t a b) k ks js h same = three (λ o u v. on_truth o (joined u v)) _ _ _ _ _ _ (kind_same d t k ks js h.0 same) (kind_same d a k ks js h.1 same) (kind_same d b k ks js h.2 same)
kind_same d (Widen s e) k ks js h same = ap (on_number (λ _. Some (Number s))) (kind_same d e k ks js h same)
kind_same d (Round mode s e) k ks js h same = ap (on_number (λ _. Some (Number s))) (kind_same d e k ks js h same)
kind_same d (Div mode s a b) k ks js h same = two (on_numbers (λ _ _. Some (Number s))) _ _ _ _ (kind_same d a k ks js h.0 same) (kind_same d b k ks js h.1 same)
kind_same d (Acc body n first) k ks js h same =
    let start = kind_same d first k ks js h.1 same in
    let x = kind_or (kind_of d first ks) in
    of_acc_same (kind_of d first ks) (λ l. kind_of d body (l ∷ ks)) (λ l. kind_of d body (l ∷ js)) (kind_same d body (k + 1) (x ∷ ks) (x ∷ js) h.0 (under k x x ks js refl same))
    ∙ ap (λ (o : Option Kind). of_acc o (λ l. kind_of d body (l ∷ js))) start

pub scale_same : (d : Declarations) (e : Expression) (k : ℕ) (g h : List Range) → IsWellFormed d k e → AgreeOn k g h → scale_of d e (range_kinds g) ≡ scale_of d e (range_kinds h)
scale_same d e k g h wf same = ap scale_or_zero (kind_same d e k (range_kinds g) (range_kinds h) wf (kinds_agree k g h same))

-- intervals

-- a function of two scales and two intervals
pub at_same : {A : Type 0} (F : ℕ → Interval → ℕ → Interval → A) (p p' : ℕ) (i i' : Interval) (q q' : ℕ) (j j' : Interval) → p ≡ p' → i ≡ i' → q ≡ q' → j ≡ j' → F p i q j ≡ F p' i' q' j'
at_same F p p' i i' q q' j j' a b c e =
    ap (λ (x : ℕ). F x i q j) a ∙ ap (λ (x : Interval). F p' x q j) b ∙ ap (λ (x : ℕ). F p' i' x j) c ∙ ap (F p' i' q') e

stepped_same : (n : ℕ) (up up' : Interval → Interval) (i i' : Interval) → i ≡ i' → ((j : Interval) → up j ≡ up' j) → stepped n up i ≡ stepped n up' i'
stepped_same zero up up' i i' e each = e
stepped_same (suc n) up up' i i' e each = ap up (stepped_same n up up' i i' e each) ∙ each (stepped n up' i')

pub interval_same : (d : Declarations) (e : Expression) (k : ℕ) (g h : List Range) → IsWellFormed d k e → AgreeOn k g h → interval_of d e g ≡ interval_of d e h
interval_same d (Lit m s) k g h wf same = refl
interval_same d (Yes b) k g h wf same = refl
interval_same d (Var back) k g h wf same = ap interval_of_range (same back wf)
interval_same d (Obs l t) k g h wf same = refl
interval_same d (Neg e) k g h wf same = ap (λ (i : Interval). lifted neg_ℤ (swapped i)) (interval_same d e k g h wf same)
interval_same d (Num op a b) k g h wf same =
    at_same (λ p i q j. of_op op p i q j) _ _ _ _ _ _ _ _ (scale_same d a k g h wf.0 same) (interval_same d a k g h wf.0 same) (scale_same d b k g h wf.1 same) (interval_same d b k g h wf.1 same)
interval_same d (Cmp op a b) k g h wf same = refl
interval_same d (Not e) k g h wf same = refl
interval_same d (Logic op a b) k g h wf same = refl
interval_same d (Cond t a b) k g h wf same =
    at_same (λ p i q j. hull (aligned p q i) (aligned q p j)) _ _ _ _ _ _ _ _ (scale_same d a k g h wf.1 same) (interval_same d a k g h wf.1 same) (scale_same d b k g h wf.2 same) (interval_same d b k g h wf.2 same)
interval_same d (Widen s e) k g h wf same =
    at_same (λ p i q j. lifted (λ m. raised m (s - p)) i) _ _ _ _ _ _ _ _ (scale_same d e k g h wf same) (interval_same d e k g h wf same) (scale_same d e k g h wf same) (interval_same d e k g h wf same)
interval_same d (Round mode s e) k g h wf same =
    at_same (λ p i q j. lifted (λ m. at_scale mode m p s) i) _ _ _ _ _ _ _ _ (scale_same d e k g h wf same) (interval_same d e k g h wf same) (scale_same d e k g h wf same) (interval_same d e k g h wf same)
interval_same d (Div mode s a b) k g h wf same =
    at_same (λ p i q j. corners (λ x y. divided mode x p y q s) i j) _ _ _ _ _ _ _ _ (scale_same d a k g h wf.0 same) (interval_same d a k g h wf.0 same) (scale_same d b k g h wf.1 same) (interval_same d b k g h wf.1 same)
interval_same d (Acc body n first) k g h wf same =
    let x = kind_or (kind_of d first (range_kinds g)) in
    let y = kind_or (kind_of d first (range_kinds h)) in
    let kinds : x ≡ y = ap kind_or (kind_same d first k (range_kinds g) (range_kinds h) wf.1 (kinds_agree k g h same)) in
    stepped_same n (λ i. lifted (λ m. raised m (scale_of_kind x - scale_of d body (x ∷ range_kinds g))) (interval_of d body (record { interval = i; kind = x } ∷ g))) (λ i. lifted (λ m. raised m (scale_of_kind y - scale_of d body (y ∷ range_kinds h))) (interval_of d body (record { interval = i; kind = y } ∷ h))) (interval_of d first g) (interval_of d first h) (interval_same d first k g h wf.1 same)
    (λ i.
    let here : Range = record { interval = i; kind = x } in
    let there : Range = record { interval = i; kind = y } in
    let names = under k here there g h (ap (λ (l : Kind). record { interval = i; kind = l }) kinds) same in
    at_same (λ p j q j'. lifted (λ m. raised m (q - p)) j) _ _ _ _ _ _ (interval_of d body (here ∷ g)) (interval_of d body (here ∷ g)) (scale_same d body (k + 1) (here ∷ g) (there ∷ h) wf.0 names) (interval_same d body (k + 1) (here ∷ g) (there ∷ h) wf.0 names) (ap scale_of_kind kinds) refl)
