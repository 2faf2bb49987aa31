-- Values have the kinds of their expressions.
use Rattle.std.proofs.Common.{◌≡◌, ℕ, zero, suc, ℤ, pos, ◌+ℤ◌, ◌-ℤ◌, max, Bool, true, false, if◌then◌else◌, List, [], ◌∷◌, Option, Some, None, slice_get, refl, subst}
use Rattle.term_model.specs.declared.label.Label.{Label}
use Rattle.term_model.specs.declared.label.Label.TheVariants.{Number as NumberLabel, Flag}
use Rattle.term_model.specs.declared.values.Kind.{Kind}
use Rattle.term_model.specs.declared.values.Kind.TheVariants.{Truth as TruthKind, Number}
use Rattle.term_model.specs.declared.values.Value.{Value}
use Rattle.term_model.specs.declared.values.Value.TheVariants.{Num as Amount, Truth}
use Rattle.term_model.specs.Terms.{Lit, Yes, Var, Obs, Neg, Num, Cmp, Not, Logic, Cond, Widen, Round, Div, Acc}
use Rattle.term_model.specs.Environments.{Place, IsValueOf, held, label_of, least, value_or}
use Rattle.term_model.specs.Kinds.{kind_of, kind_of_label, on_number, on_numbers, joined, of_acc, scale_of_op, scale_of, scale_of_kind}
use Rattle.term_model.specs.Values.{Entry, kinds, truth, widened, kind_or, value_of, value_of_entry, days_run}
use Rattle.term_model.specs.LawsKinds.{IsOfKind, AreOfKinds, ValuesHaveKinds}
use Rattle.term_model.proofs.KindParts.{one_number, two_numbers, truth_then}

-- an equation of kinds, taken along
along : (j k : Kind) (v : Value) → Some j ≡ Some k → IsOfKind j v → IsOfKind k v
along j k v e h =
    let same : j ≡ k = cc in
    subst (λ (i : Kind). IsOfKind i v) same h

name_has : (g : List Entry) (back : ℕ) (k : Kind) → AreOfKinds g → slice_get (kinds g) back ≡ Some k → IsOfKind k (value_of_entry (slice_get g back))
name_has [] back k h e = absurd (cc)
name_has (x ∷ g) zero k h e = along x.kind k x.value e h.0
name_has (x ∷ g) (suc back) k h e = name_has g back k h.1 e

least_has : (o : Option Label) (k : Kind) → kind_of_label o ≡ Some k → IsOfKind k (least o)
least_has None k e = absurd (cc)
least_has (Some Flag) k e = along TruthKind k (Truth false) e tt
least_has (Some (NumberLabel scale low high)) k e = along (Number scale) k (Amount low) e tt

held_has : (o : Option Label) (v : Value) (k : Kind) → IsValueOf o v → kind_of_label o ≡ Some k → IsOfKind k v
held_has None v k h e = absurd h
held_has (Some Flag) (Truth b) k h e = along TruthKind k (Truth b) e tt
held_has (Some Flag) (Amount m) k h e = absurd h
held_has (Some (NumberLabel scale low high)) (Amount m) k h e = along (Number scale) k (Amount m) e tt
held_has (Some (NumberLabel scale low high)) (Truth b) k h e = absurd h

observed_has : (label : Option Label) (o : Option Value) (k : Kind) → ((v : Value) → o ≡ Some v → IsValueOf label v) → kind_of_label label ≡ Some k → IsOfKind k (value_or o (least label))
observed_has label None k h e = least_has label k e
observed_has label (Some v) k h e = held_has label v k (h v refl) e

-- what has a number for its kind
number_one : (o : Option Kind) (s : ℕ → ℕ) (k : Kind) (m : ℤ) → on_number (λ i. Some (Number (s i))) o ≡ Some k → IsOfKind k (Amount m)
number_one o s k m e = subst (λ (j : Kind). IsOfKind j (Amount m)) (one_number (λ i. Number (s i)) o k e).whole tt

number_two : (o u : Option Kind) (s : ℕ → ℕ → ℕ) (k : Kind) (m : ℤ) → on_numbers (λ i j. Some (Number (s i j))) o u ≡ Some k → IsOfKind k (Amount m)
number_two o u s k m e = subst (λ (j : Kind). IsOfKind j (Amount m)) (two_numbers (λ i j. Number (s i j)) o u k e).whole tt

truth_two : (o u : Option Kind) (k : Kind) (b : Bool) → on_numbers (λ i j. Some TruthKind) o u ≡ Some k → IsOfKind k (Truth b)
truth_two o u k b e = subst (λ (j : Kind). IsOfKind j (Truth b)) (two_numbers (λ _ _. TruthKind) o u k e).whole tt

widened_has : (i j : ℕ) (s t : ℕ) (v : Value) → IsOfKind (Number s) v → IsOfKind (Number t) (widened i j v)
widened_has i j s t (Amount m) h = tt
widened_has i j s t (Truth b) h = absurd h

widened_truth : (i j : ℕ) (v : Value) → IsOfKind TruthKind v → IsOfKind TruthKind (widened i j v)
widened_truth i j (Truth b) h = tt
widened_truth i j (Amount m) h = absurd h

chosen_has : (t : Bool) (k : Kind) (v w : Value) → IsOfKind k v → IsOfKind k w → IsOfKind k (if t then v else w)
chosen_has true k v w h j = h
chosen_has false k v w h j = j

joined_has : (o u : Option Kind) (k : Kind) (t : Bool) (i j l m : ℕ) (v w : Value) → ((a : Kind) → o ≡ Some a → IsOfKind a v) → ((a : Kind) → u ≡ Some a → IsOfKind a w) → joined o u ≡ Some k → IsOfKind k (if t then widened i j v else widened l m w)
joined_has None u k t i j l m v w h g e = absurd (cc)
joined_has (Some TruthKind) None k t i j l m v w h g e = absurd (cc)
joined_has (Some TruthKind) (Some (Number b)) k t i j l m v w h g e = absurd (cc)
joined_has (Some TruthKind) (Some TruthKind) k t i j l m v w h g e =
    along TruthKind k _ e (chosen_has t TruthKind _ _ (widened_truth i j v (h TruthKind refl)) (widened_truth l m w (g TruthKind refl)))
joined_has (Some (Number a)) None k t i j l m v w h g e = absurd (cc)
joined_has (Some (Number a)) (Some TruthKind) k t i j l m v w h g e = absurd (cc)
joined_has (Some (Number a)) (Some (Number b)) k t i j l m v w h g e =
    along (Number (max a b)) k _ e (chosen_has t (Number (max a b)) _ _ (widened_has i j a (max a b) v (h (Number a) refl)) (widened_has l m b (max a b) w (g (Number b) refl)))

days_have : (k : Kind) (n : ℕ) (step : ℕ → Value → Value) (v : Value) → IsOfKind k v → ((i : ℕ) (x : Value) → IsOfKind k x → IsOfKind k (step i x)) → IsOfKind k (days_run n step v)
days_have k zero step v h s = h
days_have k (suc n) step v h s = s (suc n) (days_run n step v) (days_have k n step v h s)

-- an accumulator, from its start and its body
acc_has : (o : Option Kind) (body : Kind → Option Kind) (k : Kind) (n : ℕ) (scale : Kind → ℕ) (step : Kind → ℕ → Value → Value) (v : Value) → ((a : Kind) → o ≡ Some a → IsOfKind a v) → ((a b : Kind) (i : ℕ) (x : Value) → IsOfKind a x → body a ≡ Some b → IsOfKind b (step a i x)) → of_acc o body ≡ Some k → IsOfKind k (days_run n (λ i x. widened (scale (kind_or o)) (scale_of_kind (kind_or o)) (step (kind_or o) i x)) v)
acc_has None body k n scale step v h s e = absurd (cc)
acc_has (Some TruthKind) body k n scale step v h s e =
    let known = truth_then (body TruthKind) (Some TruthKind) k e in
    along TruthKind k (days_run n (λ i x. widened (scale TruthKind) 0 (step TruthKind i x)) v) known.rest
    (days_have TruthKind n (λ i x. widened (scale TruthKind) 0 (step TruthKind i x)) v (h TruthKind refl) (λ i x p. widened_truth (scale TruthKind) 0 (step TruthKind i x) (s TruthKind TruthKind i x p known.first)))
acc_has (Some (Number a)) body k n scale step v h s e =
    let known = one_number (λ _. Number a) (body (Number a)) k e in
    subst (λ (j : Kind). IsOfKind j (days_run n (λ i x. widened (scale (Number a)) a (step (Number a) i x)) v)) known.whole
    (days_have (Number a) n (λ i x. widened (scale (Number a)) a (step (Number a) i x)) v (h (Number a) refl) (λ i x p. widened_has (scale (Number a)) a known.scale a (step (Number a) i x) (s (Number a) (Number known.scale) i x p known.operand)))

pub values_have_kinds : ValuesHaveKinds
values_have_kinds d (Lit m s) g env f k a h e = along (Number s) k (Amount m) e tt
values_have_kinds d (Yes b) g env f k a h e = along TruthKind k (Truth b) e tt
values_have_kinds d (Var back) g env f k a h e = name_has g back k h e
values_have_kinds d (Obs l t) g env f k a h e =
    let q : Place = record { label = l; day = f +ℤ t } in
    observed_has (label_of d l) (held env q) k (a q) e
values_have_kinds d (Neg x) g env f k a h e = number_one (kind_of d x (kinds g)) (λ s. s) k _ e
values_have_kinds d (Num op x y) g env f k a h e = number_two (kind_of d x (kinds g)) (kind_of d y (kinds g)) (λ s t. scale_of_op op s t) k _ e
values_have_kinds d (Cmp op x y) g env f k a h e = truth_two (kind_of d x (kinds g)) (kind_of d y (kinds g)) k _ e
values_have_kinds d (Not x) g env f k a h e = along TruthKind k _ (truth_then (kind_of d x (kinds g)) (Some TruthKind) k e).rest tt
values_have_kinds d (Logic op x y) g env f k a h e =
    along TruthKind k _ (truth_then (kind_of d y (kinds g)) (Some TruthKind) k (truth_then (kind_of d x (kinds g)) _ k e).rest).rest tt
values_have_kinds d (Cond t x y) g env f k a h e =
    joined_has (kind_of d x (kinds g)) (kind_of d y (kinds g)) k (truth (value_of d t g env f)) _ _ _ _ (value_of d x g env f) (value_of d y g env f) (λ j p. values_have_kinds d x g env f j a h p) (λ j p. values_have_kinds d y g env f j a h p) (truth_then (kind_of d t (kinds g)) _ k e).rest
values_have_kinds d (Widen s x) g env f k a h e =
    let known = one_number (λ _. Number s) (kind_of d x (kinds g)) k e in
    subst (λ (j : Kind). IsOfKind j (widened (scale_of d x (kinds g)) s (value_of d x g env f))) known.whole
    (widened_has (scale_of d x (kinds g)) s known.scale s (value_of d x g env f) (values_have_kinds d x g env f (Number known.scale) a h known.operand))
values_have_kinds d (Round mode s x) g env f k a h e = number_one (kind_of d x (kinds g)) (λ _. s) k _ e
values_have_kinds d (Div mode s x y) g env f k a h e = number_two (kind_of d x (kinds g)) (kind_of d y (kinds g)) (λ _ _. s) k _ e
values_have_kinds d (Acc body n first) g env f k a h e =
    acc_has (kind_of d first (kinds g)) (λ j. kind_of d body (j ∷ kinds g)) k n (λ j. scale_of d body (j ∷ kinds g)) (λ j i v. value_of d body (record { value = v; kind = j } ∷ g) env (f -ℤ pos n +ℤ pos i)) (value_of d first g env (f -ℤ pos n))
    (λ j p. values_have_kinds d first g env (f -ℤ pos n) j a h p)
    (λ j b i x p q. values_have_kinds d body (record { value = x; kind = j } ∷ g) env (f -ℤ pos n +ℤ pos i) b a (p, h) q) e
