-- The value of each expression lies in its interval, where the rule on bounds holds at each of its nodes and each name
-- has an entry within its range.
use Rattle.std.proofs.Common.{◌≡◌, ℕ, zero, suc, ◌-◌, ◌<◌, max, ℤ, pos, ◌+ℤ◌, ◌-ℤ◌, ◌≤ℤ◌, Bool, true, false, if◌then◌else◌, List, [], ◌∷◌, Option, Some, None, slice_get, refl, ap, sym, subst, ◌∙◌, arith}
use Rattle.std.specs.Prelude.{int_le, nat_le}
use Rattle.std.proofs.lemmas.Bool.{and_parts}
use Rattle.std.proofs.lemmas.Int.{ints}
use Rattle.decimal.specs.Rounding.{raised, at_scale, divided}
use Rattle.term_model.specs.Declarations.{Declarations}
use Rattle.term_model.specs.declared.name.Name.{Name}
use Rattle.term_model.specs.declared.label.Label.{Label}
use Rattle.term_model.specs.declared.label.Label.TheVariants.{Number as NumberLabel, Flag}
use Rattle.term_model.specs.declared.values.Kind.{Kind}
use Rattle.term_model.specs.declared.values.Value.{Value}
use Rattle.term_model.specs.declared.values.Value.TheVariants.{Num as Amount, Truth}
use Rattle.term_model.specs.Terms.{Expression, Lit, Yes, Var, Obs, Neg, Num, Cmp, Not, Logic, Cond, Widen, Round, Div, Acc}
use Rattle.term_model.specs.Limits.{are_labels, is_label}
use Rattle.term_model.specs.Environments.{Environment, Place, IsAdmitted, IsValueOf, held, label_of, least, value_or}
use Rattle.term_model.specs.Kinds.{kind_of, scale_of, scale_of_kind}
use Rattle.term_model.specs.Values.{Entry, kinds, num, truth, of_num, widened, kind_or, value_of, value_of_entry, days_run}
use Rattle.term_model.specs.Bounds.{Interval, Range, range_kinds, lifted, hull, aligned, of_op, interval_of_label, interval_of_range, interval_of, stepped, operands_fit, fits}
use Rattle.term_model.proofs.FlowFacts.{raised-zero}
use Rattle.interval_check.specs.Nodes.{IsBounded, range_after}
use Rattle.interval_check.specs.Within.{IsIn, AreWithin, KeepsLimits}
use Rattle.interval_check.proofs.InclusionFacts.{in_single, in_left, in_right, in_negative, in_raised, in_rounded, in_of_op, in_aligned_left, in_aligned_right}
use Rattle.interval_check.proofs.DivisionFacts.{in_quotient}
use Rattle.interval_check.proofs.TestFacts.{division_fits}

-- each name has an entry of the kind of its range, whose number lies in the interval
abbrev pub AreInside : List Range → List Entry → Type 0
AreInside [] [] = Unit {0}
AreInside (r ∷ g) (e ∷ es) = (e.kind ≡ r.kind) × IsIn r.interval (num e.value) × AreInside g es
AreInside [] (e ∷ es) = ⊥
AreInside (r ∷ g) [] = ⊥

pub inside_from : (g : List Range) (es : List Entry) → AreWithin g es → AreInside g es
inside_from [] [] h = tt
inside_from [] (e ∷ es) h = absurd h
inside_from (r ∷ g) [] h = absurd h
inside_from (r ∷ g) (e ∷ es) h = (h.0.same_kind, h.0.inside, inside_from g es h.1)

pub same_kinds : (g : List Range) (es : List Entry) → AreInside g es → range_kinds g ≡ kinds es
same_kinds [] [] h = refl
same_kinds [] (e ∷ es) h = absurd h
same_kinds (r ∷ g) [] h = absurd h
same_kinds (r ∷ g) (e ∷ es) h =
    ap (λ (k : Kind). k ∷ range_kinds g) (sym h.0) ∙ ap (λ (ks : List Kind). e.kind ∷ ks) (same_kinds g es h.2)

name_lies : (g : List Range) (es : List Entry) (back : ℕ) → AreInside g es → IsIn (interval_of_range (slice_get g back)) (num (value_of_entry (slice_get es back)))
name_lies [] [] back h = in_single (pos 0)
name_lies [] (e ∷ es) back h = absurd h
name_lies (r ∷ g) [] back h = absurd h
name_lies (r ∷ g) (e ∷ es) zero h = h.1
name_lies (r ∷ g) (e ∷ es) (suc back) h = name_lies g es back h.2

-- observables

pub label_keeps : (entries : List (Name × Label)) (l : ℕ) (label : Label) → are_labels entries ≡ true → elim (slice_get entries l) [ Some e ↦ Some e.1 | None ↦ None ] ≡ Some label → is_label label ≡ true
label_keeps [] l label h e = absurd (cc)
label_keeps (entry ∷ entries) zero label h e =
    let same : entry.1 ≡ label = cc in
    subst (λ (x : Label). is_label x ≡ true) same (and_parts (is_label entry.1) (are_labels entries) h).0
label_keeps (entry ∷ entries) (suc l) label h e = label_keeps entries l label (and_parts (is_label entry.1) (are_labels entries) h).1 e

pub in_order : (low high : ℤ) → int_le low high ≡ true → low ≤ℤ high
in_order low high h = grind (arith, ints)

least_lies : (o : Option Label) → ((label : Label) → o ≡ Some label → is_label label ≡ true) → IsIn (interval_of_label o) (num (least o))
least_lies None h = in_single (pos 0)
least_lies (Some Flag) h = in_single (pos 0)
least_lies (Some (NumberLabel scale low high)) h =
    let limits = and_parts (nat_le scale 18) _ (h (NumberLabel scale low high) refl) in
    let order = and_parts (int_le low high) _ limits.1 in
    record { low = omega (arith, ints); high = in_order low high order.0 }

held_lies : (o : Option Label) (v : Value) → IsValueOf o v → IsIn (interval_of_label o) (num v)
held_lies None v h = absurd h
held_lies (Some Flag) (Truth b) h = in_single (pos 0)
held_lies (Some Flag) (Amount m) h = absurd h
held_lies (Some (NumberLabel scale low high)) (Amount m) h = record { low = h.0; high = h.1 }
held_lies (Some (NumberLabel scale low high)) (Truth b) h = absurd h

observed_lies : (label : Option Label) (o : Option Value) → ((x : Label) → label ≡ Some x → is_label x ≡ true) → ((v : Value) → o ≡ Some v → IsValueOf label v) → IsIn (interval_of_label label) (num (value_or o (least label)))
observed_lies label None limits h = least_lies label limits
observed_lies label (Some v) limits h = held_lies label v (h v refl)

-- values at a greater scale

pub num_widened : (i j : ℕ) (v : Value) → num (widened i j v) ≡ raised (num v) (j - i)
num_widened i j (Amount m) = refl
num_widened i j (Truth b) = sym (raised-zero (j - i))

widened_lies : (i s : ℕ) (k : Interval) (v : Value) → IsIn k (num v) → IsIn (lifted (λ m. raised m (s - i)) k) (num (widened i s v))
widened_lies i s k v h =
    subst (IsIn (lifted (λ m. raised m (s - i)) k)) (sym (num_widened i s v)) (in_raised k (s - i) (num v) h)

chosen_lies : (t : Bool) (i j : ℕ) (k l : Interval) (v w : Value) → IsIn k (num v) → IsIn l (num w) → IsIn (hull (aligned i j k) (aligned j i l)) (num (if t then widened i (max i j) v else widened j (max i j) w))
chosen_lies true i j k l v w h g =
    in_left (aligned i j k) (aligned j i l) _ (subst (IsIn (aligned i j k)) (sym (num_widened i (max i j) v)) (in_aligned_left i j k (num v) h))
chosen_lies false i j k l v w h g =
    in_right (aligned i j k) (aligned j i l) _ (subst (IsIn (aligned j i l)) (sym (num_widened j (max i j) w)) (in_aligned_right i j l (num w) g))

-- the days of an accumulator
pub days_lie : (n : ℕ) (up : Interval → Interval) (step : ℕ → Value → Value) (k : Interval) (v : Value) → IsIn k (num v) → ((i : ℕ) (x : Value) → i < n → IsIn (stepped i up k) (num x) → IsIn (up (stepped i up k)) (num (step (suc i) x))) → IsIn (stepped n up k) (num (days_run n step v))
days_lie zero up step k v h each = h
days_lie (suc n) up step k v h each =
    each n (days_run n step v) (omega arith) (days_lie n up step k v h (λ i x l p. each i x (omega arith) p))

abbrev pub ValueLies : Declarations → Expression → Type 0
ValueLies d e =
    (g : List Range) (es : List Entry) (env : Environment) (f : ℤ) → IsBounded d e g → AreInside g es → IsAdmitted d env → IsIn (interval_of d e g) (num (value_of d e es env f))

-- one round of an accumulator, of its body in the round before
pub round_lies : (d : Declarations) (body : Expression) (i : ℕ) (first : Expression) (g : List Range) (es : List Entry) (v : Value) → AreInside g es → IsIn (interval_of d body (range_after d body i first g ∷ g)) (num v) → IsIn (interval_of d (Acc body (suc i) first) g) (num (widened (scale_of d body (kind_or (kind_of d first (kinds es)) ∷ kinds es)) (scale_of_kind (kind_or (kind_of d first (kinds es)))) v))
round_lies d body i first g es v inside h =
    subst (λ (ks : List Kind). IsIn (interval_of d (Acc body (suc i) first) g) (num (widened (scale_of d body (kind_or (kind_of d first ks) ∷ ks)) (scale_of_kind (kind_or (kind_of d first ks))) v))) (same_kinds g es inside)
    (widened_lies (scale_of d body (kind_or (kind_of d first (range_kinds g)) ∷ range_kinds g)) (scale_of_kind (kind_or (kind_of d first (range_kinds g)))) (interval_of d body (range_after d body i first g ∷ g)) v h)

-- a name's entry in an accumulator's body
pub inside_round : (d : Declarations) (body : Expression) (i : ℕ) (first : Expression) (g : List Range) (es : List Entry) (x : Value) → AreInside g es → IsIn (interval_of d (Acc body i first) g) (num x) → AreInside (range_after d body i first g ∷ g) (record { value = x; kind = kind_or (kind_of d first (kinds es)) } ∷ es)
inside_round d body i first g es x inside h =
    (ap (λ (ks : List Kind). kind_or (kind_of d first ks)) (sym (same_kinds g es inside)), h, inside)

pub values_lie : (d : Declarations) → KeepsLimits d → (e : Expression) → ValueLies d e
values_lie d limits (Lit m s) g es env f h inside admitted = in_single m
values_lie d limits (Yes b) g es env f h inside admitted = in_single (pos 0)
values_lie d limits (Var back) g es env f h inside admitted = name_lies g es back inside
values_lie d limits (Obs l t) g es env f h inside admitted =
    let q : Place = record { label = l; day = f +ℤ t } in
    observed_lies (label_of d l) (held env q) (λ label e. label_keeps d.labels l label limits e) (admitted q)
values_lie d limits (Neg e) g es env f h inside admitted =
    in_negative (interval_of d e g) _ (values_lie d limits e g es env f h.0 inside admitted)
values_lie d limits (Num op a b) g es env f h inside admitted =
    let i = scale_of d a (range_kinds g) in
    let j = scale_of d b (range_kinds g) in
    let x = num (value_of d a es env f) in
    let y = num (value_of d b es env f) in
    subst (λ (ks : List Kind). IsIn (of_op op i (interval_of d a g) j (interval_of d b g)) (of_num op (scale_of d a ks) x (scale_of d b ks) y)) (same_kinds g es inside)
    (in_of_op op i j (interval_of d a g) (interval_of d b g) x y (values_lie d limits a g es env f h.0 inside admitted) (values_lie d limits b g es env f h.1 inside admitted))
values_lie d limits (Cmp op a b) g es env f h inside admitted = in_single (pos 0)
values_lie d limits (Not e) g es env f h inside admitted = in_single (pos 0)
values_lie d limits (Logic op a b) g es env f h inside admitted = in_single (pos 0)
values_lie d limits (Cond t a b) g es env f h inside admitted =
    let i = scale_of d a (range_kinds g) in
    let j = scale_of d b (range_kinds g) in
    let v = value_of d a es env f in
    let w = value_of d b es env f in
    subst (λ (ks : List Kind). IsIn (hull (aligned i j (interval_of d a g)) (aligned j i (interval_of d b g))) (num (if truth (value_of d t es env f) then widened (scale_of d a ks) (max (scale_of d a ks) (scale_of d b ks)) v else widened (scale_of d b ks) (max (scale_of d a ks) (scale_of d b ks)) w))) (same_kinds g es inside)
    (chosen_lies (truth (value_of d t es env f)) i j (interval_of d a g) (interval_of d b g) v w (values_lie d limits a g es env f h.1 inside admitted) (values_lie d limits b g es env f h.2 inside admitted))
values_lie d limits (Widen s e) g es env f h inside admitted =
    subst (λ (ks : List Kind). IsIn (interval_of d (Widen s e) g) (num (widened (scale_of d e ks) s (value_of d e es env f)))) (same_kinds g es inside)
    (widened_lies (scale_of d e (range_kinds g)) s (interval_of d e g) (value_of d e es env f) (values_lie d limits e g es env f h.0 inside admitted))
values_lie d limits (Round mode s e) g es env f h inside admitted =
    subst (λ (ks : List Kind). IsIn (interval_of d (Round mode s e) g) (at_scale mode (num (value_of d e es env f)) (scale_of d e ks) s)) (same_kinds g es inside)
    (in_rounded mode (interval_of d e g) (scale_of d e (range_kinds g)) s _ (values_lie d limits e g es env f h.0 inside admitted))
values_lie d limits (Div mode s a b) g es env f h inside admitted =
    let i = scale_of d a (range_kinds g) in
    let j = scale_of d b (range_kinds g) in
    let x = num (value_of d a es env f) in
    let y = num (value_of d b es env f) in
    let tests = and_parts (operands_fit d g (Div mode s a b)) (fits (interval_of d (Div mode s a b) g)) h.2 in
    let division = division_fits i (interval_of d a g) j (interval_of d b g) s tests.0 in
    subst (λ (ks : List Kind). IsIn (interval_of d (Div mode s a b) g) (divided mode x (scale_of d a ks) y (scale_of d b ks) s)) (same_kinds g es inside)
    (in_quotient mode (interval_of d a g) (interval_of d b g) x i y j s division.sign (values_lie d limits a g es env f h.0 inside admitted) (values_lie d limits b g es env f h.1 inside admitted))
values_lie d limits (Acc body n first) g es env f h inside admitted =
    let k = kind_or (kind_of d first (kinds es)) in
    let l = kind_or (kind_of d first (range_kinds g)) in
    days_lie n (λ i. lifted (λ m. raised m (scale_of_kind l - scale_of d body (l ∷ range_kinds g))) (interval_of d body (record { interval = i; kind = l } ∷ g))) (λ i v. widened (scale_of d body (k ∷ kinds es)) (scale_of_kind k) (value_of d body (record { value = v; kind = k } ∷ es) env (f -ℤ pos n +ℤ pos i))) (interval_of d first g) (value_of d first es env (f -ℤ pos n)) (values_lie d limits first g es env (f -ℤ pos n) h.0 inside admitted)
    (λ i x less p. round_lies d body i first g es _ inside (values_lie d limits body (range_after d body i first g ∷ g) (record { value = x; kind = k } ∷ es) env (f -ℤ pos n +ℤ pos (suc i)) (h.1 i less).0 (inside_round d body i first g es x inside p) admitted))
