-- The trial of ranges by structure is the trial of intervals of the model, wherever an expression has a kind.
use Rattle.std.proofs.Common.{◌≡◌, ℕ, zero, suc, pos, ◌+◌, ◌-◌, Bool, true, false, ◌&&◌, if◌then◌else◌, List, ◌∷◌, Option, Some, None, Ok, Err, neg_ℤ, slice_get, refl, ap, ◌∙◌, sym, subst, arith, add-zero}
use Rattle.decimal.specs.Rounding.{raised, at_scale, divided}
use Rattle.term_model.specs.declared.terms.NumOp.{NumOp}
use Rattle.term_model.specs.declared.terms.NumOp.TheVariants.{Plus, Minus, Times, Min, Max}
use Rattle.term_model.specs.declared.values.Kind.{Kind}
use Rattle.term_model.specs.declared.values.Kind.TheVariants.{Truth, Number}
use Rattle.term_model.specs.Declarations.{Declarations}
use Rattle.term_model.specs.Terms.{Expression, Lit, Yes, Var, Obs, Neg, Num, Cmp, Not, Logic, Cond, Widen, Round, Div, Acc}
use Rattle.term_model.specs.Environments.{label_of}
use Rattle.term_model.specs.Kinds.{kind_of, kind_of_label, scale_of, scale_of_kind, scale_of_op, joined, on_truth}
use Rattle.term_model.specs.Values.{kind_or}
use Rattle.term_model.specs.Sizes.{nodes}
use Rattle.term_model.specs.Bounds.{Interval, Range, range_kinds, single, lifted, swapped, hull, corners, aligned, on_intervals, of_op, interval_of_label, interval_of_range, fits, fit_aligned, fit_operands, fit_divided}
use Rattle.term_core.specs.Trying.{then_do, moved}
use Rattle.term_model.proofs.BoundTrials.{Tried, then_try, checked, each_day, tried}
use Rattle.interval_check.specs.Intervals.{fitting}
use Rattle.interval_check.specs.RangeTrials.{Answer, Operands, ranged, truth, scale_in, both_fit, combined, compared, either, quotient, range_or_truth, operands, days_tried, day_tried, widened, rounded, range_tried}
use Rattle.interval_check.proofs.KindsFound.{one_number, two_numbers, truth_then, branches, days, has_kind, scale_is}
use Rattle.interval_check.proofs.RangeKinds.{kind_is_found, days_kind}

-- the interval of a range, or the number of the node at fault where the first has number k
abbrev pub from : ℕ → Answer → Tried
from k (Ok r) = Ok r.interval
from k (Err j) = Err (k + j)

here : (k : ℕ) → ◌≡◌ {A = Tried} (Err k) (Err (k + 0))
here k = ap (λ (n : ℕ). Err n) (sym (add-zero k))

-- Nodes.

fit_node : (b : Bool) (k : ℕ) (i : Interval) (w : Kind) → checked b k i ≡ from k (ranged (if b then Some i else None) w)
fit_node true k i w = refl
fit_node false k i w = here k

shared_node : (b c : Bool) (i j : Interval) (f : Interval → Interval → Interval) (k : ℕ) (w : Kind) → checked ((b && c) && fits (f i j)) k (f i j) ≡ from k (then_do (both_fit (if b then Some i else None) (if c then Some j else None)) (λ p. ranged (fitting (f p.left p.right)) w))
shared_node true true i j f k w = fit_node (fits (f i j)) k (f i j) w
shared_node true false i j f k w = here k
shared_node false c i j f k w = here k

compared_node : (b c : Bool) (i j : Interval) (k : ℕ) → checked (b && c) k (single (pos 0)) ≡ from k (then_do (both_fit (if b then Some i else None) (if c then Some j else None)) (λ _. Ok truth))
compared_node true true i j k = refl
compared_node true false i j k = here k
compared_node false c i j k = here k

tested_node : (b : Bool) (k : ℕ) (i : Interval) (w : Kind) → checked (b && fits i) k i ≡ from k (if b then ranged (fitting i) w else Err 0)
tested_node true k i w = fit_node (fits i) k i w
tested_node false k i w = here k

num_node : (op : NumOp) (x y : Range) (k : ℕ) → checked (fit_operands op (scale_in x) x.interval (scale_in y) y.interval && fits (of_op op (scale_in x) x.interval (scale_in y) y.interval)) k (of_op op (scale_in x) x.interval (scale_in y) y.interval) ≡ from k (combined op x y)
num_node Times x y k = fit_node (fits (on_intervals Times x.interval y.interval)) k (on_intervals Times x.interval y.interval) _
num_node Plus x y k =
    let i = aligned (scale_in x) (scale_in y) x.interval in
    let j = aligned (scale_in y) (scale_in x) y.interval in
    shared_node (fits i) (fits j) i j (on_intervals Plus) k _
num_node Minus x y k =
    let i = aligned (scale_in x) (scale_in y) x.interval in
    let j = aligned (scale_in y) (scale_in x) y.interval in
    shared_node (fits i) (fits j) i j (on_intervals Minus) k _
num_node Min x y k =
    let i = aligned (scale_in x) (scale_in y) x.interval in
    let j = aligned (scale_in y) (scale_in x) y.interval in
    shared_node (fits i) (fits j) i j (on_intervals Min) k _
num_node Max x y k =
    let i = aligned (scale_in x) (scale_in y) x.interval in
    let j = aligned (scale_in y) (scale_in x) y.interval in
    shared_node (fits i) (fits j) i j (on_intervals Max) k _

-- Parts, and the node over them.

one_stands : (k m n : ℕ) (a : Answer) (t : Tried) (go : Interval → Tried) (step : Range → Answer) → n ≡ k + m → t ≡ from n a → ((r : Range) → a ≡ Ok r → go r.interval ≡ from k (step r)) → then_try t go ≡ from k (then_do (moved m a) step)
one_stands k m n (Ok r) t go step q h f = ap (λ (u : Tried). then_try u go) h ∙ f r refl
one_stands k m n (Err j) t go step q h f =
    let same : n + j ≡ k + (m + j) = omega (arith, q) in
    ap (λ (u : Tried). then_try u go) h ∙ ap (λ (i : ℕ). Err i) same

two_stands : (k n : ℕ) (a b : Answer) (t u : Tried) (go : Interval → Interval → Tried) (step : Operands → Answer) → t ≡ from (k + 1) a → u ≡ from (k + 1 + n) b → ((x y : Range) → a ≡ Ok x → b ≡ Ok y → go x.interval y.interval ≡ from k (step (record { left = x; right = y }))) → then_try t (λ i. then_try u (λ j. go i j)) ≡ from k (then_do (operands n a b) step)
two_stands k n (Ok x) (Ok y) t u go step h g f =
    ap (λ (v : Tried). then_try v (λ i. then_try u (λ j. go i j))) h ∙ ap (λ (v : Tried). then_try v (λ j. go x.interval j)) g ∙ f x y refl refl
two_stands k n (Ok x) (Err l) t u go step h g f =
    let same : k + 1 + n + l ≡ k + (1 + n + l) = omega arith in
    ap (λ (v : Tried). then_try v (λ i. then_try u (λ j. go i j))) h ∙ ap (λ (v : Tried). then_try v (λ j. go x.interval j)) g ∙ ap (λ (i : ℕ). Err i) same
two_stands k n (Err l) b t u go step h g f =
    let same : k + 1 + l ≡ k + (1 + l) = omega arith in
    ap (λ (v : Tried). then_try v (λ i. then_try u (λ j. go i j))) h ∙ ap (λ (i : ℕ). Err i) same

two_after : (k m n : ℕ) (a b : Answer) (t u : Tried) (go : Interval → Interval → Tried) (step : Operands → Answer) → t ≡ from (k + 1 + m) a → u ≡ from (k + 1 + m + n) b → ((x y : Range) → a ≡ Ok x → b ≡ Ok y → go x.interval y.interval ≡ from k (step (record { left = x; right = y }))) → then_try t (λ i. then_try u (λ j. go i j)) ≡ from k (then_do (moved m (operands n a b)) step)
two_after k m n (Ok x) (Ok y) t u go step h g f =
    ap (λ (v : Tried). then_try v (λ i. then_try u (λ j. go i j))) h ∙ ap (λ (v : Tried). then_try v (λ j. go x.interval j)) g ∙ f x y refl refl
two_after k m n (Ok x) (Err l) t u go step h g f =
    let same : k + 1 + m + n + l ≡ k + (m + (1 + n + l)) = omega arith in
    ap (λ (v : Tried). then_try v (λ i. then_try u (λ j. go i j))) h ∙ ap (λ (v : Tried). then_try v (λ j. go x.interval j)) g ∙ ap (λ (i : ℕ). Err i) same
two_after k m n (Err l) b t u go step h g f =
    let same : k + 1 + m + l ≡ k + (m + (1 + l)) = omega arith in
    ap (λ (v : Tried). then_try v (λ i. then_try u (λ j. go i j))) h ∙ ap (λ (i : ℕ). Err i) same

-- The days of an accumulator.

each_stopped : (n : ℕ) (step : Interval → Tried) (j : ℕ) → each_day n step (Err j) ≡ Err j
each_stopped zero step j = refl
each_stopped (suc n) step j = ap (λ (t : Tried). then_try t step) (each_stopped n step j)

next_day : (k : ℕ) (a : Answer) (step : Interval → Tried) (go : Range → Answer) → ((r : Range) → a ≡ Ok r → step r.interval ≡ from k (go r)) → then_try (from k a) step ≡ from k (then_do a go)
next_day k (Ok r) step go f = f r refl
next_day k (Err j) step go f = refl

days_stand : (n k : ℕ) (w : Kind) (step : Interval → Tried) (body : List Range → Answer) (g : List Range) (r : Range) → r.kind ≡ w → ((v : Range) → v.kind ≡ w → step v.interval ≡ from k (day_tried body g v)) → each_day n step (Ok r.interval) ≡ from k (days_tried n (day_tried body g) r)
days_stand zero k w step body g r h f = refl
days_stand (suc n) k w step body g r h f =
    ap (λ (t : Tried). then_try t step) (days_stand n k w step body g r h f)
    ∙ next_day k (days_tried n (day_tried body g) r) step (day_tried body g) (λ v e. f v (days_kind n body g r v e ∙ h))

-- an answer has the scale of the model
scale_found : (d : Declarations) (e : Expression) (g : List Range) (w : Kind) (r : Range) → kind_of d e (range_kinds g) ≡ Some w → range_tried d e g ≡ Ok r → scale_of d e (range_kinds g) ≡ scale_in r
scale_found d e g w r h q =
    scale_is d e (range_kinds g) w h
    ∙ ap (λ (k : Kind). scale_of_kind k) (sym (kind_is_found d e g r q ∙ has_kind d e (range_kinds g) w h))

abbrev pub RangeStands : Declarations → Expression → Type 0
RangeStands d e =
    (g : List Range) (k : ℕ) (w : Kind) → kind_of d e (range_kinds g) ≡ Some w → tried d e g k ≡ from k (range_tried d e g)

name_stands : (o : Option Range) (k : ℕ) → checked (fits (interval_of_range o)) k (interval_of_range o) ≡ from k (ranged (fitting (range_or_truth o).interval) (range_or_truth o).kind)
name_stands None k = refl
name_stands (Some r) k = fit_node (fits r.interval) k r.interval r.kind

-- one day of an accumulator whose name has kind w
day_stands : (d : Declarations) (body : Expression) (g : List Range) (k : ℕ) (w y : Kind) (v : Range) → RangeStands d body → kind_of d body (w ∷ range_kinds g) ≡ Some y → v.kind ≡ w → then_try (tried d body (record { interval = v.interval; kind = w } ∷ g) (k + 1)) (λ i. checked (fits (lifted (λ m. raised m (scale_of_kind w - scale_of d body (w ∷ range_kinds g))) i)) k (lifted (λ m. raised m (scale_of_kind w - scale_of d body (w ∷ range_kinds g))) i)) ≡ from k (day_tried (λ h. range_tried d body h) g v)
day_stands d body g k w y v hb e hv =
    let ks = range_kinds g in
    let G : Kind → ℕ → Interval → Tried = λ j s i. checked (fits (lifted (λ m. raised m (scale_of_kind j - s)) i)) k (lifted (λ m. raised m (scale_of_kind j - s)) i) in
    let known : kind_of d body (v.kind ∷ ks) ≡ Some y = subst (λ (j : Kind). kind_of d body (j ∷ ks) ≡ Some y) (sym hv) e in
    ap (λ (j : Kind). then_try (tried d body (record { interval = v.interval; kind = j } ∷ g) (k + 1)) (λ i. G j (scale_of d body (j ∷ ks)) i)) (sym hv)
    ∙ one_stands k 1 (k + 1) (range_tried d body (v ∷ g)) (tried d body (v ∷ g) (k + 1)) (λ i. G v.kind (scale_of d body (v.kind ∷ ks)) i) (widened v.kind) refl (hb (v ∷ g) (k + 1) y known)
    (λ r q. ap (λ (s : ℕ). G v.kind s r.interval) (scale_found d body (v ∷ g) y r known q)
    ∙ fit_node (fits (lifted (λ m. raised m (scale_of_kind v.kind - scale_in r)) r.interval)) k (lifted (λ m. raised m (scale_of_kind v.kind - scale_in r)) r.interval) v.kind)

abbrev pub day_of : Declarations → Expression → List Range → ℕ → Kind → Interval → Tried
day_of d body g k j i =
    then_try (tried d body (record { interval = i; kind = j } ∷ g) (k + 1)) (λ x. checked (fits (lifted (λ m. raised m (scale_of_kind j - scale_of d body (j ∷ range_kinds g))) x)) k (lifted (λ m. raised m (scale_of_kind j - scale_of d body (j ∷ range_kinds g))) x))

acc_from : (d : Declarations) (body : Expression) (n : ℕ) (g : List Range) (k : ℕ) (w y : Kind) (a : Answer) → RangeStands d body → kind_of d body (w ∷ range_kinds g) ≡ Some y → ((r : Range) → a ≡ Ok r → r.kind ≡ w) → each_day n (day_of d body g k w) (from (k + 1 + nodes body) a) ≡ from k (then_do (moved (1 + nodes body) a) (λ r. days_tried n (day_tried (λ h. range_tried d body h) g) r))
acc_from d body n g k w y (Ok r) hb e kept =
    days_stand n k w (day_of d body g k w) (λ h. range_tried d body h) g r (kept r refl) (λ v hv. day_stands d body g k w y v hb e hv)
acc_from d body n g k w y (Err j) hb e kept =
    let same : k + 1 + nodes body + j ≡ k + (1 + nodes body + j) = omega arith in
    each_stopped n (day_of d body g k w) (k + 1 + nodes body + j) ∙ ap (λ (i : ℕ). Err i) same

acc_stands : (d : Declarations) (body : Expression) (n : ℕ) (first : Expression) → RangeStands d body → RangeStands d first → RangeStands d (Acc body n first)
acc_stands d body n first hb hf g k w e =
    let ks = range_kinds g in
    let p = days (kind_of d first ks) (λ j. kind_of d body (j ∷ ks)) w e in
    let same : kind_or (kind_of d first ks) ≡ w = ap (λ (o : Option Kind). kind_or o) p.first in
    ap (λ (j : Kind). each_day n (day_of d body g k j) (tried d first g (k + 1 + nodes body))) same
    ∙ ap (λ (t : Tried). each_day n (day_of d body g k w) t) (hf g (k + 1 + nodes body) w p.first)
    ∙ acc_from d body n g k w p.body_kind (range_tried d first g) hb p.body (λ r q. kind_is_found d first g r q ∙ has_kind d first ks w p.first)

pub range_stands : (d : Declarations) (e : Expression) → RangeStands d e
range_stands d (Lit m s) g k w e = fit_node (fits (single m)) k (single m) (Number s)
range_stands d (Yes b) g k w e = refl
range_stands d (Var back) g k w e = name_stands (slice_get g back) k
range_stands d (Obs l t) g k w e =
    fit_node (fits (interval_of_label (label_of d l))) k (interval_of_label (label_of d l)) (kind_or (kind_of_label (label_of d l)))
range_stands d (Neg x) g k w e =
    let p = one_number (λ s. Number s) (kind_of d x (range_kinds g)) w e in
    one_stands k 1 (k + 1) (range_tried d x g) (tried d x g (k + 1)) _ _ refl (range_stands d x g (k + 1) (Number p.scale) p.operand)
    (λ r q. fit_node (fits (lifted neg_ℤ (swapped r.interval))) k (lifted neg_ℤ (swapped r.interval)) (Number (scale_in r)))
range_stands d (Num op a b) g k w e =
    let ks = range_kinds g in
    let p = two_numbers (λ s t. Number (scale_of_op op s t)) (kind_of d a ks) (kind_of d b ks) w e in
    let G : ℕ → ℕ → Interval → Interval → Tried = λ s u i j. checked (fit_operands op s i u j && fits (of_op op s i u j)) k (of_op op s i u j) in
    two_stands k (nodes a) (range_tried d a g) (range_tried d b g) (tried d a g (k + 1)) (tried d b g (k + 1 + nodes a)) (λ i j. G (scale_of d a ks) (scale_of d b ks) i j) (λ o. combined op o.left o.right) (range_stands d a g (k + 1) (Number p.left_scale) p.left) (range_stands d b g (k + 1 + nodes a) (Number p.right_scale) p.right)
    (λ x y q r. ap (λ (s : ℕ). G s (scale_of d b ks) x.interval y.interval) (scale_found d a g (Number p.left_scale) x p.left q)
    ∙ ap (λ (u : ℕ). G (scale_in x) u x.interval y.interval) (scale_found d b g (Number p.right_scale) y p.right r)
    ∙ num_node op x y k)
range_stands d (Cmp op a b) g k w e =
    let ks = range_kinds g in
    let p = two_numbers (λ s t. Truth) (kind_of d a ks) (kind_of d b ks) w e in
    let G : ℕ → ℕ → Interval → Interval → Tried = λ s u i j. checked (fit_aligned s i u j) k (single (pos 0)) in
    two_stands k (nodes a) (range_tried d a g) (range_tried d b g) (tried d a g (k + 1)) (tried d b g (k + 1 + nodes a)) (λ i j. G (scale_of d a ks) (scale_of d b ks) i j) (λ o. compared o.left o.right) (range_stands d a g (k + 1) (Number p.left_scale) p.left) (range_stands d b g (k + 1 + nodes a) (Number p.right_scale) p.right)
    (λ x y q r. ap (λ (s : ℕ). G s (scale_of d b ks) x.interval y.interval) (scale_found d a g (Number p.left_scale) x p.left q)
    ∙ ap (λ (u : ℕ). G (scale_in x) u x.interval y.interval) (scale_found d b g (Number p.right_scale) y p.right r)
    ∙ compared_node (fits (aligned (scale_in x) (scale_in y) x.interval)) (fits (aligned (scale_in y) (scale_in x) y.interval)) (aligned (scale_in x) (scale_in y) x.interval) (aligned (scale_in y) (scale_in x) y.interval) k)
range_stands d (Not x) g k w e =
    let p = truth_then (kind_of d x (range_kinds g)) (Some Truth) w e in
    one_stands k 1 (k + 1) (range_tried d x g) (tried d x g (k + 1)) _ _ refl (range_stands d x g (k + 1) Truth p.first) (λ r q. refl)
range_stands d (Logic op a b) g k w e =
    let ks = range_kinds g in
    let p = truth_then (kind_of d a ks) (on_truth (kind_of d b ks) (Some Truth)) w e in
    let q = truth_then (kind_of d b ks) (Some Truth) w p.rest in
    two_stands k (nodes a) (range_tried d a g) (range_tried d b g) (tried d a g (k + 1)) (tried d b g (k + 1 + nodes a)) (λ i j. Ok (single (pos 0))) (λ _. Ok truth) (range_stands d a g (k + 1) Truth p.first) (range_stands d b g (k + 1 + nodes a) Truth q.first) (λ x y u v. refl)
range_stands d (Cond t a b) g k w e =
    let ks = range_kinds g in
    let p = truth_then (kind_of d t ks) (joined (kind_of d a ks) (kind_of d b ks)) w e in
    let q = branches (kind_of d a ks) (kind_of d b ks) w p.rest in
    let G : ℕ → ℕ → Interval → Interval → Tried = λ s u i j. checked (fit_aligned s i u j && fits (hull (aligned s u i) (aligned u s j))) k (hull (aligned s u i) (aligned u s j)) in
    one_stands k 1 (k + 1) (range_tried d t g) (tried d t g (k + 1)) _ _ refl (range_stands d t g (k + 1) Truth p.first)
    (λ z o. two_after k (nodes t) (nodes a) (range_tried d a g) (range_tried d b g) (tried d a g (k + 1 + nodes t)) (tried d b g (k + 1 + nodes t + nodes a)) (λ i j. G (scale_of d a ks) (scale_of d b ks) i j) (λ r. either r.left r.right) (range_stands d a g (k + 1 + nodes t) q.yes_kind q.yes) (range_stands d b g (k + 1 + nodes t + nodes a) q.no_kind q.no)
    (λ x y u v. ap (λ (s : ℕ). G s (scale_of d b ks) x.interval y.interval) (scale_found d a g q.yes_kind x q.yes u)
    ∙ ap (λ (l : ℕ). G (scale_in x) l x.interval y.interval) (scale_found d b g q.no_kind y q.no v)
    ∙ shared_node (fits (aligned (scale_in x) (scale_in y) x.interval)) (fits (aligned (scale_in y) (scale_in x) y.interval)) (aligned (scale_in x) (scale_in y) x.interval) (aligned (scale_in y) (scale_in x) y.interval) hull k _))
range_stands d (Widen s x) g k w e =
    let p = one_number (λ _. Number s) (kind_of d x (range_kinds g)) w e in
    let G : ℕ → Interval → Tried = λ u i. checked (fits (lifted (λ m. raised m (s - u)) i)) k (lifted (λ m. raised m (s - u)) i) in
    one_stands k 1 (k + 1) (range_tried d x g) (tried d x g (k + 1)) (λ i. G (scale_of d x (range_kinds g)) i) (widened (Number s)) refl (range_stands d x g (k + 1) (Number p.scale) p.operand)
    (λ r q. ap (λ (u : ℕ). G u r.interval) (scale_found d x g (Number p.scale) r p.operand q)
    ∙ fit_node (fits (lifted (λ m. raised m (s - scale_in r)) r.interval)) k (lifted (λ m. raised m (s - scale_in r)) r.interval) (Number s))
range_stands d (Round mode s x) g k w e =
    let p = one_number (λ _. Number s) (kind_of d x (range_kinds g)) w e in
    let G : ℕ → Interval → Tried = λ u i. checked (fits (lifted (λ m. at_scale mode m u s) i)) k (lifted (λ m. at_scale mode m u s) i) in
    one_stands k 1 (k + 1) (range_tried d x g) (tried d x g (k + 1)) (λ i. G (scale_of d x (range_kinds g)) i) (rounded mode s) refl (range_stands d x g (k + 1) (Number p.scale) p.operand)
    (λ r q. ap (λ (u : ℕ). G u r.interval) (scale_found d x g (Number p.scale) r p.operand q)
    ∙ fit_node (fits (lifted (λ m. at_scale mode m (scale_in r) s) r.interval)) k (lifted (λ m. at_scale mode m (scale_in r) s) r.interval) (Number s))
range_stands d (Div mode s a b) g k w e =
    let ks = range_kinds g in
    let p = two_numbers (λ _ _. Number s) (kind_of d a ks) (kind_of d b ks) w e in
    let G : ℕ → ℕ → Interval → Interval → Tried = λ u v i j. checked (fit_divided u i v j s && fits (corners (λ m n. divided mode m u n v s) i j)) k (corners (λ m n. divided mode m u n v s) i j) in
    two_stands k (nodes a) (range_tried d a g) (range_tried d b g) (tried d a g (k + 1)) (tried d b g (k + 1 + nodes a)) (λ i j. G (scale_of d a ks) (scale_of d b ks) i j) (λ o. quotient mode s o.left o.right) (range_stands d a g (k + 1) (Number p.left_scale) p.left) (range_stands d b g (k + 1 + nodes a) (Number p.right_scale) p.right)
    (λ x y q r. ap (λ (u : ℕ). G u (scale_of d b ks) x.interval y.interval) (scale_found d a g (Number p.left_scale) x p.left q)
    ∙ ap (λ (v : ℕ). G (scale_in x) v x.interval y.interval) (scale_found d b g (Number p.right_scale) y p.right r)
    ∙ tested_node (fit_divided (scale_in x) x.interval (scale_in y) y.interval s) k (corners (λ m n. divided mode m (scale_in x) n (scale_in y) s) x.interval y.interval) (Number s))
range_stands d (Acc body n first) g k w e = acc_stands d body n first (range_stands d body) (range_stands d first) g k w e
