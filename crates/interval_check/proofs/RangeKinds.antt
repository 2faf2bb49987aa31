-- The kind of the range that the trial answers is the one that is found by structure; and that is the kind of the
-- model wherever there is one.
use Rattle.std.proofs.Common.{◌≡◌, ℕ, zero, suc, ◌+◌, ◌≤◌, Bool, true, false, if◌then◌else◌, List, [], ◌∷◌, Option, Some, None, Result, Ok, Err, slice_get, refl, ap, ◌∙◌, sym, subst}
use Rattle.term_model.specs.declared.terms.NumOp.{NumOp}
use Rattle.term_model.specs.declared.terms.NumOp.TheVariants.{Plus, Minus, Times, Min, Max}
use Rattle.term_model.specs.declared.values.Kind.{Kind}
use Rattle.term_model.specs.declared.values.Kind.TheVariants.{Number}
use Rattle.term_model.specs.Declarations.{Declarations}
use Rattle.term_model.specs.Terms.{Expression, Lit, Yes, Var, Obs, Neg, Num, Cmp, Not, Logic, Cond, Widen, Round, Div, Acc}
use Rattle.term_model.specs.Kinds.{scale_of_kind, scale_of_op}
use Rattle.term_model.specs.Values.{kind_or}
use Rattle.term_model.specs.Sizes.{nodes}
use Rattle.term_model.specs.Bounds.{Interval, Range, range_kinds, hull, on_intervals, fit_divided}
use Rattle.term_core.specs.Trying.{then_do, moved}
use Rattle.interval_check.specs.Intervals.{fitting}
use Rattle.interval_check.specs.RangeTrials.{Answer, Shared, Operands, ranged, scale_in, aligned_both, combined, either, operands, kind_of_either, range_or_truth, days_tried, day_tried, widened, range_tried, kind_found, AreScaled}

-- The answers of operators.

ranged_kind : (o : Option Interval) (k : Kind) (r : Range) → ranged o k ≡ Ok r → r.kind ≡ k
ranged_kind None k r e = absurd (cc)
ranged_kind (Some i) k r e =
    let same : record { interval = i; kind = k } ≡ r = cc in
    ap (λ (x : Range). x.kind) (sym same)

here_kind : (x r : Range) → ◌≡◌ {A = Answer} (Ok x) (Ok r) → r.kind ≡ x.kind
here_kind x r e =
    let same : x ≡ r = cc in
    ap (λ (y : Range). y.kind) (sym same)

tested_kind : (b : Bool) (o : Option Interval) (k : Kind) (r : Range) → (if b then ranged o k else Err 0) ≡ Ok r → r.kind ≡ k
tested_kind true o k r e = ranged_kind o k r e
tested_kind false o k r e = absurd (cc)

shared_kind : (s : Result Shared ℕ) (go : Shared → Option Interval) (k : Kind) (r : Range) → then_do s (λ p. ranged (go p) k) ≡ Ok r → r.kind ≡ k
shared_kind (Ok p) go k r e = ranged_kind (go p) k r e
shared_kind (Err j) go k r e = absurd (cc)

compared_kind : (s : Result Shared ℕ) (x r : Range) → then_do s (λ _. Ok x) ≡ Ok r → r.kind ≡ x.kind
compared_kind (Ok p) x r e = here_kind x r e
compared_kind (Err j) x r e = absurd (cc)

combined_kind : (op : NumOp) (s t r : Range) → combined op s t ≡ Ok r → r.kind ≡ Number (scale_of_op op (scale_in s) (scale_in t))
combined_kind Times s t r e = ranged_kind _ _ r e
combined_kind Plus s t r e = shared_kind (aligned_both s t) (λ p. fitting (on_intervals Plus p.left p.right)) _ r e
combined_kind Minus s t r e = shared_kind (aligned_both s t) (λ p. fitting (on_intervals Minus p.left p.right)) _ r e
combined_kind Min s t r e = shared_kind (aligned_both s t) (λ p. fitting (on_intervals Min p.left p.right)) _ r e
combined_kind Max s t r e = shared_kind (aligned_both s t) (λ p. fitting (on_intervals Max p.left p.right)) _ r e

-- Parts, and what comes after them.

after_part : (n : ℕ) (a : Answer) (go : Range → Answer) (r : Range) (k : Kind) → ((x : Range) → a ≡ Ok x → go x ≡ Ok r → r.kind ≡ k) → then_do (moved n a) go ≡ Ok r → r.kind ≡ k
after_part n (Ok x) go r k f e = f x refl e
after_part n (Err j) go r k f e = absurd (cc)

after_operands : (n : ℕ) (a b : Answer) (go : Operands → Answer) (r : Range) (k : Kind) → ((x y : Range) → a ≡ Ok x → b ≡ Ok y → go (record { left = x; right = y }) ≡ Ok r → r.kind ≡ k) → then_do (operands n a b) go ≡ Ok r → r.kind ≡ k
after_operands n (Ok x) (Ok y) go r k f e = f x y refl refl e
after_operands n (Ok x) (Err j) go r k f e = absurd (cc)
after_operands n (Err j) b go r k f e = absurd (cc)

after_moved : (m n : ℕ) (a b : Answer) (go : Operands → Answer) (r : Range) (k : Kind) → ((x y : Range) → a ≡ Ok x → b ≡ Ok y → go (record { left = x; right = y }) ≡ Ok r → r.kind ≡ k) → then_do (moved m (operands n a b)) go ≡ Ok r → r.kind ≡ k
after_moved m n (Ok x) (Ok y) go r k f e = f x y refl refl e
after_moved m n (Ok x) (Err j) go r k f e = absurd (cc)
after_moved m n (Err j) b go r k f e = absurd (cc)

-- a day keeps the kind
pub day_kind : (body : List Range → Answer) (g : List Range) (x r : Range) → day_tried body g x ≡ Ok r → r.kind ≡ x.kind
day_kind body g x r e = after_part 1 (body (x ∷ g)) (widened x.kind) r x.kind (λ y p q. ranged_kind _ x.kind r q) e

last_day : (body : List Range → Answer) (g : List Range) (x r : Range) (a : Answer) → ((y : Range) → a ≡ Ok y → y.kind ≡ x.kind) → then_do a (day_tried body g) ≡ Ok r → r.kind ≡ x.kind
last_day body g x r (Ok y) kept e = day_kind body g y r e ∙ kept y refl
last_day body g x r (Err j) kept e = absurd (cc)

pub days_kind : (n : ℕ) (body : List Range → Answer) (g : List Range) (x r : Range) → days_tried n (day_tried body g) x ≡ Ok r → r.kind ≡ x.kind
days_kind zero body g x r e = here_kind x r e
days_kind (suc n) body g x r e =
    last_day body g x r (days_tried n (day_tried body g) x) (λ y p. days_kind n body g x y p) e

pub name_kind : (g : List Range) (back : ℕ) → (range_or_truth (slice_get g back)).kind ≡ kind_or (slice_get (range_kinds g) back)
name_kind [] back = refl
name_kind (x ∷ g) zero = refl
name_kind (x ∷ g) (suc back) = name_kind g back

number : (x : Range) (k : Kind) → x.kind ≡ k → Number (scale_in x) ≡ Number (scale_of_kind k)
number x k e = ap (λ (j : Kind). Number (scale_of_kind j)) e

abbrev pub KindIsFound : Declarations → Expression → Type 0
KindIsFound d e = (g : List Range) (r : Range) → range_tried d e g ≡ Ok r → r.kind ≡ kind_found d e (range_kinds g)

pub kind_is_found : (d : Declarations) (e : Expression) → KindIsFound d e
kind_is_found d (Lit m s) g r e = ranged_kind _ _ r e
kind_is_found d (Yes b) g r e = here_kind _ r e
kind_is_found d (Var back) g r e = ranged_kind _ _ r e ∙ name_kind g back
kind_is_found d (Obs l t) g r e = ranged_kind _ _ r e
kind_is_found d (Neg x) g r e =
    after_part 1 (range_tried d x g) _ r _ (λ y p q. ranged_kind _ _ r q ∙ number y _ (kind_is_found d x g y p)) e
kind_is_found d (Num op a b) g r e =
    after_operands (nodes a) (range_tried d a g) (range_tried d b g) (λ p. combined op p.left p.right) r _
    (λ x y p q h. combined_kind op x y r h
    ∙ ap (λ (k : Kind). Number (scale_of_op op (scale_of_kind k) (scale_in y))) (kind_is_found d a g x p)
    ∙ ap (λ (k : Kind). Number (scale_of_op op (scale_of_kind (kind_found d a (range_kinds g))) (scale_of_kind k))) (kind_is_found d b g y q)) e
kind_is_found d (Cmp op a b) g r e =
    after_operands (nodes a) (range_tried d a g) (range_tried d b g) _ r _ (λ x y p q h. compared_kind (aligned_both x y) _ r h) e
kind_is_found d (Not x) g r e = after_part 1 (range_tried d x g) _ r _ (λ y p q. here_kind _ r q) e
kind_is_found d (Logic op a b) g r e =
    after_operands (nodes a) (range_tried d a g) (range_tried d b g) _ r _ (λ x y p q h. here_kind _ r h) e
kind_is_found d (Cond t a b) g r e =
    after_part 1 (range_tried d t g) (λ _. then_do (moved (nodes t) (operands (nodes a) (range_tried d a g) (range_tried d b g))) (λ p. either p.left p.right)) r _
    (λ z o w. after_moved (nodes t) (nodes a) (range_tried d a g) (range_tried d b g) (λ p. either p.left p.right) r _
    (λ x y p q h. shared_kind (aligned_both x y) (λ s. fitting (hull s.left s.right)) _ r h
    ∙ ap (λ (k : Kind). kind_of_either k y.kind) (kind_is_found d a g x p)
    ∙ ap (λ (k : Kind). kind_of_either (kind_found d a (range_kinds g)) k) (kind_is_found d b g y q)) w) e
kind_is_found d (Widen s x) g r e = after_part 1 (range_tried d x g) _ r _ (λ y p q. ranged_kind _ _ r q) e
kind_is_found d (Round mode s x) g r e = after_part 1 (range_tried d x g) _ r _ (λ y p q. ranged_kind _ _ r q) e
kind_is_found d (Div mode s a b) g r e =
    after_operands (nodes a) (range_tried d a g) (range_tried d b g) _ r _
    (λ x y p q h. tested_kind (fit_divided (scale_in x) x.interval (scale_in y) y.interval s) _ _ r h) e
kind_is_found d (Acc body n first) g r e =
    after_part (1 + nodes body) (range_tried d first g) (λ x. days_tried n (day_tried (λ h. range_tried d body h) g) x) r _
    (λ x p q. days_kind n (λ h. range_tried d body h) g x r q ∙ kind_is_found d first g x p) e

-- The scales that the parts of a node have.

both_there : (n : ℕ) (a b : Answer) (x y : Range) → ◌≡◌ {A = Result Operands ℕ} (Ok (record { left = x; right = y })) (operands n a b) → (a ≡ Ok x) × (b ≡ Ok y)
both_there n (Ok v) (Ok w) x y e =
    let same : ◌≡◌ {A = Operands} (record { left = x; right = y }) (record { left = v; right = w }) = cc in
    (ap (λ (p : Operands). Ok p.left) (sym same), ap (λ (p : Operands). Ok p.right) (sym same))
both_there n (Ok v) (Err j) x y e = absurd (cc)
both_there n (Err j) b x y e = absurd (cc)

pub operands_scaled : (d : Declarations) (op : NumOp) (a b : Expression) (g : List Range) (x y : Range) → ◌≡◌ {A = Result Operands ℕ} (Ok (record { left = x; right = y })) (operands (nodes a) (range_tried d a g) (range_tried d b g)) → AreScaled d (Num op a b) (range_kinds g) → scale_of_op op (scale_in x) (scale_in y) ≤ 27
operands_scaled d op a b g x y e h =
    let p = both_there (nodes a) (range_tried d a g) (range_tried d b g) x y e in
    subst (λ (k : Kind). scale_of_op op (scale_of_kind k) (scale_in y) ≤ 27) (sym (kind_is_found d a g x p.0))
    (subst (λ (k : Kind). scale_of_op op (scale_of_kind (kind_found d a (range_kinds g))) (scale_of_kind k) ≤ 27) (sym (kind_is_found d b g y p.1)) h.2)

pub found_there : (n : ℕ) (a : Answer) (x : Range) → Ok x ≡ moved n a → a ≡ Ok x
found_there n (Ok v) x e = sym e
found_there n (Err j) x e = absurd (cc)

-- the body's scales, with the kind of the start for its name
pub body_scaled : (d : Declarations) (body : Expression) (days m : ℕ) (first : Expression) (g : List Range) (x : Range) → Ok x ≡ moved m (range_tried d first g) → AreScaled d (Acc body days first) (range_kinds g) → AreScaled d body (x.kind ∷ range_kinds g)
body_scaled d body days m first g x e h =
    subst (λ (k : Kind). AreScaled d body (k ∷ range_kinds g)) (sym (kind_is_found d first g x (found_there m (range_tried d first g) x e))) h.0
