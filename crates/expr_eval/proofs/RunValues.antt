-- A value over the fixings has the kind of its expression, and is the value in each environment that extends them.
use Rattle.std.proofs.Common.{◌≡◌, ℕ, zero, suc, ℤ, pos, ◌+ℤ◌, ◌-ℤ◌, neg_ℤ, max, Bool, true, false, not, if◌then◌else◌, refl, ap, sym, ◌∙◌, Ok, Err, Some, None, Option, List, [], ◌∷◌, slice_get}
use Rattle.decimal.specs.Rounding.{at_scale, divided}
use Rattle.term_model.specs.Declarations.{Declarations}
use Rattle.term_model.specs.declared.values.Kind.{Kind}
use Rattle.term_model.specs.declared.values.Kind.TheVariants.{Truth as TruthKind, Number}
use Rattle.term_model.specs.declared.terms.LogicOp.{LogicOp}
use Rattle.term_model.specs.declared.terms.LogicOp.TheVariants.{And, Or}
use Rattle.term_model.specs.declared.values.Value.{Value}
use Rattle.term_model.specs.declared.values.Value.TheVariants.{Num as Amount, Truth}
use Rattle.term_model.specs.Terms.{Expression, Lit, Yes, Var, Obs, Neg, Num, Cmp, Not, Logic, Cond, Widen, Round, Div, Acc}
use Rattle.term_model.specs.Environments.{Environment, held, observed, value_or, least, label_of, Extends}
use Rattle.term_model.specs.Kinds.{kind_of, kind_of_label, scale_of, scale_or_zero, scale_of_kind, scale_of_op, joined}
use Rattle.term_model.specs.Values.{Entry, kinds, num, truth, of_num, of_cmp, widened, kind_or, value_of, logic_op, days_run, value_of_entry}
use Rattle.term_model.specs.Reads.{decides}
use Rattle.term_model.proofs.KindParts.{scale_either}
use Rattle.interval_check.specs.RangeTrials.{kind_found, kind_of_either}
use Rattle.interval_check.proofs.KindsFound.{OneNumber, TwoNumbers, one_number, two_numbers, truth_then, branches, days, has_kind, scale_is}
use Rattle.expr_eval.specs.declared.scratch.Held.{Held}
use Rattle.expr_eval.specs.declared.scratch.Held.TheVariants.{Known, Lacking}
use Rattle.expr_eval.specs.declared.scratch.Binding.{Binding}
use Rattle.expr_eval.specs.declared.operations.Typed.{Typed}
use Rattle.expr_eval.specs.Rooms.{kinds_of}
use Rattle.expr_eval.specs.Operations.{verdict, truth_in, at_kind, negated, combined, compared, rounded, quotient}
use Rattle.expr_eval.specs.Runs.{Answer, then_do, both_of, on_both, of_sides, days_tried, day_step, bound_to, run_of, of_binding, of_held, of_place}

abbrev pub typed : Kind → Value → Typed
typed k v = record { kind = k; value = v }

-- a known value is the entry's
abbrev pub HasValue : Held → Value → Type 0
HasValue (Known v) w = v ≡ w
HasValue (Lacking m) w = Unit {0}

-- the names have the entries' kinds and, where they are known, their values
abbrev pub HaveValues : List Binding → List Entry → Type 0
HaveValues [] [] = Unit {0}
HaveValues (b ∷ bs) (e ∷ es) = (b.kind ≡ e.kind) × HasValue b.held e.value × HaveValues bs es
HaveValues _ _ = ⊥

abbrev pub RunIsValue : Declarations → Expression → Type 0
RunIsValue d e =
    (bs : List Binding) (es : List Entry) → HaveValues bs es → (fixings env : Environment) → Extends fixings env → (f : ℤ) (k : Kind)
    → kind_of d e (kinds es) ≡ Some k → (v : Typed) → run_of d e bs fixings f ≡ Ok v → v ≡ typed k (value_of d e es env f)

pub same_kinds : (bs : List Binding) (es : List Entry) → HaveValues bs es → kinds_of bs ≡ kinds es
same_kinds [] [] s = refl
same_kinds [] (e ∷ es) s = absurd s
same_kinds (b ∷ bs) [] s = absurd s
same_kinds (b ∷ bs) (e ∷ es) s = let k = same_kinds bs es s.2 in let p = s.0 in cc

-- a name

held_value : (b : Held) (j k : Kind) (w : Value) (v : Typed) → HasValue b w → j ≡ k → of_held j b ≡ Ok v → v ≡ typed k w
held_value (Known x) j k w v h e r = cc
held_value (Lacking m) j k w v h e r = cc

name_value : (bs : List Binding) (es : List Entry) → HaveValues bs es → (n : ℕ) (k : Kind) → slice_get (kinds es) n ≡ Some k → (v : Typed) → of_binding (slice_get bs n) ≡ Ok v → v ≡ typed k (value_of_entry (slice_get es n))
name_value [] [] s n k e v h = absurd (cc)
name_value [] (x ∷ es) s n k e v h = absurd s
name_value (b ∷ bs) [] s n k e v h = absurd s
name_value (b ∷ bs) (x ∷ es) s zero k e v h =
    let p : b.kind ≡ x.kind = s.0 in
    let q : b.kind ≡ k = cc in
    held_value b.held b.kind k x.value v s.1 q h
name_value (b ∷ bs) (x ∷ es) s (suc n) k e v h = name_value bs es s.2 n k e v h

-- what is observed

place_value : (d : Declarations) (env : Environment) (j k : Kind) (o : Option Value) (l : ℕ) (t : ℤ) (v : Typed) → j ≡ k → of_place j o l t ≡ Ok v → ((w : Value) → o ≡ Some w → held env (record { label = l; day = t }) ≡ Some w) → v ≡ typed k (observed d env l t)
place_value d env j k None l t v e h x = cc
place_value d env j k (Some w) l t v e h x =
    let a : v ≡ typed k w = cc in
    a ∙ ap (λ (o : Option Value). typed k (value_or o (least (label_of d l)))) (sym (x w refl))

-- operators

pub by_one : (F : Typed → Typed) (a : Answer) (x v : Typed) → ((y : Typed) → a ≡ Ok y → y ≡ x) → then_do a (λ y. Ok (F y)) ≡ Ok v → v ≡ F x
by_one F (Ok y) x v p h = let e : v ≡ F y = cc in e ∙ ap F (p y refl)
by_one F (Err m) x v p h = cc

pub by_two : (F : Typed → Typed → Typed) (a b : Answer) (x z v : Typed) → ((y : Typed) → a ≡ Ok y → y ≡ x) → ((y : Typed) → b ≡ Ok y → y ≡ z) → on_both (both_of a b) F ≡ Ok v → v ≡ F x z
by_two F (Ok y) (Ok u) x z v p q h =
    let e : v ≡ F y u = cc in
    e ∙ ap (λ (o : Typed). F o u) (p y refl) ∙ ap (λ (o : Typed). F x o) (q u refl)
by_two F (Ok y) (Err m) x z v p q h = cc
by_two F (Err m) b x z v p q h = cc

one_typed : (kind : ℕ → Kind) (F : ℕ → Value) (o : Option Kind) (k : Kind) → (p : OneNumber kind o k) → typed (kind p.scale) (F p.scale) ≡ typed k (F (scale_or_zero o))
one_typed kind F o k p =
    ap (λ (j : Kind). typed j (F p.scale)) p.whole
    ∙ ap (λ (u : Option Kind). typed k (F (scale_or_zero u))) (sym p.operand)

two_typed : (kind : ℕ → ℕ → Kind) (F : ℕ → ℕ → Value) (o u : Option Kind) (k : Kind) → (p : TwoNumbers kind o u k) → typed (kind p.left_scale p.right_scale) (F p.left_scale p.right_scale) ≡ typed k (F (scale_or_zero o) (scale_or_zero u))
two_typed kind F o u k p =
    ap (λ (j : Kind). typed j (F p.left_scale p.right_scale)) p.whole
    ∙ ap (λ (w : Option Kind). typed k (F (scale_or_zero w) p.right_scale)) (sym p.left)
    ∙ ap (λ (w : Option Kind). typed k (F (scale_or_zero o) (scale_or_zero w))) (sym p.right)

-- a test, and then a branch

test_value : (b : Bool) (y n : Answer) (z u : Value) (k : Kind) (v : Typed) → ((x : Typed) → y ≡ Ok x → x ≡ typed k z) → ((x : Typed) → n ≡ Ok x → x ≡ typed k u) → (if b then y else n) ≡ Ok v → v ≡ typed k (if b then z else u)
test_value true y n z u k v q r h = q v h
test_value false y n z u k v q r h = r v h

by_test : (a y n : Answer) (t : Typed) (z u : Value) (k : Kind) (v : Typed) → ((x : Typed) → a ≡ Ok x → x ≡ t) → ((x : Typed) → y ≡ Ok x → x ≡ typed k z) → ((x : Typed) → n ≡ Ok x → x ≡ typed k u) → then_do a (λ x. if truth_in x then y else n) ≡ Ok v → v ≡ typed k (if truth_in t then z else u)
by_test (Err m) y n t z u k v p q r h = cc
by_test (Ok x) y n t z u k v p q r h =
    test_value (truth_in x) y n z u k v q r h ∙ ap (λ (o : Typed). typed k (if truth_in o then z else u)) (p x refl)

-- a taken branch of kind i, at the kind of both
branch_typed : (i j k : Kind) (a b : Option Kind) (w : Value) → kind_of_either i j ≡ k → a ≡ Some i → b ≡ Some j → at_kind (kind_of_either i j) (typed i w) ≡ typed k (widened (scale_or_zero a) (max (scale_or_zero a) (scale_or_zero b)) w)
branch_typed i j k a b w e p q =
    ap (λ (s : ℕ). typed (kind_of_either i j) (widened (scale_of_kind i) s w)) (scale_either i j)
    ∙ ap (λ (h : Kind). typed h (widened (scale_of_kind i) (max (scale_of_kind i) (scale_of_kind j)) w)) e
    ∙ ap (λ (o : Option Kind). typed k (widened (scale_or_zero o) (max (scale_or_zero o) (scale_of_kind j)) w)) (sym p)
    ∙ ap (λ (o : Option Kind). typed k (widened (scale_or_zero a) (max (scale_or_zero a) (scale_or_zero o)) w)) (sym q)

-- the other branch, of kind j
other_typed : (i j k : Kind) (a b : Option Kind) (w : Value) → kind_of_either i j ≡ k → a ≡ Some i → b ≡ Some j → at_kind (kind_of_either i j) (typed j w) ≡ typed k (widened (scale_or_zero b) (max (scale_or_zero a) (scale_or_zero b)) w)
other_typed i j k a b w e p q =
    ap (λ (s : ℕ). typed (kind_of_either i j) (widened (scale_of_kind j) s w)) (scale_either i j)
    ∙ ap (λ (h : Kind). typed h (widened (scale_of_kind j) (max (scale_of_kind i) (scale_of_kind j)) w)) e
    ∙ ap (λ (o : Option Kind). typed k (widened (scale_of_kind j) (max (scale_or_zero o) (scale_of_kind j)) w)) (sym p)
    ∙ ap (λ (o : Option Kind). typed k (widened (scale_or_zero o) (max (scale_or_zero a) (scale_or_zero o)) w)) (sym q)

-- `&` and `|`

sides_value : (op : LogicOp) (t : Bool) (b : Answer) (z v : Typed) → ((x : Typed) → b ≡ Ok x → x ≡ z) → (if decides op t then Ok (verdict t) else then_do b (λ y. Ok (verdict (truth_in y)))) ≡ Ok v → v ≡ verdict (logic_op op t (truth_in z))
sides_value And true b z v q h = by_one (λ y. verdict (truth_in y)) b z v q h
sides_value And false b z v q h = cc
sides_value Or true b z v q h = cc
sides_value Or false b z v q h = by_one (λ y. verdict (truth_in y)) b z v q h

by_sides : (op : LogicOp) (a b : Answer) (t z v : Typed) → ((x : Typed) → a ≡ Ok x → x ≡ t) → ((x : Typed) → b ≡ Ok x → x ≡ z) → of_sides op a b ≡ Ok v → v ≡ verdict (logic_op op (truth_in t) (truth_in z))
by_sides op (Err m) b t z v p q h = cc
by_sides op (Ok x) b t z v p q h =
    sides_value op (truth_in x) b z v q h ∙ ap (λ (o : Typed). verdict (logic_op op (truth_in o) (truth_in z))) (p x refl)

-- accumulators

day_value : (a : Answer) (step : Typed → Answer) (x y v : Typed) → ((w : Typed) → a ≡ Ok w → w ≡ x) → ((w : Typed) → step x ≡ Ok w → w ≡ y) → then_do a step ≡ Ok v → v ≡ y
day_value (Ok w) step x y v p q h = q v (ap step (sym (p w refl)) ∙ h)
day_value (Err m) step x y v p q h = cc

-- where each day's value is that of the model, so is that after all days
pub days_value : (n : ℕ) (step : ℕ → Typed → Answer) (plain : ℕ → Value → Value) (k : Kind) (a : Answer) (first : Value) (v : Typed) → ((w : Typed) → a ≡ Ok w → w ≡ typed k first) → ((i : ℕ) (x : Value) (w : Typed) → step i (typed k x) ≡ Ok w → w ≡ typed k (plain i x)) → days_tried n step a ≡ Ok v → v ≡ typed k (days_run n plain first)
days_value zero step plain k a first v p q h = p v h
days_value (suc n) step plain k a first v p q h =
    day_value (days_tried n step a) (step (suc n)) (typed k (days_run n plain first)) (typed k (plain (suc n) (days_run n plain first))) v (λ w e. days_value n step plain k a first w p q e) (λ w e. q (suc n) (days_run n plain first) w e) h

-- the value of an accumulator whose start has kind k
abbrev pub acc_value : Declarations → Expression → ℕ → Value → List Entry → Environment → ℤ → Kind → Value
acc_value d body n start es env from k =
    days_run n (λ i v. widened (scale_of d body (k ∷ kinds es)) (scale_of_kind k) (value_of d body (record { value = v; kind = k } ∷ es) env (from +ℤ pos i))) start

pub run_is_value : (d : Declarations) (e : Expression) → RunIsValue d e
run_is_value d (Lit m s) bs es st fixings env x f k e v h = cc
run_is_value d (Yes b) bs es st fixings env x f k e v h = cc
run_is_value d (Var n) bs es st fixings env x f k e v h = name_value bs es st n k e v h
run_is_value d (Obs l t) bs es st fixings env x f k e v h =
    place_value d env (kind_or (kind_of_label (label_of d l))) k (held fixings (record { label = l; day = f +ℤ t })) l (f +ℤ t) v (ap (λ (o : Option Kind). kind_or o) e) h (λ w p. x (record { label = l; day = f +ℤ t }) w p)
run_is_value d (Neg a) bs es st fixings env x f k e v h =
    let p = one_number (λ s. Number s) (kind_of d a (kinds es)) k e in
    by_one negated (run_of d a bs fixings f) (typed (Number p.scale) (value_of d a es env f)) v (run_is_value d a bs es st fixings env x f (Number p.scale) p.operand) h
    ∙ one_typed (λ s. Number s) (λ _. Amount (neg_ℤ (num (value_of d a es env f)))) (kind_of d a (kinds es)) k p
run_is_value d (Num op a b) bs es st fixings env x f k e v h =
    let p = two_numbers (λ s t. Number (scale_of_op op s t)) (kind_of d a (kinds es)) (kind_of d b (kinds es)) k e in
    by_two (combined op) (run_of d a bs fixings f) (run_of d b bs fixings f) (typed (Number p.left_scale) (value_of d a es env f)) (typed (Number p.right_scale) (value_of d b es env f)) v (run_is_value d a bs es st fixings env x f (Number p.left_scale) p.left) (run_is_value d b bs es st fixings env x f (Number p.right_scale) p.right) h
    ∙ two_typed (λ s t. Number (scale_of_op op s t)) (λ i j. Amount (of_num op i (num (value_of d a es env f)) j (num (value_of d b es env f)))) (kind_of d a (kinds es)) (kind_of d b (kinds es)) k p
run_is_value d (Cmp op a b) bs es st fixings env x f k e v h =
    let p = two_numbers (λ s t. TruthKind) (kind_of d a (kinds es)) (kind_of d b (kinds es)) k e in
    by_two (compared op) (run_of d a bs fixings f) (run_of d b bs fixings f) (typed (Number p.left_scale) (value_of d a es env f)) (typed (Number p.right_scale) (value_of d b es env f)) v (run_is_value d a bs es st fixings env x f (Number p.left_scale) p.left) (run_is_value d b bs es st fixings env x f (Number p.right_scale) p.right) h
    ∙ two_typed (λ s t. TruthKind) (λ i j. Truth (of_cmp op i (num (value_of d a es env f)) j (num (value_of d b es env f)))) (kind_of d a (kinds es)) (kind_of d b (kinds es)) k p
run_is_value d (Not a) bs es st fixings env x f k e v h =
    let p = truth_then (kind_of d a (kinds es)) (Some TruthKind) k e in
    let q : Some TruthKind ≡ Some k = p.rest in
    let r : TruthKind ≡ k = cc in
    by_one (λ y. verdict (not (truth_in y))) (run_of d a bs fixings f) (typed TruthKind (value_of d a es env f)) v (run_is_value d a bs es st fixings env x f TruthKind p.first) h
    ∙ ap (λ (j : Kind). typed j (Truth (not (truth (value_of d a es env f))))) r
run_is_value d (Logic op a b) bs es st fixings env x f k e v h =
    let p = truth_then (kind_of d a (kinds es)) _ k e in
    let q = truth_then (kind_of d b (kinds es)) (Some TruthKind) k p.rest in
    let u : Some TruthKind ≡ Some k = q.rest in
    let r : TruthKind ≡ k = cc in
    by_sides op (run_of d a bs fixings f) (run_of d b bs fixings f) (typed TruthKind (value_of d a es env f)) (typed TruthKind (value_of d b es env f)) v (run_is_value d a bs es st fixings env x f TruthKind p.first) (run_is_value d b bs es st fixings env x f TruthKind q.first) h
    ∙ ap (λ (j : Kind). typed j (Truth (logic_op op (truth (value_of d a es env f)) (truth (value_of d b es env f))))) r
run_is_value d (Cond t a b) bs es st fixings env x f k e v h =
    let ks = kinds es in
    let p = truth_then (kind_of d t ks) (joined (kind_of d a ks) (kind_of d b ks)) k e in
    let q = branches (kind_of d a ks) (kind_of d b ks) k p.rest in
    let i : kind_found d a (kinds_of bs) ≡ q.yes_kind = ap (λ (js : List Kind). kind_found d a js) (same_kinds bs es st) ∙ has_kind d a ks q.yes_kind q.yes in
    let j : kind_found d b (kinds_of bs) ≡ q.no_kind = ap (λ (js : List Kind). kind_found d b js) (same_kinds bs es st) ∙ has_kind d b ks q.no_kind q.no in
    by_test (run_of d t bs fixings f) _ _ (typed TruthKind (value_of d t es env f)) _ _ k v (run_is_value d t bs es st fixings env x f TruthKind p.first)
    (λ w r. by_one (λ y. at_kind (kind_of_either y.kind (kind_found d b (kinds_of bs))) y) (run_of d a bs fixings f) (typed q.yes_kind (value_of d a es env f)) w (run_is_value d a bs es st fixings env x f q.yes_kind q.yes) r
    ∙ ap (λ (o : Kind). at_kind (kind_of_either q.yes_kind o) (typed q.yes_kind (value_of d a es env f))) j
    ∙ branch_typed q.yes_kind q.no_kind k (kind_of d a ks) (kind_of d b ks) (value_of d a es env f) q.whole q.yes q.no)
    (λ w r. by_one (λ y. at_kind (kind_of_either (kind_found d a (kinds_of bs)) y.kind) y) (run_of d b bs fixings f) (typed q.no_kind (value_of d b es env f)) w (run_is_value d b bs es st fixings env x f q.no_kind q.no) r
    ∙ ap (λ (o : Kind). at_kind (kind_of_either o q.no_kind) (typed q.no_kind (value_of d b es env f))) i
    ∙ other_typed q.yes_kind q.no_kind k (kind_of d a ks) (kind_of d b ks) (value_of d b es env f) q.whole q.yes q.no)
    h
run_is_value d (Widen s a) bs es st fixings env x f k e v h =
    let p = one_number (λ _. Number s) (kind_of d a (kinds es)) k e in
    by_one (at_kind (Number s)) (run_of d a bs fixings f) (typed (Number p.scale) (value_of d a es env f)) v (run_is_value d a bs es st fixings env x f (Number p.scale) p.operand) h
    ∙ one_typed (λ _. Number s) (λ i. widened i s (value_of d a es env f)) (kind_of d a (kinds es)) k p
run_is_value d (Round mode s a) bs es st fixings env x f k e v h =
    let p = one_number (λ _. Number s) (kind_of d a (kinds es)) k e in
    by_one (rounded mode s) (run_of d a bs fixings f) (typed (Number p.scale) (value_of d a es env f)) v (run_is_value d a bs es st fixings env x f (Number p.scale) p.operand) h
    ∙ one_typed (λ _. Number s) (λ i. Amount (at_scale mode (num (value_of d a es env f)) i s)) (kind_of d a (kinds es)) k p
run_is_value d (Div mode s a b) bs es st fixings env x f k e v h =
    let p = two_numbers (λ _ _. Number s) (kind_of d a (kinds es)) (kind_of d b (kinds es)) k e in
    by_two (quotient mode s) (run_of d a bs fixings f) (run_of d b bs fixings f) (typed (Number p.left_scale) (value_of d a es env f)) (typed (Number p.right_scale) (value_of d b es env f)) v (run_is_value d a bs es st fixings env x f (Number p.left_scale) p.left) (run_is_value d b bs es st fixings env x f (Number p.right_scale) p.right) h
    ∙ two_typed (λ _ _. Number s) (λ i j. Amount (divided mode (num (value_of d a es env f)) i (num (value_of d b es env f)) j s)) (kind_of d a (kinds es)) (kind_of d b (kinds es)) k p
run_is_value d (Acc body n first) bs es st fixings env x f k e v h =
    let ks = kinds es in
    let p = days (kind_of d first ks) (λ j. kind_of d body (j ∷ ks)) k e in
    let from = f -ℤ pos n in
    let start = value_of d first es env from in
    days_value n (day_step (λ c t. run_of d body c fixings t) bs from) (λ i y. widened (scale_of d body (k ∷ ks)) (scale_of_kind k) (value_of d body (record { value = y; kind = k } ∷ es) env (from +ℤ pos i))) k (run_of d first bs fixings from) start v
    (run_is_value d first bs es st fixings env x from k p.first)
    (λ i y w r. by_one (at_kind k) (run_of d body (bound_to (typed k y) ∷ bs) fixings (from +ℤ pos i)) (typed p.body_kind (value_of d body (record { value = y; kind = k } ∷ es) env (from +ℤ pos i))) w (run_is_value d body (bound_to (typed k y) ∷ bs) (record { value = y; kind = k } ∷ es) (refl, refl, st) fixings env x (from +ℤ pos i) p.body_kind p.body) r
    ∙ ap (λ (s : ℕ). typed k (widened s (scale_of_kind k) (value_of d body (record { value = y; kind = k } ∷ es) env (from +ℤ pos i)))) (sym (scale_is d body (k ∷ ks) p.body_kind p.body)))
    h
    ∙ ap (λ (o : Option Kind). typed k (acc_value d body n start es env from (kind_or o))) (sym p.first)
