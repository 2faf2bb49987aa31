-- An answer lacks the first unfixed read, exactly where there is one.
use Rattle.std.proofs.Common.{◌≡◌, ℕ, zero, suc, ℤ, pos, ◌+ℤ◌, ◌-ℤ◌, Bool, true, false, not, if◌then◌else◌, refl, ap, sym, ◌∙◌, Ok, Err, Some, None, Option, List, [], ◌∷◌, ◌++◌, slice_get, append-nil, append_assoc, is_some}
use Rattle.term_model.specs.Declarations.{Declarations}
use Rattle.term_model.specs.declared.values.Kind.{Kind}
use Rattle.term_model.specs.declared.values.Kind.TheVariants.{Truth as TruthKind, Number}
use Rattle.term_model.specs.declared.values.Value.{Value}
use Rattle.term_model.specs.Terms.{Expression, Lit, Yes, Var, Obs, Neg, Num, Cmp, Not, Logic, Cond, Widen, Round, Div, Acc}
use Rattle.term_model.specs.Environments.{Environment, Place, held, label_of, Extends}
use Rattle.term_model.specs.Kinds.{kind_of, kind_of_label, scale_of, scale_of_kind, scale_of_op, on_truth, joined}
use Rattle.term_model.specs.Values.{Entry, kinds, truth, widened, kind_or, value_of, days_run}
use Rattle.term_model.specs.Reads.{decides, reads_of, places_or, steps_before, is_fixed, first_unfixed}
use Rattle.interval_check.specs.RangeTrials.{kind_found, kind_of_either}
use Rattle.interval_check.proofs.KindsFound.{one_number, two_numbers, truth_then, branches, days, scale_is}
use Rattle.expr_eval.specs.declared.scratch.Held.{Held}
use Rattle.expr_eval.specs.declared.scratch.Held.TheVariants.{Known, Lacking}
use Rattle.expr_eval.specs.declared.scratch.Binding.{Binding}
use Rattle.expr_eval.specs.declared.operations.Typed.{Typed}
use Rattle.expr_eval.specs.Rooms.{kinds_of}
use Rattle.expr_eval.specs.Operations.{verdict, truth_in, at_kind, negated, combined, compared, rounded, quotient}
use Rattle.expr_eval.specs.Runs.{Answer, then_do, both_of, on_both, days_tried, day_step, bound_to, run_of, of_binding, of_held, of_place}
use Rattle.expr_eval.specs.Standing.{place_of, IsHeldFor, StandFor}
use Rattle.expr_eval.proofs.RunValues.{typed, HasValue, HaveValues, run_is_value, days_value, by_one}

-- the place that is lacking
abbrev pub missed : Answer → Option Place
missed (Ok v) = None
missed (Err m) = Some (place_of m)

abbrev pub RunLacksFirst : Declarations → Expression → Type 0
RunLacksFirst d e =
    (bs : List Binding) (es : List Entry) (ps : List (List Place)) (fixings : Environment) → StandFor fixings bs es ps → (f : ℤ) (k : Kind)
    → kind_of d e (kinds es) ≡ Some k → missed (run_of d e bs fixings f) ≡ first_unfixed fixings (reads_of d e es ps fixings f)

abbrev or_next : Option Place → Option Place → Option Place
or_next None o = o
or_next (Some q) o = Some q

next_if : (b : Bool) (q : Place) (rest more : Option Place) → or_next (if b then rest else Some q) more ≡ (if b then or_next rest more else Some q)
next_if true q rest more = refl
next_if false q rest more = refl

-- of two lists, one after the other
first_append : (fixings : Environment) (xs ys : List Place) → first_unfixed fixings (xs ++ ys) ≡ or_next (first_unfixed fixings xs) (first_unfixed fixings ys)
first_append fixings [] ys = refl
first_append fixings (x ∷ xs) ys =
    ap (λ (o : Option Place). if is_fixed fixings x then o else Some x) (first_append fixings xs ys)
    ∙ sym (next_if (is_fixed fixings x) x (first_unfixed fixings xs) (first_unfixed fixings ys))

-- names

held_value : (fixings : Environment) (b : Held) (w : Value) (p : List Place) → IsHeldFor fixings b w p → HasValue b w
held_value fixings (Known v) w p h = h.0
held_value fixings (Lacking m) w p h = tt

pub have_values : (fixings : Environment) (bs : List Binding) (es : List Entry) (ps : List (List Place)) → StandFor fixings bs es ps → HaveValues bs es
have_values fixings [] [] [] s = tt
have_values fixings [] [] (p ∷ ps) s = absurd s
have_values fixings [] (e ∷ es) ps s = absurd s
have_values fixings (b ∷ bs) [] ps s = absurd s
have_values fixings (b ∷ bs) (e ∷ es) [] s = absurd s
have_values fixings (b ∷ bs) (e ∷ es) (p ∷ ps) s = (s.0, held_value fixings b.held e.value p s.1, have_values fixings bs es ps s.2)

held_missed : (fixings : Environment) (b : Held) (k : Kind) (w : Value) (p : List Place) → IsHeldFor fixings b w p → missed (of_held k b) ≡ first_unfixed fixings p
held_missed fixings (Known v) k w p h = sym h.1
held_missed fixings (Lacking m) k w p h = sym h

name_missed : (fixings : Environment) (bs : List Binding) (es : List Entry) (ps : List (List Place)) → StandFor fixings bs es ps → (n : ℕ) → missed (of_binding (slice_get bs n)) ≡ first_unfixed fixings (places_or (slice_get ps n))
name_missed fixings [] [] [] s n = refl
name_missed fixings [] [] (p ∷ ps) s n = absurd s
name_missed fixings [] (e ∷ es) ps s n = absurd s
name_missed fixings (b ∷ bs) [] ps s n = absurd s
name_missed fixings (b ∷ bs) (e ∷ es) [] s n = absurd s
name_missed fixings (b ∷ bs) (e ∷ es) (p ∷ ps) s zero = held_missed fixings b.held b.kind e.value p s.1
name_missed fixings (b ∷ bs) (e ∷ es) (p ∷ ps) s (suc n) = name_missed fixings bs es ps s.2 n

place_missed : (k : Kind) (o : Option Value) (l : ℕ) (t : ℤ) → missed (of_place k o l t) ≡ (if is_some o then None else Some (record { label = l; day = t }))
place_missed k (Some v) l t = refl
place_missed k None l t = refl

pub self_extends : (fixings : Environment) → Extends fixings fixings
self_extends fixings q v h = h

-- operators

pub one_missed : (g : Typed → Typed) (a : Answer) → missed (then_do a (λ x. Ok (g x))) ≡ missed a
one_missed g (Ok x) = refl
one_missed g (Err m) = refl

two_missed : (g : Typed → Typed → Typed) (a b : Answer) → missed (on_both (both_of a b) g) ≡ or_next (missed a) (missed b)
two_missed g (Ok x) (Ok y) = refl
two_missed g (Ok x) (Err m) = refl
two_missed g (Err m) b = refl

both_missed : (fixings : Environment) (g : Typed → Typed → Typed) (a b : Answer) (xs ys : List Place) → missed a ≡ first_unfixed fixings xs → missed b ≡ first_unfixed fixings ys → missed (on_both (both_of a b) g) ≡ first_unfixed fixings (xs ++ ys)
both_missed fixings g a b xs ys p q =
    two_missed g a b ∙ ap (λ (o : Option Place). or_next o (missed b)) p ∙ ap (or_next (first_unfixed fixings xs)) q ∙ sym (first_append fixings xs ys)

-- a value, and then what depends on it
then_missed : (fixings : Environment) (a : Answer) (go : Typed → Answer) (w : Typed) (xs ys : List Place) → ((x : Typed) → a ≡ Ok x → x ≡ w) → missed a ≡ first_unfixed fixings xs → missed (go w) ≡ first_unfixed fixings ys → missed (then_do a go) ≡ first_unfixed fixings (xs ++ ys)
then_missed fixings (Ok x) go w xs ys p q r =
    ap (λ (o : Typed). missed (go o)) (p x refl) ∙ r ∙ ap (λ (o : Option Place). or_next o (first_unfixed fixings ys)) q ∙ sym (first_append fixings xs ys)
then_missed fixings (Err m) go w xs ys p q r =
    ap (λ (o : Option Place). or_next o (first_unfixed fixings ys)) q ∙ sym (first_append fixings xs ys)

choice_missed : (fixings : Environment) (b : Bool) (y n : Answer) (ys ns : List Place) → missed y ≡ first_unfixed fixings ys → missed n ≡ first_unfixed fixings ns → missed (if b then y else n) ≡ first_unfixed fixings (if b then ys else ns)
choice_missed fixings true y n ys ns p q = p
choice_missed fixings false y n ys ns p q = q

-- the days of an accumulator
days_missed : (fixings : Environment) (n : ℕ) (step : ℕ → Typed → Answer) (plain : ℕ → Value → Value) (k : Kind) (a : Answer) (first : Value) (xs : List Place) (fs : ℕ → List Place) → ((w : Typed) → a ≡ Ok w → w ≡ typed k first) → ((i : ℕ) (x : Value) (w : Typed) → step i (typed k x) ≡ Ok w → w ≡ typed k (plain i x)) → missed a ≡ first_unfixed fixings xs → ((i : ℕ) → missed (step (suc i) (typed k (days_run i plain first))) ≡ first_unfixed fixings (fs i)) → missed (days_tried n step a) ≡ first_unfixed fixings (xs ++ steps_before n fs)
days_missed fixings zero step plain k a first xs fs p q r s = r ∙ ap (first_unfixed fixings) (sym (append-nil xs))
days_missed fixings (suc n) step plain k a first xs fs p q r s =
    then_missed fixings (days_tried n step a) (step (suc n)) (typed k (days_run n plain first)) (xs ++ steps_before n fs) (fs n) (λ x e. days_value n step plain k a first x p q e) (days_missed fixings n step plain k a first xs fs p q r s) (s n)
    ∙ ap (first_unfixed fixings) (append_assoc xs (steps_before n fs) (fs n))

-- the reads of an accumulator whose start has kind k
abbrev acc_reads : Declarations → Expression → ℕ → Expression → List Entry → List (List Place) → Environment → ℤ → Kind → List Place
acc_reads d body n first es ps env from k =
    reads_of d first es ps env from
    ++ steps_before n (λ i. reads_of d body (record { value = days_run i (λ i v. widened (scale_of d body (k ∷ kinds es)) (scale_of_kind k) (value_of d body (record { value = v; kind = k } ∷ es) env (from +ℤ pos i))) (value_of d first es env from); kind = k } ∷ es) ([] ∷ ps) env (from +ℤ pos (suc i)))

pub run_lacks_first : (d : Declarations) (e : Expression) → RunLacksFirst d e
run_lacks_first d (Lit m s) bs es ps fixings st f k e = refl
run_lacks_first d (Yes b) bs es ps fixings st f k e = refl
run_lacks_first d (Var n) bs es ps fixings st f k e = name_missed fixings bs es ps st n
run_lacks_first d (Obs l t) bs es ps fixings st f k e =
    place_missed (kind_or (kind_of_label (label_of d l))) (held fixings (record { label = l; day = f +ℤ t })) l (f +ℤ t)
run_lacks_first d (Neg a) bs es ps fixings st f k e =
    let p = one_number (λ s. Number s) (kind_of d a (kinds es)) k e in
    one_missed negated (run_of d a bs fixings f) ∙ run_lacks_first d a bs es ps fixings st f (Number p.scale) p.operand
run_lacks_first d (Num op a b) bs es ps fixings st f k e =
    let p = two_numbers (λ s t. Number (scale_of_op op s t)) (kind_of d a (kinds es)) (kind_of d b (kinds es)) k e in
    both_missed fixings (combined op) (run_of d a bs fixings f) (run_of d b bs fixings f) (reads_of d a es ps fixings f) (reads_of d b es ps fixings f) (run_lacks_first d a bs es ps fixings st f (Number p.left_scale) p.left) (run_lacks_first d b bs es ps fixings st f (Number p.right_scale) p.right)
run_lacks_first d (Cmp op a b) bs es ps fixings st f k e =
    let p = two_numbers (λ s t. TruthKind) (kind_of d a (kinds es)) (kind_of d b (kinds es)) k e in
    both_missed fixings (compared op) (run_of d a bs fixings f) (run_of d b bs fixings f) (reads_of d a es ps fixings f) (reads_of d b es ps fixings f) (run_lacks_first d a bs es ps fixings st f (Number p.left_scale) p.left) (run_lacks_first d b bs es ps fixings st f (Number p.right_scale) p.right)
run_lacks_first d (Not a) bs es ps fixings st f k e =
    let p = truth_then (kind_of d a (kinds es)) (Some TruthKind) k e in
    one_missed (λ x. verdict (not (truth_in x))) (run_of d a bs fixings f) ∙ run_lacks_first d a bs es ps fixings st f TruthKind p.first
run_lacks_first d (Logic op a b) bs es ps fixings st f k e =
    let p = truth_then (kind_of d a (kinds es)) (on_truth (kind_of d b (kinds es)) (Some TruthKind)) k e in
    let q = truth_then (kind_of d b (kinds es)) (Some TruthKind) k p.rest in
    let w = value_of d a es fixings f in
    then_missed fixings (run_of d a bs fixings f) (λ x. if decides op (truth_in x) then Ok (verdict (truth_in x)) else then_do (run_of d b bs fixings f) (λ y. Ok (verdict (truth_in y)))) (typed TruthKind w) (reads_of d a es ps fixings f) (if decides op (truth w) then [] else reads_of d b es ps fixings f) (run_is_value d a bs es (have_values fixings bs es ps st) fixings fixings (self_extends fixings) f TruthKind p.first) (run_lacks_first d a bs es ps fixings st f TruthKind p.first)
    (choice_missed fixings (decides op (truth w)) (Ok (verdict (truth w))) (then_do (run_of d b bs fixings f) (λ y. Ok (verdict (truth_in y)))) [] (reads_of d b es ps fixings f) refl (one_missed (λ y. verdict (truth_in y)) (run_of d b bs fixings f) ∙ run_lacks_first d b bs es ps fixings st f TruthKind q.first))
run_lacks_first d (Cond t a b) bs es ps fixings st f k e =
    let ks = kinds es in
    let p = truth_then (kind_of d t ks) (joined (kind_of d a ks) (kind_of d b ks)) k e in
    let q = branches (kind_of d a ks) (kind_of d b ks) k p.rest in
    let w = value_of d t es fixings f in
    let yes : Answer = then_do (run_of d a bs fixings f) (λ y. Ok (at_kind (kind_of_either y.kind (kind_found d b (kinds_of bs))) y)) in
    let no : Answer = then_do (run_of d b bs fixings f) (λ y. Ok (at_kind (kind_of_either (kind_found d a (kinds_of bs)) y.kind) y)) in
    then_missed fixings (run_of d t bs fixings f) (λ x. if truth_in x then yes else no) (typed TruthKind w) (reads_of d t es ps fixings f) (if truth w then reads_of d a es ps fixings f else reads_of d b es ps fixings f) (run_is_value d t bs es (have_values fixings bs es ps st) fixings fixings (self_extends fixings) f TruthKind p.first) (run_lacks_first d t bs es ps fixings st f TruthKind p.first)
    (choice_missed fixings (truth w) yes no (reads_of d a es ps fixings f) (reads_of d b es ps fixings f)
    (one_missed (λ y. at_kind (kind_of_either y.kind (kind_found d b (kinds_of bs))) y) (run_of d a bs fixings f) ∙ run_lacks_first d a bs es ps fixings st f q.yes_kind q.yes)
    (one_missed (λ y. at_kind (kind_of_either (kind_found d a (kinds_of bs)) y.kind) y) (run_of d b bs fixings f) ∙ run_lacks_first d b bs es ps fixings st f q.no_kind q.no))
run_lacks_first d (Widen s a) bs es ps fixings st f k e =
    let p = one_number (λ _. Number s) (kind_of d a (kinds es)) k e in
    one_missed (at_kind (Number s)) (run_of d a bs fixings f) ∙ run_lacks_first d a bs es ps fixings st f (Number p.scale) p.operand
run_lacks_first d (Round mode s a) bs es ps fixings st f k e =
    let p = one_number (λ _. Number s) (kind_of d a (kinds es)) k e in
    one_missed (rounded mode s) (run_of d a bs fixings f) ∙ run_lacks_first d a bs es ps fixings st f (Number p.scale) p.operand
run_lacks_first d (Div mode s a b) bs es ps fixings st f k e =
    let p = two_numbers (λ _ _. Number s) (kind_of d a (kinds es)) (kind_of d b (kinds es)) k e in
    both_missed fixings (quotient mode s) (run_of d a bs fixings f) (run_of d b bs fixings f) (reads_of d a es ps fixings f) (reads_of d b es ps fixings f) (run_lacks_first d a bs es ps fixings st f (Number p.left_scale) p.left) (run_lacks_first d b bs es ps fixings st f (Number p.right_scale) p.right)
run_lacks_first d (Acc body n first) bs es ps fixings st f k e =
    let ks = kinds es in
    let p = days (kind_of d first ks) (λ j. kind_of d body (j ∷ ks)) k e in
    let from = f -ℤ pos n in
    let start = value_of d first es fixings from in
    let known = have_values fixings bs es ps st in
    let plain : ℕ → Value → Value = λ i y. widened (scale_of d body (k ∷ ks)) (scale_of_kind k) (value_of d body (record { value = y; kind = k } ∷ es) fixings (from +ℤ pos i)) in
    days_missed fixings n (day_step (λ c t. run_of d body c fixings t) bs from) plain k (run_of d first bs fixings from) start (reads_of d first es ps fixings from) (λ i. reads_of d body (record { value = days_run i plain start; kind = k } ∷ es) ([] ∷ ps) fixings (from +ℤ pos (suc i)))
    (run_is_value d first bs es known fixings fixings (self_extends fixings) from k p.first)
    (λ i y w r. by_one (at_kind k) (run_of d body (bound_to (typed k y) ∷ bs) fixings (from +ℤ pos i)) (typed p.body_kind (value_of d body (record { value = y; kind = k } ∷ es) fixings (from +ℤ pos i))) w (run_is_value d body (bound_to (typed k y) ∷ bs) (record { value = y; kind = k } ∷ es) (refl, refl, known) fixings fixings (self_extends fixings) (from +ℤ pos i) p.body_kind p.body) r
    ∙ ap (λ (s : ℕ). typed k (widened s (scale_of_kind k) (value_of d body (record { value = y; kind = k } ∷ es) fixings (from +ℤ pos i)))) (sym (scale_is d body (k ∷ ks) p.body_kind p.body)))
    (run_lacks_first d first bs es ps fixings st from k p.first)
    (λ i. one_missed (at_kind k) (run_of d body (bound_to (typed k (days_run i plain start)) ∷ bs) fixings (from +ℤ pos (suc i))) ∙ run_lacks_first d body (bound_to (typed k (days_run i plain start)) ∷ bs) (record { value = days_run i plain start; kind = k } ∷ es) ([] ∷ ps) fixings (refl, (refl, refl), st) (from +ℤ pos (suc i)) p.body_kind p.body)
    ∙ ap (λ (o : Option Kind). first_unfixed fixings (acc_reads d body n first es ps fixings from (kind_or o))) (sym p.first)
