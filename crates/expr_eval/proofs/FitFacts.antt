-- Where an expression can be evaluated with values for its names, an evaluation with entries for them fits 128 bits.
use Rattle.std.proofs.Common.{◌≡◌, ℕ, suc, ◌+◌, ◌-◌, ◌^◌, ◌<◌, ◌≤◌, max, ℤ, pos, neg_ℤ, ◌+ℤ◌, ◌-ℤ◌, ◌≤ℤ◌, refl, ap, sym, subst, ◌∙◌, Ok, Err, Some, Option, List, ◌∷◌, arith, add-one}
use Rattle.std.proofs.lemmas.Int.{ints}
use Rattle.term_model.specs.Declarations.{Declarations}
use Rattle.term_model.specs.declared.terms.NumOp.{NumOp}
use Rattle.term_model.specs.declared.values.Kind.{Kind}
use Rattle.term_model.specs.declared.values.Kind.TheVariants.{Truth as TruthKind, Number}
use Rattle.term_model.specs.declared.values.Value.{Value}
use Rattle.term_model.specs.Terms.{Expression, Lit, Yes, Var, Obs, Neg, Num, Cmp, Not, Logic, Cond, Widen, Round, Div, Acc}
use Rattle.term_model.specs.Environments.{Environment}
use Rattle.term_model.specs.Kinds.{kind_of, scale_of, scale_of_kind, scale_of_op, on_truth, joined}
use Rattle.term_model.specs.Scales.{greatest_scale}
use Rattle.term_model.specs.Values.{Entry, kinds, num, value_of, widened, days_run, kind_or}
use Rattle.term_model.proofs.KindParts.{scale_either}
use Rattle.interval_check.specs.Safety.{IsSmall, AlignSafely, OperateSafely, WidensSafely, RoundsSafely, DivideSafely, HasSafeValue, HasSafeParts, ScalesFit}
use Rattle.interval_check.specs.RangeTrials.{kind_found, kind_of_either}
use Rattle.interval_check.proofs.KindsFound.{one_number, two_numbers, truth_then, branches, days, has_kind, scale_is}
use Rattle.expr_eval.specs.declared.scratch.Binding.{Binding}
use Rattle.expr_eval.specs.declared.operations.Typed.{Typed}
use Rattle.expr_eval.specs.Rooms.{kinds_of}
use Rattle.expr_eval.specs.Operations.{Negates, Combines, Compares, FitsKind, RoundsTo, DividesTo, at_kind}
use Rattle.expr_eval.specs.KindScales.{KindFits}
use Rattle.expr_eval.specs.Runs.{Answer, run_of, bound_to, days_tried, day_step}
use Rattle.expr_eval.specs.Fits.{OnValue, OnValues, IsDay, Fits, DayFits}
use Rattle.expr_eval.proofs.RunValues.{typed, HaveValues, run_is_value, same_kinds, days_value, by_one}
use Rattle.expr_eval.proofs.RunReads.{self_extends}
use Rattle.expr_eval.proofs.SpanFacts.{span}

-- the kind of an expression, in 8 bits

at_most_of : (m n : ℕ) → m ≡ n → n ≤ greatest_scale → m ≤ greatest_scale
at_most_of m n e h = omega arith

pub kind_fits : (d : Declarations) (e : Expression) (ks : List Kind) (k : Kind) → kind_of d e ks ≡ Some k → ScalesFit d e ks → KindFits d e ks
kind_fits d (Lit m s) ks k e h = tt
kind_fits d (Yes b) ks k e h = tt
kind_fits d (Var n) ks k e h = tt
kind_fits d (Obs l t) ks k e h = tt
kind_fits d (Neg a) ks k e h =
    let p = one_number (λ s. Number s) (kind_of d a ks) k e in
    kind_fits d a ks (Number p.scale) p.operand h
kind_fits d (Num op a b) ks k e h =
    let p = two_numbers (λ s t. Number (scale_of_op op s t)) (kind_of d a ks) (kind_of d b ks) k e in
    let found = has_kind d (Num op a b) ks k e in (
      kind_fits d a ks (Number p.left_scale) p.left h.0,
      kind_fits d b ks (Number p.right_scale) p.right h.1,
      at_most_of _ (scale_of d (Num op a b) ks) (ap (λ (j : Kind). scale_of_kind j) found ∙ sym (scale_is d (Num op a b) ks k e)) h.2,
    )
kind_fits d (Cmp op a b) ks k e h = tt
kind_fits d (Not a) ks k e h = tt
kind_fits d (Logic op a b) ks k e h = tt
kind_fits d (Cond t a b) ks k e h =
    let p = truth_then (kind_of d t ks) (joined (kind_of d a ks) (kind_of d b ks)) k e in
    let q = branches (kind_of d a ks) (kind_of d b ks) k p.rest in
    (kind_fits d a ks q.yes_kind q.yes h.1, kind_fits d b ks q.no_kind q.no h.2)
kind_fits d (Widen s a) ks k e h = tt
kind_fits d (Round mode s a) ks k e h = tt
kind_fits d (Div mode s a b) ks k e h = tt
kind_fits d (Acc body n first) ks k e h =
    let p = days (kind_of d first ks) (λ j. kind_of d body (j ∷ ks)) k e in
    kind_fits d first ks k p.first h.0

-- the days, in 64 bits: those that an expression of this span meets

pub record InDays (n : ℕ) (f : ℤ) : Type 0 where
  pub low : neg_ℤ (pos (10 ^ 13)) ≤ℤ (f -ℤ pos n)
  pub high : f ≤ℤ pos (10 ^ 13)

in_days : (m n : ℕ) (f : ℤ) → m ≤ n → InDays n f → InDays m f
in_days m n f h p = let low = p.low in record { low = omega (arith, ints); high = p.high }

is_day : (n : ℕ) (f : ℤ) → InDays n f → IsDay f
is_day n f p = let low = p.low in let high = p.high in omega (arith, ints)

-- what an answer asks, from the value that it has

on_value : (a : Answer) (x : Typed) (P : Typed → Type 0) → ((y : Typed) → a ≡ Ok y → y ≡ x) → P x → OnValue a P
on_value (Ok y) x P p h = subst (λ (o : Typed). P o) (sym (p y refl)) h
on_value (Err m) x P p h = tt

on_values : (a b : Answer) (x z : Typed) (P : Typed → Typed → Type 0) → ((y : Typed) → a ≡ Ok y → y ≡ x) → ((y : Typed) → b ≡ Ok y → y ≡ z) → P x z → OnValues a b P
on_values (Ok y) b x z P p q h = on_value b z (P y) q (subst (λ (o : Typed). P o z) (sym (p y refl)) h)
on_values (Err m) b x z P p q h = tt

combines : (op : NumOp) (i j s t : ℕ) (x y : Value) → s ≡ i → t ≡ j → s ≤ greatest_scale → t ≤ greatest_scale → scale_of_op op i j ≤ greatest_scale → OperateSafely op s (num x) t (num y) → Combines op (typed (Number i) x) (typed (Number j) y)
combines op i j s t x y p q a b c h =
    record {
      left = subst (λ (n : ℕ). n ≤ greatest_scale) p a;
      right = subst (λ (n : ℕ). n ≤ greatest_scale) q b;
      outcome = c;
      fits = subst (λ (n : ℕ). OperateSafely op i (num x) n (num y)) q (subst (λ (n : ℕ). OperateSafely op n (num x) t (num y)) p h);
    }

compares : (i j s t : ℕ) (x y : Value) → s ≡ i → t ≡ j → s ≤ greatest_scale → t ≤ greatest_scale → AlignSafely s (num x) t (num y) → Compares (typed (Number i) x) (typed (Number j) y)
compares i j s t x y p q a b h =
    record {
      left = subst (λ (n : ℕ). n ≤ greatest_scale) p a;
      right = subst (λ (n : ℕ). n ≤ greatest_scale) q b;
      fits = subst (λ (n : ℕ). AlignSafely i (num x) n (num y)) q (subst (λ (n : ℕ). AlignSafely n (num x) t (num y)) p h);
    }

divides : (u i j s t : ℕ) (x y : Value) → s ≡ i → t ≡ j → s ≤ greatest_scale → t ≤ greatest_scale → DivideSafely s (num x) t (num y) u → DividesTo u (typed (Number i) x) (typed (Number j) y)
divides u i j s t x y p q a b h =
    record {
      left = subst (λ (n : ℕ). n ≤ greatest_scale) p a;
      right = subst (λ (n : ℕ). n ≤ greatest_scale) q b;
      fits = subst (λ (n : ℕ). DivideSafely i (num x) n (num y) u) q (subst (λ (n : ℕ). DivideSafely n (num x) t (num y) u) p h);
    }

rounds : (u i s : ℕ) (x : Value) → s ≡ i → s ≤ greatest_scale → IsSmall (num x) → RoundsSafely s u (num x) → RoundsTo u (typed (Number i) x)
rounds u i s x p a b h =
    record {
      scale = subst (λ (n : ℕ). n ≤ greatest_scale) p a;
      small = b;
      fits = subst (λ (n : ℕ). RoundsSafely n u (num x)) p h;
    }

fits_kind : (k j : Kind) (s : ℕ) (x : Value) → s ≡ scale_of_kind j → WidensSafely s (scale_of_kind k) (num x) → FitsKind k (typed j x)
fits_kind k j s x p h = subst (λ (n : ℕ). WidensSafely n (scale_of_kind k) (num x)) p h

-- a branch at the kind of both

left_fits : (i j : Kind) (s t : ℕ) (x y : Value) → s ≡ scale_of_kind i → t ≡ scale_of_kind j → s ≤ greatest_scale → t ≤ greatest_scale → AlignSafely s (num x) t (num y) → FitsKind (kind_of_either i j) (typed i x)
left_fits i j s t x y p q a b h =
    let c : WidensSafely s (max s t) (num x) = record { order = omega arith; most = omega arith; small = h.left } in
    let e : max s t ≡ scale_of_kind (kind_of_either i j) = ap (λ (n : ℕ). max n t) p ∙ ap (λ (n : ℕ). max (scale_of_kind i) n) q ∙ sym (scale_either i j) in
    subst (λ (n : ℕ). WidensSafely n (scale_of_kind (kind_of_either i j)) (num x)) p (subst (λ (n : ℕ). WidensSafely s n (num x)) e c)

right_fits : (i j : Kind) (s t : ℕ) (x y : Value) → s ≡ scale_of_kind i → t ≡ scale_of_kind j → s ≤ greatest_scale → t ≤ greatest_scale → AlignSafely s (num x) t (num y) → FitsKind (kind_of_either i j) (typed j y)
right_fits i j s t x y p q a b h =
    let c : WidensSafely t (max s t) (num y) = record { order = omega arith; most = omega arith; small = h.right } in
    let e : max s t ≡ scale_of_kind (kind_of_either i j) = ap (λ (n : ℕ). max n t) p ∙ ap (λ (n : ℕ). max (scale_of_kind i) n) q ∙ sym (scale_either i j) in
    subst (λ (n : ℕ). WidensSafely n (scale_of_kind (kind_of_either i j)) (num y)) q (subst (λ (n : ℕ). WidensSafely t n (num y)) e c)

-- the days of an accumulator: its start, with span m, and its body, with span b

in_start : (m b n : ℕ) (f : ℤ) → InDays (max (m + n) (b + (n - 1))) f → InDays m (f -ℤ pos n)
in_start m b n f p = let low = p.low in let high = p.high in record { low = omega (arith, ints); high = omega (arith, ints) }

in_body : (m b n i : ℕ) (f : ℤ) → i < n → InDays (max (m + n) (b + (n - 1))) f → InDays b (f -ℤ pos n +ℤ pos (suc i))
in_body m b n i f h p = let low = p.low in let high = p.high in record { low = omega (arith, ints); high = omega (arith, ints) }

abbrev pub RunFits : Declarations → Expression → Type 0
RunFits d e =
    (bs : List Binding) (es : List Entry) → HaveValues bs es → (fixings : Environment) (f : ℤ) → InDays (span e) f → (k : Kind)
    → kind_of d e (kinds es) ≡ Some k → ScalesFit d e (kinds es) → HasSafeParts d e es fixings f → Fits d e bs fixings f

-- the entry of an accumulator's name after i days, where its start has some kind
abbrev acc_entry : Declarations → Expression → ℕ → Expression → List Entry → Environment → ℤ → ℕ → Option Kind → Entry
acc_entry d body n first es env f i o =
    record { value = days_run i (λ j v. widened (scale_of d body (kind_or o ∷ kinds es)) (scale_of_kind (kind_or o)) (value_of d body (record { value = v; kind = kind_or o } ∷ es) env (f -ℤ pos n +ℤ pos j))) (value_of d first es env (f -ℤ pos n)); kind = kind_or o }

-- what its body needs on the day after
abbrev BodySafe : Declarations → Expression → ℕ → Expression → List Entry → Environment → ℤ → ℕ → Option Kind → Type 0
BodySafe d body n first es env f i o =
    (HasSafeValue d body (acc_entry d body n first es env f i o ∷ es) env (f -ℤ pos n +ℤ pos (suc i))
    × HasSafeParts d body (acc_entry d body n first es env f i o ∷ es) env (f -ℤ pos n +ℤ pos (suc i)))
    × WidensSafely (scale_of d body (kind_or o ∷ kinds es)) (scale_of_kind (kind_or o)) (num (value_of d body (acc_entry d body n first es env f i o ∷ es) env (f -ℤ pos n +ℤ pos (suc i))))

pub run_fits : (d : Declarations) (e : Expression) → RunFits d e
run_fits d (Lit m s) bs es st fixings f near k e h v = tt
run_fits d (Yes b) bs es st fixings f near k e h v = tt
run_fits d (Var n) bs es st fixings f near k e h v = tt
run_fits d (Obs l t) bs es st fixings f near k e h v = is_day 0 f near
run_fits d (Neg a) bs es st fixings f near k e h v =
    let p = one_number (λ s. Number s) (kind_of d a (kinds es)) k e in (
      run_fits d a bs es st fixings f near (Number p.scale) p.operand h v.1,
      on_value (run_of d a bs fixings f) (typed (Number p.scale) (value_of d a es fixings f)) Negates (run_is_value d a bs es st fixings fixings (self_extends fixings) f (Number p.scale) p.operand) v.0.small,
    )
run_fits d (Num op a b) bs es st fixings f near k e h v =
    let ks = kinds es in
    let p = two_numbers (λ s t. Number (scale_of_op op s t)) (kind_of d a ks) (kind_of d b ks) k e in
    let most : scale_of_op op p.left_scale p.right_scale ≤ greatest_scale = at_most_of (scale_of_op op p.left_scale p.right_scale) (scale_of d (Num op a b) ks) (ap (λ (j : Kind). scale_of_kind j) p.whole ∙ sym (scale_is d (Num op a b) ks k e)) h.2 in (
      run_fits d a bs es st fixings f (in_days (span a) (max (span a) (span b)) f (omega arith) near) (Number p.left_scale) p.left h.0 v.0.1,
      run_fits d b bs es st fixings f (in_days (span b) (max (span a) (span b)) f (omega arith) near) (Number p.right_scale) p.right h.1 v.1.1,
      on_values (run_of d a bs fixings f) (run_of d b bs fixings f) (typed (Number p.left_scale) (value_of d a es fixings f)) (typed (Number p.right_scale) (value_of d b es fixings f)) (Combines op) (run_is_value d a bs es st fixings fixings (self_extends fixings) f (Number p.left_scale) p.left) (run_is_value d b bs es st fixings fixings (self_extends fixings) f (Number p.right_scale) p.right)
          (combines op p.left_scale p.right_scale (scale_of d a ks) (scale_of d b ks) (value_of d a es fixings f) (value_of d b es fixings f) (scale_is d a ks (Number p.left_scale) p.left) (scale_is d b ks (Number p.right_scale) p.right) v.0.0.most v.1.0.most most v.2),
    )
run_fits d (Cmp op a b) bs es st fixings f near k e h v =
    let ks = kinds es in
    let p = two_numbers (λ s t. TruthKind) (kind_of d a ks) (kind_of d b ks) k e in (
      run_fits d a bs es st fixings f (in_days (span a) (max (span a) (span b)) f (omega arith) near) (Number p.left_scale) p.left h.0 v.0.1,
      run_fits d b bs es st fixings f (in_days (span b) (max (span a) (span b)) f (omega arith) near) (Number p.right_scale) p.right h.1 v.1.1,
      on_values (run_of d a bs fixings f) (run_of d b bs fixings f) (typed (Number p.left_scale) (value_of d a es fixings f)) (typed (Number p.right_scale) (value_of d b es fixings f)) Compares (run_is_value d a bs es st fixings fixings (self_extends fixings) f (Number p.left_scale) p.left) (run_is_value d b bs es st fixings fixings (self_extends fixings) f (Number p.right_scale) p.right)
          (compares p.left_scale p.right_scale (scale_of d a ks) (scale_of d b ks) (value_of d a es fixings f) (value_of d b es fixings f) (scale_is d a ks (Number p.left_scale) p.left) (scale_is d b ks (Number p.right_scale) p.right) v.0.0.most v.1.0.most v.2),
    )
run_fits d (Not a) bs es st fixings f near k e h v =
    let p = truth_then (kind_of d a (kinds es)) (Some TruthKind) k e in
    run_fits d a bs es st fixings f near TruthKind p.first h v.1
run_fits d (Logic op a b) bs es st fixings f near k e h v =
    let p = truth_then (kind_of d a (kinds es)) (on_truth (kind_of d b (kinds es)) (Some TruthKind)) k e in
    let q = truth_then (kind_of d b (kinds es)) (Some TruthKind) k p.rest in (
      run_fits d a bs es st fixings f (in_days (span a) (max (span a) (span b)) f (omega arith) near) TruthKind p.first h.0 v.0.1,
      run_fits d b bs es st fixings f (in_days (span b) (max (span a) (span b)) f (omega arith) near) TruthKind q.first h.1 v.1.1,
    )
run_fits d (Cond t a b) bs es st fixings f near k e h v =
    let ks = kinds es in
    let p = truth_then (kind_of d t ks) (joined (kind_of d a ks) (kind_of d b ks)) k e in
    let q = branches (kind_of d a ks) (kind_of d b ks) k p.rest in
    let same = same_kinds bs es st in
    let all = max (span t) (max (span a) (span b)) in
    let x = value_of d a es fixings f in
    let y = value_of d b es fixings f in
    let found_a : kind_found d a (kinds_of bs) ≡ q.yes_kind = ap (λ (js : List Kind). kind_found d a js) same ∙ has_kind d a ks q.yes_kind q.yes in
    let found_b : kind_found d b (kinds_of bs) ≡ q.no_kind = ap (λ (js : List Kind). kind_found d b js) same ∙ has_kind d b ks q.no_kind q.no in
    let scale_a = scale_is d a ks q.yes_kind q.yes in
    let scale_b = scale_is d b ks q.no_kind q.no in (
      run_fits d t bs es st fixings f (in_days (span t) all f (omega arith) near) TruthKind p.first h.0 v.0.1,
      run_fits d a bs es st fixings f (in_days (span a) all f (omega arith) near) q.yes_kind q.yes h.1 v.1.1,
      run_fits d b bs es st fixings f (in_days (span b) all f (omega arith) near) q.no_kind q.no h.2 v.2.1,
      subst (λ (js : List Kind). KindFits d a js) (sym same) (kind_fits d a ks q.yes_kind q.yes h.1),
      subst (λ (js : List Kind). KindFits d b js) (sym same) (kind_fits d b ks q.no_kind q.no h.2),
      on_value (run_of d a bs fixings f) (typed q.yes_kind x) (λ w. FitsKind (kind_of_either w.kind (kind_found d b (kinds_of bs))) w) (run_is_value d a bs es st fixings fixings (self_extends fixings) f q.yes_kind q.yes)
          (subst (λ (j : Kind). FitsKind (kind_of_either q.yes_kind j) (typed q.yes_kind x)) (sym found_b) (left_fits q.yes_kind q.no_kind (scale_of d a ks) (scale_of d b ks) x y scale_a scale_b v.1.0.most v.2.0.most v.3)),
      on_value (run_of d b bs fixings f) (typed q.no_kind y) (λ w. FitsKind (kind_of_either (kind_found d a (kinds_of bs)) w.kind) w) (run_is_value d b bs es st fixings fixings (self_extends fixings) f q.no_kind q.no)
          (subst (λ (j : Kind). FitsKind (kind_of_either j q.no_kind) (typed q.no_kind y)) (sym found_a) (right_fits q.yes_kind q.no_kind (scale_of d a ks) (scale_of d b ks) x y scale_a scale_b v.1.0.most v.2.0.most v.3)),
    )
run_fits d (Widen s a) bs es st fixings f near k e h v =
    let p = one_number (λ _. Number s) (kind_of d a (kinds es)) k e in (
      run_fits d a bs es st fixings f near (Number p.scale) p.operand h.0 v.0.1,
      on_value (run_of d a bs fixings f) (typed (Number p.scale) (value_of d a es fixings f)) (FitsKind (Number s)) (run_is_value d a bs es st fixings fixings (self_extends fixings) f (Number p.scale) p.operand)
          (fits_kind (Number s) (Number p.scale) (scale_of d a (kinds es)) (value_of d a es fixings f) (scale_is d a (kinds es) (Number p.scale) p.operand) v.1),
    )
run_fits d (Round mode s a) bs es st fixings f near k e h v =
    let p = one_number (λ _. Number s) (kind_of d a (kinds es)) k e in (
      run_fits d a bs es st fixings f near (Number p.scale) p.operand h.0 v.0.1,
      on_value (run_of d a bs fixings f) (typed (Number p.scale) (value_of d a es fixings f)) (RoundsTo s) (run_is_value d a bs es st fixings fixings (self_extends fixings) f (Number p.scale) p.operand)
          (rounds s p.scale (scale_of d a (kinds es)) (value_of d a es fixings f) (scale_is d a (kinds es) (Number p.scale) p.operand) v.0.0.most v.0.0.small v.1),
    )
run_fits d (Div mode s a b) bs es st fixings f near k e h v =
    let ks = kinds es in
    let p = two_numbers (λ _ _. Number s) (kind_of d a ks) (kind_of d b ks) k e in (
      run_fits d a bs es st fixings f (in_days (span a) (max (span a) (span b)) f (omega arith) near) (Number p.left_scale) p.left h.0 v.0.1,
      run_fits d b bs es st fixings f (in_days (span b) (max (span a) (span b)) f (omega arith) near) (Number p.right_scale) p.right h.1 v.1.1,
      on_values (run_of d a bs fixings f) (run_of d b bs fixings f) (typed (Number p.left_scale) (value_of d a es fixings f)) (typed (Number p.right_scale) (value_of d b es fixings f)) (DividesTo s) (run_is_value d a bs es st fixings fixings (self_extends fixings) f (Number p.left_scale) p.left) (run_is_value d b bs es st fixings fixings (self_extends fixings) f (Number p.right_scale) p.right)
          (divides s p.left_scale p.right_scale (scale_of d a ks) (scale_of d b ks) (value_of d a es fixings f) (value_of d b es fixings f) (scale_is d a ks (Number p.left_scale) p.left) (scale_is d b ks (Number p.right_scale) p.right) v.0.0.most v.1.0.most v.2),
    )
run_fits d (Acc body n first) bs es st fixings f near k e h v =
    let ks = kinds es in
    let p = days (kind_of d first ks) (λ j. kind_of d body (j ∷ ks)) k e in
    let from = f -ℤ pos n in
    let scales : ScalesFit d body (k ∷ ks) = subst (λ (o : Option Kind). ScalesFit d body (kind_or o ∷ ks)) p.first h.1 in
    let early = in_start (span first) (span body) n f near in
    let plain : ℕ → Value → Value = λ i y. widened (scale_of d body (k ∷ ks)) (scale_of_kind k) (value_of d body (record { value = y; kind = k } ∷ es) fixings (from +ℤ pos i)) in
    let start = value_of d first es fixings from in
    let body_is : (i : ℕ) (y : Value) (w : Typed) → run_of d body (bound_to (typed k y) ∷ bs) fixings (from +ℤ pos i) ≡ Ok w → w ≡ typed p.body_kind (value_of d body (record { value = y; kind = k } ∷ es) fixings (from +ℤ pos i)) =
    λ i y w r. run_is_value d body (bound_to (typed k y) ∷ bs) (record { value = y; kind = k } ∷ es) (refl, refl, st) fixings fixings (self_extends fixings) (from +ℤ pos i) p.body_kind p.body w r in
    let scale_body = scale_is d body (k ∷ ks) p.body_kind p.body in
    let value_is : (i : ℕ) (w : Typed) → days_tried i (day_step (λ c t. run_of d body c fixings t) bs from) (run_of d first bs fixings from) ≡ Ok w → w ≡ typed k (days_run i plain start) =
    λ i w r. days_value i (day_step (λ c t. run_of d body c fixings t) bs from) plain k (run_of d first bs fixings from) start w (run_is_value d first bs es st fixings fixings (self_extends fixings) from k p.first)
    (λ j y u q. by_one (at_kind k) (run_of d body (bound_to (typed k y) ∷ bs) fixings (from +ℤ pos j)) (typed p.body_kind (value_of d body (record { value = y; kind = k } ∷ es) fixings (from +ℤ pos j))) u (body_is j y) q
    ∙ ap (λ (s : ℕ). typed k (widened s (scale_of_kind k) (value_of d body (record { value = y; kind = k } ∷ es) fixings (from +ℤ pos j)))) (sym scale_body)) r in
    let day_fits : (i : ℕ) → i < n → DayFits (λ c t. run_of d body c fixings t) (λ c t. Fits d body c fixings t) bs (from +ℤ pos (suc i)) (typed k (days_run i plain start)) =
    λ i lt.
    let x = days_run i plain start in
    let safe : BodySafe d body n first es fixings f i (Some k) = subst (λ (o : Option Kind). BodySafe d body n first es fixings f i o) p.first (v.1 i lt) in (
      run_fits d body (bound_to (typed k x) ∷ bs) (record { value = x; kind = k } ∷ es) (refl, refl, st) fixings (from +ℤ pos (suc i)) (in_body (span first) (span body) n i f lt near) p.body_kind p.body scales safe.0.1,
      on_value (run_of d body (bound_to (typed k x) ∷ bs) fixings (from +ℤ pos (suc i))) (typed p.body_kind (value_of d body (record { value = x; kind = k } ∷ es) fixings (from +ℤ pos (suc i)))) (λ w. FitsKind k w) (body_is (suc i) x)
          (fits_kind k p.body_kind (scale_of d body (k ∷ ks)) (value_of d body (record { value = x; kind = k } ∷ es) fixings (from +ℤ pos (suc i))) scale_body safe.1),
    ) in (
      is_day (max (span first + n) (span body + (n - 1))) f near,
      is_day (span first) from early,
      run_fits d first bs es st fixings from early k p.first h.0 v.0.1,
      (λ i w lt r. subst (λ (m : ℕ). DayFits (λ c t. run_of d body c fixings t) (λ c t. Fits d body c fixings t) bs (from +ℤ pos m) w) (sym (add-one i))
          (subst (λ (o : Typed). DayFits (λ c t. run_of d body c fixings t) (λ c t. Fits d body c fixings t) bs (from +ℤ pos (suc i)) o) (sym (value_is i w r)) (day_fits i lt))),
    )
