-- A turn keeps the kind and the value of an expression that has a kind.
use Rattle.std.proofs.Common.{◌≡◌, ℕ, zero, suc, ℤ, pos, ◌+ℤ◌, ◌-ℤ◌, neg_ℤ, ◌-◌, ◌≤◌, not, Bool, true, false, max, nat_lt, List, ◌∷◌, Option, Some, None, if◌then◌else◌, refl, ap, ap₂, sym, subst, ◌∙◌, arith}
use Rattle.std.proofs.lemmas.Int.{ints}
use Rattle.std.proofs.lemmas.Bool.Decides.{nat_tests}
use Rattle.decimal.specs.Rounding.{raised, at_scale, divided}
use Rattle.term_model.specs.Declarations.{Declarations}
use Rattle.term_model.specs.declared.terms.LogicOp.{LogicOp}
use Rattle.term_model.specs.declared.terms.LogicOp.TheVariants.{And, Or}
use Rattle.term_model.specs.declared.values.Kind.{Kind}
use Rattle.term_model.specs.declared.values.Kind.TheVariants.{Truth as TruthKind, Number}
use Rattle.term_model.specs.declared.values.Value.{Value}
use Rattle.term_model.specs.declared.values.Value.TheVariants.{Num as Amount, Truth}
use Rattle.term_model.specs.Terms.{Expression, Lit, Yes, Var, Obs, Neg, Num, Cmp, Not, Logic, Cond, Widen, Round, Div, Acc}
use Rattle.term_model.specs.Environments.{Environment, IsAdmitted}
use Rattle.term_model.specs.Kinds.{kind_of, scale_of, scale_or_zero, scale_of_kind, on_number, on_numbers, on_truth, joined, of_acc, scale_of_op}
use Rattle.term_model.specs.Values.{Entry, kinds, num, truth, of_num, of_cmp, logic_op, widened, kind_or, value_of, days_run}
use Rattle.term_model.specs.LawsKinds.{IsOfKind, AreOfKinds}
use Rattle.term_model.specs.Redexes.{has_literal_operands}
use Rattle.term_model.proofs.KindFacts.{values_have_kinds}
use Rattle.term_model.proofs.ShiftFacts.{of_two}
use Rattle.rewriting.specs.Replacing.{branch_at}
use Rattle.interval_check.proofs.KindsFound.{one_number, two_numbers, truth_then, branches, days}
use Rattle.simplify.specs.Turning.{is_chosen, resolved, choice, rule, turned}
use Rattle.simplify.proofs.RuleFlows.{is_zero_count}
use Rattle.rewriting.proofs.RaisedFacts.{raised-none}

-- y has kind k, and the value of x
abbrev pub Means : Declarations → Expression → Expression → List Entry → Environment → ℤ → Kind → Type 0
Means d y x g env f k = (kind_of d y (kinds g) ≡ Some k) × (value_of d y g env f ≡ value_of d x g env f)

truth_is : (v : Value) → IsOfKind TruthKind v → v ≡ Truth (truth v)
truth_is (Truth b) h = refl
truth_is (Amount m) h = absurd h

-- `&` and `|` with a literal on the left
logic_means : (d : Declarations) (op : LogicOp) (v : Bool) (b : Expression) (g : List Entry) (env : Environment) (f : ℤ) (k : Kind) → IsAdmitted d env → AreOfKinds g → kind_of d (Logic op (Yes v) b) (kinds g) ≡ Some k → Means d (resolved d (kinds g) (Logic op (Yes v) b)) (Logic op (Yes v) b) g env f k
logic_means d And true b g env f k a h e =
    let p = truth_then (kind_of d b (kinds g)) (Some TruthKind) k e in
    (p.first ∙ p.rest, truth_is (value_of d b g env f) (values_have_kinds d b g env f TruthKind a h p.first))
logic_means d And false b g env f k a h e = ((truth_then (kind_of d b (kinds g)) (Some TruthKind) k e).rest, refl)
logic_means d Or true b g env f k a h e = ((truth_then (kind_of d b (kinds g)) (Some TruthKind) k e).rest, refl)
logic_means d Or false b g env f k a h e =
    let p = truth_then (kind_of d b (kinds g)) (Some TruthKind) k e in
    (p.first ∙ p.rest, truth_is (value_of d b g env f) (values_have_kinds d b g env f TruthKind a h p.first))

resolved_means : (d : Declarations) (x : Expression) (g : List Entry) (env : Environment) (f : ℤ) (k : Kind) → IsAdmitted d env → AreOfKinds g → kind_of d x (kinds g) ≡ Some k → has_literal_operands x ≡ true → Means d (resolved d (kinds g) x) x g env f k
resolved_means d (Neg (Lit m s)) g env f k a h e t = (e, refl)
resolved_means d (Neg x) g env f k a h e t = absurd (cc)
resolved_means d (Num op (Lit m i) (Lit n j)) g env f k a h e t = (e, refl)
resolved_means d (Num op x y) g env f k a h e t = absurd (cc)
resolved_means d (Cmp op (Lit m i) (Lit n j)) g env f k a h e t = (e, refl)
resolved_means d (Cmp op x y) g env f k a h e t = absurd (cc)
resolved_means d (Not (Yes b)) g env f k a h e t = (e, refl)
resolved_means d (Not x) g env f k a h e t = absurd (cc)
resolved_means d (Logic op (Yes v) b) g env f k a h e t = logic_means d op v b g env f k a h e
resolved_means d (Logic op x b) g env f k a h e t = absurd (cc)
resolved_means d (Widen s (Lit m i)) g env f k a h e t = (e, refl)
resolved_means d (Widen s x) g env f k a h e t = absurd (cc)
resolved_means d (Round mode s (Lit m i)) g env f k a h e t = (e, refl)
resolved_means d (Round mode s x) g env f k a h e t = absurd (cc)
resolved_means d (Div mode s (Lit m i) (Lit n j)) g env f k a h e t = (e, refl)
resolved_means d (Div mode s x y) g env f k a h e t = absurd (cc)
resolved_means d (Lit m s) g env f k a h e t = absurd (cc)
resolved_means d (Yes b) g env f k a h e t = absurd (cc)
resolved_means d (Var back) g env f k a h e t = absurd (cc)
resolved_means d (Obs l u) g env f k a h e t = absurd (cc)
resolved_means d (Cond c x y) g env f k a h e t = absurd (cc)
resolved_means d (Acc body n first) g env f k a h e t = absurd (cc)

-- ---- choices

widened_same : (i m : ℕ) (v : Value) → i ≡ m → widened i m v ≡ v
widened_same i m (Truth b) e = refl
widened_same i m (Amount x) e =
    let none : m - i ≡ 0 = omega (arith, e) in
    ap (λ (n : ℕ). Amount (raised x n)) none ∙ ap (λ (y : ℤ). Amount y) (raised-none x)

-- a branch of kind o beside one of scale j: it is widened, or it has the kind of the whole
pub record Wide (o : Option Kind) (m : ℕ) (k : Kind) : Type 0 where
  pub scale : ℕ
  pub number : o ≡ Some (Number scale)
  pub whole : Number m ≡ k

pub record Fit (o : Option Kind) (m : ℕ) (k : Kind) : Type 0 where
  pub kind : o ≡ Some k
  pub same : scale_or_zero o ≡ m

not_less : (s m : ℕ) → nat_lt s m ≡ false → s ≤ m → s ≡ m
not_less s m h le = grind (arith, nat_tests)

left_wide : (o u : Option Kind) (k : Kind) → joined o u ≡ Some k → nat_lt (scale_or_zero o) (max (scale_or_zero o) (scale_or_zero u)) ≡ true → Wide o (max (scale_or_zero o) (scale_or_zero u)) k
left_wide None u k e h = absurd (cc)
left_wide (Some TruthKind) None k e h = absurd (cc)
left_wide (Some TruthKind) (Some TruthKind) k e h = absurd (cc)
left_wide (Some TruthKind) (Some (Number t)) k e h = absurd (cc)
left_wide (Some (Number s)) None k e h = absurd (cc)
left_wide (Some (Number s)) (Some TruthKind) k e h = absurd (cc)
left_wide (Some (Number s)) (Some (Number t)) k e h = record { scale = s; number = refl; whole = cc }

left_fit : (o u : Option Kind) (k : Kind) → joined o u ≡ Some k → nat_lt (scale_or_zero o) (max (scale_or_zero o) (scale_or_zero u)) ≡ false → Fit o (max (scale_or_zero o) (scale_or_zero u)) k
left_fit None u k e h = absurd (cc)
left_fit (Some TruthKind) None k e h = absurd (cc)
left_fit (Some TruthKind) (Some TruthKind) k e h = record { kind = e; same = refl }
left_fit (Some TruthKind) (Some (Number t)) k e h = absurd (cc)
left_fit (Some (Number s)) None k e h = absurd (cc)
left_fit (Some (Number s)) (Some TruthKind) k e h = absurd (cc)
left_fit (Some (Number s)) (Some (Number t)) k e h =
    let same : s ≡ max s t = not_less s (max s t) h (omega arith) in
    record { kind = ap (λ (n : ℕ). Some (Number n)) same ∙ e; same = same }

right_wide : (o u : Option Kind) (k : Kind) → joined o u ≡ Some k → nat_lt (scale_or_zero u) (max (scale_or_zero o) (scale_or_zero u)) ≡ true → Wide u (max (scale_or_zero o) (scale_or_zero u)) k
right_wide None u k e h = absurd (cc)
right_wide (Some TruthKind) None k e h = absurd (cc)
right_wide (Some TruthKind) (Some TruthKind) k e h = absurd (cc)
right_wide (Some TruthKind) (Some (Number t)) k e h = absurd (cc)
right_wide (Some (Number s)) None k e h = absurd (cc)
right_wide (Some (Number s)) (Some TruthKind) k e h = absurd (cc)
right_wide (Some (Number s)) (Some (Number t)) k e h = record { scale = t; number = refl; whole = cc }

right_fit : (o u : Option Kind) (k : Kind) → joined o u ≡ Some k → nat_lt (scale_or_zero u) (max (scale_or_zero o) (scale_or_zero u)) ≡ false → Fit u (max (scale_or_zero o) (scale_or_zero u)) k
right_fit None u k e h = absurd (cc)
right_fit (Some TruthKind) None k e h = absurd (cc)
right_fit (Some TruthKind) (Some TruthKind) k e h = record { kind = e; same = refl }
right_fit (Some TruthKind) (Some (Number t)) k e h = absurd (cc)
right_fit (Some (Number s)) None k e h = absurd (cc)
right_fit (Some (Number s)) (Some TruthKind) k e h = absurd (cc)
right_fit (Some (Number s)) (Some (Number t)) k e h =
    let same : t ≡ max s t = not_less t (max s t) h (omega arith) in
    record { kind = ap (λ (n : ℕ). Some (Number n)) same ∙ e; same = same }

-- a branch at the scale of the whole
branch_means : (d : Declarations) (y : Expression) (m : ℕ) (g : List Entry) (env : Environment) (f : ℤ) (k : Kind) → (nat_lt (scale_of d y (kinds g)) m ≡ true → Wide (kind_of d y (kinds g)) m k) → (nat_lt (scale_of d y (kinds g)) m ≡ false → Fit (kind_of d y (kinds g)) m k)
    → (kind_of d (branch_at (scale_of d y (kinds g)) m y) (kinds g) ≡ Some k) × (value_of d (branch_at (scale_of d y (kinds g)) m y) g env f ≡ widened (scale_of d y (kinds g)) m (value_of d y g env f))
branch_means d y m g env f k wide fit = at (nat_lt (scale_of d y (kinds g)) m) refl
  where
    at : (b : Bool) → nat_lt (scale_of d y (kinds g)) m ≡ b → (kind_of d (if b then Widen m y else y) (kinds g) ≡ Some k) × (value_of d (if b then Widen m y else y) g env f ≡ widened (scale_of d y (kinds g)) m (value_of d y g env f))
    at true h =
        let w = wide h in
        (ap (on_number (λ _. Some (Number m))) w.number ∙ ap (λ (j : Kind). Some j) w.whole, refl)
    at false h =
        let w = fit h in
        (w.kind, sym (widened_same (scale_of d y (kinds g)) m (value_of d y g env f) w.same))

no_days : (d : Declarations) (body first : Expression) (n : ℕ) (g : List Entry) (env : Environment) (f : ℤ) → n ≡ 0 → value_of d first g env f ≡ value_of d (Acc body n first) g env f
no_days d body first n g env f e = none ∙ ap (λ (m : ℕ). value_of d (Acc body m first) g env f) (sym e)
  where
    none : value_of d first g env f ≡ value_of d (Acc body zero first) g env f
    none = ap (value_of d first g env) (omega (arith, ints))

choice_means : (d : Declarations) (x : Expression) (g : List Entry) (env : Environment) (f : ℤ) (k : Kind) → kind_of d x (kinds g) ≡ Some k → is_chosen x ≡ true → Means d (choice d (kinds g) x) x g env f k
choice_means d (Cond (Yes true) a b) g env f k e t =
    branch_means d a (max (scale_of d a (kinds g)) (scale_of d b (kinds g))) g env f k (left_wide (kind_of d a (kinds g)) (kind_of d b (kinds g)) k e) (left_fit (kind_of d a (kinds g)) (kind_of d b (kinds g)) k e)
choice_means d (Cond (Yes false) a b) g env f k e t =
    branch_means d b (max (scale_of d a (kinds g)) (scale_of d b (kinds g))) g env f k (right_wide (kind_of d a (kinds g)) (kind_of d b (kinds g)) k e) (right_fit (kind_of d a (kinds g)) (kind_of d b (kinds g)) k e)
choice_means d (Cond c a b) g env f k e t = absurd (cc)
choice_means d (Acc body n first) g env f k e t =
    ((days (kind_of d first (kinds g)) (λ j. kind_of d body (j ∷ kinds g)) k e).first, no_days d body first n g env f (is_zero_count n t))
choice_means d (Lit m s) g env f k e t = absurd (cc)
choice_means d (Yes b) g env f k e t = absurd (cc)
choice_means d (Var back) g env f k e t = absurd (cc)
choice_means d (Obs l u) g env f k e t = absurd (cc)
choice_means d (Neg x) g env f k e t = absurd (cc)
choice_means d (Num op x y) g env f k e t = absurd (cc)
choice_means d (Cmp op x y) g env f k e t = absurd (cc)
choice_means d (Not x) g env f k e t = absurd (cc)
choice_means d (Logic op x y) g env f k e t = absurd (cc)
choice_means d (Widen s x) g env f k e t = absurd (cc)
choice_means d (Round mode s x) g env f k e t = absurd (cc)
choice_means d (Div mode s x y) g env f k e t = absurd (cc)

pub rule_means : (d : Declarations) (x : Expression) (g : List Entry) (env : Environment) (f : ℤ) (k : Kind) → IsAdmitted d env → AreOfKinds g → kind_of d x (kinds g) ≡ Some k → Means d (rule d (kinds g) x) x g env f k
rule_means d x g env f k a h e = at (has_literal_operands x) (is_chosen x) refl refl
  where
    at : (b c : Bool) → has_literal_operands x ≡ b → is_chosen x ≡ c → Means d (if b then resolved d (kinds g) x else (if c then choice d (kinds g) x else x)) x g env f k
    at true c p q = resolved_means d x g env f k a h e p
    at false true p q = choice_means d x g env f k e q
    at false false p q = (e, refl)

-- ---- turns

then_rule : (d : Declarations) (x e : Expression) (g : List Entry) (env : Environment) (f : ℤ) (k : Kind) → IsAdmitted d env → AreOfKinds g → kind_of d x (kinds g) ≡ kind_of d e (kinds g) → value_of d x g env f ≡ value_of d e g env f → kind_of d e (kinds g) ≡ Some k → Means d (rule d (kinds g) x) e g env f k
then_rule d x e g env f k a h same is kind =
    let m = rule_means d x g env f k a h (same ∙ kind) in
    (m.0, m.1 ∙ is)

-- steps that are the same at each value on the way
pub same_run : (n : ℕ) (step go : ℕ → Value → Value) (v w : Value) → v ≡ w → ((i : ℕ) → step (suc i) (days_run i go w) ≡ go (suc i) (days_run i go w)) → days_run n step v ≡ days_run n go w
same_run zero step go v w e h = e
same_run (suc n) step go v w e h = ap (step (suc n)) (same_run n step go v w e h) ∙ h n

-- the value on the way has the kind of the start
pub on_the_way : (d : Declarations) (body first : Expression) (n i : ℕ) (g : List Entry) (env : Environment) (f : ℤ) (k : Kind) → IsAdmitted d env → AreOfKinds g → kind_of d (Acc body n first) (kinds g) ≡ Some k
    → (let kind = kind_or (kind_of d first (kinds g)) in
    IsOfKind k (days_run i (λ i v. widened (scale_of d body (kind ∷ kinds g)) (scale_of_kind kind) (value_of d body (record { value = v; kind = kind } ∷ g) env (f -ℤ pos n +ℤ pos i))) (value_of d first g env (f -ℤ pos n))))
on_the_way d body first n i g env f k a h e =
    let kind = kind_or (kind_of d first (kinds g)) in
    let run : ℤ → Value = λ from. days_run i (λ i v. widened (scale_of d body (kind ∷ kinds g)) (scale_of_kind kind) (value_of d body (record { value = v; kind = kind } ∷ g) env (from +ℤ pos i))) (value_of d first g env from) in
    let back : (f -ℤ pos n +ℤ pos i) -ℤ pos i ≡ f -ℤ pos n = omega (arith, ints) in
    subst (λ (v : Value). IsOfKind k v) (ap run back) (values_have_kinds d (Acc body i first) g env (f -ℤ pos n +ℤ pos i) k a h e)

pub acc_at : (o u : Option Kind) (p q : Kind → Option Kind) → o ≡ u → p (kind_or u) ≡ q (kind_or u) → of_acc o p ≡ of_acc u q
acc_at o u p q e h = ap (λ (r : Option Kind). of_acc r p) e ∙ at u h
  where
    at : (r : Option Kind) → p (kind_or r) ≡ q (kind_or r) → of_acc r p ≡ of_acc r q
    at None h = refl
    at (Some TruthKind) h = ap (λ (r : Option Kind). on_truth r (Some TruthKind)) h
    at (Some (Number s)) h = ap (on_number (λ _. Some (Number s))) h

pub turn_means : (d : Declarations) (e : Expression) (g : List Entry) (env : Environment) (f : ℤ) (k : Kind) → IsAdmitted d env → AreOfKinds g → kind_of d e (kinds g) ≡ Some k → Means d (turned d (kinds g) e) e g env f k
turn_means d (Lit m s) g env f k a h e = (e, refl)
turn_means d (Yes b) g env f k a h e = (e, refl)
turn_means d (Var back) g env f k a h e = (e, refl)
turn_means d (Obs l t) g env f k a h e = (e, refl)
turn_means d (Neg x) g env f k a h e =
    let p = one_number (λ s. Number s) (kind_of d x (kinds g)) k e in
    let m = turn_means d x g env f (Number p.scale) a h p.operand in
    then_rule d (Neg (turned d (kinds g) x)) (Neg x) g env f k a h (ap (on_number (λ s. Some (Number s))) (m.0 ∙ sym p.operand)) (ap (λ (v : Value). Amount (neg_ℤ (num v))) m.1) e
turn_means d (Num op x y) g env f k a h e =
    let p = two_numbers (λ s t. Number (scale_of_op op s t)) (kind_of d x (kinds g)) (kind_of d y (kinds g)) k e in
    let m = turn_means d x g env f (Number p.left_scale) a h p.left in
    let n = turn_means d y g env f (Number p.right_scale) a h p.right in
    let i = m.0 ∙ sym p.left in
    let j = n.0 ∙ sym p.right in
    then_rule d (Num op (turned d (kinds g) x) (turned d (kinds g) y)) (Num op x y) g env f k a h (ap₂ (on_numbers (λ s t. Some (Number (scale_of_op op s t)))) i j) (of_two (λ i v j w. Amount (of_num op i (num v) j (num w))) _ _ _ _ _ _ _ _ (ap scale_or_zero i) m.1 (ap scale_or_zero j) n.1) e
turn_means d (Cmp op x y) g env f k a h e =
    let p = two_numbers (λ s t. TruthKind) (kind_of d x (kinds g)) (kind_of d y (kinds g)) k e in
    let m = turn_means d x g env f (Number p.left_scale) a h p.left in
    let n = turn_means d y g env f (Number p.right_scale) a h p.right in
    let i = m.0 ∙ sym p.left in
    let j = n.0 ∙ sym p.right in
    then_rule d (Cmp op (turned d (kinds g) x) (turned d (kinds g) y)) (Cmp op x y) g env f k a h (ap₂ (on_numbers (λ s t. Some TruthKind)) i j) (of_two (λ i v j w. Truth (of_cmp op i (num v) j (num w))) _ _ _ _ _ _ _ _ (ap scale_or_zero i) m.1 (ap scale_or_zero j) n.1) e
turn_means d (Not x) g env f k a h e =
    let p = truth_then (kind_of d x (kinds g)) (Some TruthKind) k e in
    let m = turn_means d x g env f TruthKind a h p.first in
    then_rule d (Not (turned d (kinds g) x)) (Not x) g env f k a h (ap (λ (o : Option Kind). on_truth o (Some TruthKind)) (m.0 ∙ sym p.first)) (ap (λ (v : Value). Truth (not (truth v))) m.1) e
turn_means d (Logic op x y) g env f k a h e =
    let p = truth_then (kind_of d x (kinds g)) (on_truth (kind_of d y (kinds g)) (Some TruthKind)) k e in
    let q = truth_then (kind_of d y (kinds g)) (Some TruthKind) k p.rest in
    let m = turn_means d x g env f TruthKind a h p.first in
    let n = turn_means d y g env f TruthKind a h q.first in
    then_rule d (Logic op (turned d (kinds g) x) (turned d (kinds g) y)) (Logic op x y) g env f k a h (ap₂ (λ (o u : Option Kind). on_truth o (on_truth u (Some TruthKind))) (m.0 ∙ sym p.first) (n.0 ∙ sym q.first)) (ap₂ (λ (v w : Value). Truth (logic_op op (truth v) (truth w))) m.1 n.1) e
turn_means d (Cond c x y) g env f k a h e =
    let p = truth_then (kind_of d c (kinds g)) (joined (kind_of d x (kinds g)) (kind_of d y (kinds g))) k e in
    let q = branches (kind_of d x (kinds g)) (kind_of d y (kinds g)) k p.rest in
    let l = turn_means d c g env f TruthKind a h p.first in
    let m = turn_means d x g env f q.yes_kind a h q.yes in
    let n = turn_means d y g env f q.no_kind a h q.no in
    let i = m.0 ∙ sym q.yes in
    let j = n.0 ∙ sym q.no in
    let s = scale_of d (turned d (kinds g) x) (kinds g) in
    let t = scale_of d (turned d (kinds g) y) (kinds g) in
    then_rule d (Cond (turned d (kinds g) c) (turned d (kinds g) x) (turned d (kinds g) y)) (Cond c x y) g env f k a h (ap₂ on_truth (l.0 ∙ sym p.first) (ap₂ joined i j))
    (ap (λ (v : Value). if truth v then widened s (max s t) (value_of d (turned d (kinds g) x) g env f) else widened t (max s t) (value_of d (turned d (kinds g) y) g env f)) l.1
    ∙ of_two (λ i v j w. if truth (value_of d c g env f) then widened i (max i j) v else widened j (max i j) w) _ _ _ _ _ _ _ _ (ap scale_or_zero i) m.1 (ap scale_or_zero j) n.1) e
turn_means d (Widen s x) g env f k a h e =
    let p = one_number (λ _. Number s) (kind_of d x (kinds g)) k e in
    let m = turn_means d x g env f (Number p.scale) a h p.operand in
    let i = m.0 ∙ sym p.operand in
    then_rule d (Widen s (turned d (kinds g) x)) (Widen s x) g env f k a h (ap (on_number (λ _. Some (Number s))) i) (ap₂ (λ (i : ℕ) (v : Value). widened i s v) (ap scale_or_zero i) m.1) e
turn_means d (Round mode s x) g env f k a h e =
    let p = one_number (λ _. Number s) (kind_of d x (kinds g)) k e in
    let m = turn_means d x g env f (Number p.scale) a h p.operand in
    let i = m.0 ∙ sym p.operand in
    then_rule d (Round mode s (turned d (kinds g) x)) (Round mode s x) g env f k a h (ap (on_number (λ _. Some (Number s))) i) (ap₂ (λ (i : ℕ) (v : Value). Amount (at_scale mode (num v) i s)) (ap scale_or_zero i) m.1) e
turn_means d (Div mode s x y) g env f k a h e =
    let p = two_numbers (λ _ _. Number s) (kind_of d x (kinds g)) (kind_of d y (kinds g)) k e in
    let m = turn_means d x g env f (Number p.left_scale) a h p.left in
    let n = turn_means d y g env f (Number p.right_scale) a h p.right in
    let i = m.0 ∙ sym p.left in
    let j = n.0 ∙ sym p.right in
    then_rule d (Div mode s (turned d (kinds g) x) (turned d (kinds g) y)) (Div mode s x y) g env f k a h (ap₂ (on_numbers (λ _ _. Some (Number s))) i j) (of_two (λ i v j w. Amount (divided mode (num v) i (num w) j s)) _ _ _ _ _ _ _ _ (ap scale_or_zero i) m.1 (ap scale_or_zero j) n.1) e
turn_means d (Acc body n first) g env f k a h e =
    let ks = kinds g in
    let p = days (kind_of d first ks) (λ j. kind_of d body (j ∷ ks)) k e in
    let kind = kind_or (kind_of d first ks) in
    let is_kind : kind ≡ k = ap kind_or p.first in
    let body' = turned d (kind ∷ ks) body in
    let first' = turned d ks first in
    let m = turn_means d first g env (f -ℤ pos n) k a h p.first in
    let same_first : kind_of d first' ks ≡ kind_of d first ks = m.0 ∙ sym p.first in
    let body_kind : kind_of d body (kind ∷ ks) ≡ Some p.body_kind = subst (λ (j : Kind). kind_of d body (j ∷ ks) ≡ Some p.body_kind) (sym is_kind) p.body in
    let inside : (v : Value) (u : ℤ) → IsOfKind kind v → Means d body' body (record { value = v; kind = kind } ∷ g) env u p.body_kind = λ v u o. turn_means d body (record { value = v; kind = kind } ∷ g) env u p.body_kind a (o, h) body_kind in
    let some : (v : Value) → IsOfKind kind v → kind_of d body' (kind ∷ ks) ≡ kind_of d body (kind ∷ ks) = λ v o. (inside v (pos 0) o).0 ∙ sym body_kind in
    let way : (i : ℕ) → IsOfKind kind (days_run i (λ i v. widened (scale_of d body (kind ∷ ks)) (scale_of_kind kind) (value_of d body (record { value = v; kind = kind } ∷ g) env (f -ℤ pos n +ℤ pos i))) (value_of d first g env (f -ℤ pos n))) = λ i. subst (λ (j : Kind). IsOfKind j (days_run i (λ i v. widened (scale_of d body (kind ∷ ks)) (scale_of_kind kind) (value_of d body (record { value = v; kind = kind } ∷ g) env (f -ℤ pos n +ℤ pos i))) (value_of d first g env (f -ℤ pos n)))) (sym is_kind) (on_the_way d body first n i g env f k a h e) in
    let same_body : kind_of d body' (kind ∷ ks) ≡ kind_of d body (kind ∷ ks) = some _ (way 0) in
    let acc_same : of_acc (kind_of d first' ks) (λ j. kind_of d body' (j ∷ ks)) ≡ of_acc (kind_of d first ks) (λ j. kind_of d body (j ∷ ks)) = acc_at (kind_of d first' ks) (kind_of d first ks) (λ j. kind_of d body' (j ∷ ks)) (λ j. kind_of d body (j ∷ ks)) same_first same_body in
    let run : Option Kind → Value = λ o. days_run n (λ i v. widened (scale_of d body' (kind_or o ∷ ks)) (scale_of_kind (kind_or o)) (value_of d body' (record { value = v; kind = kind_or o } ∷ g) env (f -ℤ pos n +ℤ pos i))) (value_of d first' g env (f -ℤ pos n)) in
    then_rule d (Acc body' n first') (Acc body n first) g env f k a h acc_same
    (ap run same_first ∙ same_run n _ _ _ _ m.1 (λ i. ap₂ (λ (s : ℕ) (v : Value). widened s (scale_of_kind kind) v) (ap scale_or_zero same_body) (inside _ (f -ℤ pos n +ℤ pos (suc i)) (way i)).1)) e
