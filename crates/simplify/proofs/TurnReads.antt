-- A turn of an expression reads nothing that the expression does not read.
use Rattle.std.proofs.Common.{◌≡◌, ℕ, zero, suc, ℤ, pos, ◌+ℤ◌, ◌-ℤ◌, max, nat_lt, Bool, true, false, if◌then◌else◌, Option, Some, List, ◌∷◌, [], ◌++◌, refl, ap, ap₂, sym, subst, ◌∙◌, arith}
use Rattle.std.proofs.lemmas.Int.{ints}
use Rattle.term_model.specs.Declarations.{Declarations}
use Rattle.term_model.specs.declared.terms.LogicOp.{LogicOp}
use Rattle.term_model.specs.declared.terms.LogicOp.TheVariants.{And, Or}
use Rattle.term_model.specs.declared.values.Kind.{Kind}
use Rattle.term_model.specs.declared.values.Kind.TheVariants.{Truth as TruthKind, Number}
use Rattle.term_model.specs.declared.values.Value.{Value}
use Rattle.term_model.specs.Terms.{Expression, Lit, Yes, Var, Obs, Neg, Num, Cmp, Not, Logic, Cond, Widen, Round, Div, Acc}
use Rattle.term_model.specs.Environments.{Environment, Place}
use Rattle.term_model.specs.Kinds.{kind_of, scale_of, scale_of_kind, scale_or_zero, scale_of_op, on_number, on_numbers, on_truth, joined}
use Rattle.term_model.specs.Values.{Entry, kinds, truth, widened, kind_or, value_of, days_run}
use Rattle.term_model.specs.LawsKinds.{IsOfKind}
use Rattle.term_model.specs.Reads.{reads_of, steps_before, decides}
use Rattle.term_model.specs.Redexes.{has_literal_operands}
use Rattle.rewriting.specs.Replacing.{branch_at}
use Rattle.interval_check.proofs.KindsFound.{one_number, two_numbers, truth_then, branches, days}
use Rattle.rewriting.proofs.Among.{among_none, among_same, among_both, among_left, then_among, among_steps, among_chosen, one_name_more}
use Rattle.simplify.specs.Turning.{is_chosen, resolved, choice, rule, turned}
use Rattle.simplify.proofs.TurnMeaning.{same_run, on_the_way, acc_at, turn_means}
use Rattle.rewriting.specs.Keeping.{AreAmong}
use Rattle.specialise.proofs.SpecialReads.{literal_among}
use Rattle.simplify.specs.LawsTurnsKeep.{TurnsReadLess}
use Rattle.simplify.proofs.RuleFlows.{is_zero_count}

all_of : (xs : List Place) → AreAmong xs xs
all_of xs q c = c

logic_reads : (d : Declarations) (op : LogicOp) (v : Bool) (b : Expression) (g : List Entry) (bs : List (List Place)) (env : Environment) (f : ℤ) → AreAmong (reads_of d (resolved d (kinds g) (Logic op (Yes v) b)) g bs env f) (reads_of d (Logic op (Yes v) b) g bs env f)
logic_reads d And true b g bs env f = all_of (reads_of d b g bs env f)
logic_reads d And false b g bs env f = among_none []
logic_reads d Or true b g bs env f = among_none []
logic_reads d Or false b g bs env f = all_of (reads_of d b g bs env f)

resolved_reads : (d : Declarations) (x : Expression) (g : List Entry) (bs : List (List Place)) (env : Environment) (f : ℤ) (k : Kind) → kind_of d x (kinds g) ≡ Some k → has_literal_operands x ≡ true → AreAmong (reads_of d (resolved d (kinds g) x) g bs env f) (reads_of d x g bs env f)
resolved_reads d (Logic op (Yes v) b) g bs env f k e t = logic_reads d op v b g bs env f
resolved_reads d (Logic op (Lit m s) b) g bs env f k e t = absurd (cc)
resolved_reads d (Logic op x b) g bs env f k e t = absurd (cc)
resolved_reads d (Neg x) g bs env f k e t = literal_among d _ _ g bs env f (reads_of d (Neg x) g bs env f)
resolved_reads d (Num op x y) g bs env f k e t = literal_among d _ _ g bs env f (reads_of d (Num op x y) g bs env f)
resolved_reads d (Cmp op x y) g bs env f k e t = literal_among d _ _ g bs env f (reads_of d (Cmp op x y) g bs env f)
resolved_reads d (Not x) g bs env f k e t = literal_among d _ _ g bs env f (reads_of d (Not x) g bs env f)
resolved_reads d (Widen s x) g bs env f k e t = literal_among d _ _ g bs env f (reads_of d (Widen s x) g bs env f)
resolved_reads d (Round mode s x) g bs env f k e t = literal_among d _ _ g bs env f (reads_of d (Round mode s x) g bs env f)
resolved_reads d (Div mode s x y) g bs env f k e t = literal_among d _ _ g bs env f (reads_of d (Div mode s x y) g bs env f)
resolved_reads d (Lit m s) g bs env f k e t = absurd (cc)
resolved_reads d (Yes b) g bs env f k e t = absurd (cc)
resolved_reads d (Var back) g bs env f k e t = absurd (cc)
resolved_reads d (Obs l u) g bs env f k e t = absurd (cc)
resolved_reads d (Cond c x y) g bs env f k e t = absurd (cc)
resolved_reads d (Acc body n first) g bs env f k e t = absurd (cc)

branch_reads_same : (d : Declarations) (i s : ℕ) (e : Expression) (g : List Entry) (bs : List (List Place)) (env : Environment) (f : ℤ) → AreAmong (reads_of d (branch_at i s e) g bs env f) (reads_of d e g bs env f)
branch_reads_same d i s e g bs env f = at (nat_lt i s)
  where
    at : (b : Bool) → AreAmong (reads_of d (if b then Widen s e else e) g bs env f) (reads_of d e g bs env f)
    at true = all_of (reads_of d e g bs env f)
    at false = all_of (reads_of d e g bs env f)

no_days_read : (d : Declarations) (body first : Expression) (n : ℕ) (g : List Entry) (bs : List (List Place)) (env : Environment) (f : ℤ) → n ≡ 0 → AreAmong (reads_of d first g bs env f) (reads_of d (Acc body n first) g bs env f)
no_days_read d body first n g bs env f e =
    then_among (reads_of d first g bs env f) (reads_of d (Acc body zero first) g bs env f) (reads_of d (Acc body n first) g bs env f)
    (among_left (reads_of d first g bs env f) (reads_of d first g bs env (f -ℤ pos zero)) [] (among_same (reads_of d first g bs env f) (reads_of d first g bs env (f -ℤ pos zero)) (ap (reads_of d first g bs env) (omega (arith, ints)))))
    (among_same (reads_of d (Acc body zero first) g bs env f) (reads_of d (Acc body n first) g bs env f) (ap (λ (m : ℕ). reads_of d (Acc body m first) g bs env f) (sym e)))

choice_reads : (d : Declarations) (x : Expression) (g : List Entry) (bs : List (List Place)) (env : Environment) (f : ℤ) (k : Kind) → kind_of d x (kinds g) ≡ Some k → is_chosen x ≡ true → AreAmong (reads_of d (choice d (kinds g) x) g bs env f) (reads_of d x g bs env f)
choice_reads d (Cond (Yes true) a b) g bs env f k e t = branch_reads_same d (scale_of d a (kinds g)) (max (scale_of d a (kinds g)) (scale_of d b (kinds g))) a g bs env f
choice_reads d (Cond (Yes false) a b) g bs env f k e t = branch_reads_same d (scale_of d b (kinds g)) (max (scale_of d a (kinds g)) (scale_of d b (kinds g))) b g bs env f
choice_reads d (Cond (Lit m s) a b) g bs env f k e t = absurd (cc)
choice_reads d (Cond c a b) g bs env f k e t = absurd (cc)
choice_reads d (Acc body n first) g bs env f k e t = no_days_read d body first n g bs env f (is_zero_count n t)
choice_reads d (Lit m s) g bs env f k e t = absurd (cc)
choice_reads d (Yes b) g bs env f k e t = absurd (cc)
choice_reads d (Var back) g bs env f k e t = absurd (cc)
choice_reads d (Obs l u) g bs env f k e t = absurd (cc)
choice_reads d (Neg x) g bs env f k e t = absurd (cc)
choice_reads d (Num op x y) g bs env f k e t = absurd (cc)
choice_reads d (Cmp op x y) g bs env f k e t = absurd (cc)
choice_reads d (Not x) g bs env f k e t = absurd (cc)
choice_reads d (Logic op x y) g bs env f k e t = absurd (cc)
choice_reads d (Widen s x) g bs env f k e t = absurd (cc)
choice_reads d (Round mode s x) g bs env f k e t = absurd (cc)
choice_reads d (Div mode s x y) g bs env f k e t = absurd (cc)

rule_reads : (d : Declarations) (x : Expression) (g : List Entry) (bs : List (List Place)) (env : Environment) (f : ℤ) (k : Kind) → kind_of d x (kinds g) ≡ Some k → AreAmong (reads_of d (rule d (kinds g) x) g bs env f) (reads_of d x g bs env f)
rule_reads d x g bs env f k e = at (has_literal_operands x) (is_chosen x) refl refl
  where
    at : (b c : Bool) → has_literal_operands x ≡ b → is_chosen x ≡ c → AreAmong (reads_of d (if b then resolved d (kinds g) x else (if c then choice d (kinds g) x else x)) g bs env f) (reads_of d x g bs env f)
    at true c p q = resolved_reads d x g bs env f k e p
    at false true p q = choice_reads d x g bs env f k e q
    at false false p q = all_of (reads_of d x g bs env f)

-- the rule, once the parts are turned
ruled : (d : Declarations) (x : Expression) (g : List Entry) (bs : List (List Place)) (env : Environment) (f : ℤ) (k : Kind) (ys : List Place) → kind_of d x (kinds g) ≡ Some k → AreAmong (reads_of d x g bs env f) ys → AreAmong (reads_of d (rule d (kinds g) x) g bs env f) ys
ruled d x g bs env f k ys kind h = then_among (reads_of d (rule d (kinds g) x) g bs env f) (reads_of d x g bs env f) ys (rule_reads d x g bs env f k kind) h

pub turn_reads : TurnsReadLess
turn_reads d (Lit m s) g bs cs env f k a h e less = among_none []
turn_reads d (Yes b) g bs cs env f k a h e less = among_none []
turn_reads d (Var back) g bs cs env f k a h e less = less back
turn_reads d (Obs l t) g bs cs env f k a h e less = all_of (reads_of d (Obs l t) g bs env f)
turn_reads d (Neg x) g bs cs env f k a h e less =
    let p = one_number (λ s. Number s) (kind_of d x (kinds g)) k e in
    let i = (turn_means d x g env f (Number p.scale) a h p.operand).0 ∙ sym p.operand in
    ruled d (Neg (turned d (kinds g) x)) g bs env f k (reads_of d x g cs env f) (ap (on_number (λ s. Some (Number s))) i ∙ e) (turn_reads d x g bs cs env f (Number p.scale) a h p.operand less)
turn_reads d (Num op x y) g bs cs env f k a h e less =
    let p = two_numbers (λ s t. Number (scale_of_op op s t)) (kind_of d x (kinds g)) (kind_of d y (kinds g)) k e in
    let i = (turn_means d x g env f (Number p.left_scale) a h p.left).0 ∙ sym p.left in
    let j = (turn_means d y g env f (Number p.right_scale) a h p.right).0 ∙ sym p.right in
    ruled d (Num op (turned d (kinds g) x) (turned d (kinds g) y)) g bs env f k (reads_of d (Num op x y) g cs env f) (ap₂ (on_numbers (λ s t. Some (Number (scale_of_op op s t)))) i j ∙ e)
    (among_both _ _ _ _ (turn_reads d x g bs cs env f (Number p.left_scale) a h p.left less) (turn_reads d y g bs cs env f (Number p.right_scale) a h p.right less))
turn_reads d (Cmp op x y) g bs cs env f k a h e less =
    let p = two_numbers (λ s t. TruthKind) (kind_of d x (kinds g)) (kind_of d y (kinds g)) k e in
    let i = (turn_means d x g env f (Number p.left_scale) a h p.left).0 ∙ sym p.left in
    let j = (turn_means d y g env f (Number p.right_scale) a h p.right).0 ∙ sym p.right in
    ruled d (Cmp op (turned d (kinds g) x) (turned d (kinds g) y)) g bs env f k (reads_of d (Cmp op x y) g cs env f) (ap₂ (on_numbers (λ s t. Some TruthKind)) i j ∙ e)
    (among_both _ _ _ _ (turn_reads d x g bs cs env f (Number p.left_scale) a h p.left less) (turn_reads d y g bs cs env f (Number p.right_scale) a h p.right less))
turn_reads d (Not x) g bs cs env f k a h e less =
    let p = truth_then (kind_of d x (kinds g)) (Some TruthKind) k e in
    let i = (turn_means d x g env f TruthKind a h p.first).0 ∙ sym p.first in
    ruled d (Not (turned d (kinds g) x)) g bs env f k (reads_of d x g cs env f) (ap (λ (o : Option Kind). on_truth o (Some TruthKind)) i ∙ e) (turn_reads d x g bs cs env f TruthKind a h p.first less)
turn_reads d (Logic op x y) g bs cs env f k a h e less =
    let p = truth_then (kind_of d x (kinds g)) (on_truth (kind_of d y (kinds g)) (Some TruthKind)) k e in
    let q = truth_then (kind_of d y (kinds g)) (Some TruthKind) k p.rest in
    let m = turn_means d x g env f TruthKind a h p.first in
    let n = turn_means d y g env f TruthKind a h q.first in
    ruled d (Logic op (turned d (kinds g) x) (turned d (kinds g) y)) g bs env f k (reads_of d (Logic op x y) g cs env f) (ap₂ (λ (o u : Option Kind). on_truth o (on_truth u (Some TruthKind))) (m.0 ∙ sym p.first) (n.0 ∙ sym q.first) ∙ e)
    (among_both _ _ _ _ (turn_reads d x g bs cs env f TruthKind a h p.first less) (among_chosen _ _ [] [] _ _ (ap (λ (v : Value). decides op (truth v)) m.1) (among_none []) (turn_reads d y g bs cs env f TruthKind a h q.first less)))
turn_reads d (Cond c x y) g bs cs env f k a h e less =
    let p = truth_then (kind_of d c (kinds g)) (joined (kind_of d x (kinds g)) (kind_of d y (kinds g))) k e in
    let q = branches (kind_of d x (kinds g)) (kind_of d y (kinds g)) k p.rest in
    let l = turn_means d c g env f TruthKind a h p.first in
    let m = turn_means d x g env f q.yes_kind a h q.yes in
    let n = turn_means d y g env f q.no_kind a h q.no in
    ruled d (Cond (turned d (kinds g) c) (turned d (kinds g) x) (turned d (kinds g) y)) g bs env f k (reads_of d (Cond c x y) g cs env f) (ap₂ on_truth (l.0 ∙ sym p.first) (ap₂ joined (m.0 ∙ sym q.yes) (n.0 ∙ sym q.no)) ∙ e)
    (among_both _ _ _ _ (turn_reads d c g bs cs env f TruthKind a h p.first less) (among_chosen _ _ _ _ _ _ (ap truth l.1) (turn_reads d x g bs cs env f q.yes_kind a h q.yes less) (turn_reads d y g bs cs env f q.no_kind a h q.no less)))
turn_reads d (Widen s x) g bs cs env f k a h e less =
    let p = one_number (λ _. Number s) (kind_of d x (kinds g)) k e in
    let i = (turn_means d x g env f (Number p.scale) a h p.operand).0 ∙ sym p.operand in
    ruled d (Widen s (turned d (kinds g) x)) g bs env f k (reads_of d x g cs env f) (ap (on_number (λ _. Some (Number s))) i ∙ e) (turn_reads d x g bs cs env f (Number p.scale) a h p.operand less)
turn_reads d (Round mode s x) g bs cs env f k a h e less =
    let p = one_number (λ _. Number s) (kind_of d x (kinds g)) k e in
    let i = (turn_means d x g env f (Number p.scale) a h p.operand).0 ∙ sym p.operand in
    ruled d (Round mode s (turned d (kinds g) x)) g bs env f k (reads_of d x g cs env f) (ap (on_number (λ _. Some (Number s))) i ∙ e) (turn_reads d x g bs cs env f (Number p.scale) a h p.operand less)
turn_reads d (Div mode s x y) g bs cs env f k a h e less =
    let p = two_numbers (λ _ _. Number s) (kind_of d x (kinds g)) (kind_of d y (kinds g)) k e in
    let i = (turn_means d x g env f (Number p.left_scale) a h p.left).0 ∙ sym p.left in
    let j = (turn_means d y g env f (Number p.right_scale) a h p.right).0 ∙ sym p.right in
    ruled d (Div mode s (turned d (kinds g) x) (turned d (kinds g) y)) g bs env f k (reads_of d (Div mode s x y) g cs env f) (ap₂ (on_numbers (λ _ _. Some (Number s))) i j ∙ e)
    (among_both _ _ _ _ (turn_reads d x g bs cs env f (Number p.left_scale) a h p.left less) (turn_reads d y g bs cs env f (Number p.right_scale) a h p.right less))
turn_reads d (Acc body n first) g bs cs env f k a h e less =
    let ks = kinds g in
    let from = f -ℤ pos n in
    let p = days (kind_of d first ks) (λ j. kind_of d body (j ∷ ks)) k e in
    let kind = kind_or (kind_of d first ks) in
    let is_kind : kind ≡ k = ap kind_or p.first in
    let body' = turned d (kind ∷ ks) body in
    let first' = turned d ks first in
    let m = turn_means d first g env from k a h p.first in
    let same_first : kind_of d first' ks ≡ kind_of d first ks = m.0 ∙ sym p.first in
    let body_kind : kind_of d body (kind ∷ ks) ≡ Some p.body_kind = subst (λ (j : Kind). kind_of d body (j ∷ ks) ≡ Some p.body_kind) (sym is_kind) p.body in
    let entry : Value → Entry = λ v. record { value = v; kind = kind } in
    let was : ℕ → Value = λ j. days_run j (λ i v. widened (scale_of d body (kind ∷ ks)) (scale_of_kind kind) (value_of d body (record { value = v; kind = kind } ∷ g) env (from +ℤ pos i))) (value_of d first g env from) in
    let way : (i : ℕ) → IsOfKind kind (was i) = λ i. subst (λ (j : Kind). IsOfKind j (was i)) (sym is_kind) (on_the_way d body first n i g env f k a h e) in
    let body_means : (i : ℕ) (u : ℤ) → (kind_of d body' (kind ∷ ks) ≡ Some p.body_kind) × (value_of d body' (entry (was i) ∷ g) env u ≡ value_of d body (entry (was i) ∷ g) env u) = λ i u. turn_means d body (entry (was i) ∷ g) env u p.body_kind a (way i, h) body_kind in
    let same_body : kind_of d body' (kind ∷ ks) ≡ kind_of d body (kind ∷ ks) = (body_means 0 (pos 0)).0 ∙ sym body_kind in
    let before : Kind → ℕ → Value = λ j i. days_run i (λ i v. widened (scale_of d body' (j ∷ ks)) (scale_of_kind j) (value_of d body' (record { value = v; kind = j } ∷ g) env (from +ℤ pos i))) (value_of d first' g env from) in
    let same_way : (i : ℕ) → before kind i ≡ was i = λ i. same_run i _ _ _ _ m.1 (λ l. ap₂ (λ (s : ℕ) (v : Value). widened s (scale_of_kind kind) v) (ap scale_or_zero same_body) (body_means l (from +ℤ pos (suc l))).1) in
    let run : Option Kind → List Place = λ r. reads_of d first' g bs env from ++ steps_before n (λ j. reads_of d body' (record { value = before (kind_or r) j; kind = kind_or r } ∷ g) ([] ∷ bs) env (from +ℤ pos (suc j))) in
    ruled d (Acc body' n first') g bs env f k (reads_of d (Acc body n first) g cs env f) (acc_at (kind_of d first' ks) (kind_of d first ks) (λ j. kind_of d body' (j ∷ ks)) (λ j. kind_of d body (j ∷ ks)) same_first same_body ∙ e)
    (then_among (run (kind_of d first' ks)) (run (kind_of d first ks)) (reads_of d (Acc body n first) g cs env f) (among_same (run (kind_of d first' ks)) (run (kind_of d first ks)) (ap run same_first))
    (among_both _ _ _ _ (turn_reads d first g bs cs env from k a h p.first less)
    (among_steps n _ _ (λ j.
    then_among (reads_of d body' (entry (before kind j) ∷ g) ([] ∷ bs) env (from +ℤ pos (suc j))) (reads_of d body' (entry (was j) ∷ g) ([] ∷ bs) env (from +ℤ pos (suc j))) (reads_of d body (entry (was j) ∷ g) ([] ∷ cs) env (from +ℤ pos (suc j)))
    (among_same _ _ (ap (λ (v : Value). reads_of d body' (entry v ∷ g) ([] ∷ bs) env (from +ℤ pos (suc j))) (same_way j)))
    (turn_reads d body (entry (was j) ∷ g) ([] ∷ bs) ([] ∷ cs) env (from +ℤ pos (suc j)) p.body_kind a (way j, h) body_kind (one_name_more [] [] bs cs (among_none []) less))))))
