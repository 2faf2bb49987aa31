-- A turn of a contract may stand in its place.
use Rattle.std.proofs.Common.{◌≡◌, ℕ, ℤ, pos, ◌+ℤ◌, ◌-◌, IsTrue, is_some, Option, Some, None, List, [], ◌∷◌, refl, ap, ap₂, sym, subst, ◌∙◌}
use Rattle.decimal.specs.Rounding.{raised}
use Rattle.term_model.specs.Declarations.{Declarations}
use Rattle.term_model.specs.declared.values.Kind.{Kind}
use Rattle.term_model.specs.declared.values.Kind.TheVariants.{Truth as TruthKind, Number}
use Rattle.term_model.specs.declared.values.Value.{Value}
use Rattle.term_model.specs.Terms.{Expression, Contract, Zero, Pay, Both, Scale, After, Let, Within}
use Rattle.term_model.specs.Environments.{Environment, IsAdmitted}
use Rattle.term_model.specs.Kinds.{kind_of, scale_or_zero}
use Rattle.term_model.specs.Values.{Entry, kinds, truth, kind_or, value_of, first_true, entry_of}
use Rattle.term_model.specs.Flows.{flow_of, count_of, scale_of_contract}
use Rattle.term_model.specs.LawsKinds.{IsOfKind, AreOfKinds}
use Rattle.term_model.specs.Sorts.{is_truth}
use Rattle.term_model.specs.Bounds.{Range, range_kinds}
use Rattle.term_model.proofs.KindFacts.{values_have_kinds}
use Rattle.interval_check.specs.Nodes.{IsSortedPart, IsSortedContract, range_of}
use Rattle.interval_check.proofs.GuaranteeFacts.{rules_are_by_structure}
use Rattle.interval_check.proofs.NodeTests.{at_root}
use Rattle.rewriting.proofs.NameFlows.{same_first}
use Rattle.rewriting.proofs.RaisedFacts.{raised_by}
use Rattle.simplify.specs.Turning.{turned}
use Rattle.simplify.specs.TurningContracts.{rule_in, turned_in}
use Rattle.simplify.proofs.TurnMeaning.{turn_means}
use Rattle.simplify.specs.LawsTurnsKeep.{HasSomeKind, HasSorts, TurnsKeepFlows, TurnsKeepAmounts}
use Rattle.simplify.proofs.WorthFacts.{InPlace, in_its_place, then_in_place, both_in_place, scale_in_place, after_in_place, let_in_place, within_in_place}
use Rattle.simplify.proofs.RuleFlows.{rule_in_place}

-- the entry of a name whose expression has a kind
pub entry_has : (d : Declarations) (e : Expression) (g : List Entry) (env : Environment) (f : ℤ) → IsAdmitted d env → AreOfKinds g → HasSomeKind d e (kinds g) → AreOfKinds (entry_of d e g env f ∷ g)
entry_has d e g env f a h k =
    (subst (λ (o : Option Kind). IsOfKind (kind_or o) (value_of d e g env f)) (sym k.1) (values_have_kinds d e g env f k.0 a h k.1), h)

pub same_entry : (d : Declarations) (e : Expression) (g : List Entry) (env : Environment) (f : ℤ) → IsAdmitted d env → AreOfKinds g → HasSomeKind d e (kinds g) → entry_of d (turned d (kinds g) e) g env f ≡ entry_of d e g env f
same_entry d e g env f a h k =
    let m = turn_means d e g env f k.0 a h k.1 in
    ap₂ (λ (v : Value) (o : Option Kind). let entry : Entry = record { value = v; kind = kind_or o } in entry) m.1 (m.0 ∙ sym k.1)

pub same_test : (d : Declarations) (e : Expression) (g : List Entry) (env : Environment) (f : ℤ) (n : ℕ) → IsAdmitted d env → AreOfKinds g → kind_of d e (kinds g) ≡ Some TruthKind → first_true d (turned d (kinds g) e) g env f n ≡ first_true d e g env f n
same_test d e g env f n a h k = same_first n _ _ (λ i. ap truth (turn_means d e g env (f +ℤ pos i) TruthKind a h k).1)

pub turn_in_place : (d : Declarations) (c : Contract) (g : List Entry) (env : Environment) → IsAdmitted d env → AreOfKinds g → HasSorts d c (kinds g) → InPlace d g env (turned_in d (kinds g) c) c
turn_in_place d Zero g env a h s = in_its_place d g env Zero
turn_in_place d (Pay x p q) g env a h s = in_its_place d g env (Pay x p q)
turn_in_place d (Both x y) g env a h s =
    let x' = turned_in d (kinds g) x in
    let y' = turned_in d (kinds g) y in
    then_in_place d g env (rule_in (Both x' y')) (Both x' y') (Both x y) (rule_in_place d g env (Both x' y') tt) (both_in_place d g env x' x y' y (turn_in_place d x g env a h s.0) (turn_in_place d y g env a h s.1))
turn_in_place d (Scale e c) g env a h s =
    let e' = turned d (kinds g) e in
    let c' = turned_in d (kinds g) c in
    then_in_place d g env (rule_in (Scale e' c')) (Scale e' c') (Scale e c) (rule_in_place d g env (Scale e' c') tt)
    (scale_in_place d g env e' e c' c (ap scale_or_zero ((turn_means d e g env (pos 0) s.0.0 a h s.0.1).0 ∙ sym s.0.1)) (λ f. (turn_means d e g env f s.0.0 a h s.0.1).1) (turn_in_place d c g env a h s.1))
turn_in_place d (After n c) g env a h s =
    let c' = turned_in d (kinds g) c in
    then_in_place d g env (rule_in (After n c')) (After n c') (After n c) (rule_in_place d g env (After n c') tt) (after_in_place d g env n c' c (turn_in_place d c g env a h s))
turn_in_place d (Let e c) g env a h s =
    let e' = turned d (kinds g) e in
    let c' = turned_in d (kind_or (kind_of d e (kinds g)) ∷ kinds g) c in
    then_in_place d g env (rule_in (Let e' c')) (Let e' c') (Let e c) (rule_in_place d g env (Let e' c') tt)
    (let_in_place d g env e' e c' c (λ f. same_entry d e g env f a h s.0) (λ f. turn_in_place d c (entry_of d e g env f ∷ g) env a (entry_has d e g env f a h s.0) s.1))
turn_in_place d (Within e n x y) g env a h s =
    let e' = turned d (kinds g) e in
    let x' = turned_in d (kinds g) x in
    let y' = turned_in d (kinds g) y in
    then_in_place d g env (rule_in (Within e' n x' y')) (Within e' n x' y') (Within e n x y) (rule_in_place d g env (Within e' n x' y') (turn_means d e g env (pos 0) TruthKind a h s.0).0)
    (within_in_place d g env e' e n x' x y' y (λ f. same_test d e g env f (count_of n) a h s.0) (turn_in_place d x g env a h s.1) (turn_in_place d y g env a h s.2))

pub turns_keep_flows : TurnsKeepFlows
turns_keep_flows d c g env f n w a h s = turn_in_place d c g env a h s f n w

-- ---- from the rule on sorts

some_kind : (o : Option Kind) → IsTrue (is_some o) → (k : Kind) × (o ≡ Some k)
some_kind (Some k) h = (k, refl)
some_kind None h = absurd (cc)

pub truth_kind : (o : Option Kind) → IsTrue (is_truth o) → o ≡ Some TruthKind
truth_kind (Some TruthKind) h = refl
truth_kind (Some (Number s)) h = absurd (cc)
truth_kind None h = absurd (cc)

pub sorts_here : (d : Declarations) (c : Contract) (g : List Range) → IsSortedContract d c g → HasSorts d c (range_kinds g)
sorts_here d Zero g h = tt
sorts_here d (Pay x p q) g h = tt
sorts_here d (Both x y) g h = (sorts_here d x g h.0, sorts_here d y g h.1)
sorts_here d (Scale e c) g h = (some_kind _ (at_root (IsSortedPart d) d e g h.0), sorts_here d c g h.1)
sorts_here d (After n c) g h = sorts_here d c g h.0
sorts_here d (Let e c) g h = (some_kind _ (at_root (IsSortedPart d) d e g h.0), sorts_here d c (range_of d e g ∷ g) h.1)
sorts_here d (Within e n x y) g h = (truth_kind _ h.3, sorts_here d x g h.1, sorts_here d y g h.2)

pub turns_keep_amounts : TurnsKeepAmounts
turns_keep_amounts d c env f n w a sorts le =
    let k = turned_in d [] c in
    let p = turn_in_place d c [] env a tt (sorts_here d c [] ((rules_are_by_structure d c).0.0 sorts)) f n w in
    raised_by (flow_of d k [] env f n w) (scale_of_contract d k []) (scale_of_contract d c []) d.amounts p.0 le ∙ ap (λ (x : ℤ). raised x (d.amounts - scale_of_contract d c [])) p.1
