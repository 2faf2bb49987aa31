-- What an evaluation over fixings answers is the value, or the first place that is not fixed; and it may be entered for the
-- name that is bound to its expression.
use Rattle.std.proofs.Common.{◌≡◌, ℤ, refl, ap, sym, subst, ◌∙◌, Ok, Err, IfOk, Some, Result, List, [], ◌∷◌}
use Rattle.term_model.specs.Declarations.{Declarations}
use Rattle.term_model.specs.declared.values.Kind.{Kind}
use Rattle.term_model.specs.declared.values.Value.{Value}
use Rattle.term_model.specs.declared.values.Missing.{Missing}
use Rattle.term_model.specs.Terms.{Expression, Contract}
use Rattle.term_model.specs.Environments.{Environment, Place, Extends, IsAdmitted}
use Rattle.term_model.specs.Kinds.{kind_of}
use Rattle.term_model.specs.Values.{Entry, kinds, num, kind_or, value_of}
use Rattle.term_model.specs.LawsKinds.{IsOfKind}
use Rattle.term_model.specs.Reads.{reads_of}
use Rattle.term_model.specs.Bounds.{Range, range_kinds}
use Rattle.term_model.specs.Acceptance.{IsAccepted}
use Rattle.interval_check.specs.Nodes.{range_of}
use Rattle.interval_check.specs.Within.{IsIn, KeepsLimits}
use Rattle.interval_check.specs.Parts.{StandsIn}
use Rattle.term_model.specs.Shifts.{shifted}
use Rattle.expr_eval.specs.declared.scratch.Binding.{Binding}
use Rattle.expr_eval.specs.declared.operations.Typed.{Typed}
use Rattle.expr_eval.specs.Rooms.{kinds_of}
use Rattle.expr_eval.specs.Runs.{Answer, run_of, untyped}
use Rattle.expr_eval.specs.Standing.{IsHeldFor, StandFor}
use Rattle.expr_eval.specs.Evaluable.{IsHeldIn, SuitAll, MayEvaluate}
use Rattle.expr_eval.specs.Answers.{lacked, IsValueEverywhere, IsAnswer, HasKind, held_of, SuitsBinding, IsSuitedAnswer}
use Rattle.expr_eval.specs.LawsEntries.{NoneStandForNone, EnteredStandFor, EnteredSuit}
use Rattle.expr_eval.proofs.RunValues.{run_is_value, same_kinds}
use Rattle.expr_eval.proofs.RunReads.{missed, have_values, run_lacks_first, self_extends}
use Rattle.expr_eval.proofs.EvaluableFacts.{SafeEntries, moved_is_safe, entries_for, on_number, safe_entries, kind_for}

kinds_standing : (fixings : Environment) (bs : List Binding) (es : List Entry) (ps : List (List Place)) → StandFor fixings bs es ps → kinds_of bs ≡ kinds es
kinds_standing fixings bs es ps s = same_kinds bs es (have_values fixings bs es ps s)

-- the answer

value_from : (d : Declarations) (e : Expression) (bs : List Binding) (fixings : Environment) (f : ℤ) (k : Kind) → kind_of d e (kinds_of bs) ≡ Some k → (a : Answer) → run_of d e bs fixings f ≡ a → IfOk (untyped a) (λ v. IsValueEverywhere d e bs fixings f v)
value_from d e bs fixings f k h (Err m) r = tt
value_from d e bs fixings f k h (Ok v) r =
    λ es ps env s x.
    let sorted : kind_of d e (kinds es) ≡ Some k = subst (λ (ks : List Kind). kind_of d e ks ≡ Some k) (kinds_standing fixings bs es ps s) h in
    sym (ap (λ (o : Typed). o.value) (run_is_value d e bs es (have_values fixings bs es ps s) fixings env x f k sorted v r))

lacked_untyped : (a : Answer) → lacked (untyped a) ≡ missed a
lacked_untyped (Ok v) = refl
lacked_untyped (Err m) = refl

pub is_answer : (d : Declarations) (e : Expression) (bs : List Binding) (fixings : Environment) (f : ℤ) (k : Kind) → kind_of d e (kinds_of bs) ≡ Some k → IsAnswer d e bs fixings f (untyped (run_of d e bs fixings f))
is_answer d e bs fixings f k h =
    record {
      value = value_from d e bs fixings f k h (run_of d e bs fixings f) refl;
      missing = λ es ps s. lacked_untyped (run_of d e bs fixings f) ∙ run_lacks_first d e bs es ps fixings s f k (subst (λ (ks : List Kind). kind_of d e ks ≡ Some k) (kinds_standing fixings bs es ps s) h);
    }

-- its entry

kinds_suited : (g : List Range) (bs : List Binding) → SuitAll g bs → kinds_of bs ≡ range_kinds g
kinds_suited [] [] s = refl
kinds_suited [] (b ∷ bs) s = absurd s
kinds_suited (r ∷ g) [] s = absurd s
kinds_suited (r ∷ g) (b ∷ bs) s = let p = kinds_suited g bs s.1 in let q = s.0.same_kind in cc

within_from : (d : Declarations) (e : Expression) (bs : List Binding) (fixings : Environment) (f : ℤ) (k : Kind) → KeepsLimits d → IsAdmitted d fixings → kind_of d e (kinds_of bs) ≡ Some k → (a : Answer) → run_of d e bs fixings f ≡ a → (c : Contract) (m : ℤ) (g : List Range) → IsAccepted d c → StandsIn d (shifted m e) g c [] → SuitAll g bs → IsHeldIn (range_of d e g) (held_of (untyped a))
within_from d e bs fixings f k limits admitted h (Err q) r c m g accepted stands suit = tt
within_from d e bs fixings f k limits admitted h (Ok v) r c m g accepted stands suit =
    let s = entries_for d limits (shifted m e) g c bs accepted stands suit in
    let same = same_kinds bs s.entries s.known in
    let safe = moved_is_safe d c e m g s.entries fixings f limits accepted stands s.suited admitted in
    let is : v.value ≡ value_of d e s.entries fixings f = ap (λ (o : Typed). o.value) (run_is_value d e bs s.entries s.known fixings fixings (self_extends fixings) f k (subst (λ (ks : List Kind). kind_of d e ks ≡ Some k) same h) v r) in
    let kind : kind_or (kind_of d e (kinds s.entries)) ≡ kind_or (kind_of d e (range_kinds g)) = ap (λ (ks : List Kind). kind_or (kind_of d e ks)) (sym same ∙ kinds_suited g bs suit) in
    record {
      of_kind = subst (λ (w : Value). IsOfKind (kind_or (kind_of d e (range_kinds g))) w) (sym is) (subst (λ (j : Kind). IsOfKind j (value_of d e s.entries fixings f)) kind safe.0.safe.0.of_kind);
      inside = on_number (kind_or (kind_of d e (range_kinds g))) _ (subst (λ (w : Value). IsIn (range_of d e g).interval (num w)) (sym is) safe.1);
    }

pub suits_binding : (d : Declarations) (e : Expression) (bs : List Binding) (fixings : Environment) (f : ℤ) (k : Kind) → KeepsLimits d → IsAdmitted d fixings → kind_of d e (kinds_of bs) ≡ Some k → SuitsBinding d e bs (untyped (run_of d e bs fixings f))
suits_binding d e bs fixings f k limits admitted h c m g accepted stands suit =
    record {
      same_kind = ap (λ (ks : List Kind). kind_or (kind_of d e ks)) (kinds_suited g bs suit);
      within = within_from d e bs fixings f k limits admitted h (run_of d e bs fixings f) refl c m g accepted stands suit;
    }

of_kind_from : (d : Declarations) (e : Expression) (bs : List Binding) (fixings : Environment) (f : ℤ) (k : Kind) → kind_of d e (kinds_of bs) ≡ Some k → SafeEntries d e bs fixings f → (a : Answer) → run_of d e bs fixings f ≡ a → HasKind d e bs (untyped a)
of_kind_from d e bs fixings f k h s (Err m) r = tt
of_kind_from d e bs fixings f k h s (Ok v) r =
    let same = same_kinds bs s.entries s.known in
    let is : v.value ≡ value_of d e s.entries fixings f = ap (λ (o : Typed). o.value) (run_is_value d e bs s.entries s.known fixings fixings (self_extends fixings) f k (subst (λ (ks : List Kind). kind_of d e ks ≡ Some k) same h) v r) in
    subst (λ (w : Value). IsOfKind (kind_or (kind_of d e (kinds_of bs))) w) (sym is) (subst (λ (ks : List Kind). IsOfKind (kind_or (kind_of d e ks)) (value_of d e s.entries fixings f)) (sym same) s.safe.safe.0.of_kind)

pub promised : (d : Declarations) (e : Expression) (bs : List Binding) (fixings : Environment) (f : ℤ) (a : Answer) → KeepsLimits d → IsAdmitted d fixings → MayEvaluate d e bs → a ≡ run_of d e bs fixings f → IsSuitedAnswer d e bs fixings f (untyped a)
promised d e bs fixings f a limits admitted h r =
    let s = safe_entries d e bs fixings f limits admitted h in
    let k = kind_for d e bs fixings f s in
    subst (λ (o : Answer). IsSuitedAnswer d e bs fixings f (untyped o)) (sym r)
    (record {
      answer = is_answer d e bs fixings f k.0 k.1;
      kind = of_kind_from d e bs fixings f k.0 k.1 s (run_of d e bs fixings f) refl;
      suits = suits_binding d e bs fixings f k.0 limits admitted k.1;
    })

-- the laws of entries

pub none_stand_for_none : NoneStandForNone
none_stand_for_none fixings = tt

held_from : (d : Declarations) (e : Expression) (bs : List Binding) (fixings env : Environment) (f : ℤ) (r : Result Value Missing) (es known : List Entry) (ps : List (List Place)) → IsAnswer d e bs fixings f r → Extends fixings env → StandFor fixings bs es ps → StandFor fixings bs known ps → IsHeldFor fixings (held_of r) (value_of d e es env f) (reads_of d e known ps fixings f)
held_from d e bs fixings env f (Ok v) es known ps h x s t = (sym (h.value es ps env s x), sym (h.missing known ps t))
held_from d e bs fixings env f (Err m) es known ps h x s t = sym (h.missing known ps t)

pub entered_stand_for : EnteredStandFor
entered_stand_for d e bs fixings env f r es known ps h x s t = (
  ap (λ (ks : List Kind). kind_or (kind_of d e ks)) (kinds_standing fixings bs es ps s),
  held_from d e bs fixings env f r es known ps h x s t,
  s,
)

pub entered_suit : EnteredSuit
entered_suit d e g bs b h s = (h, s)
