-- Accumulators that keep a truth value: after their days they have it exactly where their body first has it on one of them.
use Rattle.std.proofs.Common.{◌≡◌, ℕ, zero, suc, ℤ, pos, ◌+ℤ◌, Bool, true, false, not, List, ◌∷◌, Result, Ok, Err, if◌then◌else◌, refl, ap, sym, ◌∙◌, arith}
use Rattle.std.specs.Prelude.{◌==◌, ◌&&◌}
use Rattle.std.proofs.lemmas.Bool.Decides.{nat_tests}
use Rattle.std.proofs.lemmas.Int.{ints}
use Rattle.term_model.specs.Declarations.{Declarations, declarations}
use Rattle.term_model.specs.declared.decls.Decls.{Decls}
use Rattle.term_model.specs.declared.terms.Expr.{Expr}
use Rattle.term_model.specs.declared.terms.LogicOp.{LogicOp}
use Rattle.term_model.specs.declared.values.Kind.{Kind}
use Rattle.term_model.specs.declared.values.Missing.{Missing}
use Rattle.term_model.specs.declared.values.Value.{Value}
use Rattle.term_model.specs.declared.values.Value.TheVariants.{Truth}
use Rattle.term_model.specs.Terms.{Expression, expression, Lit, Yes, Var, Obs, Neg, Num, Cmp, Not, Logic, Cond, Widen, Round, Div, Acc}
use Rattle.term_model.specs.Environments.{Environment}
use Rattle.term_model.specs.Reads.{decides}
use Rattle.expr_eval.specs.declared.scratch.Binding.{Binding}
use Rattle.expr_eval.specs.declared.operations.Typed.{Typed}
use Rattle.expr_eval.specs.declared.bindings.Bindings.{Bindings}
use Rattle.expr_eval.specs.declared.stops.Stop.{Stop}
use Rattle.expr_eval.specs.declared.stops.Stop.TheVariants.{Never, Met, Lacking}
use Rattle.expr_eval.specs.Operations.{truth_in, verdict}
use Rattle.expr_eval.specs.Bindings.{bindings}
use Rattle.expr_eval.specs.Runs.{Answer, bound_to, day_run, day_step, days_run, of_sides, run_of, then_do}
use Rattle.expr_eval.specs.Comparing.{truth_found}
use Rattle.expr_eval.specs.Stops.{TruthOrMissing, first_stop, is_wanted, or_stop_on, stop_on, wanted_of}
use Rattle.expr_eval.specs.Truths.{truth_from}
use Rattle.expr_eval.specs.Latches.{IsKept, keeps, truth_at}
use Rattle.expr_eval.proofs.StopFacts.{same_stop}
use Rattle.expr_eval.proofs.TruthFacts.{day_holds, day_lacks}

both_true : (a b : Bool) → (a && b) ≡ true → (a ≡ true) × (b ≡ true)
both_true true b h = (refl, h)
both_true false b h = absurd (cc)

is_zero : (n : ℕ) → (n == 0) ≡ true → n ≡ 0
is_zero n h = grind (arith, nat_tests)

-- a name of an accumulator

abbrev held_at : Kind → Bool → Typed
held_at k b = record { kind = k; value = Truth b }

-- the body has the value where its name has it

side_kept : (op : LogicOp) (v : Bool) (a b : Answer) → decides op v ≡ true → truth_found a ≡ Ok v → truth_found (of_sides op a b) ≡ Ok v
side_kept op v (Err m) b h e = absurd (cc)
side_kept op v (Ok x) b h e =
    let is : truth_in x ≡ v = cc in
    ap (λ (c : Bool). truth_found (if decides op c then Ok (verdict c) else then_do b (λ y. Ok (verdict (truth_in y))))) is
    ∙ ap (λ (c : Bool). truth_found (if c then Ok (verdict v) else then_do b (λ y. Ok (verdict (truth_in y))))) h

body_keeps : (d : Declarations) (e : Expression) (g : List Binding) (F : Environment) (t : ℤ) (k : Kind) (v : Bool) → keeps v e ≡ true → truth_found (run_of d e (bound_to (held_at k v) ∷ g) F t) ≡ Ok v
body_keeps d (Lit m s) g F t k v h = absurd (cc)
body_keeps d (Yes b) g F t k v h = absurd (cc)
body_keeps d (Var n) g F t k v h =
    ap (λ (i : ℕ). truth_found (run_of d (Var i) (bound_to (held_at k v) ∷ g) F t)) (is_zero n h)
body_keeps d (Obs l o) g F t k v h = absurd (cc)
body_keeps d (Neg a) g F t k v h = absurd (cc)
body_keeps d (Num op a b) g F t k v h = absurd (cc)
body_keeps d (Cmp op a b) g F t k v h = absurd (cc)
body_keeps d (Not a) g F t k v h = absurd (cc)
body_keeps d (Logic op a b) g F t k v h =
    let p = both_true (decides op v) (keeps v a) h in
    side_kept op v (run_of d a (bound_to (held_at k v) ∷ g) F t) (run_of d b (bound_to (held_at k v) ∷ g) F t) p.0 (body_keeps d a g F t k v p.1)
body_keeps d (Cond x a b) g F t k v h = absurd (cc)
body_keeps d (Widen s a) g F t k v h = absurd (cc)
body_keeps d (Round mode s a) g F t k v h = absurd (cc)
body_keeps d (Div mode s a b) g F t k v h = absurd (cc)
body_keeps d (Acc body n first) g F t k v h = absurd (cc)

-- its value after some days

abbrev value_at : Kind → Bool → Stop → Answer
value_at k v Never = Ok (held_at k (not v))
value_at k v (Met j) = Ok (held_at k v)
value_at k v (Lacking j m) = Err m

found_then : (k : Kind) (n : ℕ) (v b : Bool) → Ok (held_at k b) ≡ value_at k v (stop_on n (Ok (is_wanted v b)))
found_then k n true true = refl
found_then k n true false = refl
found_then k n false true = refl
found_then k n false false = refl

truth_of_value : (k : Kind) (v : Bool) (s : Stop) → truth_found (value_at k v s) ≡ truth_at v s
truth_of_value k v Never = refl
truth_of_value k v (Met j) = refl
truth_of_value k v (Lacking j m) = refl

module _ (d : Declarations) (body : Expression) (g : List Binding) (F : Environment) (k : Kind) (v : Bool) (is : IsKept v body) where
  next_value : (t : ℤ) (s : Stop) (n : ℕ) (r : TruthOrMissing) → truth_found (run_of d body (bound_to (held_at k (not v)) ∷ g) F t) ≡ r
      → then_do (value_at k v s) (λ x. day_run d body g F t x) ≡ value_at k v (or_stop_on s n (wanted_of v r))
  next_value t Never n (Err m) e = day_lacks d body g F t (held_at k (not v)) m e
  next_value t Never n (Ok b) e = day_holds d body g F t (held_at k (not v)) b is.verdict e ∙ found_then k n v b
  next_value t (Met j) n r e = day_holds d body g F t (held_at k v) v is.verdict (body_keeps d body g F t k v is.keeps)
  next_value t (Lacking j m) n r e = refl

  days_until : (from : ℤ) (n : ℕ) → days_run d body g F from n (Ok (held_at k (not v)))
      ≡ value_at k v (first_stop n (λ i. wanted_of v (truth_found (run_of d body (bound_to (held_at k (not v)) ∷ g) F (from +ℤ pos (suc i))))))
  days_until from zero = refl
  days_until from (suc n) =
      ap (λ (a : Answer). then_do a (day_step (λ h u. run_of d body h F u) g from (suc n))) (days_until from n)
      ∙ next_value (from +ℤ pos (suc n)) (first_stop n (λ i. wanted_of v (truth_found (run_of d body (bound_to (held_at k (not v)) ∷ g) F (from +ℤ pos (suc i)))))) n _ refl

  days_kept : (from : ℤ) (n : ℕ) → days_run d body g F from n (Ok (held_at k v)) ≡ Ok (held_at k v)
  days_kept from zero = refl
  days_kept from (suc n) =
      ap (λ (a : Answer). then_do a (day_step (λ h u. run_of d body h F u) g from (suc n))) (days_kept from n)
      ∙ day_holds d body g F (from +ℤ pos (suc n)) (held_at k v) v is.verdict (body_keeps d body g F (from +ℤ pos (suc n)) k v is.keeps)

  pub truth_kept : (from : ℤ) (n : ℕ) → Ok v ≡ truth_found (days_run d body g F from n (Ok (held_at k v)))
  truth_kept from n = sym (ap truth_found (days_kept from n))

  pub truth_until : (from first : ℤ) (n : ℕ) (s : Stop) → first ≡ from +ℤ pos 1
      → s ≡ first_stop n (λ i. wanted_of v (truth_found (run_of d body (bound_to (held_at k (not v)) ∷ g) F (first +ℤ pos i))))
      → truth_at v s ≡ truth_found (days_run d body g F from n (Ok (held_at k (not v))))
  truth_until from first n s day stops =
      sym (truth_of_value k v s)
      ∙ ap (λ (u : Stop). truth_found (value_at k v u)) (stops ∙ same_stop n _ _ (λ i l. ap (λ (t : ℤ). wanted_of v (truth_found (run_of d body (bound_to (held_at k (not v)) ∷ g) F t))) (moved i)))
      ∙ sym (ap truth_found (days_until from n))
    where
      moved : (i : ℕ) → first +ℤ pos i ≡ from +ℤ pos (suc i)
      moved i = omega (arith, ints, day)

-- the same of the value of a start

wanted_is : (v b : Bool) → is_wanted v b ≡ true → b ≡ v
wanted_is true b h = h
wanted_is false true h = absurd (cc)
wanted_is false false h = refl

wanted_not : (v b : Bool) → is_wanted v b ≡ false → b ≡ not v
wanted_not true b h = h
wanted_not false true h = refl
wanted_not false false h = absurd (cc)

pub kept_start : (decls : Decls) (body : Expr) (start : Typed) (names : Bindings) (F : Environment) (from : ℤ) (n : ℕ) (v b : Bool) → IsKept v (expression body) → start.value ≡ Truth b → is_wanted v b ≡ true
    → Ok v ≡ truth_from decls body start names F from n
kept_start decls body start names F from n v b is value wants =
    let held : held_at start.kind v ≡ start = ap (λ (x : Value). record { kind = start.kind; value = x }) (sym (value ∙ ap (λ (c : Bool). Truth c) (wanted_is v b wants))) in
    truth_kept (declarations decls) (expression body) (bindings names) F start.kind v is from n ∙ ap (λ (x : Typed). truth_from decls body x names F from n) held

pub kept_until : (decls : Decls) (body : Expr) (start : Typed) (names : Bindings) (F : Environment) (from first : ℤ) (n : ℕ) (v b : Bool) (s : Stop) (r : Result Bool Missing) → IsKept v (expression body)
    → start.value ≡ Truth b → is_wanted v b ≡ false → first ≡ from +ℤ pos 1
    → s ≡ first_stop n (λ i. wanted_of v (truth_found (run_of (declarations decls) (expression body) (bound_to start ∷ bindings names) F (first +ℤ pos i)))) → r ≡ truth_at v s
    → r ≡ truth_from decls body start names F from n
kept_until decls body start names F from first n v b s r is value wants day stops found =
    let d = declarations decls in
    let e = expression body in
    let held : start ≡ held_at start.kind (not v) = ap (λ (x : Value). record { kind = start.kind; value = x }) (value ∙ ap (λ (c : Bool). Truth c) (wanted_not v b wants)) in
    let stops_there : s ≡ first_stop n (λ i. wanted_of v (truth_found (run_of d e (bound_to (held_at start.kind (not v)) ∷ bindings names) F (first +ℤ pos i)))) =
    stops ∙ ap (λ (x : Typed). first_stop n (λ i. wanted_of v (truth_found (run_of d e (bound_to x ∷ bindings names) F (first +ℤ pos i))))) held in
    found
    ∙ truth_until d e (bindings names) F start.kind v is from first n s day stops_there
    ∙ ap (λ (x : Typed). truth_from decls body x names F from n) (sym held)
