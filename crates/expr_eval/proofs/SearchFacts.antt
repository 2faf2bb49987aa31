-- Where tests stop of which either decides, stretch by stretch.
use Rattle.std.proofs.Common.{◌≡◌, ℕ, zero, suc, ◌+◌, ◌≤◌, ℤ, pos, ◌+ℤ◌, Bool, true, false, not, Ok, Err, if◌then◌else◌, refl, ap, sym, ◌∙◌, subst}
use Rattle.term_model.specs.declared.decls.Decls.{Decls}
use Rattle.term_model.specs.declared.values.Missing.{Missing}
use Rattle.term_model.specs.declared.terms.Expr.{Expr}
use Rattle.term_model.specs.declared.terms.LogicOp.{LogicOp}
use Rattle.term_model.specs.declared.terms.LogicOp.TheVariants.{And, Or}
use Rattle.term_model.specs.Terms.{Expression, expression, Logic, Not}
use Rattle.term_model.specs.Environments.{Environment}
use Rattle.term_model.specs.Reads.{decides}
use Rattle.expr_eval.specs.declared.operations.Typed.{Typed}
use Rattle.expr_eval.specs.declared.bindings.Bindings.{Bindings}
use Rattle.expr_eval.specs.declared.stops.Stop.{Stop}
use Rattle.expr_eval.specs.declared.stops.Stop.TheVariants.{Never, Met, Lacking}
use Rattle.expr_eval.specs.Operations.{truth_in, verdict}
use Rattle.expr_eval.specs.Runs.{Answer, of_sides, then_do}
use Rattle.expr_eval.specs.Comparing.{truth_found}
use Rattle.expr_eval.specs.Stops.{TruthOrMissing, counted_from, days_before, either_met, first_stop, goes_on, is_wanted, or_first, or_stop_on, stop_on, wanted_of}
use Rattle.expr_eval.specs.Truths.{truth_of}
use Rattle.expr_eval.specs.Searches.{IsStop, IsStopOfEither, alike, met_in}
use Rattle.expr_eval.proofs.StopFacts.{either_stops, is_never, more_days, same_stop, stays, stopped_too}

-- two sides of which the left one decides where it has the wanted value

right_side : (w : Bool) (r : Answer) → wanted_of w (truth_found (then_do r (λ y. Ok (verdict (truth_in y))))) ≡ wanted_of w (truth_found r)
right_side w (Ok y) = refl
right_side w (Err m) = refl

left_side : (op : LogicOp) (w : Bool) (x : Typed) (b : Bool) (r : Answer) → decides op w ≡ true
    → wanted_of w (truth_found (if decides op b then Ok (verdict b) else then_do r (λ y. Ok (verdict (truth_in y))))) ≡ either_met (Ok (is_wanted w b)) (wanted_of w (truth_found r))
left_side And true x b r h = absurd (cc)
left_side And false x true r h = right_side false r
left_side And false x false r h = refl
left_side Or true x true r h = refl
left_side Or true x false r h = right_side true r
left_side Or false x b r h = absurd (cc)

sides_met : (op : LogicOp) (w : Bool) (a b : Answer) → decides op w ≡ true → wanted_of w (truth_found (of_sides op a b)) ≡ either_met (wanted_of w (truth_found a)) (wanted_of w (truth_found b))
sides_met op w (Ok x) b h = left_side op w x (truth_in x) b h
sides_met op w (Err m) b h = refl

pub joined_stops : (decls : Decls) (op : LogicOp) (left right : Expr) (w : Bool) (names : Bindings) (env : Environment) (from : ℤ) (n : ℕ) → decides op w ≡ true
    → first_stop n (λ i. met_in decls (Logic op (expression left) (expression right)) w names env from i)
    ≡ first_stop n (λ i. either_met (met_in decls (expression left) w names env from i) (met_in decls (expression right) w names env from i))
joined_stops decls op left right w names env from n h =
    same_stop n _ _ (λ i l. sides_met op w _ _ h)

-- the opposite

not_met : (w b : Bool) → is_wanted w (not b) ≡ is_wanted (not w) b
not_met true b = refl
not_met false true = refl
not_met false false = refl

opposite_met : (w : Bool) (r : Answer) → wanted_of w (truth_found (then_do r (λ v. Ok (verdict (not (truth_in v)))))) ≡ wanted_of (not w) (truth_found r)
opposite_met w (Ok v) = ap (λ (b : Bool). Ok b) (not_met w (truth_in v))
opposite_met w (Err m) = refl

pub opposite_stops : (decls : Decls) (x e : Expression) (w v : Bool) (names : Bindings) (env : Environment) (from at : ℤ) (n : ℕ) (s : Stop) → x ≡ Not e → v ≡ not w → at ≡ from
    → IsStop decls e v names env at n s → IsStop decls x w names env from n s
opposite_stops decls x e w v names env from at n s is flips same stops =
    let there : IsStop decls e (not w) names env from n s = subst (λ (f : ℤ). IsStop decls e (not w) names env f n s) same (subst (λ (b : Bool). IsStop decls e b names env at n s) flips stops) in
    subst (λ (y : Expression). IsStop decls y w names env from n s) (sym is)
    (there ∙ same_stop n (λ i. met_in decls e (not w) names env from i) (λ i. met_in decls (Not e) w names env from i) (λ i l. sym (opposite_met w _)))

-- the first stop of both

picked : (s t : Stop) → or_first s t ≡ (if goes_on t then s else t)
picked s Never = refl
picked s (Met k) = refl
picked s (Lacking k m) = refl

pub either_is : (n : ℕ) (a b : ℕ → TruthOrMissing) (s t : Stop) (before : ℕ) → s ≡ first_stop n a → before ≡ days_before s n → t ≡ first_stop before b
    → (if goes_on t then s else t) ≡ first_stop n (λ i. either_met (a i) (b i))
either_is n a b s t before p q r =
    sym (picked s t)
    ∙ ap (or_first s) (r ∙ ap (λ (k : ℕ). first_stop k b) q)
    ∙ ap (λ (u : Stop). or_first u (first_stop (days_before u n) b)) p
    ∙ sym (either_stops n a b)

module _ (decls : Decls) (left right : Expr) (w : Bool) (names : Bindings) (env : Environment) (from at at2 : ℤ) (n before : ℕ) (s t : Stop)
    (same : at ≡ from) (same2 : at2 ≡ from) (first : IsStop decls (expression left) w names env at n s) (days : before ≡ days_before s n)
    (second : IsStop decls (expression right) w names env at2 before t) where
  both : (if goes_on t then s else t) ≡ first_stop n (λ i. either_met (met_in decls (expression left) w names env from i) (met_in decls (expression right) w names env from i))
  both =
      either_is n (λ i. met_in decls (expression left) w names env from i) (λ i. met_in decls (expression right) w names env from i) s t before
      (subst (λ (f : ℤ). IsStop decls (expression left) w names env f n s) same first) days (subst (λ (f : ℤ). IsStop decls (expression right) w names env f before t) same2 second)

  pub left_is : goes_on t ≡ true → IsStopOfEither decls left right w names env from n s
  left_is h = ap (λ (b : Bool). if b then s else t) (sym h) ∙ both

  pub right_is : goes_on t ≡ false → IsStopOfEither decls left right w names env from n t
  right_is h = ap (λ (b : Bool). if b then s else t) (sym h) ∙ both

-- some more days, behind those on which it went on

module _ (decls : Decls) (left right : Expr) (w : Bool) (names : Bindings) (env : Environment) (from first : ℤ) (done c : ℕ) (s : Stop)
    (before : IsStopOfEither decls left right w names env from done Never) (day : first ≡ from +ℤ pos done) (is : IsStopOfEither decls left right w names env first c s) where
  so_far : (j : ℕ) → j ≡ done + c → IsStopOfEither decls left right w names env from j (counted_from s done)
  so_far j all =
      more_days (λ t. either_met (wanted_of w (truth_of decls (expression left) names env t)) (wanted_of w (truth_of decls (expression right) names env t))) from first done c j s before day is all

  pub still_goes_on : goes_on s ≡ true → (j : ℕ) → j ≡ done + c → IsStopOfEither decls left right w names env from j Never
  still_goes_on h j all = subst (λ (t : Stop). IsStopOfEither decls left right w names env from j (counted_from t done)) (is_never s h) (so_far j all)

  pub joined_found : (op : LogicOp) (n : ℕ) (r : Stop) → decides op w ≡ true → goes_on s ≡ false → done + c ≤ n → r ≡ counted_from s done
      → IsStop decls (Logic op (expression left) (expression right)) w names env from n r
  joined_found op n r decided stopped l counted =
      counted
      ∙ sym (stays n (done + c) _ (counted_from s done) (stopped_too s done stopped) l (sym (so_far (done + c) refl)))
      ∙ sym (joined_stops decls op left right w names env from n decided)

-- a test that answers the same on each day

alike_on : (s : Stop) (r : TruthOrMissing) → s ≡ stop_on 0 r → (n : ℕ) → or_stop_on s n r ≡ s
alike_on s (Ok true) e n = ap (λ (t : Stop). or_stop_on t n (Ok true)) e ∙ sym e
alike_on s (Ok false) e n = ap (λ (t : Stop). or_stop_on t n (Ok false)) e ∙ sym e
alike_on s (Err m) e n = ap (λ (t : Stop). or_stop_on t n (Err m)) e ∙ sym e

alike_stops : (r : TruthOrMissing) (n : ℕ) → alike r (suc n) ≡ stop_on 0 r
alike_stops r zero = refl
alike_stops r (suc n) = alike_on (alike r (suc n)) r (alike_stops r n) (suc n) ∙ alike_stops r n

alike_days : (r : TruthOrMissing) (n : ℕ) → (n ≡ 0 → ⊥) → stop_on 0 r ≡ alike r n
alike_days r zero h = absurd (h refl)
alike_days r (suc n) h = sym (alike_stops r n)

module _ (w : Bool) (r : TruthOrMissing) (n : ℕ) (some : n ≡ 0 → ⊥) where
  pub alike_met : (b : Bool) → r ≡ Ok b → is_wanted w b ≡ true → Met 0 ≡ alike (wanted_of w r) n
  alike_met b is wants =
      ap (λ (c : Bool). stop_on 0 (Ok c)) (sym wants) ∙ ap (λ (o : TruthOrMissing). stop_on 0 (wanted_of w o)) (sym is) ∙ alike_days (wanted_of w r) n some

  pub alike_never : (b : Bool) → r ≡ Ok b → is_wanted w b ≡ false → Never ≡ alike (wanted_of w r) n
  alike_never b is wants =
      ap (λ (c : Bool). stop_on 0 (Ok c)) (sym wants) ∙ ap (λ (o : TruthOrMissing). stop_on 0 (wanted_of w o)) (sym is) ∙ alike_days (wanted_of w r) n some

  pub alike_lacks : (m : Missing) → r ≡ Err m → Lacking 0 m ≡ alike (wanted_of w r) n
  alike_lacks m is = ap (λ (o : TruthOrMissing). stop_on 0 (wanted_of w o)) (sym is) ∙ alike_days (wanted_of w r) n some
