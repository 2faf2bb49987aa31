-- Tests without kinds answer what the evaluator does.
use Rattle.std.proofs.Common.{◌≡◌, ℕ, ◌+◌, ◌<◌, ℤ, pos, ◌+ℤ◌, ◌-ℤ◌, Bool, true, false, List, ◌∷◌, Result, Ok, Err, if◌then◌else◌, refl, ap, sym, subst, ◌∙◌}
use Rattle.term_model.specs.Declarations.{Declarations, declarations}
use Rattle.term_model.specs.declared.decls.Decls.{Decls}
use Rattle.term_model.specs.declared.terms.CmpOp.{CmpOp}
use Rattle.term_model.specs.declared.terms.LogicOp.{LogicOp}
use Rattle.term_model.specs.declared.values.Value.TheVariants.{Truth}
use Rattle.term_model.specs.declared.values.Missing.{Missing}
use Rattle.term_model.specs.declared.terms.Expr.{Expr}
use Rattle.term_model.specs.Terms.{Expression, expression, Lit, Yes, Var, Obs, Neg, Num, Cmp, Not, Logic, Cond, Widen, Round, Div, Acc}
use Rattle.term_model.specs.Environments.{Environment}
use Rattle.term_model.specs.Reads.{decides}
use Rattle.expr_eval.specs.declared.scratch.Binding.{Binding}
use Rattle.expr_eval.specs.declared.operations.Typed.{Typed}
use Rattle.expr_eval.specs.declared.operations.Operands.{Operands}
use Rattle.expr_eval.specs.declared.bindings.Bindings.{Bindings}
use Rattle.expr_eval.specs.Bindings.{bindings}
use Rattle.expr_eval.specs.Fits.{DaysFitIn}
use Rattle.expr_eval.specs.Operations.{at_kind, compared, truth_in, verdict}
use Rattle.expr_eval.specs.Runs.{Answer, bound_to, both_of, day_run, day_step, days_run, of_sides, on_both, run_of, then_do}
use Rattle.expr_eval.specs.Comparing.{truth_found}
use Rattle.expr_eval.specs.Evaluations.{days_from}
use Rattle.expr_eval.specs.Truths.{DaysFitAfter, DaysFitOf, is_verdict, truth_after, truth_from}
use Rattle.expr_eval.proofs.Days.{acc_is, days_tried-more, days_tried-stop}

-- what lacks a place as a truth value lacks it
pub lacks_too : (r : Answer) (m : Missing) → truth_found r ≡ Err m → r ≡ Err m
lacks_too (Ok v) m h = absurd (cc)
lacks_too (Err n) m h = cc

-- an expression that has truth values alone is a verdict where it has a value

abbrev said : Bool → Answer
said b = Ok (verdict b)

said_so : (x b : Bool) → truth_found (said x) ≡ Ok b → said x ≡ Ok (verdict b)
said_so x b h =
    let e : x ≡ b = cc in
    ap said e

compared_so : (op : CmpOp) (p : Result Operands Missing) (b : Bool) → truth_found (on_both p (compared op)) ≡ Ok b → on_both p (compared op) ≡ Ok (verdict b)
compared_so op (Ok p) b h = said_so _ b h
compared_so op (Err m) b h = absurd (cc)

not_so : (a : Answer) (go : Typed → Bool) (b : Bool) → truth_found (then_do a (λ v. Ok (verdict (go v)))) ≡ Ok b → then_do a (λ v. Ok (verdict (go v))) ≡ Ok (verdict b)
not_so (Ok v) go b h = said_so (go v) b h
not_so (Err m) go b h = absurd (cc)

either_so : (c : Bool) (x : Typed) (a : Answer) (b : Bool)
    → truth_found (if c then Ok (verdict (truth_in x)) else then_do a (λ y. Ok (verdict (truth_in y)))) ≡ Ok b
    → (if c then Ok (verdict (truth_in x)) else then_do a (λ y. Ok (verdict (truth_in y)))) ≡ Ok (verdict b)
either_so true x a b h = said_so (truth_in x) b h
either_so false x a b h = not_so a truth_in b h

joined_so : (op : LogicOp) (a b : Answer) (c : Bool) → truth_found (of_sides op a b) ≡ Ok c → of_sides op a b ≡ Ok (verdict c)
joined_so op (Ok x) b c h = either_so (decides op (truth_in x)) x b c h
joined_so op (Err m) b c h = absurd (cc)

verdict_so : (d : Declarations) (e : Expression) (g : List Binding) (F : Environment) (f : ℤ) (b : Bool) → is_verdict e ≡ true → truth_found (run_of d e g F f) ≡ Ok b → run_of d e g F f ≡ Ok (verdict b)
verdict_so d (Lit m s) g F f b h e = absurd (cc)
verdict_so d (Yes c) g F f b h e = said_so c b e
verdict_so d (Var n) g F f b h e = absurd (cc)
verdict_so d (Obs l t) g F f b h e = absurd (cc)
verdict_so d (Neg x) g F f b h e = absurd (cc)
verdict_so d (Num op x y) g F f b h e = absurd (cc)
verdict_so d (Cmp op x y) g F f b h e = compared_so op (both_of (run_of d x g F f) (run_of d y g F f)) b e
verdict_so d (Not x) g F f b h e = not_so (run_of d x g F f) _ b e
verdict_so d (Logic op x y) g F f b h e = joined_so op (run_of d x g F f) (run_of d y g F f) b e
verdict_so d (Cond t x y) g F f b h e = absurd (cc)
verdict_so d (Widen s x) g F f b h e = absurd (cc)
verdict_so d (Round mode s x) g F f b h e = absurd (cc)
verdict_so d (Div mode s x y) g F f b h e = absurd (cc)
verdict_so d (Acc body n first) g F f b h e = absurd (cc)

-- a day of an accumulator with such a body

pub day_lacks : (d : Declarations) (body : Expression) (g : List Binding) (F : Environment) (t : ℤ) (v : Typed) (m : Missing) → truth_found (run_of d body (bound_to v ∷ g) F t) ≡ Err m → day_run d body g F t v ≡ Err m
day_lacks d body g F t v m h = ap (λ (a : Answer). then_do a (λ w. Ok (at_kind v.kind w))) (lacks_too (run_of d body (bound_to v ∷ g) F t) m h)

pub day_holds : (d : Declarations) (body : Expression) (g : List Binding) (F : Environment) (t : ℤ) (v : Typed) (b : Bool) → is_verdict body ≡ true → truth_found (run_of d body (bound_to v ∷ g) F t) ≡ Ok b → day_run d body g F t v ≡ Ok (record { kind = v.kind; value = Truth b })
day_holds d body g F t v b h e = ap (λ (a : Answer). then_do a (λ w. Ok (at_kind v.kind w))) (verdict_so d body (bound_to v ∷ g) F t b h e)

-- and its days, one after another, from the value of its start

module _ (d : Declarations) (body : Expression) (start : Typed) (g : List Binding) (F : Environment) (from : ℤ) (i : ℕ) (v : Typed) (t : ℤ) (r : Result Bool Missing)
    (before : days_run d body g F from i (Ok start) ≡ Ok v) (day : t ≡ from +ℤ pos (i + 1)) (is : r ≡ truth_found (run_of d body (bound_to v ∷ g) F t)) where
  next : days_run d body g F from (i + 1) (Ok start) ≡ day_run d body g F t v
  next =
      days_tried-more i (day_step (λ h u. run_of d body h F u) g from) (Ok start) v before
      ∙ ap (λ (u : ℤ). day_run d body g F u v) (sym day)

  pub days_lack : (n : ℕ) (m : Missing) → i < n → r ≡ Err m → days_run d body g F from n (Ok start) ≡ Err m
  days_lack n m l lacks =
      days_tried-stop i n (day_step (λ h u. run_of d body h F u) g from) (Ok start) v m l before
      (ap (λ (u : ℤ). day_run d body g F u v) (sym day) ∙ day_lacks d body g F t v m (sym is ∙ lacks))

  pub days_hold : (b : Bool) → is_verdict body ≡ true → r ≡ Ok b → days_run d body g F from (i + 1) (Ok start) ≡ Ok (record { kind = v.kind; value = Truth b })
  days_hold b h found = next ∙ day_holds d body g F t v b h (sym is ∙ found)

-- an accumulator by its parts
pub acc_holds : (d : Declarations) (body x first y : Expr) (n : ℕ) (g : List Binding) (env : Environment) (f from at : ℤ) (r : Result Bool Missing) → x ≡ body → y ≡ first → at ≡ from → from ≡ f -ℤ pos n → r ≡ truth_found (days_from d x y g env at n) → r ≡ truth_found (run_of d (Acc (expression body) n (expression first)) g env f)
acc_holds d body x first y n g env f from at r p q u v e =
    e ∙ ap truth_found (acc_is d body x first y n g env f from at (days_from d x y g env at n) p q u v refl)

-- from the value of its start

pub after_start : (decls : Decls) (body first : Expr) (start : Typed) (names : Bindings) (F : Environment) (from at : ℤ) (n : ℕ) (r : Result Bool Missing) → at ≡ from
    → run_of (declarations decls) (expression first) (bindings names) F at ≡ Ok start → r ≡ truth_from decls body start names F at n → r ≡ truth_after decls body first names F from n
after_start decls body first start names F from at n r same is found =
    let d = declarations decls in
    let g = bindings names in
    found
    ∙ ap (λ (a : Answer). truth_found (days_run d (expression body) g F at n a)) (sym is)
    ∙ ap (λ (f : ℤ). truth_found (days_run d (expression body) g F f n (run_of d (expression first) g F f))) same

pub fits_start : (decls : Decls) (body first : Expr) (start : Typed) (names : Bindings) (F : Environment) (from at : ℤ) (n : ℕ) → at ≡ from
    → run_of (declarations decls) (expression first) (bindings names) F at ≡ Ok start → DaysFitAfter decls body first names F from n → DaysFitOf decls body start names F at n
fits_start decls body first start names F from at n same is fits =
    let d = declarations decls in
    let g = bindings names in
    subst (λ (a : Answer). DaysFitIn d (expression body) g F at n a) is (subst (λ (f : ℤ). DaysFitAfter decls body first names F f n) (sym same) fits)
