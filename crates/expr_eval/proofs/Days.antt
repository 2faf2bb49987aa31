-- The days of an accumulator, one after another.
use Rattle.std.proofs.Common.{◌≡◌, ℕ, zero, suc, ◌+◌, ◌<◌, ◌-◌, ℤ, ◌+ℤ◌, ◌-ℤ◌, arith, refl, ap, sym, ◌∙◌, Ok, Err, add-one, List, pos}
use Rattle.term_model.specs.declared.values.Missing.{Missing}
use Rattle.term_model.specs.Declarations.{Declarations}
use Rattle.term_model.specs.declared.terms.Expr.{Expr}
use Rattle.term_model.specs.Terms.{expression, Acc}
use Rattle.term_model.specs.Environments.{Environment}
use Rattle.expr_eval.specs.declared.scratch.Binding.{Binding}
use Rattle.expr_eval.specs.declared.operations.Typed.{Typed}
use Rattle.expr_eval.specs.Runs.{Answer, day_run, day_step, then_do, days_tried, run_of}
use Rattle.expr_eval.specs.Evaluations.{days_from}

-- a start that lacks a value
pub days_tried-err : (n : ℕ) (step : ℕ → Typed → Answer) (m : Missing) → days_tried n step (Err m) ≡ Err m
days_tried-err zero step m = refl
days_tried-err (suc n) step m = ap (λ a. then_do a (step (suc n))) (days_tried-err n step m)

-- one more day
pub days_tried-more : (n : ℕ) (step : ℕ → Typed → Answer) (a : Answer) (v : Typed) → days_tried n step a ≡ Ok v → days_tried (n + 1) step a ≡ step (n + 1) v
days_tried-more n step a v e = rw add-one (ap (λ b. then_do b (step (suc n))) e)

-- a day that lacks a value ends it
days_tried-stay : (k n : ℕ) (step : ℕ → Typed → Answer) (a : Answer) (m : Missing) → days_tried n step a ≡ Err m → (j : ℕ) → j ≡ k + n → days_tried j step a ≡ Err m
days_tried-stay zero n step a m e j h = let i : j ≡ n = omega arith in rw i e
days_tried-stay (suc k) n step a m e j h =
    let i : j ≡ suc (k + n) = omega arith in
    rw i (ap (λ b. then_do b (step (suc (k + n)))) (days_tried-stay k n step a m e (k + n) refl))

pub days_tried-stop : (i n : ℕ) (step : ℕ → Typed → Answer) (a : Answer) (v : Typed) (m : Missing) → i < n → days_tried i step a ≡ Ok v → step (i + 1) v ≡ Err m → days_tried n step a ≡ Err m
days_tried-stop i n step a v m h e f =
    days_tried-stay (n - (i + 1)) (i + 1) step a m (days_tried-more i step a v e ∙ f) n (omega arith)

-- an accumulator by its parts: its days, from the day `at` on, and its start on that day
pub acc_is : (d : Declarations) (body x first y : Expr) (n : ℕ) (g : List Binding) (env : Environment) (f from at : ℤ) (r : Answer) → x ≡ body → y ≡ first → at ≡ from → from ≡ f -ℤ pos n → r ≡ days_from d x y g env at n → r ≡ run_of d (Acc (expression body) n (expression first)) g env f
acc_is d body x first y n g env f from at r p q u v e =
    e
    ∙ ap (λ (z : Expr). days_from d z y g env at n) p
    ∙ ap (λ (z : Expr). days_from d body z g env at n) q
    ∙ ap (λ (t : ℤ). days_from d body first g env t n) (u ∙ v)

-- one more day, on which its answer is r

module _ (d : Declarations) (body first : Expr) (g : List Binding) (env : Environment) (from : ℤ) (i : ℕ) (v : Typed) (t : ℤ) (r : Answer)
    (before : days_from d body first g env from i ≡ Ok v) (day : t ≡ from +ℤ pos (i + 1)) (is : r ≡ day_run d (expression body) g env t v) where
  step_is : day_step (λ h u. run_of d (expression body) h env u) g from (i + 1) v ≡ r
  step_is = ap (λ (u : ℤ). day_run d (expression body) g env u v) (sym day) ∙ sym is

  pub days_go_on : (w : Typed) → r ≡ Ok w → days_from d body first g env from (i + 1) ≡ Ok w
  days_go_on w found =
      days_tried-more i (day_step (λ h u. run_of d (expression body) h env u) g from) (run_of d (expression first) g env from) v before ∙ step_is ∙ found
