-- The days that are gone by, counted as a span.
use Rattle.std.proofs.Common.{◌≡◌, ℕ, ◌+◌, ℤ, pos, ◌+ℤ◌, Result, sym, subst, arith}
use Rattle.std.proofs.lemmas.Int.{ints}
use Rattle.std.specs.declared.rc.Rc.{Rc}
use Rattle.std.specs.Global.{Global}
use Rattle.term_model.specs.Declarations.{Declarations}
use Rattle.term_core.specs.declared.shared.SharedContr.{SharedContr}
use Rattle.term_model.specs.Environments.{Environment}
use Rattle.term_model.specs.Terms.{Contract}
use Rattle.flow_eval.specs.declared.faults.FlowErr.{FlowErr}
use Rattle.advance_step.specs.Advancing.{day_before}
use Rattle.advance_step.specs.Residual.{AnswersLeftAfter, ReadsAreFixed}

-- n days are the first of them and j behind it
last_is : (f f' : ℤ) (n j : ℕ) → f' ≡ f → j + 1 ≡ n → day_before f n ≡ f' +ℤ pos j
last_is f f' n j hf hj = omega (arith, ints, hf, hj)

pub known_in : (d : Declarations) (F : Environment) (c : Contract) (f f' : ℤ) (n j : ℕ) → f' ≡ f
    → j + 1 ≡ n → ReadsAreFixed d c F f (day_before f n) → ReadsAreFixed d c F f' (f' +ℤ pos j)
known_in d F c f f' n j hf hj h =
    subst (λ (x : ℤ). ReadsAreFixed d c F x (f' +ℤ pos j)) (sym hf)
    (subst (λ (y : ℤ). ReadsAreFixed d c F f y) (last_is f f' n j hf hj) h)

pub left_in : (d : Declarations) (F : Environment) (c : Contract) (f f' : ℤ) (n j : ℕ)
    (o : Result (Rc SharedContr Global) FlowErr) → f' ≡ f → j + 1 ≡ n
    → AnswersLeftAfter d F f' (j + 1) c o → AnswersLeftAfter d F f n c o
left_in d F c f f' n j o hf hj h =
    subst (λ (k : ℕ). AnswersLeftAfter d F f k c o) hj
    (subst (λ (x : ℤ). AnswersLeftAfter d F x (j + 1) c o) hf h)
