-- How each rule tries payoff code, each part once and parts before wholes: what a value expression
-- answers, how a name that is bound to it is known in the body, and what a node answers from the
-- answers of its parts. A trial answers what it found, or the number of the first node at fault.
use Rattle.std.specs.Prelude.{ℕ, ◌+◌, ◌≡◌, Result, Ok, Err}
use Rattle.term_model.specs.Terms.{Expression}
use Rattle.term_model.specs.Sizes.{nodes}
use Rattle.term_core.specs.Trying.{then_do}
use Rattle.payoff_terms.specs.TemplateDates.{Date}
use Rattle.payoff_terms.specs.Dating.{undated}
use Rattle.payoff_terms.specs.Code.{ValueExpression, value_expression}
use Rattle.payoff_terms.specs.Code.{PayoffCode, Nothing, PayOn, Add, ScaleBy, LetBe, Loop, Cut}
use Rattle.payoff_terms.specs.CodeSizes.{nodes_of_code}
use Rattle.payoff_terms.specs.declared.code.Vx.{Vx}
use Rattle.payoff_check.specs.declared.faults.Fault.{Fault}
use Rattle.payoff_check.specs.declared.faults.Fault.TheVariants.{At}

-- the undated expression of the program's value expression
abbrev pub undated_value : Vx → Expression
undated_value v = undated (value_expression v)

-- the steps of a rule, with what is found of values, U, what is found of code, A, and what is known
-- of names, G
pub record Steps (U A G : Type 0) : Type 0 where
  pub value : ValueExpression → G → ℕ → Result U ℕ
  pub enter : U → G → G
  pub nothing : ℕ → Result A ℕ
  pub payment : Date → ℕ → Result A ℕ
  pub sum : A → A → ℕ → Result A ℕ
  pub scaled : U → A → ℕ → Result A ℕ
  pub bound : U → A → ℕ → Result A ℕ
  pub looped : U → Date → A → A → ℕ → Result A ℕ
  pub cut : Date → A → ℕ → Result A ℕ

-- code whose own node has number n
abbrev pub code_tried : {U A G : Type 0} → Steps U A G → PayoffCode → G → ℕ → Result A ℕ
code_tried w Nothing g n = w.nothing n
code_tried w (PayOn x a p q) g n = w.payment x n
code_tried w (Add k l) g n =
    then_do (code_tried w k g (n + 1))
    (λ a. then_do (code_tried w l g (n + 1 + nodes_of_code k)) (λ b. w.sum a b n))
code_tried w (ScaleBy v k) g n =
    then_do (w.value v g (n + 1))
    (λ u. then_do (code_tried w k g (n + 1 + nodes (undated v))) (λ a. w.scaled u a n))
code_tried w (LetBe v k) g n =
    then_do (w.value v g (n + 1))
    (λ u. then_do (code_tried w k (w.enter u g) (n + 1 + nodes (undated v))) (λ a. w.bound u a n))
code_tried w (Loop v x k l) g n =
    then_do (w.value v g (n + 1))
    (λ u. then_do (code_tried w k g (n + 1 + nodes (undated v)))
    (λ a. then_do (code_tried w l g (n + 1 + nodes (undated v) + nodes_of_code k))
    (λ b. w.looped u x a b n)))
code_tried w (Cut x k) g n = then_do (code_tried w k g (n + 1)) (λ a. w.cut x a n)

-- a call answers as a trial does, but for want of memory, where what it finds stands for something
abbrev pub TellsAs : {A B : Type 0} → (A → B) → Result A Fault → Result B ℕ → Type 0
TellsAs view (Ok a) t = t ≡ Ok (view a)
TellsAs view (Err e) t = (n : ℕ) → e ≡ At n → t ≡ Err n

-- a call answers as a trial does, but for want of memory
abbrev pub Tells : {A : Type 0} → Result A Fault → Result A ℕ → Type 0
Tells (Ok a) t = t ≡ Ok a
Tells (Err e) t = (n : ℕ) → e ≡ At n → t ≡ Err n
