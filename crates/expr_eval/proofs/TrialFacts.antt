-- The days of a test that may be evaluated: it may be tried on each of them, and each is answered as the model has it.
use Rattle.std.proofs.Common.{◌≡◌, ℕ, ◌<◌, ◌≤◌, ◌^◌, ℤ, pos, ◌+ℤ◌, unsigned_abs, ap, sym, ◌∙◌, Option, true, Ok, Err, List, [], refl, subst, arith}
use Rattle.std.specs.Prelude.{IfOk}
use Rattle.std.proofs.lemmas.Int.{ints}
use Rattle.term_model.specs.Declarations.{Declarations}
use Rattle.term_model.specs.declared.values.Value.{Value}
use Rattle.term_model.specs.Terms.{Expression}
use Rattle.term_model.specs.Environments.{Environment, Place}
use Rattle.term_model.specs.Values.{Entry, value_of}
use Rattle.interval_check.specs.Within.{KeepsLimits}
use Rattle.interval_check.proofs.SuitedFacts.{nothing_fixed}
use Rattle.expr_eval.specs.declared.scratch.Binding.{Binding}
use Rattle.expr_eval.specs.Runs.{run_of, untyped}
use Rattle.expr_eval.specs.declared.stops.Stop.{Stop}
use Rattle.expr_eval.specs.Fits.{IsDay}
use Rattle.expr_eval.specs.Comparing.{truth_found}
use Rattle.expr_eval.specs.Stops.{TruthOrMissing, day_of, first_stop, wanted_of}
use Rattle.expr_eval.specs.Standing.{StandFor}
use Rattle.expr_eval.specs.Evaluable.{MayEvaluate}
use Rattle.expr_eval.specs.Answers.{IsAnswer}
use Rattle.expr_eval.specs.Trials.{DayOrMissing, IsFirstTrue, IsOneOf, ValueOrMissing, answer_of, first_tried, value_unless}
use Rattle.expr_eval.proofs.AnswerFacts.{is_answer}
use Rattle.expr_eval.proofs.EvaluableFacts.{kind_for, safe_entries}
use Rattle.expr_eval.proofs.TriedFacts.{first_same}
use Rattle.expr_eval.proofs.StopFacts.{AtMost, at_most, one_of, same_stop, tried_stop}

answer_by : (d : Declarations) (e : Expression) (es : List Binding) (F : Environment) (f : ℤ) (g : List Entry) (bs : List (List Place)) (r : ValueOrMissing) → StandFor F es g bs → IsAnswer d e es F f r → r ≡ answer_of d e g bs F f
answer_by d e es F f g bs (Ok v) stand is =
    ap (λ (x : Value). Ok x) (sym (is.value g bs F stand (λ q w h. h))) ∙ ap (λ (o : Option Place). value_unless o (value_of d e g F f)) (is.missing g bs stand)
answer_by d e es F f g bs (Err m) stand is = ap (λ (o : Option Place). value_unless o (value_of d e g F f)) (is.missing g bs stand)

-- an answer is that of the model, for all that the entries stand for
pub answer_is : (d : Declarations) (e : Expression) (es : List Binding) (F : Environment) (f : ℤ) (r : ValueOrMissing) → IsAnswer d e es F f r → (g : List Entry) (bs : List (List Place)) → StandFor F es g bs → r ≡ answer_of d e g bs F f
answer_is d e es F f r is g bs stand = answer_by d e es F f g bs r stand is

-- the days that are tried are days of an evaluation
pub day_tried : (from : ℤ) (i n : ℕ) → unsigned_abs from ≤ 10 ^ 11 → i < n → n < 2 ^ 32 → unsigned_abs (from +ℤ pos i) ≤ 10 ^ 12
day_tried from i n h l k = omega (arith, ints)

pub first_day : (from : ℤ) → unsigned_abs from ≤ 10 ^ 11 → IsDay from
first_day from h = omega (arith, ints)

-- so their first answer is that of the model
pub first_is : (d : Declarations) (e : Expression) (bs : List Binding) (F : Environment) (from : ℤ) (n : ℕ) (r : DayOrMissing) → KeepsLimits d → MayEvaluate d e bs → r ≡ first_tried n (λ i. untyped (run_of d e bs F (from +ℤ pos i))) → IsFirstTrue d e bs F from n r
first_is d e bs F from n r limits h is =
    let k = kind_for d e bs [] (pos 0) (safe_entries d e bs [] (pos 0) limits (nothing_fixed d) h) in
    λ es ps stand.
    is ∙ first_same n (λ i. untyped (run_of d e bs F (from +ℤ pos i))) (λ i. answer_of d e es ps F (from +ℤ pos i)) (λ i. answer_is d e bs F (from +ℤ pos i) (untyped (run_of d e bs F (from +ℤ pos i))) (is_answer d e bs F (from +ℤ pos i) k.0 k.1) es ps stand)

-- and so is where the test stops

wanted_true : (r : TruthOrMissing) → wanted_of true r ≡ r
wanted_true (Ok b) = refl
wanted_true (Err m) = refl

pub stop_is : (d : Declarations) (e : Expression) (bs : List Binding) (F : Environment) (from : ℤ) (n : ℕ) (s : Stop) (r : DayOrMissing) → KeepsLimits d → MayEvaluate d e bs
    → s ≡ first_stop n (λ i. wanted_of true (truth_found (run_of d e bs F (from +ℤ pos i)))) → r ≡ day_of s → IsFirstTrue d e bs F from n r × IfOk r (λ o. IsOneOf n o)
stop_is d e bs F from n s r limits h stops is =
    let met : ℕ → TruthOrMissing = λ i. wanted_of true (truth_found (run_of d e bs F (from +ℤ pos i))) in
    let found : r ≡ first_tried n (λ i. untyped (run_of d e bs F (from +ℤ pos i))) =
    is ∙ ap day_of (stops ∙ same_stop n met (λ i. truth_found (run_of d e bs F (from +ℤ pos i))) (λ i l. wanted_true _)) ∙ tried_stop n (λ i. run_of d e bs F (from +ℤ pos i)) in (
      first_is d e bs F from n r limits h found,
      subst (λ (o : DayOrMissing). IfOk o (λ k. IsOneOf n k)) (sym is) (one_of s n (subst (λ (t : Stop). AtMost t n) (sym stops) (at_most n met))),
    )
