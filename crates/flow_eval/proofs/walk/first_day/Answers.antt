use Rattle.std.proofs.Common.{◌≡◌, ◌≤◌, ◌<◌, ◌+◌, ℕ, suc, min, ℤ, ◌+ℤ◌, pos, Some, None, Ok, Err, IfOk, ap, ◌∙◌, arith}
use Rattle.std.specs.Int.{w64}
use Rattle.std.proofs.lemmas.Int.{to_z-of_z}
use Rattle.term_model.specs.Declarations.{declarations}
use Rattle.term_model.specs.Terms.{expression}
use Rattle.expr_eval.specs.Trials.{DayOrMissing, IsOneOf, answer_of, first_tried}
use Rattle.flow_eval.specs.Readiness.{IsUpTo}
use Rattle.flow_eval.proofs.ReadyFacts.{day_fits, may_evaluate}
use Rattle.flow_eval.proofs.walk.first_day.Goals as goal

one_more : (n m : ℕ) → n ≡ m → n + 1 ≡ suc m
one_more n m e = omega arith

at_most : (n days left : ℕ) → n ≡ min days left → n ≤ days
at_most n days left e = omega arith

up_to : (n k days : ℕ) → n ≤ days → k < n + 1 → k ≤ days
up_to n k days h l = omega arith

is_up_to : (r : DayOrMissing) (n days : ℕ) → n ≤ days → IfOk r (λ first. IsOneOf (n + 1) first) → IfOk r (λ first. IsUpTo first days)
is_up_to (Err m) n days h l = tt
is_up_to (Ok None) n days h l = tt
is_up_to (Ok (Some k)) n days h l = up_to n k days h l

pub first_true-requires-clause-place : goal.first_true-requires-clause-place
first_true-requires-clause-place c = may_evaluate (declarations c.args.basis.now.decls.now) (expression c.args.test.now) c.args.scratch.now c.args.basis.now.fixings.now c.requires.ready

pub returns-clause-answer : goal.returns-clause-answer
returns-clause-answer c = λ g bs stand.
    let d = declarations c.args.basis.now.decls.now in
    let e = expression c.args.test.now in
    let F = c.args.basis.now.fixings.now in
    c.first_true.ensures.answer g bs stand
    ∙ ap (λ (f : ℤ). first_tried (c.days_tried-count.result + 1) (λ i. answer_of d e g bs F (f +ℤ pos i))) (to_z-of_z w64 c.args.here.day (day_fits c.args.here.day c.args.days c.requires.days))
    ∙ ap (λ (n : ℕ). first_tried n (λ i. answer_of d e g bs F (c.args.here.day +ℤ pos i))) (one_more c.days_tried-count.result _ c.days_tried-count.ensures)

pub returns-clause-found : goal.returns-clause-found
returns-clause-found c = is_up_to c.first_true.result c.days_tried-count.result c.args.days (at_most _ _ _ c.days_tried-count.ensures) c.first_true.ensures.found
