use Rattle.std.proofs.Common.{rules, ◌≡◌, ◌≤◌, ◌<◌, ◌-◌, ℕ, ap, sym, ◌∙◌, Option, Ok, Err, arith}
use Rattle.std.specs.Int.{w32}
use Rattle.std.proofs.lemmas.Int.{to_z-of_z}
use Rattle.term_model.specs.Terms.{expression}
use Rattle.term_model.specs.declared.terms.Expr.{Expr}
use Rattle.term_core.specs.declared.shared.SharedContr.{SharedContr}
use Rattle.term_core.specs.SharedTerms.{shared}
use Rattle.expr_eval.specs.Trials.{DayOrMissing}
use Rattle.flow_eval.specs.Faults.{lacks_place}
use Rattle.flow_eval.proofs.ReadyFacts.{entered_in}
use Rattle.advance_step.proofs.CarryReady.{entered_ready}
use Rattle.advance_step.proofs.RestFacts.{after_answers, body_is_left, both_is_left, bound_fails}
use Rattle.advance_step.proofs.RestFacts.{found_among, hit_answers, left_fails, miss_answers}
use Rattle.advance_step.proofs.RestFacts.{pay_answers, right_fails, scale_fails, scale_is_left}
use Rattle.advance_step.proofs.RestFacts.{test_fails, waits_left, zero_answers}
use Rattle.advance_step.proofs.walk.+carrying.Goals as goal

-- what a test has answered
abbrev some_day : Option ℕ → DayOrMissing
some_day o = Ok o

pub carry_in-returns-in-Zero-clause-answer : goal.carry_in-returns-in-Zero-clause-answer
carry_in-returns-in-Zero-clause-answer t c =
    let stands = sym (ap (λ (x : SharedContr). shared x) c.in-Zero.is) in
    zero_answers c.args.known.now (shared c.args.s.now) c.args.scratch.now c.args.span
    c.nothing_left.result stands c.nothing_left.ensures.tree c.nothing_left.ensures.offsets
    c.nothing_left.ensures.memory

pub carry_in-returns-in-Pay-clause-answer : goal.carry_in-returns-in-Pay-clause-answer
carry_in-returns-in-Pay-clause-answer t c =
    let stands = sym (ap (λ (x : SharedContr). shared x) c.in-Pay.is) in
    pay_answers c.args.known.now (shared c.args.s.now) _ _ _ c.args.scratch.now c.args.span
    c.nothing_left-in-Pay.result stands c.nothing_left-in-Pay.ensures.tree
    c.nothing_left-in-Pay.ensures.offsets c.nothing_left-in-Pay.ensures.memory

-- ---- two parts, and a factor

pub carry_both-returns-in_err-left-clause-answer : goal.carry_both-returns-in_err-left-clause-answer
carry_both-returns-in_err-left-clause-answer t c =
    let e = c.in_err-left.field-0.0 in
    let err : c.from_residual.result ≡ Err e = grind (arith, c.from_residual.ensures) in
    left_fails c.args.known.now (shared c.args.left.now.value) (shared c.deref.result.now)
    (shared c.args.right.now.value) c.args.scratch.now c.args.span c.carry_in.result _ e
    (ap (λ (x : SharedContr). shared x) c.deref.ensures) c.in_err-left.was err
    c.carry_in.ensures.answer

pub carry_both-returns-in_err-right-clause-answer
    : goal.carry_both-returns-in_err-right-clause-answer
carry_both-returns-in_err-right-clause-answer t c =
    let e = c.in_err-right.field-0.0 in
    let err : c.from_residual-in_err-right.result ≡ Err e =
    grind (arith, c.from_residual-in_err-right.ensures) in
    right_fails c.args.known.now (shared c.args.left.now.value) (shared c.args.right.now.value)
    (shared c.deref-2.result.now) c.args.scratch.now c.carry_in.new.scratch c.args.span
    c.carry_in-2.result _ e (ap (λ (x : SharedContr). shared x) c.deref-2.ensures)
    c.carry_in.ensures.same c.in_err-right.was err c.carry_in-2.ensures.answer

pub carry_both-returns-clause-answer : goal.carry_both-returns-clause-answer
carry_both-returns-clause-answer t c =
    let r = c.in_ok-both_left.field-0.value in (
      both_is_left c.args.known.now (shared c.args.left.now.value) (shared c.deref.result.now)
          (shared c.args.right.now.value) (shared c.deref-2.result.now)
          (shared c.in_ok-left.left.value)
          (shared c.in_ok-right.right.value) (shared r) c.args.scratch.now c.carry_in.new.scratch
          c.args.span (ap (λ (x : SharedContr). shared x) c.deref.ensures)
          (ap (λ (x : SharedContr). shared x) c.deref-2.ensures) c.carry_in.ensures.same
          c.in_ok-left.ensures.answer.0 c.in_ok-right.ensures.answer.0
          c.in_ok-both_left.ensures.tree,
      c.in_ok-both_left.ensures.offsets,
    )

pub carry_scaled-returns-in_err-body-clause-answer
    : goal.carry_scaled-returns-in_err-body-clause-answer
carry_scaled-returns-in_err-body-clause-answer t c =
    let e = c.in_err-body.field-0.0 in
    let err : c.from_residual.result ≡ Err e = grind (arith, c.from_residual.ensures) in
    scale_fails c.args.known.now _ (shared c.args.body.now.value) (shared c.deref.result.now)
    c.args.scratch.now c.args.span c.carry_in.result _ e
    (ap (λ (x : SharedContr). shared x) c.deref.ensures) c.in_err-body.was err
    c.carry_in.ensures.answer

pub carry_scaled-returns-clause-answer : goal.carry_scaled-returns-clause-answer
carry_scaled-returns-clause-answer t c =
    let r = c.in_ok-scale_left.field-0.value in (
      scale_is_left c.args.known.now (expression c.args.factor.now.value) c.args.moved _
          (shared c.args.body.now.value) (shared c.deref.result.now)
          (shared c.in_ok-body.body.value)
          (shared r) c.args.scratch.now c.args.span (to_z-of_z w32 c.args.moved c.ranges.moved)
          (ap (λ (x : SharedContr). shared x) c.deref.ensures) c.in_ok-body.ensures.answer.0
          c.in_ok-scale_left.ensures.tree,
      c.in_ok-scale_left.ensures.offsets,
    )

-- ---- a delay

pub carry_after-returns-then-days-span-clause-answer
    : goal.carry_after-returns-then-days-span-clause-answer
carry_after-returns-then-days-span-clause-answer t c =
    let le : c.args.days ≤ c.args.span.last = grind (arith, c.if-days-span.true) in
    after_answers c.args.known.now (shared c.args.body.now.value) (shared c.deref.result.now)
    c.args.days
    c.args.scratch.now c.args.span c.after.result c.carry_in.result
    (ap (λ (x : SharedContr). shared x) c.deref.ensures) le c.after.ensures.day c.after.ensures.last
    c.carry_in.ensures.answer

-- ---- a name

pub carry_bound-carry_in-carried-requires : goal.carry_bound-carry_in-carried-requires
carry_bound-carry_in-carried-requires t c =
    let b = c.args.known.now in
    let e = expression c.args.bound.now.value in
    let entered =
    entered_in c.args.scratch.now c.entry_for-entry.new.scratch c.enter.new.self _
    c.entry_for-entry.ensures.same c.enter.ensures.entries in (
      search rules,
      (
        entered_ready b.decls c.args.body.now.value c.deref-2.result.now e _
            c.args.scratch.now.entries
            c.enter.new.self.entries c.entry_for-entry.result
            (ap (λ (x : Expr). expression x) c.deref.ensures) c.deref-2.ensures entered
            c.requires.body.0 c.entry_for-entry.ensures.suits,
        search rules,
        search rules,
      ),
    )

pub carry_bound-returns-in_err-carried-clause-answer
    : goal.carry_bound-returns-in_err-carried-clause-answer
carry_bound-returns-in_err-carried-clause-answer t c =
    let z = to_z-of_z w32 c.args.moved c.ranges.moved in
    let y = c.in_err-carried.field-0.0 in
    let err : c.from_residual.result ≡ Err y = grind (arith, c.from_residual.ensures) in
    let entered =
    entered_in c.args.scratch.now c.entry_for-entry.new.scratch c.enter.new.self _
    c.entry_for-entry.ensures.same c.enter.ensures.entries in
    bound_fails c.args.known.now c.entry_for-entry.result (expression c.args.bound.now.value) _
    c.args.moved _ (shared c.args.body.now.value) (shared c.deref-2.result.now) c.args.scratch.now
    c.enter.new.self c.args.span c.carry_in-carried.result c.from_residual.result y z
    (ap (λ (x : Expr). expression x) c.deref.ensures)
    (ap (λ (x : SharedContr). shared x) c.deref-2.ensures) entered c.entry_for-entry.ensures.enters
    c.in_err-carried.was err c.carry_in-carried.ensures.answer

pub carry_bound-returns-clause-answer : goal.carry_bound-returns-clause-answer
carry_bound-returns-clause-answer t c =
    let z = to_z-of_z w32 c.args.moved c.ranges.moved in
    let r = c.in_ok-let_left.field-0.value in
    let entered =
    entered_in c.args.scratch.now c.entry_for-entry.new.scratch c.enter.new.self _
    c.entry_for-entry.ensures.same c.enter.ensures.entries in (
      body_is_left c.args.known.now c.entry_for-entry.result (expression c.args.bound.now.value) _
          c.args.moved _ _ (shared c.args.body.now.value) (shared c.deref-2.result.now)
          (shared c.in_ok-carried.field-0.value) (shared r) c.args.scratch.now c.enter.new.self
          c.args.span z z (ap (λ (x : Expr). expression x) c.deref.ensures)
          (ap (λ (x : SharedContr). shared x) c.deref-2.ensures) entered
          c.entry_for-entry.ensures.enters c.in_ok-carried.ensures.answer.0
          c.in_ok-let_left.ensures.tree,
      c.in_ok-let_left.ensures.offsets,
    )

-- ---- a test

pub carry_within-returns-in_err-first-clause-answer
    : goal.carry_within-returns-in_err-first-clause-answer
carry_within-returns-in_err-first-clause-answer t c =
    let m = c.in_err-first.field-0.0 in
    let err : c.from_residual.result ≡ Err (lacks_place m) =
    grind (arith, c.from_residual.ensures) in
    test_fails c.args.known.now (expression c.args.test.now.value) _ c.args.days
    (shared c.args.hit.now.value) (shared c.args.miss.now.value) c.args.scratch.now c.args.span
    c.first_day.result m c.from_residual.result (ap (λ (x : Expr). expression x) c.deref.ensures)
    c.first_day.ensures.answer c.in_err-first.was err

pub carry_within-returns-in-Some-clause-answer : goal.carry_within-returns-in-Some-clause-answer
carry_within-returns-in-Some-clause-answer t c =
    let k = c.in-Some.first in
    let found = c.in_ok-first.was ∙ ap (λ (o : Option ℕ). some_day o) c.in-Some.is in
    let low = found_among c.in_ok-first.field-0 k c.args.span.last c.in-Some.is
    c.in_ok-first.ensures.found in
    hit_answers c.args.known.now (expression c.args.test.now.value) _ c.args.days k
    (shared c.args.hit.now.value) (shared c.deref-in-Some.result.now) (shared c.args.miss.now.value)
    c.args.scratch.now c.args.span c.after.result c.first_day.result c.carry_in.result
    (ap (λ (x : Expr). expression x) c.deref.ensures)
    (ap (λ (x : SharedContr). shared x) c.deref-in-Some.ensures) c.first_day.ensures.answer found
    low
    c.after.ensures.day c.after.ensures.last c.carry_in.ensures.answer

pub carry_within-returns-in-None-clause-answer : goal.carry_within-returns-in-None-clause-answer
carry_within-returns-in-None-clause-answer t c =
    let none = c.in_ok-first.was ∙ ap (λ (o : Option ℕ). some_day o) c.in-None.is in
    let le : c.args.days ≤ c.args.span.last = grind (arith, c.if-days-span.true) in
    miss_answers c.args.known.now (expression c.args.test.now.value) _ c.args.days
    (shared c.args.hit.now.value) (shared c.args.miss.now.value) (shared c.deref-in-None.result.now)
    c.args.scratch.now c.args.span c.after-in-None.result c.first_day.result
    c.carry_in-in-None.result
    (ap (λ (x : Expr). expression x) c.deref.ensures)
    (ap (λ (x : SharedContr). shared x) c.deref-in-None.ensures) c.first_day.ensures.answer none le
    c.after-in-None.ensures.day c.after-in-None.ensures.last c.carry_in-in-None.ensures.answer

pub carry_within-returns-in_ok-still_waiting-in-None-2-clause-answer
    : goal.carry_within-returns-in_ok-still_waiting-in-None-2-clause-answer
carry_within-returns-in_ok-still_waiting-in-None-2-clause-answer t c =
    let r = c.in_ok-still_waiting-in-None-2.field-0.value in
    let none = c.in_ok-first.was ∙ ap (λ (o : Option ℕ). some_day o) c.in-None-2.is in
    let lt : c.args.span.last < c.args.days = grind (arith, c.if-days-span.false) in (
      waits_left c.args.known.now (expression c.args.test.now.value) _ c.args.days
          (c.args.days - c.args.span.last - 1) (shared c.args.hit.now.value)
          (shared c.args.miss.now.value) (shared r) c.args.scratch.now c.args.span
          c.first_day.result
          (ap (λ (x : Expr). expression x) c.deref.ensures) c.first_day.ensures.answer none lt
          (omega (arith)) c.in_ok-still_waiting-in-None-2.ensures.tree,
      c.in_ok-still_waiting-in-None-2.ensures.offsets,
    )
