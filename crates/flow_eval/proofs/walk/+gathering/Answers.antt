use Rattle.std.proofs.Common.{rules, ◌≡◌, ◌≤◌, ◌-◌, ◌∷◌, to_z, of_z, FitsSigned, unsigned_abs, ◌*ℤ◌, ◌^◌, ℕ, List, length, Err, arith, ap, ap₂, sym, ◌∙◌, subst, refl, false, drop}
use Rattle.std.specs.Int.{w128}
use Rattle.std.specs.List.{All}
use Rattle.std.proofs.lemmas.Int.{to_z-of_z}
use Rattle.term_model.specs.Declarations.{declarations}
use Rattle.term_model.specs.declared.terms.Contr.{Contr}
use Rattle.term_model.specs.DayCounts.{day_count}
use Rattle.term_model.specs.Terms.{Contract, contract, expression, Both, Scale, Let, Within}
use Rattle.term_model.specs.Values.{kinds, num}
use Rattle.term_model.specs.Kinds.{scale_of}
use Rattle.term_model.specs.Reads.{reads_of}
use Rattle.interval_check.specs.Sums.{entry_of}
use Rattle.expr_eval.specs.declared.scratch.Binding.{Binding}
use Rattle.expr_eval.specs.Rooms.{Room}
use Rattle.expr_eval.specs.Standing.{StandFor}
use Rattle.flow_eval.specs.declared.payments.Payment.{Payment}
use Rattle.expr_eval.specs.Trials.{answer_of}
use Rattle.flow_eval.specs.Walks.{walk_of}
use Rattle.flow_eval.specs.Gathering.{Gathers}
use Rattle.flow_eval.specs.Readiness.{CanAnswer}
use Rattle.flow_eval.specs.Faults.{lacks_place}
use Rattle.flow_eval.proofs.GatherFacts.{over_notes, walk_over}
use Rattle.flow_eval.proofs.StepFacts.{body_missing, body_ready, body_walk, factor_known, factor_lacks, first_within, none_to_scale, both_noted, hit_noted, hit_ready, miss_noted, miss_ready, not_over, noted_small, scale_fits, test_missing}
use Rattle.flow_eval.proofs.ReadyFacts.{entered_in, entered_stands, ready_bound, ready_factor, ready_let, ready_test, spared_in, stand_in}
use Rattle.flow_eval.proofs.walk.+gathering.Goals as goal

pub gather-returns-then-is_over-clause-answer : goal.gather-returns-then-is_over-clause-answer
gather-returns-then-is_over-clause-answer t c = λ g bs stand.
    over_notes c.args.out.now.items _ (walk_over (declarations c.args.basis.now.decls.now) c.args.basis.now.fixings.now c.args.basis.now.until (contract c.args.c.now) g bs c.args.here.decimals c.args.here.day (sym c.is_over.ensures ∙ c.if-is_over.true))

pub gather-returns-in-Both-clause-answer : goal.gather-returns-in-Both-clause-answer
gather-returns-in-Both-clause-answer t c = λ g bs stand.
    subst (λ (x : Contract). Gathers (walk_of (declarations c.args.basis.now.decls.now) c.args.here.decimals x g bs c.args.basis.now.fixings.now c.args.here.day c.args.basis.now.until) c.args.out.now.items c.gather_both.new.out.items c.gather_both.result)
    (ap₂ (λ (x y : Contr). Both (contract x) (contract y)) c.deref.ensures c.deref-in-Both.ensures ∙ ap (λ (x : Contr). contract x) (sym c.in-Both.is)) (c.gather_both.ensures.answer g bs stand)

pub gather-returns-in-Scale-clause-answer : goal.gather-returns-in-Scale-clause-answer
gather-returns-in-Scale-clause-answer t c = λ g bs stand.
    subst (λ (x : Contract). Gathers (walk_of (declarations c.args.basis.now.decls.now) c.args.here.decimals x g bs c.args.basis.now.fixings.now c.args.here.day c.args.basis.now.until) c.args.out.now.items c.gather_scaled.new.out.items c.gather_scaled.result)
    (ap (λ (y : Contr). Scale (expression c.in-Scale.factor) (contract y)) c.deref-in-Scale.ensures ∙ ap (λ (x : Contr). contract x) (sym c.in-Scale.is)) (c.gather_scaled.ensures.answer g bs stand)

pub gather-returns-in-Let-clause-answer : goal.gather-returns-in-Let-clause-answer
gather-returns-in-Let-clause-answer t c = λ g bs stand.
    subst (λ (x : Contract). Gathers (walk_of (declarations c.args.basis.now.decls.now) c.args.here.decimals x g bs c.args.basis.now.fixings.now c.args.here.day c.args.basis.now.until) c.args.out.now.items c.gather_bound.new.out.items c.gather_bound.result)
    (ap (λ (y : Contr). Let (expression c.in-Let.bound) (contract y)) c.deref-in-Let.ensures ∙ ap (λ (x : Contr). contract x) (sym c.in-Let.is)) (c.gather_bound.ensures.answer g bs stand)

pub gather-returns-in-Within-clause-answer : goal.gather-returns-in-Within-clause-answer
gather-returns-in-Within-clause-answer t c = λ g bs stand.
    subst (λ (x : Contract). Gathers (walk_of (declarations c.args.basis.now.decls.now) c.args.here.decimals x g bs c.args.basis.now.fixings.now c.args.here.day c.args.basis.now.until) c.args.out.now.items c.gather_within.new.out.items c.gather_within.result)
    (ap₂ (λ (x y : Contr). Within (expression c.in-Within.test) (day_count c.in-Within.days) (contract x) (contract y)) c.deref-in-Within.ensures c.deref-in-Within-2.ensures ∙ ap (λ (x : Contr). contract x) (sym c.in-Within.is)) (c.gather_within.ensures.answer g bs stand)

pub gather_within-gather-requires : goal.gather_within-gather-requires
gather_within-gather-requires t c = (
  search rules,
  hit_ready (declarations c.args.basis.now.decls.now) c.args.basis.now.fixings.now c.args.here c.after.result c.args.scratch.now c.first_day.new.scratch (Within (expression c.args.test.now) (day_count c.args.days.now) (contract c.args.hit.now) (contract c.args.miss.now)) (expression c.args.test.now) (day_count c.args.days.now) (contract c.args.hit.now) (contract c.args.miss.now) (contract c.args.hit.now) c.in_ok-first.field-0 c.in-Some.first c.number-days.result
      refl c.number-days.ensures c.in_ok-first.ensures.found c.in-Some.is c.after.ensures refl c.first_day.ensures.same c.requires.ready c.requires.days,
)

pub gather_within-gather-requires-in-None : goal.gather_within-gather-requires-in-None
gather_within-gather-requires-in-None t c = (
  search rules,
  miss_ready (declarations c.args.basis.now.decls.now) c.args.basis.now.fixings.now c.args.here c.after-in-None.result c.args.scratch.now c.first_day.new.scratch (Within (expression c.args.test.now) (day_count c.args.days.now) (contract c.args.hit.now) (contract c.args.miss.now)) (expression c.args.test.now) (day_count c.args.days.now) (contract c.args.hit.now) (contract c.args.miss.now) (contract c.args.miss.now) c.number-days.result
      refl c.number-days.ensures c.after-in-None.ensures refl c.first_day.ensures.same c.requires.ready c.requires.days,
)

pub gather_within-returns-in-Some-clause-answer : goal.gather_within-returns-in-Some-clause-answer
gather_within-returns-in-Some-clause-answer t c = λ g bs stand.
    hit_noted (declarations c.args.basis.now.decls.now) c.args.basis.now.fixings.now c.args.basis.now.until c.args.here c.after.result (Within (expression c.args.test.now) (day_count c.args.days.now) (contract c.args.hit.now) (contract c.args.miss.now)) (expression c.args.test.now) (day_count c.args.days.now) (contract c.args.hit.now) (contract c.args.miss.now) (contract c.args.hit.now) g bs false c.first_day.result c.in_ok-first.field-0 c.in-Some.first c.number-days.result c.args.out.now.items c.gather.new.out.items c.gather.result
    refl (not_over c.args.basis.now.until c.args.here.day c.requires.in_time) refl c.number-days.ensures (c.first_day.ensures.answer g bs stand) c.in_ok-first.was c.in-Some.is c.after.ensures refl
    (c.gather.ensures.answer g bs (stand_in c.args.basis.now.fixings.now c.args.scratch.now c.first_day.new.scratch g bs c.first_day.ensures.same stand))

pub gather_within-returns-in-None-clause-answer : goal.gather_within-returns-in-None-clause-answer
gather_within-returns-in-None-clause-answer t c = λ g bs stand.
    miss_noted (declarations c.args.basis.now.decls.now) c.args.basis.now.fixings.now c.args.basis.now.until c.args.here c.after-in-None.result (Within (expression c.args.test.now) (day_count c.args.days.now) (contract c.args.hit.now) (contract c.args.miss.now)) (expression c.args.test.now) (day_count c.args.days.now) (contract c.args.hit.now) (contract c.args.miss.now) (contract c.args.miss.now) g bs false c.first_day.result c.in_ok-first.field-0 c.number-days.result c.args.out.now.items c.gather-in-None.new.out.items c.gather-in-None.result
    refl (not_over c.args.basis.now.until c.args.here.day c.requires.in_time) refl c.number-days.ensures (c.first_day.ensures.answer g bs stand) c.in_ok-first.was c.in-None.is c.after-in-None.ensures refl
    (c.gather-in-None.ensures.answer g bs (stand_in c.args.basis.now.fixings.now c.args.scratch.now c.first_day.new.scratch g bs c.first_day.ensures.same stand))

pub gather_within-returns-in_err-first-clause-answer : goal.gather_within-returns-in_err-first-clause-answer
gather_within-returns-in_err-first-clause-answer t c = λ g bs stand.
    let err : c.from_residual.result ≡ Err (lacks_place c.in_err-first.field-0.0) = grind (arith, c.from_residual.ensures) in
    test_missing (declarations c.args.basis.now.decls.now) c.args.basis.now.fixings.now c.args.basis.now.until c.args.here (Within (expression c.args.test.now) (day_count c.args.days.now) (contract c.args.hit.now) (contract c.args.miss.now)) (expression c.args.test.now) (day_count c.args.days.now) (contract c.args.hit.now) (contract c.args.miss.now) g bs false c.first_day.result c.in_err-first.field-0.0 c.number-days.result c.args.out.now.items c.args.out.now.items c.from_residual.result
    refl (not_over c.args.basis.now.until c.args.here.day c.requires.in_time) refl c.number-days.ensures (c.first_day.ensures.answer g bs stand) c.in_err-first.was err

pub gather_both-returns-clause-answer : goal.gather_both-returns-clause-answer
gather_both-returns-clause-answer t c = λ g bs stand.
    both_noted (declarations c.args.basis.now.decls.now) c.args.basis.now.fixings.now c.args.basis.now.until c.args.here (contract c.args.left.now) (contract c.args.right.now) g bs c.args.out.now.items c.gather.new.out.items c.gather-2.new.out.items c.gather.result c.gather-2.result _
    c.in_ok-gather.was (c.gather.ensures.answer g bs stand) (c.gather-2.ensures.answer g bs (stand_in c.args.basis.now.fixings.now c.args.scratch.now c.gather.new.scratch g bs c.gather.ensures.same stand))

pub gather_within-first_day-requires-clause-ready : goal.gather_within-first_day-requires-clause-ready
gather_within-first_day-requires-clause-ready t c = ready_test (declarations c.args.basis.now.decls.now) (expression c.args.test.now) (day_count c.args.days.now) (contract c.args.hit.now) (contract c.args.miss.now) c.args.here.decimals c.args.scratch.now c.args.basis.now.fixings.now c.requires.ready

-- ---- a name

pub gather_bound-kind_at-kind-requires : goal.gather_bound-kind_at-kind-requires
gather_bound-kind_at-kind-requires t c = record { ready = ready_bound (declarations c.args.basis.now.decls.now) (expression c.args.bound.now) (contract c.args.body.now) c.args.here.decimals c.args.scratch.now c.args.basis.now.fixings.now c.requires.ready }

pub gather_bound-value_at-requires-clause-ready : goal.gather_bound-value_at-requires-clause-ready
gather_bound-value_at-requires-clause-ready t c = ready_bound (declarations c.args.basis.now.decls.now) (expression c.args.bound.now) (contract c.args.body.now) c.args.here.decimals c.args.scratch.now c.args.basis.now.fixings.now c.requires.ready

pub gather_bound-gather-gathered-requires : goal.gather_bound-gather-gathered-requires
gather_bound-gather-gathered-requires t c = (
  search rules,
  (
    ready_let (declarations c.args.basis.now.decls.now) (expression c.args.bound.now) (contract c.args.body.now) c.args.here.decimals c.args.scratch.now c.enter.new.self c.args.basis.now.fixings.now c.args.here.day c.kind_at-kind.result c.value_at.result c.of-held.result c.requires.ready c.kind_at-kind.ensures
        (c.value_at.ensures.answer c.requires.ready.values c.requires.ready.places c.requires.ready.stand) c.of-held.ensures
        (entered_in c.args.scratch.now c.value_at.new.scratch c.enter.new.self _ c.value_at.ensures.same c.enter.ensures.entries) (spared_in c.args.scratch.now c.value_at.new.scratch c.enter.new.self c.value_at.ensures.same c.enter.ensures.spare),
    c.requires.days,
  ),
)

pub gather_bound-returns-clause-answer : goal.gather_bound-returns-clause-answer
gather_bound-returns-clause-answer t c = λ g bs stand.
    let d = (declarations c.args.basis.now.decls.now) in
    let e = expression c.args.bound.now in
    let f = c.args.here.day in
    let entered = entered_in c.args.scratch.now c.value_at.new.scratch c.enter.new.self _ c.value_at.ensures.same c.enter.ensures.entries in
    c.gather-gathered.ensures.answer (entry_of d e g c.args.basis.now.fixings.now f ∷ g) (reads_of d e g bs c.args.basis.now.fixings.now f ∷ bs)
    (subst (λ (es : List Binding). StandFor c.args.basis.now.fixings.now es (entry_of d e g c.args.basis.now.fixings.now f ∷ g) (reads_of d e g bs c.args.basis.now.fixings.now f ∷ bs)) (sym entered)
    (entered_stands d e c.args.basis.now.fixings.now f c.args.scratch.now.entries g bs c.kind_at-kind.result c.value_at.result c.of-held.result stand c.kind_at-kind.ensures (c.value_at.ensures.answer g bs stand) c.of-held.ensures))

-- ---- a factor

pub gather_scaled-kind_at-requires : goal.gather_scaled-kind_at-requires
gather_scaled-kind_at-requires t c = record { ready = ready_factor (declarations c.args.basis.now.decls.now) (expression c.args.factor.now) (contract c.args.body.now) c.args.here.decimals c.args.scratch.now c.args.basis.now.fixings.now c.requires.ready }

pub gather_scaled-within-requires : goal.gather_scaled-within-requires
gather_scaled-within-requires t c = scale_fits (declarations c.args.basis.now.decls.now) (expression c.args.factor.now) (contract c.args.body.now) c.args.here.decimals c.args.scratch.now c.args.basis.now.fixings.now c.kind_at.result c.scale-scale.result c.requires.ready c.kind_at.ensures c.scale-scale.ensures

pub gather_scaled-gather-requires : goal.gather_scaled-gather-requires
gather_scaled-gather-requires t c =
    (search rules, body_ready (declarations c.args.basis.now.decls.now) (expression c.args.factor.now) (contract c.args.body.now) c.args.here c.within.result c.args.scratch.now c.args.basis.now.fixings.now c.kind_at.result c.scale-scale.result c.requires.ready c.requires.days c.kind_at.ensures c.scale-scale.ensures c.within.ensures)

pub gather_scaled-returns-in_err-gather-clause-answer : goal.gather_scaled-returns-in_err-gather-clause-answer
gather_scaled-returns-in_err-gather-clause-answer t c = λ g bs stand.
    let err : c.from_residual.result ≡ Err c.in_err-gather.field-0.0 = grind (arith, c.from_residual.ensures) in
    body_missing (walk_of (declarations c.args.basis.now.decls.now) c.within.result.decimals (contract c.args.body.now) g bs c.args.basis.now.fixings.now c.within.result.day c.args.basis.now.until) (walk_of (declarations c.args.basis.now.decls.now) (c.args.here.decimals - scale_of (declarations c.args.basis.now.decls.now) (expression c.args.factor.now) (kinds g)) (contract c.args.body.now) g bs c.args.basis.now.fixings.now c.args.here.day c.args.basis.now.until) (answer_of (declarations c.args.basis.now.decls.now) (expression c.args.factor.now) g bs c.args.basis.now.fixings.now c.args.here.day) c.args.out.now.items c.gather.new.out.items c.gather.result c.from_residual.result c.in_err-gather.field-0.0 (body_walk (declarations c.args.basis.now.decls.now) (expression c.args.factor.now) (contract c.args.body.now) c.args.here c.within.result c.args.scratch.now c.args.basis.now.fixings.now c.args.basis.now.until c.kind_at.result c.scale-scale.result g bs stand c.kind_at.ensures c.scale-scale.ensures c.within.ensures) (c.gather.ensures.answer g bs stand) c.in_err-gather.was err

pub gather_scaled-returns-then-len-first-clause-answer : goal.gather_scaled-returns-then-len-first-clause-answer
gather_scaled-returns-then-len-first-clause-answer t c = λ g bs stand.
    let first : c.len-first.result ≡ length c.args.out.now.items = search rules in
    let len : c.len.result ≡ length c.gather.new.out.items = search rules in
    none_to_scale (walk_of (declarations c.args.basis.now.decls.now) c.within.result.decimals (contract c.args.body.now) g bs c.args.basis.now.fixings.now c.within.result.day c.args.basis.now.until) (walk_of (declarations c.args.basis.now.decls.now) (c.args.here.decimals - scale_of (declarations c.args.basis.now.decls.now) (expression c.args.factor.now) (kinds g)) (contract c.args.body.now) g bs c.args.basis.now.fixings.now c.args.here.day c.args.basis.now.until) (answer_of (declarations c.args.basis.now.decls.now) (expression c.args.factor.now) g bs c.args.basis.now.fixings.now c.args.here.day) c.args.out.now.items c.gather.new.out.items c.gather.result c.in_ok-gather.field-0 c.len-first.result c.len.result (body_walk (declarations c.args.basis.now.decls.now) (expression c.args.factor.now) (contract c.args.body.now) c.args.here c.within.result c.args.scratch.now c.args.basis.now.fixings.now c.args.basis.now.until c.kind_at.result c.scale-scale.result g bs stand c.kind_at.ensures c.scale-scale.ensures c.within.ensures) (c.gather.ensures.answer g bs stand) c.in_ok-gather.was first len c.if-len-first.true

pub gather_scaled-value_at-requires-clause-ready : goal.gather_scaled-value_at-requires-clause-ready
gather_scaled-value_at-requires-clause-ready t c =
    subst (λ (r : Room). CanAnswer (declarations c.args.basis.now.decls.now) (expression c.args.factor.now) r c.args.basis.now.fixings.now) (sym c.gather.ensures.same) (ready_factor (declarations c.args.basis.now.decls.now) (expression c.args.factor.now) (contract c.args.body.now) c.args.here.decimals c.args.scratch.now c.args.basis.now.fixings.now c.requires.ready)

pub gather_scaled-returns-in_err-factor-clause-answer : goal.gather_scaled-returns-in_err-factor-clause-answer
gather_scaled-returns-in_err-factor-clause-answer t c = λ g bs stand.
    let first : c.len-first.result ≡ length c.args.out.now.items = search rules in
    let len : c.len.result ≡ length c.gather.new.out.items = search rules in
    let err : c.from_residual-in_err-factor.result ≡ Err (lacks_place c.in_err-factor.field-0.0) = grind (arith, c.from_residual-in_err-factor.ensures) in
    factor_lacks (walk_of (declarations c.args.basis.now.decls.now) c.within.result.decimals (contract c.args.body.now) g bs c.args.basis.now.fixings.now c.within.result.day c.args.basis.now.until) (walk_of (declarations c.args.basis.now.decls.now) (c.args.here.decimals - scale_of (declarations c.args.basis.now.decls.now) (expression c.args.factor.now) (kinds g)) (contract c.args.body.now) g bs c.args.basis.now.fixings.now c.args.here.day c.args.basis.now.until) (answer_of (declarations c.args.basis.now.decls.now) (expression c.args.factor.now) g bs c.args.basis.now.fixings.now c.args.here.day) c.args.out.now.items c.gather.new.out.items c.gather.result c.from_residual-in_err-factor.result c.in_ok-gather.field-0 c.len-first.result c.len.result c.value_at.result c.in_err-factor.field-0.0 (body_walk (declarations c.args.basis.now.decls.now) (expression c.args.factor.now) (contract c.args.body.now) c.args.here c.within.result c.args.scratch.now c.args.basis.now.fixings.now c.args.basis.now.until c.kind_at.result c.scale-scale.result g bs stand c.kind_at.ensures c.scale-scale.ensures c.within.ensures) (c.gather.ensures.answer g bs stand) c.in_ok-gather.was first len c.if-len-first.false
    (c.value_at.ensures.answer g bs (stand_in c.args.basis.now.fixings.now c.args.scratch.now c.gather.new.scratch g bs c.gather.ensures.same stand)) c.in_err-factor.was err

pub gather_scaled-multiply_from-requires-clause-first : goal.gather_scaled-multiply_from-requires-clause-first
gather_scaled-multiply_from-requires-clause-first t c =
    let first : c.len-first.result ≡ length c.args.out.now.items = search rules in
    first_within (walk_of (declarations c.args.basis.now.decls.now) c.within.result.decimals (contract c.args.body.now) c.requires.ready.values c.requires.ready.places c.args.basis.now.fixings.now c.within.result.day c.args.basis.now.until) c.args.out.now.items c.gather.new.out.items c.gather.result c.in_ok-gather.field-0 c.len-first.result
    (c.gather.ensures.answer c.requires.ready.values c.requires.ready.places c.requires.ready.stand) c.in_ok-gather.was first

pub gather_scaled-multiply_from-requires-clause-small : goal.gather_scaled-multiply_from-requires-clause-small
gather_scaled-multiply_from-requires-clause-small t c =
    let first : c.len-first.result ≡ length c.args.out.now.items = search rules in
    let fits : FitsSigned w128 c.number.result = search rules in
    let number : to_z w128 (of_z w128 c.number.result) ≡ num c.in_ok-factor.factor = to_z-of_z w128 c.number.result fits ∙ c.number.ensures in
    let small = noted_small (declarations c.args.basis.now.decls.now) (expression c.args.factor.now) (contract c.args.body.now) c.args.here c.within.result c.args.scratch.now c.args.basis.now.fixings.now c.args.basis.now.until c.kind_at.result c.scale-scale.result c.args.out.now.items c.gather.new.out.items c.gather.result c.in_ok-gather.field-0 c.value_at.result c.in_ok-factor.factor (to_z w128 (of_z w128 c.number.result)) c.requires.ready
    c.kind_at.ensures c.scale-scale.ensures c.within.ensures (c.gather.ensures.answer c.requires.ready.values c.requires.ready.places c.requires.ready.stand) c.in_ok-gather.was
    (c.value_at.ensures.answer c.requires.ready.values c.requires.ready.places (stand_in c.args.basis.now.fixings.now c.args.scratch.now c.gather.new.scratch c.requires.ready.values c.requires.ready.places c.gather.ensures.same c.requires.ready.stand)) c.in_ok-factor.was number in
    subst (λ (n : ℕ). All (λ (p : Payment). unsigned_abs (p.amount *ℤ to_z w128 (of_z w128 c.number.result)) ≤ 10 ^ 30) (drop n c.gather.new.out.items)) (sym first) small

pub gather_scaled-returns-clause-answer : goal.gather_scaled-returns-clause-answer
gather_scaled-returns-clause-answer t c = λ g bs stand.
    let first : c.len-first.result ≡ length c.args.out.now.items = search rules in
    let len : c.len.result ≡ length c.gather.new.out.items = search rules in
    let fits : FitsSigned w128 c.number.result = search rules in
    let number : to_z w128 (of_z w128 c.number.result) ≡ num c.in_ok-factor.factor = to_z-of_z w128 c.number.result fits ∙ c.number.ensures in
    factor_known (walk_of (declarations c.args.basis.now.decls.now) c.within.result.decimals (contract c.args.body.now) g bs c.args.basis.now.fixings.now c.within.result.day c.args.basis.now.until) (walk_of (declarations c.args.basis.now.decls.now) (c.args.here.decimals - scale_of (declarations c.args.basis.now.decls.now) (expression c.args.factor.now) (kinds g)) (contract c.args.body.now) g bs c.args.basis.now.fixings.now c.args.here.day c.args.basis.now.until) (answer_of (declarations c.args.basis.now.decls.now) (expression c.args.factor.now) g bs c.args.basis.now.fixings.now c.args.here.day) c.args.out.now.items c.gather.new.out.items c.multiply_from.new.out.items c.gather.result c.in_ok-gather.field-0 c.len-first.result c.len.result c.value_at.result c.in_ok-factor.factor (to_z w128 (of_z w128 c.number.result)) (body_walk (declarations c.args.basis.now.decls.now) (expression c.args.factor.now) (contract c.args.body.now) c.args.here c.within.result c.args.scratch.now c.args.basis.now.fixings.now c.args.basis.now.until c.kind_at.result c.scale-scale.result g bs stand c.kind_at.ensures c.scale-scale.ensures c.within.ensures) (c.gather.ensures.answer g bs stand) c.in_ok-gather.was first len c.if-len-first.false
    (c.value_at.ensures.answer g bs (stand_in c.args.basis.now.fixings.now c.args.scratch.now c.gather.new.scratch g bs c.gather.ensures.same stand)) c.in_ok-factor.was number c.multiply_from.ensures
