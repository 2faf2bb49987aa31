use Rattle.std.proofs.Common.{◌≡◌, ℤ, Err, sym, subst, arith}
use Rattle.std.specs.Int.{w64}
use Rattle.std.proofs.lemmas.Int.{to_z-of_z}
use Rattle.term_model.specs.Declarations.{declarations}
use Rattle.term_model.specs.Sizes.{reach}
use Rattle.term_core.specs.SharedTerms.{shared}
use Rattle.flow_eval.specs.Readiness.{IsAmongDays}
use Rattle.flow_eval.proofs.RootFacts.{room_for, whole_days, whole_not_gathered, whole_ready}
use Rattle.flow_eval.proofs.shared_tables.payments_shared.Goals as goal

pub gather_shared-requires-clause-ready : goal.gather_shared-requires-clause-ready
gather_shared-requires-clause-ready c =
    let d = declarations c.args.basis.now.decls.now in
    let x = shared c.args.s.now in
    whole_ready d x c.in_ok-scratch.scratch c.args.basis.now.fixings.now c.args.basis.now.decls.now.labels_in c.requires.accepted c.requires.admitted c.in_ok-scratch.ensures.empty
    (room_for d x c.in_ok-scratch.scratch.spare c.requires.accepted c.in_ok-scratch.ensures.spare)

pub gather_shared-requires-clause-days : goal.gather_shared-requires-clause-days
gather_shared-requires-clause-days c =
    subst (λ (f : ℤ). IsAmongDays f (reach (shared c.args.s.now))) (sym (to_z-of_z w64 c.args.frame c.ranges.frame)) (whole_days (declarations c.args.basis.now.decls.now) (shared c.args.s.now) c.args.frame c.requires.accepted c.requires.first c.requires.last)

pub returns-in_err-gather_shared : goal.returns-in_err-gather_shared
returns-in_err-gather_shared c =
    let err : c.from_residual-in_err-gather_shared.result ≡ Err c.in_err-gather_shared.field-0.0 = grind (arith, c.from_residual-in_err-gather_shared.ensures) in
    whole_not_gathered (declarations c.args.basis.now.decls.now) (shared c.args.s.now) c.args.basis.now.fixings.now _ c.args.frame c.args.basis.now.until c.in_ok-scratch.scratch.entries c.new-payments.result.items c.gather_shared.new.out.items c.gather_shared.result c.from_residual-in_err-gather_shared.result c.in_err-gather_shared.field-0.0
    c.in_ok-scratch.ensures.empty (to_z-of_z w64 c.args.frame c.ranges.frame) c.in_err-gather_shared.was err c.gather_shared.ensures.answer
