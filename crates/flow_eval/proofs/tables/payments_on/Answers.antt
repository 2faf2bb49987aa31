use Rattle.std.proofs.Common.{◌≡◌, ℤ, Err, sym, subst, arith}
use Rattle.std.specs.Int.{w64}
use Rattle.std.proofs.lemmas.Int.{to_z-of_z}
use Rattle.term_model.specs.Declarations.{declarations}
use Rattle.term_model.specs.Terms.{contract}
use Rattle.term_model.specs.Sizes.{reach}
use Rattle.flow_eval.specs.Readiness.{IsAmongDays}
use Rattle.flow_eval.proofs.RootFacts.{few_names, room_as_counted, whole_days, whole_not_gathered, whole_ready}
use Rattle.flow_eval.proofs.tables.payments_on.Goals as goal

pub names_in-requires : goal.names_in-requires
names_in-requires c = few_names (declarations c.args.basis.now.decls.now) (contract c.args.c.now) c.requires.accepted

pub gather-requires-clause-ready : goal.gather-requires-clause-ready
gather-requires-clause-ready c =
    whole_ready (declarations c.args.basis.now.decls.now) (contract c.args.c.now) c.in_ok-scratch.scratch c.args.basis.now.fixings.now c.args.basis.now.decls.now.labels_in c.requires.accepted c.requires.admitted c.in_ok-scratch.ensures.empty
    (room_as_counted (contract c.args.c.now) _ _ c.names_in.ensures c.in_ok-scratch.ensures.spare)

pub gather-requires-clause-days : goal.gather-requires-clause-days
gather-requires-clause-days c =
    subst (λ (f : ℤ). IsAmongDays f (reach (contract c.args.c.now))) (sym (to_z-of_z w64 c.args.frame c.ranges.frame)) (whole_days (declarations c.args.basis.now.decls.now) (contract c.args.c.now) c.args.frame c.requires.accepted c.requires.first c.requires.last)

pub returns-in_err-gather : goal.returns-in_err-gather
returns-in_err-gather c =
    let err : c.from_residual-in_err-gather.result ≡ Err c.in_err-gather.field-0.0 = grind (arith, c.from_residual-in_err-gather.ensures) in
    whole_not_gathered (declarations c.args.basis.now.decls.now) (contract c.args.c.now) c.args.basis.now.fixings.now _ c.args.frame c.args.basis.now.until c.in_ok-scratch.scratch.entries c.new-payments.result.items c.gather.new.out.items c.gather.result c.from_residual-in_err-gather.result c.in_err-gather.field-0.0
    c.in_ok-scratch.ensures.empty (to_z-of_z w64 c.args.frame c.ranges.frame) c.in_err-gather.was err c.gather.ensures.answer
