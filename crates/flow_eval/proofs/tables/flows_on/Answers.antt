use Rattle.std.proofs.Common.{◌≡◌, Err, Result, sym, subst, ◌∙◌, arith}
use Rattle.std.specs.Int.{w64}
use Rattle.std.proofs.lemmas.Int.{to_z-of_z}
use Rattle.term_model.specs.Declarations.{declarations}
use Rattle.term_model.specs.Terms.{contract}
use Rattle.flow_eval.specs.declared.faults.FlowErr.{FlowErr}
use Rattle.flow_eval.specs.declared.flow_table.FlowTable.{FlowTable}
use Rattle.flow_eval.specs.FlowAnswers.{AreFlows}
use Rattle.flow_eval.specs.Gathering.{IsGathered}
use Rattle.flow_eval.specs.Walks.{PaymentsOrMissing}
use Rattle.flow_eval.proofs.RootFacts.{known_flows, lacking_flows, same_walk, walked_fit}
use Rattle.flow_eval.proofs.tables.flows_on.Goals as goal

pub returns-in_err-payments : goal.returns-in_err-payments
returns-in_err-payments c =
    let d = declarations c.args.decls.now in
    let same = same_walk d d.amounts (contract c.args.c.now) c.args.fixings.now _ c.args.frame _ c.args.until (to_z-of_z w64 c.args.frame c.ranges.frame) (to_z-of_z w64 c.args.until c.ranges.until) in
    let err : c.from_residual.result ≡ Err c.in_err-payments.field-0.0 = grind (arith, c.from_residual.ensures) in
    subst (λ (r : Result FlowTable FlowErr). AreFlows d (contract c.args.c.now) c.args.fixings.now c.args.frame c.args.until r) (sym err)
    (lacking_flows d (contract c.args.c.now) c.args.fixings.now c.args.frame c.args.until c.in_err-payments.field-0.0 (subst (λ (w : PaymentsOrMissing). IsGathered w (Err c.in_err-payments.field-0.0)) same c.in_err-payments.ensures))

pub netted-requires : goal.netted-requires
netted-requires c =
    let d = declarations c.args.decls.now in
    let same = same_walk d d.amounts (contract c.args.c.now) c.args.fixings.now _ c.args.frame _ c.args.until (to_z-of_z w64 c.args.frame c.ranges.frame) (to_z-of_z w64 c.args.until c.ranges.until) in
    walked_fit d (contract c.args.c.now) c.args.fixings.now c.args.frame c.args.until c.in_ok-payments.payments.items c.args.decls.now.labels_in c.requires.accepted c.requires.admitted (sym same ∙ c.in_ok-payments.ensures)

pub returns : goal.returns
returns c =
    let d = declarations c.args.decls.now in
    let same = same_walk d d.amounts (contract c.args.c.now) c.args.fixings.now _ c.args.frame _ c.args.until (to_z-of_z w64 c.args.frame c.ranges.frame) (to_z-of_z w64 c.args.until c.ranges.until) in
    known_flows d (contract c.args.c.now) c.args.fixings.now c.args.frame c.args.until c.in_ok-payments.payments.items c.in_ok-netted.field-0.rows.items c.args.decls.now.labels_in c.requires.accepted c.requires.admitted (sym same ∙ c.in_ok-payments.ensures) c.in_ok-netted.ensures
