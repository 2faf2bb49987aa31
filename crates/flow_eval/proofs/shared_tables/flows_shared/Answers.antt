use Rattle.std.proofs.Common.{◌≡◌, ℤ, Err, Result, sym, subst, ap, ◌∙◌, arith, []}
use Rattle.std.specs.Int.{w64}
use Rattle.std.proofs.lemmas.Int.{to_z-of_z}
use Rattle.term_model.specs.Declarations.{Declarations, declarations}
use Rattle.term_model.specs.Environments.{Environment}
use Rattle.term_core.specs.SharedTerms.{shared}
use Rattle.term_core.specs.declared.shared.SharedContr.{SharedContr}
use Rattle.flow_eval.specs.declared.faults.FlowErr.{FlowErr}
use Rattle.flow_eval.specs.declared.flow_table.FlowTable.{FlowTable}
use Rattle.flow_eval.specs.FlowAnswers.{AreFlows}
use Rattle.flow_eval.specs.Gathering.{IsGathered}
use Rattle.flow_eval.specs.Walks.{PaymentsOrMissing, walk_of}
use Rattle.flow_eval.proofs.RootFacts.{known_flows, lacking_flows, same_walk, walked_fit}
use Rattle.flow_eval.proofs.shared_tables.flows_shared.Goals as goal

-- the walk of the payments, as they are asked for
asked_walk : (d : Declarations) (s t : SharedContr) (F : Environment) (f g last until : ℤ) → t ≡ s → f ≡ g → last ≡ until → walk_of d d.amounts (shared t) [] [] F f last ≡ walk_of d d.amounts (shared s) [] [] F g until
asked_walk d s t F f g last until same first end =
    ap (λ (x : SharedContr). walk_of d d.amounts (shared x) [] [] F f last) same ∙ same_walk d d.amounts (shared s) F f g last until first end

pub returns-in_err-payments : goal.returns-in_err-payments
returns-in_err-payments c =
    let d = declarations c.args.decls.now in
    let x = shared c.args.s.now.value in
    let F = c.args.fixings.now in
    let same = asked_walk d c.args.s.now.value _ F _ c.args.frame _ c.args.until c.deref.ensures (to_z-of_z w64 c.args.frame c.ranges.frame) (to_z-of_z w64 c.args.until c.ranges.until) in
    let err : c.from_residual.result ≡ Err c.in_err-payments.field-0.0 = grind (arith, c.from_residual.ensures) in
    subst (λ (r : Result FlowTable FlowErr). AreFlows d x F c.args.frame c.args.until r) (sym err)
    (lacking_flows d x F c.args.frame c.args.until c.in_err-payments.field-0.0 (subst (λ (w : PaymentsOrMissing). IsGathered w (Err c.in_err-payments.field-0.0)) same c.in_err-payments.ensures))

pub netted-requires : goal.netted-requires
netted-requires c =
    let d = declarations c.args.decls.now in
    let x = shared c.args.s.now.value in
    let F = c.args.fixings.now in
    let same = asked_walk d c.args.s.now.value _ F _ c.args.frame _ c.args.until c.deref.ensures (to_z-of_z w64 c.args.frame c.ranges.frame) (to_z-of_z w64 c.args.until c.ranges.until) in
    walked_fit d x F c.args.frame c.args.until c.in_ok-payments.payments.items c.args.decls.now.labels_in c.requires.accepted c.requires.admitted (sym same ∙ c.in_ok-payments.ensures)

pub returns : goal.returns
returns c =
    let d = declarations c.args.decls.now in
    let x = shared c.args.s.now.value in
    let F = c.args.fixings.now in
    let same = asked_walk d c.args.s.now.value _ F _ c.args.frame _ c.args.until c.deref.ensures (to_z-of_z w64 c.args.frame c.ranges.frame) (to_z-of_z w64 c.args.until c.ranges.until) in
    known_flows d x F c.args.frame c.args.until c.in_ok-payments.payments.items c.in_ok-netted.field-0.rows.items c.args.decls.now.labels_in c.requires.accepted c.requires.admitted (sym same ∙ c.in_ok-payments.ensures) c.in_ok-netted.ensures
