use Rattle.std.proofs.Common.{ℤ, pos, subst, w64, to_z, of_z}
use Rattle.std.proofs.lemmas.Int.{to_z-of_z}
use Rattle.std.specs.Prelude.{Err}
use Rattle.term_model.specs.Declarations.{declarations}
use Rattle.term_model.specs.Terms.{contract}
use Rattle.flow_eval.specs.FlowAnswers.{AreFlows}
use Rattle.command_courses.proofs.DayFacts.{fits_day}
use Rattle.used_contracts.proofs.LineFacts.{without_flows}
use Rattle.flow_commands.proofs.flows.table_of.Goals as goal

pub returns-in-Ok : goal.returns-in-Ok
returns-in-Ok c = rw (to_z-of_z w64 c.args.until.now.last (fits_day c.args.until.now.last c.args.until.now.first c.args.until.now.within)) at c.in-Ok.ensures

pub returns-in-Err : goal.returns-in-Err
returns-in-Err c =
    let d = declarations c.args.until.now.choice.decls.now in
    let last = c.args.until.now.last in
    let told : AreFlows d (contract c.args.contr.now) c.args.until.now.fixings.now (pos c.args.until.now.choice.decls.now.start) (to_z w64 (of_z w64 last)) (Err c.in-Err.error) = c.in-Err.ensures in
    let here = subst (λ (x : ℤ). AreFlows d (contract c.args.contr.now) c.args.until.now.fixings.now (pos c.args.until.now.choice.decls.now.start) x (Err c.in-Err.error)) (to_z-of_z w64 last (fits_day last c.args.until.now.first c.args.until.now.within)) told in
    without_flows d c.args.until.now.fixings.now last (contract c.args.contr.now) c.in-Err.error c.stop_of.result here c.stop_of.ensures
