use Rattle.std.proofs.Common.{◌≡◌, ℤ, subst, sym, w64}
use Rattle.std.proofs.lemmas.Int.{to_z-of_z}
use Rattle.std.specs.Prelude.{option_map}
use Rattle.term_model.specs.Declarations.{Declarations, declarations}
use Rattle.term_model.specs.Environments.{Environment}
use Rattle.report.specs.declared.fault_lines.Fault.{Fault}
use Rattle.command_words.specs.Arguments.{given_text}
use Rattle.used_contracts.specs.ChoosingParts.{StopsByName, StopsIn, StopsOn, selection}
use Rattle.flow_commands.specs.FlowsParts.{CanBeLast, IsOver, StopsOverFixings}
use Rattle.command_courses.specs.FixingTables.{HoldsFixings}
use Rattle.flow_commands.specs.FlowsStages.{IsDayFault}
use Rattle.command_courses.specs.FixingTables.{IsRowFault}
use Rattle.flow_commands.specs.declared.flows.Over.{Over}
use Rattle.command_courses.specs.declared.stop.Stop.TheVariants as stop
use Rattle.used_contracts.proofs.ChoosingFacts.{own_names, stop_answers, stops_too}
use Rattle.command_courses.proofs.DayFacts.{fits_day}
use Rattle.flow_commands.proofs.FlowsStops.{day_stops_over, row_stops_over}
use Rattle.command_courses.proofs.StopFacts.{handed_on}
use Rattle.flow_commands.proofs.flows.flows_over.Goals as goal

pub returns-in_err-fixings-in-Ok-clause-over : goal.returns-in_err-fixings-in-Ok-clause-over
returns-in_err-fixings-in-Ok-clause-over c = λ text begun.
    let d = declarations c.args.choice.now.decls.now in
    let s = selection c.args.choice.now in
    let until = option_map (λ day. day.word.now) c.args.until in
    let table = given_text c.args.table in
    handed_on (λ (fixings : Environment). HoldsFixings d table fixings) (λ (over : Over). IsOver d until table over)
    (StopsIn text d (λ b. StopsOn b s (IsRowFault d table 2))) (StopsIn text d (λ b. StopsOverFixings b s until table))
    (row_stops_over text d s until table c.in-Ok.last c.in-Ok.ensures.is_last)
    c.in_err-fixings-in-Ok.field-0.0 c.from_residual.result (c.in_err-fixings-in-Ok.ensures.over text begun) c.from_residual.ensures.1

pub returns-in_ok-fixings-in-Ok-clause-over : goal.returns-in_ok-fixings-in-Ok-clause-over
returns-in_ok-fixings-in-Ok-clause-over c = λ text begun.
    let d = declarations c.args.choice.now.decls.now in
    let until = option_map (λ day. day.word.now) c.args.until in
    let last = c.in-Ok.last in
    record {
      last = subst (λ (x : ℤ). CanBeLast d until x) (sym (to_z-of_z w64 last (fits_day last c.in-Ok.ensures.first c.in-Ok.ensures.within))) c.in-Ok.ensures;
      fixings = c.in_ok-fixings-in-Ok.ensures.over text begun;
    }

pub returns-in-Err-clause-over : goal.returns-in-Err-clause-over
returns-in-Err-clause-over c = λ text begun.
    let d = declarations c.args.choice.now.decls.now in
    let s = selection c.args.choice.now in
    let until = option_map (λ day. day.word.now) c.args.until in
    let table = given_text c.args.table in
    let Day : Declarations → Fault → Type 0 = λ d f. IsDayFault d until f in
    let Own : Fault → Type 0 = λ f. c.in-Err.stop ≡ stop.Fault f in
    let named = stops_too (StopsIn text d (λ b. StopsByName b s Own)) (StopsIn text d (λ b. StopsByName b s (Day d))) (own_names text d s Day c.in-Err.stop c.in-Err.ensures)
    c.behind_names.result (c.behind_names.ensures text begun) in
    stop_answers (λ (over : Over). IsOver d until table over) (StopsIn text d (λ b. StopsOverFixings b s until table)) c.behind_names.result
    (stops_too (StopsIn text d (λ b. StopsByName b s (Day d))) (StopsIn text d (λ b. StopsOverFixings b s until table)) (day_stops_over text d s until table)
    c.behind_names.result named)
