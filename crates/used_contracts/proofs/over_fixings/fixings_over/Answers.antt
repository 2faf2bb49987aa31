use Rattle.term_model.specs.Declarations.{Declarations, declarations}
use Rattle.term_model.specs.Environments.{Environment}
use Rattle.report.specs.declared.fault_lines.Fault.{Fault}
use Rattle.command_words.specs.Arguments.{given_text}
use Rattle.std.proofs.Common.{◌≡◌}
use Rattle.used_contracts.specs.ChoosingParts.{StopsIn, StopsOn, selection}
use Rattle.command_courses.specs.FixingTables.{HoldsFixings}
use Rattle.command_courses.specs.FixingTables.{IsRowFault}
use Rattle.command_courses.specs.declared.stop.Stop.TheVariants as stop
use Rattle.used_contracts.proofs.ChoosingFacts.{own_acceptance, stop_answers, stops_too}
use Rattle.used_contracts.proofs.over_fixings.fixings_over.Goals as goal

pub returns-in-Ok-clause-over : goal.returns-in-Ok-clause-over
returns-in-Ok-clause-over c = λ text begun. c.in-Ok.ensures

pub returns-in-Err-clause-over : goal.returns-in-Err-clause-over
returns-in-Err-clause-over c = λ text begun.
    let d = declarations c.args.choice.now.decls.now in
    let s = selection c.args.choice.now in
    let table = given_text c.args.table in
    let Row : Declarations → Fault → Type 0 = λ d f. IsRowFault d table 2 f in
    let Own : Fault → Type 0 = λ f. c.in-Err.stop ≡ stop.Fault f in
    stop_answers (λ (fixings : Environment). HoldsFixings d table fixings) (StopsIn text d (λ b. StopsOn b s (Row d))) c.behind_acceptance.result
    (stops_too (StopsIn text d (λ b. StopsOn b s Own)) (StopsIn text d (λ b. StopsOn b s (Row d))) (own_acceptance text d s Row c.in-Err.stop c.in-Err.ensures)
    c.behind_acceptance.result (c.behind_acceptance.ensures text begun))
