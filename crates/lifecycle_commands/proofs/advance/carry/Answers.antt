use Rattle.std.proofs.Common.{◌≡◌, ℕ, subst, sym}
use Rattle.std.specs.Prelude.{Some}
use Rattle.std.specs.Global.{Vec}
use Rattle.term_model.specs.Declarations.{declarations}
use Rattle.contract_parse.specs.declared.next_contracts.ContractReader.{ContractReader}
use Rattle.command_words.specs.Words.{advance_by}
use Rattle.lifecycle_commands.specs.AdvanceParts.{IsCarriedText, StopsCarry}
use Rattle.used_contracts.specs.ChoosingParts.{StopsByName, StopsIn, StopsOn, selection}
use Rattle.command_courses.specs.FixingTables.{HoldsFixings}
use Rattle.used_contracts.specs.ReadingParts.{IsBegun}
use Rattle.command_courses.specs.FixingTables.{IsRowFault}
use Rattle.command_courses.specs.declared.stop.Stop.TheVariants as stop
use Rattle.lifecycle_commands.proofs.AdvanceFacts.{carries, stops_at_day, stops_at_row}
use Rattle.used_contracts.proofs.ChoosingFacts.{stop_answers, stops_too}
use Rattle.command_courses.proofs.StopFacts.{handed_on}
use Rattle.lifecycle_commands.proofs.advance.carry.Goals as goal

pub left_text-requires-clause-begun : goal.left_text-requires-clause-begun
left_text-requires-clause-begun c =
    let text = c.requires.begun.0 in
    (text, subst (λ (r : ContractReader). IsBegun text (declarations c.args.choice.decls.now) r) (sym c.in_ok-fixings-in-Ok.ensures.unread) c.requires.begun.1)

pub left_text-requires-clause-admitted : goal.left_text-requires-clause-admitted
left_text-requires-clause-admitted c = (c.in_ok-fixings-in-Ok.ensures.over c.requires.begun.0 c.requires.begun.1).admitted

pub returns-in_err-fixings-in-Ok : goal.returns-in_err-fixings-in-Ok
returns-in_err-fixings-in-Ok c = λ text begun.
    let choice = c.args.choice in
    let d = declarations choice.decls.now in
    let s = selection choice in
    let asked = advance_by c.args.asked.now in
    let table = Some c.args.table.now in
    handed_on (HoldsFixings d table) (λ (out : Vec ℕ). IsCarriedText text choice c.args.renaming asked table out.items)
    (StopsIn text d (λ b. StopsOn b s (IsRowFault d table 2))) (StopsIn text d (StopsCarry s asked table))
    (stops_at_row text choice asked table c.requires.all c.in-Ok.day c.in-Ok.ensures)
    c.in_err-fixings-in-Ok.field-0.0 c.from_residual.result (c.in_err-fixings-in-Ok.ensures.over text begun) c.from_residual.ensures.1

pub returns-in_ok-fixings-in-Ok : goal.returns-in_ok-fixings-in-Ok
returns-in_ok-fixings-in-Ok c = λ text begun.
    let choice = c.args.choice in
    let here = subst (λ (r : ContractReader). IsBegun text (declarations choice.decls.now) r) (sym c.in_ok-fixings-in-Ok.ensures.unread) begun in
    carries text _ (advance_by c.args.asked.now) (Some c.args.table.now) c.requires.all c.in-Ok.ensures (c.in_ok-fixings-in-Ok.ensures.over text begun)
    c.left_text.result (c.left_text.ensures text here)

pub returns-in-Err : goal.returns-in-Err
returns-in-Err c = λ text begun.
    let choice = c.args.choice in
    let d = declarations choice.decls.now in
    let s = selection choice in
    let asked = advance_by c.args.asked.now in
    let table = Some c.args.table.now in
    let own = c.in-Err.stop in
    stop_answers (λ (out : Vec ℕ). IsCarriedText text choice c.args.renaming asked table out.items) (StopsIn text d (StopsCarry s asked table)) c.behind_names.result
    (stops_too (StopsIn text d (λ b. StopsByName b s (λ f. own ≡ stop.Fault f))) (StopsIn text d (StopsCarry s asked table))
    (λ f h. stops_at_day text choice asked table c.requires.all own f c.in-Err.ensures h) c.behind_names.result (c.behind_names.ensures text begun))
