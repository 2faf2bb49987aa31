use Rattle.std.proofs.Common.{ℤ, refl, subst, sym, w64}
use Rattle.std.proofs.lemmas.Int.{to_z-of_z}
use Rattle.term_model.specs.Declarations.{declarations}
use Rattle.contract_parse.specs.declared.next_contracts.ContractReader.{ContractReader}
use Rattle.command_words.specs.Arguments.{given_text}
use Rattle.command_words.specs.Words.{netting_by}
use Rattle.used_contracts.specs.ChoosingParts.{StopsIn, selection}
use Rattle.command_courses.specs.Course.{Stops}
use Rattle.flow_commands.specs.FlowsCourse.{flows_of_text}
use Rattle.flow_commands.specs.FlowsParts.{CanBeLast, IsOver, StopsOverFixings}
use Rattle.flow_commands.specs.NettingCourse.{flows_of_all}
use Rattle.flow_commands.specs.NettingParts.{KnowsNet}
use Rattle.used_contracts.specs.ReadingParts.{IsBegun}
use Rattle.flow_commands.specs.declared.flows.Over.{Over}
use Rattle.command_courses.proofs.DayFacts.{fits_day}
use Rattle.flow_commands.proofs.FlowsStops.{stops_over}
use Rattle.flow_commands.proofs.NettingFacts.{net_of_lists}
use Rattle.command_courses.proofs.StopFacts.{handed_on}
use Rattle.flow_commands.proofs.netting.net_of_all.Goals as goal

pub returns-in_err-over : goal.returns-in_err-over
returns-in_err-over c = λ text begun.
    let d = declarations c.args.choice.decls.now in
    let s = selection c.args.choice in
    let asked = netting_by c.args.asked.now in
    let table = given_text c.args.table in
    handed_on (λ (over : Over). IsOver d asked.until table over) (KnowsNet asked text table d)
    (StopsIn text d (λ b. StopsOverFixings b s asked.until table)) (Stops (flows_of_text (flows_of_all asked) text table))
    (λ f h. stops_over (flows_of_all asked) text table d s f c.requires.all h)
    c.in_err-over.field-0.0 c.from_residual.result (c.in_err-over.ensures.over text begun) c.from_residual.ensures.1

pub returns : goal.returns
returns c = λ text begun.
    let d = declarations c.args.choice.decls.now in
    let asked = netting_by c.args.asked.now in
    let over = c.in_ok-over.ensures.over text begun in
    let last = c.in_ok-over.over.last in
    let is_last = subst (λ (x : ℤ). CanBeLast d asked.until x) (sym (to_z-of_z w64 last (fits_day last over.last.first over.last.within))) over.last in
    net_of_lists asked text (given_text c.args.table) _ c.requires.all is_last over.fixings c.args.choice.decls.now.labels_in begun.short refl c.net_listed.result
    (c.net_listed.ensures text (subst (λ (reader : ContractReader). IsBegun text d reader) (sym c.in_ok-over.ensures.unread) begun))
