use Rattle.std.proofs.Common.{◌∙◌, ℕ, List, ap, subst, sym}
use Rattle.std.specs.Prelude.{Option, Result, Err}
use Rattle.std.proofs.lemmas.Result.{err_from_is_err_and}
use Rattle.term_model.specs.declared.decls.Decls.{Decls}
use Rattle.term_model.specs.Declarations.{declarations}
use Rattle.flow_eval.specs.declared.flow_table.FlowTable.{FlowTable}
use Rattle.command_words.specs.Words.{netting_by}
use Rattle.command_courses.specs.Course.{Stops}
use Rattle.command_courses.specs.Inputs.{bytes_of, file_at, table_if_named}
use Rattle.command_courses.specs.Stopping.{AnswersBy}
use Rattle.command_courses.specs.declared.stop.Stop.{Stop}
use Rattle.flow_commands.specs.FlowsCourse.{flows_of_text}
use Rattle.flow_commands.specs.NettingCourse.{flows_of_all}
use Rattle.flow_commands.specs.NettingParts.{AnswersNetOfText, KnowsNet}
use Rattle.command_courses.proofs.StopFacts.{handed_on}
use Rattle.flow_commands.proofs.netting.net_of_text.Goals as goal

pub returns-in_err-setting : goal.returns-in_err-setting
returns-in_err-setting c =
    let r = c.from_residual-in_err-setting.result in
    let p = err_from_is_err_and r c.from_residual-in_err-setting.ensures.1 in
    subst (λ (x : Result (Decls × FlowTable) Stop). AnswersNetOfText (netting_by c.args.asked.now) (bytes_of c.args.inputs.files.now) x)
    (sym (p.1 ∙ ap (λ (x : Stop). Err x) p.2)) tt

pub returns-in_err-net : goal.returns-in_err-net
returns-in_err-net c =
    let inputs = bytes_of c.args.inputs.files.now in
    let text = file_at inputs 0 in
    let asked = netting_by c.args.asked.now in
    let Net : Option (List ℕ) → FlowTable → Type 0 = λ table net. KnowsNet asked text table (declarations c.in_ok-decls.decls) net in
    let Stopped = Stops (flows_of_text (flows_of_all asked) text (table_if_named asked.fixings inputs)) in
    handed_on (Net (table_if_named asked.fixings inputs))
    (λ (all : Decls × FlowTable). KnowsNet asked text (table_if_named asked.fixings inputs) (declarations all.0) all.1) Stopped Stopped (λ f h. h)
    c.in_err-net.field-0.0 c.from_residual-in_err-net.result
    (subst (λ (table : Option (List ℕ)). AnswersBy (Net table) (Stops (flows_of_text (flows_of_all asked) text table)) (Err c.in_err-net.field-0.0))
    c.table_if_named-table.ensures.is (c.in_err-net.ensures text c.in_ok-decls.ensures)) c.from_residual-in_err-net.ensures.1

pub returns : goal.returns
returns c =
    let inputs = bytes_of c.args.inputs.files.now in
    let text = file_at inputs 0 in
    let asked = netting_by c.args.asked.now in
    subst (λ (table : Option (List ℕ)). KnowsNet asked text table (declarations c.in_ok-decls.decls) c.in_ok-net.net) c.table_if_named-table.ensures.is
    (c.in_ok-net.ensures text c.in_ok-decls.ensures)
