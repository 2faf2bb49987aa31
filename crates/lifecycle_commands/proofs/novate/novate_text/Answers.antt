use Rattle.std.proofs.Common.{◌≡◌, ℕ, List, Bor, ap, inl, subst, sym}
use Rattle.std.specs.Prelude.{Some, Err}
use Rattle.std.specs.Global.{Vec}
use Rattle.term_model.specs.Declarations.{Declarations, declarations}
use Rattle.term_model.specs.declared.decls.Decls.{Decls}
use Rattle.contract_parse.specs.declared.next_contracts.ContractReader.{ContractReader}
use Rattle.command_words.specs.Words.{novate_by}
use Rattle.lifecycle_commands.specs.AdvanceParts.{IsCarriedText, StopsCarry}
use Rattle.used_contracts.specs.ChoosingParts.{Selection, StopsByName, StopsIn, selection}
use Rattle.command_courses.specs.Course.{Stops, Tells}
use Rattle.command_courses.specs.Inputs.{bytes_of, file_at}
use Rattle.lifecycle_commands.specs.NovateParts.{IsRenaming, LacksParty, novate_of_text}
use Rattle.used_contracts.specs.ReadingParts.{IsBegun}
use Rattle.used_contracts.specs.Portfolios.{IsBadText}
use Rattle.command_courses.specs.Stopping.{AnswersBy, GoesDone}
use Rattle.command_courses.specs.declared.status.Status.TheVariants as status
use Rattle.command_courses.specs.declared.stop.Stop.TheVariants as stop
use Rattle.lifecycle_commands.proofs.NovateFacts.{novate_stops, novate_tells, stops_at_party}
use Rattle.used_contracts.proofs.ChoosingFacts.{stop_answers, stops_too}
use Rattle.command_courses.proofs.StopFacts.{answers_too, handed_on, lacks_memory_done}
use Rattle.lifecycle_commands.proofs.novate.novate_text.Goals as goal

pub returns-in_err-decls : goal.returns-in_err-decls
returns-in_err-decls c =
    let text = file_at (bytes_of c.args.inputs.files.now) 0 in
    let course = novate_of_text (novate_by c.args.asked.now) text (Some (file_at (bytes_of c.args.inputs.files.now) 1)) in
    handed_on (λ (start : Decls × ContractReader). IsBegun text (declarations start.0) start.1) (λ (out : Vec ℕ). Tells course status.Done out.items) (IsBadText text) (Stops course)
    (λ f h. inl h) c.in_err-decls.field-0.0 c.from_residual.result c.in_err-decls.ensures c.from_residual.ensures.1

pub returns-in_err-setting : goal.returns-in_err-setting
returns-in_err-setting c =
    lacks_memory_done (novate_of_text (novate_by c.args.asked.now) (file_at (bytes_of c.args.inputs.files.now) 0) (Some (file_at (bytes_of c.args.inputs.files.now) 1))) c.from_residual-in_err-setting.result c.from_residual-in_err-setting.ensures.1

pub carry-requires-clause-begun : goal.carry-requires-clause-begun
carry-requires-clause-begun c =
    let text = file_at (bytes_of c.args.inputs.files.now) 0 in
    (text, subst (λ (d : Declarations). IsBegun text d c.in_ok-decls.reader) (sym (ap (λ (x : Bor Decls). declarations x.now) c.all_contracts-choice.ensures.decls)) c.in_ok-decls.ensures)

pub carry-requires-clause-all : goal.carry-requires-clause-all
carry-requires-clause-all c = ap (λ (s : Selection). s.only) c.all_contracts-choice.ensures.all

pub behind_names-requires : goal.behind_names-requires
behind_names-requires c =
    let text = file_at (bytes_of c.args.inputs.files.now) 0 in
    (text, subst (λ (d : Declarations). IsBegun text d c.in_ok-decls.reader) (sym (ap (λ (x : Bor Decls). declarations x.now) c.all_contracts-choice.ensures.decls)) c.in_ok-decls.ensures)

pub returns-in-Ok : goal.returns-in-Ok
returns-in-Ok c =
    let text = file_at (bytes_of c.args.inputs.files.now) 0 in
    let asked = novate_by c.args.asked.now in
    let table = Some c.file.result.now in
    let choice = c.all_contracts-choice.result in
    let d = declarations choice.decls.now in
    let course = novate_of_text asked text table in
    let renaming = c.in-Ok.renaming in
    let begun = subst (λ (x : Declarations). IsBegun text x c.in_ok-decls.reader) (sym (ap (λ (x : Bor Decls). declarations x.now) c.all_contracts-choice.ensures.decls)) c.in_ok-decls.ensures in
    let names = subst (λ (x : Declarations). IsRenaming x asked renaming) (sym (ap (λ (x : Bor Decls). declarations x.now) c.all_contracts-choice.ensures.decls)) c.in-Ok.ensures in
    subst (λ (bytes : List ℕ). GoesDone (novate_of_text asked text (Some bytes)) c.carry.result) c.file.ensures.is
    (answers_too (λ (out : Vec ℕ). IsCarriedText text choice (Some renaming) asked.advance table out.items) (λ (out : Vec ℕ). Tells course status.Done out.items)
    (StopsIn text d (StopsCarry (selection choice) asked.advance table)) (Stops course)
    (novate_tells text choice asked table c.all_contracts-choice.ensures.all renaming names) (novate_stops text choice asked table c.all_contracts-choice.ensures.all renaming names)
    c.carry.result (c.carry.ensures text begun))

pub returns : goal.returns
returns c =
    let text = file_at (bytes_of c.args.inputs.files.now) 0 in
    let asked = novate_by c.args.asked.now in
    let table = Some (file_at (bytes_of c.args.inputs.files.now) 1) in
    let choice = c.all_contracts-choice.result in
    let d = declarations choice.decls.now in
    let course = novate_of_text asked text table in
    let own = c.in-Err.stop in
    let begun = subst (λ (x : Declarations). IsBegun text x c.in_ok-decls.reader) (sym (ap (λ (x : Bor Decls). declarations x.now) c.all_contracts-choice.ensures.decls)) c.in_ok-decls.ensures in
    let told = subst (λ (x : Declarations). AnswersBy (IsRenaming x asked) (LacksParty x asked) (Err own)) (sym (ap (λ (x : Bor Decls). declarations x.now) c.all_contracts-choice.ensures.decls)) c.in-Err.ensures in
    stop_answers (λ (out : Vec ℕ). Tells course status.Done out.items) (Stops course) c.behind_names.result
    (stops_too (StopsIn text d (λ b. StopsByName b (selection choice) (λ f. own ≡ stop.Fault f))) (Stops course)
    (λ f h. stops_at_party text choice asked table c.all_contracts-choice.ensures.all own f told h) c.behind_names.result (c.behind_names.ensures text begun))
