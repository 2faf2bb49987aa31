use Rattle.std.proofs.Common.{ℕ, inl}
use Rattle.std.specs.Global.{Vec}
use Rattle.term_model.specs.declared.decls.Decls.{Decls}
use Rattle.term_model.specs.Declarations.{declarations}
use Rattle.contract_parse.specs.declared.next_contracts.ContractReader.{ContractReader}
use Rattle.used_contracts.specs.ChoosingParts.{StopsIn}
use Rattle.command_courses.specs.Course.{Stops, Tells}
use Rattle.command_courses.specs.Inputs.{bytes_of, file_at}
use Rattle.text_commands.specs.PayoffCourse.{payoff_of_text}
use Rattle.text_commands.specs.PayoffParts.{IsNamedIn}
use Rattle.used_contracts.specs.ReadingParts.{IsBegun}
use Rattle.used_contracts.specs.Portfolios.{IsBadText}
use Rattle.text_commands.specs.PayoffStages.{NamesNone}
use Rattle.command_words.specs.Words.{payoff_by}
use Rattle.command_courses.specs.declared.status.Status.TheVariants as status
use Rattle.text_commands.proofs.PayoffFacts.{goes_of_named, named_sound, named_writable, stops_by_name}
use Rattle.command_courses.proofs.InputFacts.{file_short}
use Rattle.command_courses.proofs.StopFacts.{handed_on}
use Rattle.text_commands.proofs.payoff.payoff_text.Goals as goal

pub returns-in_err-decls : goal.returns-in_err-decls
returns-in_err-decls c =
    let text = file_at (bytes_of c.args.inputs.files.now) 0 in
    let course = payoff_of_text (payoff_by c.args.asked.now) text in
    handed_on (λ (start : Decls × ContractReader). IsBegun text (declarations start.0) start.1) (λ (t : Vec ℕ). Tells course status.Done t.items) (IsBadText text) (Stops course)
    (λ f h. inl h)
    c.in_err-decls.field-0.0 c.from_residual.result c.in_err-decls.ensures c.from_residual.ensures.1

pub returns-in_err-contr : goal.returns-in_err-contr
returns-in_err-contr c =
    let text = file_at (bytes_of c.args.inputs.files.now) 0 in
    let d = declarations c.in_ok-decls.decls in
    let asked = payoff_by c.args.asked.now in
    let course = payoff_of_text asked text in
    handed_on (IsNamedIn text d asked.contract) (λ (t : Vec ℕ). Tells course status.Done t.items) (StopsIn text d (λ b. NamesNone b asked.contract)) (Stops course)
    (stops_by_name asked text d)
    c.in_err-contr.field-0.0 c.from_residual-in_err-contr.result (c.in_err-contr.ensures text c.in_ok-decls.ensures) c.from_residual-in_err-contr.ensures.1

pub payoff_of-requires-clause-sound : goal.payoff_of-requires-clause-sound
payoff_of-requires-clause-sound c =
    let text = file_at (bytes_of c.args.inputs.files.now) 0 in
    named_sound text (declarations c.in_ok-decls.decls) c.args.asked.now.contract.now c.in_ok-contr.contr (c.in_ok-contr.ensures text c.in_ok-decls.ensures)
    (file_short (bytes_of c.args.inputs.files.now) 0 c.args.inputs.short)

pub payoff_of-requires-clause-writable : goal.payoff_of-requires-clause-writable
payoff_of-requires-clause-writable c =
    let text = file_at (bytes_of c.args.inputs.files.now) 0 in
    named_writable text (declarations c.in_ok-decls.decls) c.args.asked.now.contract.now c.in_ok-contr.contr (c.in_ok-contr.ensures text c.in_ok-decls.ensures)

pub returns : goal.returns
returns c =
    let text = file_at (bytes_of c.args.inputs.files.now) 0 in
    goes_of_named (payoff_by c.args.asked.now) text (declarations c.in_ok-decls.decls) c.in_ok-contr.contr (c.in_ok-contr.ensures text c.in_ok-decls.ensures) c.payoff_of.result c.payoff_of.ensures
