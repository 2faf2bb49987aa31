use Rattle.std.proofs.Common.{ℕ, inl, ◌∙◌, ap}
use Rattle.std.specs.Global.{Vec}
use Rattle.term_model.specs.Declarations.{declarations}
use Rattle.term_model.specs.declared.decls.Decls.{Decls}
use Rattle.contract_parse.specs.declared.next_contracts.ContractReader.{ContractReader}
use Rattle.contract_print.specs.Migrated.{in_version_two}
use Rattle.command_courses.specs.Course.{Stops, Tells}
use Rattle.command_courses.specs.Inputs.{bytes_of, file_at}
use Rattle.text_commands.specs.MigrateCourse.{migrate_of_text}
use Rattle.used_contracts.specs.ReadingParts.{IsBegun}
use Rattle.used_contracts.specs.Portfolios.{IsBadText}
use Rattle.command_courses.specs.declared.status.Status.TheVariants as status
use Rattle.command_courses.proofs.StopFacts.{handed_on, lacks_memory_done}
use Rattle.text_commands.proofs.migrate.migrated_text.Goals as goal

pub returns-in_err-decls : goal.returns-in_err-decls
returns-in_err-decls c =
    let text = file_at (bytes_of c.args.inputs.files.now) 0 in
    let course = migrate_of_text text in
    handed_on (λ (start : Decls × ContractReader). IsBegun text (declarations start.0) start.1) (λ (out : Vec ℕ). Tells course status.Done out.items) (IsBadText text) (Stops course)
    (λ f h. inl h) c.in_err-decls.field-0.0 c.from_residual.result c.in_err-decls.ensures c.from_residual.ensures.1

pub returns-in_err-copy : goal.returns-in_err-copy
returns-in_err-copy c =
    lacks_memory_done (migrate_of_text (file_at (bytes_of c.args.inputs.files.now) 0)) c.from_residual-in_err-copy.result c.from_residual-in_err-copy.ensures.1

pub printed_with-requires-clause-begun : goal.printed_with-requires-clause-begun
printed_with-requires-clause-begun c = (file_at (bytes_of c.args.inputs.files.now) 0, c.in_ok-decls.ensures)

pub printed_with-requires-clause-version : goal.printed_with-requires-clause-version
printed_with-requires-clause-version c = c.in_version_two-two.ensures ∙ ap in_version_two c.in_ok-copy.ensures

pub returns : goal.returns
returns c = c.printed_with.ensures (file_at (bytes_of c.args.inputs.files.now) 0) c.in_ok-decls.ensures
