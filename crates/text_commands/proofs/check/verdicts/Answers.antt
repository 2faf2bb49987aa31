use Rattle.term_model.specs.declared.decls.Decls.{Decls}
use Rattle.term_model.specs.Declarations.{declarations}
use Rattle.contract_parse.specs.declared.next_contracts.ContractReader.{ContractReader}
use Rattle.text_commands.specs.CheckParts.{AreTextVerdicts}
use Rattle.used_contracts.specs.ReadingParts.{IsBegun}
use Rattle.used_contracts.specs.Portfolios.{IsBadText}
use Rattle.command_courses.specs.Inputs.{bytes_of, file_at}
use Rattle.command_courses.proofs.StopFacts.{handed_on}
use Rattle.text_commands.proofs.check.verdicts.Goals as goal

pub returns-in_err-decls : goal.returns-in_err-decls
returns-in_err-decls c =
    let text = file_at (bytes_of c.args.inputs.files.now) 0 in
    handed_on (λ (start : Decls × ContractReader). IsBegun text (declarations start.0) start.1) (AreTextVerdicts text) (IsBadText text) (IsBadText text) (λ f h. h)
    c.in_err-decls.field-0.0 c.from_residual.result c.in_err-decls.ensures c.from_residual.ensures.1

pub all_verdicts-requires-clause-begun : goal.all_verdicts-requires-clause-begun
all_verdicts-requires-clause-begun c = (file_at (bytes_of c.args.inputs.files.now) 0, c.in_ok-decls.ensures)

pub returns : goal.returns
returns c = c.all_verdicts.ensures (file_at (bytes_of c.args.inputs.files.now) 0) c.in_ok-decls.ensures
