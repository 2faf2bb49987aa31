use Rattle.std.proofs.Common.{ℕ, List, subst}
use Rattle.std.specs.Prelude.{Err}
use Rattle.term_model.specs.declared.decls.Decls.{Decls}
use Rattle.term_model.specs.Declarations.{declarations}
use Rattle.contract_parse.specs.NextContracts.{StartsContracts}
use Rattle.contract_parse.specs.declared.faults.ParseErr.{ParseErr}
use Rattle.contract_parse.specs.declared.next_contracts.ContractReader.{ContractReader}
use Rattle.command_courses.specs.Inputs.{bytes_of, file_at}
use Rattle.used_contracts.specs.ReadingParts.{IsBegun}
use Rattle.used_contracts.specs.Portfolios.{IsBadText}
use Rattle.used_contracts.proofs.StageFacts.{bad_text}
use Rattle.command_courses.proofs.StopFacts.{text_stops}
use Rattle.used_contracts.proofs.reading.start_reading.Goals as goal

pub returns-in_err-start : goal.returns-in_err-start
returns-in_err-start c =
    let text = file_at (bytes_of c.args.inputs.files.now) 0 in
    text_stops (λ (start : Decls × ContractReader). IsBegun text (declarations start.0) start.1) (IsBadText text) (λ (e : ParseErr). StartsContracts text (Err e)) (bad_text text)
    c.in_err-start.field-0.0 c.from_residual.result (subst (λ (bytes : List ℕ). StartsContracts bytes (Err c.in_err-start.field-0.0)) c.file.ensures.is c.in_err-start.ensures)
    c.from_residual.ensures.1
