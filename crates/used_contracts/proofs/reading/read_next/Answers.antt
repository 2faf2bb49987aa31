use Rattle.std.specs.Prelude.{Err}
use Rattle.term_model.specs.Declarations.{declarations}
use Rattle.contract_parse.specs.NextContracts.{AnswersNext}
use Rattle.contract_parse.specs.declared.faults.ParseErr.{ParseErr}
use Rattle.used_contracts.specs.ReadingParts.{IsNextOrEnd}
use Rattle.used_contracts.specs.Portfolios.{IsBadText}
use Rattle.used_contracts.proofs.StageFacts.{bad_text}
use Rattle.command_courses.proofs.StopFacts.{text_stops}
use Rattle.used_contracts.proofs.reading.read_next.Goals as goal

pub returns-in_err-next-clause-next : goal.returns-in_err-next-clause-next
returns-in_err-next-clause-next c = λ text entries read.
    let d = declarations c.args.decls.now in
    let after = c.next_contract.new.reader in
    text_stops (IsNextOrEnd text d entries after) (IsBadText text) (λ (e : ParseErr). AnswersNext text d entries after (Err e)) (bad_text text)
    c.in_err-next.field-0.0 c.from_residual.result (c.in_err-next.ensures.next text entries read) c.from_residual.ensures.1
