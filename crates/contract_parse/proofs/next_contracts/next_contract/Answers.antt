use Rattle.std.proofs.Common.{Err, ap, ◌∙◌}
use Rattle.term_model.specs.Declarations.{declarations}
use Rattle.contract_parse.specs.Cursors.{fault_of}
use Rattle.contract_parse.specs.NextContracts.{AnswersNext}
use Rattle.contract_parse.specs.declared.faults.ParseErr.{ParseErr}
use Rattle.contract_parse.proofs.FaultFacts.{tells}
use Rattle.contract_parse.proofs.next_contracts.next_contract.Goals as goal

pub returns-in-Err-clause-next : goal.returns-in-Err-clause-next
returns-in-Err-clause-next c = λ bytes entries so_far.
    tells (λ (e : ParseErr). AnswersNext bytes (declarations c.args.decls.now) entries c.read_next.new.reader (Err e)) bytes c.in-Err.error c.fault_of.result (λ f none. none) tt
    (c.fault_of.ensures ∙ ap (λ b. fault_of b c.in-Err.error) so_far.text) so_far.utf8 (c.in-Err.ensures.next bytes entries so_far)
