use Rattle.std.proofs.Common.{ℕ, List, refl, subst}
use Rattle.std.specs.Prelude.{Err}
use Rattle.contract_parse.specs.declared.faults.ParseErr.{ParseErr}
use Rattle.payoff_lang.specs.CodeAnswers.{CodeAnswers}
use Rattle.payoff_terms.specs.CodeBooks.{code_book}
use Rattle.payoff_terms.specs.declared.code_file.CodeFile.{CodeFile}
use Rattle.valuation_commands.specs.ValueStages.{IsBadCode}
use Rattle.valuation_commands.specs.ValueParts.{IsReadFrom}
use Rattle.command_courses.specs.Inputs.{bytes_of, file_at}
use Rattle.command_courses.proofs.StopFacts.{text_stops}
use Rattle.valuation_commands.proofs.asking.code_of.Goals as goal

pub returns-in_err-file : goal.returns-in_err-file
returns-in_err-file c =
    let bytes = file_at (bytes_of c.args.inputs.files.now) 0 in
    text_stops (λ (file : CodeFile). IsReadFrom bytes (code_book file)) (IsBadCode bytes) (λ (e : ParseErr). CodeAnswers bytes (Err e))
    (λ f h. record { first = f; is_first = h.0; no_code = h.1; fault_is = refl })
    c.in_err-file.field-0.0 c.from_residual.result (subst (λ (x : List ℕ). CodeAnswers x (Err c.in_err-file.field-0.0)) c.file.ensures.is c.in_err-file.ensures.answer)
    c.from_residual.ensures.1
