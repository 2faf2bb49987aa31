-- What is answered to bytes that should be the text of a code file: the file, or, just where the bytes are no such text,
-- their first fault.
use Rattle.std.specs.Prelude.{ℕ, List, Result, Ok, Err}
use Rattle.contract_parse.specs.TextFaults.{IsTextFault}
use Rattle.contract_grammar.specs.declared.terms.Language.{Language}
use Rattle.contract_grammar.specs.declared.faults.TextFault.{TextFault}
use Rattle.contract_parse.specs.declared.faults.ParseErr.{ParseErr}
use Rattle.contract_parse.specs.declared.faults.ParseErr.TheVariants as err
use Rattle.payoff_terms.specs.declared.code_file.CodeFile.{CodeFile}
use Rattle.payoff_terms.specs.CodeBooks.{CodeBook, code_book}
use Rattle.payoff_lang.specs.CodeFiles.{CodeText}

-- the first fault of bytes that are no text of a code file
abbrev pub IsCodeFault : List ℕ → TextFault → Type 0
IsCodeFault bytes f = IsTextFault Language.Code bytes f

abbrev pub CodeAnswers : List ℕ → Result CodeFile ParseErr → Type 0
CodeAnswers bytes (Ok file) = CodeText bytes (code_book file)
CodeAnswers bytes (Err (err.Text f)) = IsCodeFault bytes f × ((b : CodeBook) → CodeText bytes b → ⊥)
CodeAnswers bytes (Err err.NoMemory) = Unit {0}
