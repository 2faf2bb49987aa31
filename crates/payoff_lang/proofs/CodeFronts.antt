-- A fault of bytes that are no text of a code file stands behind a front, and the tokens of a text of one are whole.
use Rattle.std.proofs.Common.{◌≡◌, ℕ, List}
use Rattle.std.specs.Str.{IsUtf8}
use Rattle.contract_grammar.specs.Tokens.{tokens}
use Rattle.contract_parse.specs.Lines.{line_at, column_at}
use Rattle.contract_parse.specs.Fronts.{IsWhole}
use Rattle.contract_parse.specs.FrontLaws.{FaultyToken}
use Rattle.contract_grammar.specs.declared.terms.Language.{Language}
use Rattle.contract_parse.specs.TextFaults.{FirstTextFault, no_utf8, refused}
use Rattle.contract_grammar.specs.declared.faults.TextKind.{TextKind}
use Rattle.contract_grammar.specs.declared.faults.TextFault.{TextFault}
use Rattle.contract_parse.proofs.FrontRuns.{refusals_end_fronts, taken_texts_are_whole}
use Rattle.payoff_terms.specs.CodeBooks.{CodeBook}
use Rattle.payoff_lang.specs.CodeFiles.{CodeText}
use Rattle.payoff_lang.specs.CodeAnswers.{IsCodeFault}
use Rattle.payoff_lang.proofs.CodeTaken.{file_taken}

first_ends : (bytes : List ℕ) (k : TextKind) (at line column : ℕ) → IsUtf8 bytes → FirstTextFault Language.Code bytes k at → line ≡ line_at bytes at → column ≡ column_at bytes at
    → FaultyToken Language.Code bytes (record { kind = k; line = line; column = column })
first_ends bytes k at line column utf8 (no_utf8 none valid) is_line is_column = absurd (none utf8)
first_ends bytes k at line column utf8 (refused {left = left} ok e) is_line is_column =
    record { left = left; refused = refusals_end_fronts Language.Code bytes k left e; line = is_line; column = is_column }

pub code_faults_end : (bytes : List ℕ) (f : TextFault) → IsUtf8 bytes → IsCodeFault bytes f → FaultyToken Language.Code bytes f
code_faults_end bytes f utf8 fault = first_ends bytes f.kind fault.at f.line f.column utf8 fault.first fault.line fault.column

pub code_texts_whole : (bytes : List ℕ) (b : CodeBook) → CodeText bytes b → IsWhole Language.Code (tokens bytes)
code_texts_whole bytes b text = taken_texts_are_whole Language.Code (tokens bytes) (file_taken bytes b text)
