-- A text of a portfolio has no fault.
use Rattle.std.proofs.Common.{ℕ, List}
use Rattle.term_model.specs.Books.{Book}
use Rattle.contract_grammar.specs.Tokens.{tokens}
use Rattle.contract_parse.specs.TextFaults.{FirstFault, IsFault, no_utf8, refused}
use Rattle.contract_grammar.specs.Texts.{Text}
use Rattle.contract_grammar.specs.declared.faults.TextKind.{TextKind}
use Rattle.contract_grammar.specs.declared.faults.TextFault.{TextFault}
use Rattle.contract_parse.proofs.LinesTaken.{portfolio_taken}

no_first_fault : (bytes : List ℕ) (b : Book) (kind : TextKind) (at : ℕ) → Text bytes b → FirstFault bytes kind at → ⊥
no_first_fault bytes b kind at text (no_utf8 not_utf8 valid) = not_utf8 text.utf8
no_first_fault bytes b kind at text (refused utf8 stops) = let taken = portfolio_taken b (tokens bytes) text.spelled in absurd cc

pub no_fault : (bytes : List ℕ) (b : Book) (f : TextFault) → Text bytes b → IsFault bytes f → ⊥
no_fault bytes b f text fault = no_first_fault bytes b f.kind fault.at text fault.first
