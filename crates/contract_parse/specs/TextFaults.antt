-- The first fault of bytes, as a text of portfolios or as one of payoff code; and what reading answers.
use Rattle.std.specs.Prelude.{◌≡◌, ◌-◌, ℕ, List, Result, Ok, Err, length}
use Rattle.std.specs.Str.{IsUtf8, IsValidUpTo}
use Rattle.term_model.specs.Books.{Book, book}
use Rattle.term_model.specs.declared.portfolio.Portfolio.{Portfolio}
use Rattle.contract_grammar.specs.Tokens.{tokens}
use Rattle.contract_parse.specs.Lines.{line_at, column_at}
use Rattle.contract_grammar.specs.Names.{nothing_declared}
use Rattle.contract_grammar.specs.Texts.{Text}
use Rattle.contract_parse.specs.Expecting.{Stops, expected_of, run}
use Rattle.contract_grammar.specs.declared.faults.TextKind.{TextKind}
use Rattle.contract_grammar.specs.declared.faults.TextKind.TheVariants.{Utf8}
use Rattle.contract_grammar.specs.declared.faults.TextFault.{TextFault}
use Rattle.contract_parse.specs.declared.faults.ParseErr.{ParseErr}
use Rattle.contract_parse.specs.declared.faults.ParseErr.TheVariants as err
use Rattle.contract_grammar.specs.declared.terms.Language.{Language}

-- the kind and the position of the first fault: what is no UTF-8 comes before all, at the first byte after the longest
-- prefix that is; else it is the first token that the grammar of the language refuses
pub data FirstTextFault (l : Language) (bytes : List ℕ) : TextKind → ℕ → Type 0 where
  no_utf8 : {at : ℕ} → (IsUtf8 bytes → ⊥) → IsValidUpTo bytes at → FirstTextFault l bytes Utf8 at
  refused : {kind : TextKind} {left : ℕ} → IsUtf8 bytes
      → run nothing_declared (expected_of l) (tokens bytes) ≡ Stops kind left → FirstTextFault l bytes kind (length bytes - left)

-- the first fault of the bytes, with its line and column
pub record IsTextFault (l : Language) (bytes : List ℕ) (f : TextFault) : Type 0 where
  pub at : ℕ
  pub first : FirstTextFault l bytes f.kind at
  pub line : f.line ≡ line_at bytes at
  pub column : f.column ≡ column_at bytes at

-- the same as a text of a portfolio
abbrev pub FirstFault : List ℕ → TextKind → ℕ → Type 0
FirstFault bytes kind at = FirstTextFault Language.Contracts bytes kind at

abbrev pub IsFault : List ℕ → TextFault → Type 0
IsFault bytes f = IsTextFault Language.Contracts bytes f

-- the bytes are no text, and the fault is their first
abbrev pub IsNoText : List ℕ → TextFault → Type 0
IsNoText bytes f = IsFault bytes f × ((b : Book) → Text bytes b → ⊥)

-- what a reader tells that stops
abbrev pub Tells : List ℕ → ParseErr → Type 0
Tells bytes (err.Text f) = IsNoText bytes f
Tells bytes err.NoMemory = Unit {0}

-- the portfolio of the text, or, just where the bytes are no text, their first fault
abbrev pub Answers : List ℕ → Result Portfolio ParseErr → Type 0
Answers bytes (Ok p) = Text bytes (book p)
Answers bytes (Err e) = Tells bytes e
