-- The laws of the texts of code files: a text has no fault, and it stands for one file, whose code is closed and no larger
-- than the text.
use Rattle.std.specs.Prelude.{◌≡◌, ◌≤◌, ◌<◌, List, ℕ, [], length}
use Rattle.std.specs.List.{All}
use Rattle.std.specs.Str.{IsUtf8}
use Rattle.contract_grammar.specs.Tokens.{tokens}
use Rattle.contract_grammar.specs.Names.{nothing_declared}
use Rattle.contract_parse.specs.Expecting.{Open, code_text_expected, run}
use Rattle.contract_grammar.specs.TextLaws.{NamesFit}
use Rattle.contract_parse.specs.Fronts.{IsWhole}
use Rattle.contract_parse.specs.FrontLaws.{FaultyToken}
use Rattle.contract_grammar.specs.declared.terms.Language.{Language}
use Rattle.contract_grammar.specs.declared.faults.TextFault.{TextFault}
use Rattle.payoff_terms.specs.CodeBooks.{CodeBook}
use Rattle.payoff_lang.specs.CodeFiles.{CodeText}
use Rattle.payoff_lang.specs.CodeAnswers.{IsCodeFault}
use Rattle.payoff_terms.specs.CodeSizes.{height_of_code, nodes_of_code}
use Rattle.payoff_terms.specs.WellFormedCode.{IsClosedCode}
use Rattle.payoff_terms.specs.PrintableCode.{IsPrintableCode}

abbrev pub CodeTextIsTaken : Type 0
CodeTextIsTaken = (bytes : List ℕ) (b : CodeBook) → CodeText bytes b → run nothing_declared code_text_expected (tokens bytes) ≡ Open []

abbrev pub CodeTextHasNoFault : Type 0
CodeTextHasNoFault = (bytes : List ℕ) (b : CodeBook) (f : TextFault) → CodeText bytes b → IsCodeFault bytes f → ⊥

-- a fault at a token leaves a front before it, and is of Syntax exactly where with that token there is none
abbrev pub CodeFaultsEndFronts : Type 0
CodeFaultsEndFronts = (bytes : List ℕ) (f : TextFault) → IsUtf8 bytes → IsCodeFault bytes f → FaultyToken Language.Code bytes f

abbrev pub CodeTextsAreWhole : Type 0
CodeTextsAreWhole = (bytes : List ℕ) (b : CodeBook) → CodeText bytes b → IsWhole Language.Code (tokens bytes)

-- one text stands for at most one code file
abbrev pub OneCodeReading : Type 0
OneCodeReading = (bytes : List ℕ) (b b' : CodeBook) → CodeText bytes b → CodeText bytes b' → b ≡ b'

-- the code names only what is declared or bound round it, its dates have their templates in order, and at most 400 terms
-- are open at once
abbrev pub CodeOfTextIsClosed : Type 0
CodeOfTextIsClosed =
    (bytes : List ℕ) (b : CodeBook) → CodeText bytes b → IsClosedCode b.declarations b.code × (height_of_code b.code ≤ 400)

-- its numbers are within the limits of texts, so that it may be printed
abbrev pub CodeOfTextIsPrintable : Type 0
CodeOfTextIsPrintable = (bytes : List ℕ) (b : CodeBook) → CodeText bytes b → IsPrintableCode b.declarations b.code

abbrev pub CodeFitsText : Type 0
CodeFitsText = (bytes : List ℕ) (b : CodeBook) → CodeText bytes b → nodes_of_code b.code < length bytes

abbrev pub NamesOfCodeFitText : Type 0
NamesOfCodeFitText = (bytes : List ℕ) (b : CodeBook) → CodeText bytes b → NamesFit bytes b.declarations

-- no template of a text has more than 100,000 days
abbrev pub TemplatesOfCodeAreShort : Type 0
TemplatesOfCodeAreShort = (bytes : List ℕ) (b : CodeBook) → CodeText bytes b → All (λ entry. entry.1 ≤ 100_000) b.declarations.templates
