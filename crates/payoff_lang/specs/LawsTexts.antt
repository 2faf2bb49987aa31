-- The laws of the canonical texts of code.
use Rattle.std.specs.Prelude.{ℕ, ◌≡◌, ◌+◌, ◌≤◌, List, []}
use Rattle.term_model.specs.Declarations.{Declarations}
use Rattle.contract_grammar.specs.Names.{DeclaredNames}
use Rattle.contract_print.specs.TermTexts.{expr_text}
use Rattle.contract_print.specs.Spellable.{AreSpellable}
use Rattle.contract_print.specs.Spelled.{Spells, bound_names, stops}
use Rattle.payoff_terms.specs.Code.{ValueExpression, PayoffCode}
use Rattle.payoff_terms.specs.CodeBooks.{CodeBook}
use Rattle.payoff_lang.specs.CodeTexts.{code_text, declared_for_code, value_text}
use Rattle.payoff_terms.specs.CodeSizes.{height_of_code}
use Rattle.payoff_lang.specs.CodeSpelling.{code_part}
use Rattle.payoff_lang.specs.CodeCanon.{IsCanonOfCode}
use Rattle.payoff_lang.specs.CodeFiles.{CodeText, IsPrintableFile}
use Rattle.payoff_lang.specs.Numbered.{numbered, with_dates, modelled_at}
use Rattle.payoff_terms.specs.PrintableCode.{CodeHasNumbersOfTexts, IsPrintableCode}
use Rattle.payoff_terms.specs.WellFormedCode.{IsWellFormedCode}
use Rattle.payoff_terms.specs.WritableCode.{IsWritableCode}

-- value expressions are written as expressions are, but for the leaf
abbrev pub ValuesAreWrittenAsExpressions : Type 0
ValuesAreWrittenAsExpressions =
    (s : DeclaredNames) (n : ℕ) (v : ValueExpression) → expr_text (modelled_at s (with_dates [] v)) n (numbered [] v) ≡ value_text s n v

-- a code file has a canonical text
abbrev pub CodeCanonExists : Type 0
CodeCanonExists = (b : CodeBook) → AreSpellable b.declarations → (bytes : List ℕ) × IsCanonOfCode bytes b

-- and it is the only one
abbrev pub OneCanonOfCode : Type 0
OneCanonOfCode = (bytes other : List ℕ) (b : CodeBook) → IsCanonOfCode bytes b → IsCanonOfCode other b → bytes ≡ other

-- the canonical text of code spells it wherever it stands before a stop; names of fewer than 1,000 binders are words
abbrev pub CodeIsSpelled : Type 0
CodeIsSpelled =
    (d : Declarations) (n : ℕ) (k : PayoffCode) → AreSpellable d → IsWellFormedCode d n k → CodeHasNumbersOfTexts k
    → n + height_of_code k ≤ 999 → Spells stops (code_text (declared_for_code d) n k) (code_part (declared_for_code d) (bound_names n) k)

-- the canonical text of a code file is a text of it
abbrev pub CodeCanonIsText : Type 0
CodeCanonIsText = (bytes : List ℕ) (b : CodeBook) → IsPrintableFile b → IsCanonOfCode bytes b → CodeText bytes b
