-- The canonical text of a code file: each statement is a line. `IsCanonOfCode` says that bytes are it; it is over the text
-- of the origin's date, since no function leads from days to dates.
use Rattle.std.specs.Prelude.{◌≡◌, ◌++◌, codes}
use Rattle.contract_grammar.specs.Words.{Bytes}
use Rattle.contract_grammar.specs.Names.{DeclaredNames}
use Rattle.contract_print.specs.TermTexts.{◌⊕◌}
use Rattle.contract_print.specs.Canon.{IsOriginText, decls_text, line}
use Rattle.payoff_terms.specs.Code.{PayoffCode}
use Rattle.payoff_terms.specs.CodeBooks.{CodeBook}
use Rattle.payoff_lang.specs.CodeTexts.{code_text, declared_for_code}

unfoldable pub code_header_text : Bytes
code_header_text = codes "payoff 1" ⊕ line

abbrev pub code_line_text : DeclaredNames → Bytes → PayoffCode → Bytes
code_line_text s name k = codes "code " ⊕ name ⊕ codes " = " ⊕ code_text s 0 k ⊕ line

abbrev pub code_book_text : Bytes → CodeBook → Bytes
code_book_text date b =
    code_header_text ⊕ decls_text date b.declarations ⊕ code_line_text (declared_for_code b.declarations) b.name b.code

-- the bytes are the canonical text of a code file
pub record IsCanonOfCode (bytes : Bytes) (b : CodeBook) : Type 0 where
  pub date : Bytes
  pub is_date : IsOriginText b.declarations.origin date
  pub is : bytes ≡ code_book_text date b

-- the text after is the text before and the canonical text of a code file
pub record AppendsCode (b : CodeBook) (old new : Bytes) : Type 0 where
  pub text : Bytes
  pub is_canon : IsCanonOfCode text b
  pub appended : new ≡ old ++ text
