-- There is one canonical text of a code file, and code that a text can stand for may be printed.
use Rattle.std.proofs.Common.{◌≡◌, ◌∙◌, ℕ, suc, ℤ, ◌+◌, [], Option, Some, None, refl, sym, ap, subst, arith}
use Rattle.std.proofs.lemmas.List.Elements.{All-nil}
use Rattle.term_model.specs.Declarations.{Declarations}
use Rattle.term_model.specs.Terms.{Contract}
use Rattle.term_model.specs.Books.{Book}
use Rattle.term_model.proofs.DateTextFacts.{texts_unique}
use Rattle.contract_grammar.specs.Words.{Bytes}
use Rattle.contract_print.specs.Canon.{IsOriginText, origin_text}
use Rattle.contract_print.specs.Spellable.{IsSpellable}
use Rattle.contract_print.proofs.DateExists.{canon_exists}
use Rattle.payoff_terms.specs.Code.{ValueExpression, Lit, Yes, Var, Model, Neg, Num, Cmp, Not, Logic, Cond, Widen, Round, Div, Acc, PayoffCode, Nothing, PayOn, Add, ScaleBy, LetBe, Loop, Cut}
use Rattle.payoff_terms.specs.CodeBooks.{CodeBook}
use Rattle.payoff_lang.specs.CodeCanon.{code_book_text}
use Rattle.payoff_lang.specs.LawsTexts.{CodeCanonExists, OneCanonOfCode}
use Rattle.payoff_terms.specs.LawsCode.{PrintableIsWritable}
use Rattle.payoff_terms.specs.PrintableCode.{ValueHasNumbersOfTexts, CodeHasNumbersOfTexts}
use Rattle.payoff_terms.specs.WellFormedCode.{IsWellFormedValue, IsWellFormedCode}
use Rattle.payoff_terms.specs.WritableCode.{IsWritableValue, IsWritableUnder}

same_line : (origin : Option ℤ) (date other : Bytes) → IsOriginText origin date → IsOriginText origin other → origin_text date origin ≡ origin_text other origin
same_line None date other p q = refl
same_line (Some day) date other p q = ap (λ (t : Bytes). origin_text t (Some day)) (texts_unique date other day p q)

same_file : (date other : Bytes) (b : CodeBook) → origin_text date b.declarations.origin ≡ origin_text other b.declarations.origin → code_book_text date b ≡ code_book_text other b
same_file date other b e = cc

pub one_canon_of_code : OneCanonOfCode
one_canon_of_code bytes other b p q =
    p.is ∙ same_file p.date q.date b (same_line b.declarations.origin p.date q.date p.is_date q.is_date) ∙ sym q.is

-- the origin of declarations has a text, as that of a portfolio without contracts
pub code_canon_exists : CodeCanonExists
code_canon_exists b fits =
    let bare : Book = record { declarations = b.declarations; contracts = [] } in
    let text = canon_exists bare (record { declarations = fits; contracts = refl; each = All-nil (λ (entry : Bytes × Contract). IsSpellable b.declarations entry.1) }) in
    (code_book_text text.1.date b, record { date = text.1.date; is_date = text.1.is_date; is = refl })
