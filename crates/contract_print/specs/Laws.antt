-- Laws of canonical texts: that of a portfolio is a text of it, there is one and no other, and what was read can be
-- printed, as can what is left of it on a later day. And comment lines may stand before a text.
use Rattle.std.specs.Prelude.{All, ℕ, ◌+◌, ◌≤◌, ◌≡◌, true, List, [], ◌++◌}
use Rattle.std.specs.Map.{keys_of}
use Rattle.term_model.specs.Terms.{Expression, Contract}
use Rattle.term_model.specs.Sizes.{height, height_of_contract}
use Rattle.term_model.specs.Declarations.{Declarations, at_one_scale}
use Rattle.term_model.specs.Acceptance.{IsAccepted}
use Rattle.term_model.specs.Books.{Book}
use Rattle.term_model.specs.WellFormed.{IsWellFormed, IsWellFormedContract}
use Rattle.contract_grammar.specs.Versions.{version_of}
use Rattle.contract_grammar.specs.Names.{declared_by}
use Rattle.contract_grammar.specs.Spelling.{expr, contr}
use Rattle.contract_grammar.specs.declared.terms.Language.{Language}
use Rattle.contract_grammar.specs.Texts.{Text}
use Rattle.contract_print.specs.TermTexts.{expr_text, contr_text, observed}
use Rattle.contract_print.specs.Canon.{IsCanon}
use Rattle.contract_print.specs.Comments.{IsComments}
use Rattle.contract_print.specs.Rests.{IsRestOf, IsSoundRest}
use Rattle.contract_print.specs.Spellable.{ContractHasNumbersOfTexts, HasNumbersOfTexts, AreSpellable, IsSpellable, IsSpellableBook, are_names}
use Rattle.contract_print.specs.Spelled.{Spells, bound_names, stops}
use Rattle.contract_grammar.specs.Writable.{IsWritableTerm}

-- the canonical text of a term spells it wherever it stands before a stop; names of fewer than 1,000 binders are words
abbrev pub ExpressionIsSpelled : Type 0
ExpressionIsSpelled =
    (d : Declarations) (n : ℕ) (e : Expression)
    → are_names (keys_of d.labels) ≡ true → IsWellFormed d n e → HasNumbersOfTexts e → n + height e ≤ 999
    → Spells stops (expr_text (observed (keys_of d.labels)) n e) (expr Language.Contracts (declared_by d []) (bound_names n) e)

abbrev pub ContractIsSpelled : Type 0
ContractIsSpelled =
    (d : Declarations) (n : ℕ) (c : Contract)
    → AreSpellable d → IsWellFormedContract d n c → ContractHasNumbersOfTexts (version_of d.version) c → n + height_of_contract c ≤ 999
    → Spells stops (contr_text (declared_by d []) n c) (contr (declared_by d []) (bound_names n) c)

-- the canonical text of a portfolio is a text of it
abbrev pub CanonIsText : Type 0
CanonIsText = (bytes : List ℕ) (b : Book) → IsSpellableBook b → IsCanon bytes b → Text bytes b

-- there is one
abbrev pub CanonExists : Type 0
CanonExists = (b : Book) → IsSpellableBook b → (bytes : List ℕ) × IsCanon bytes b

-- and it is the only one
abbrev pub OneCanon : Type 0
OneCanon = (bytes other : List ℕ) (b : Book) → IsCanon bytes b → IsCanon other b → bytes ≡ other

-- the contracts of a text can be printed
abbrev pub TextsAreWritable : Type 0
TextsAreWritable = (bytes : List ℕ) (b : Book) → Text bytes b → All (λ entry. IsWritableTerm entry.1) b.contracts

-- the portfolio of a text is within the limits of texts, so it has a canonical text, which is a text of it
abbrev pub TextsAreSpellable : Type 0
TextsAreSpellable = (bytes : List ℕ) (b : Book) → Text bytes b → IsSpellableBook b

-- declarations within the limits of texts are within them in version 1, where each asset has the decimals of the amounts
abbrev pub OneScaleIsSpellable : Type 0
OneScaleIsSpellable = (d : Declarations) → AreSpellable d → AreSpellable (at_one_scale d)

-- comment lines before a text change nothing
abbrev pub CommentsChangeNothing : Type 0
CommentsChangeNothing = (before bytes : List ℕ) (b : Book) → IsComments before → Text bytes b → Text (before ++ bytes) b

-- acceptance keeps every other number of a contract, and its height, within the limits of texts
abbrev pub RestsCanBeSpelled : Type 0
RestsCanBeSpelled = (d : Declarations) (c : Contract) → IsSoundRest d c → IsSpellable d c

abbrev pub RestsCanBeWritten : Type 0
RestsCanBeWritten = (d : Declarations) (c : Contract) → IsSoundRest d c → IsWritableTerm c

-- what is left of a portfolio that texts can stand for is such a portfolio too
abbrev pub RestsAreSpellable : Type 0
RestsAreSpellable = (b rest : Book) → IsSpellableBook b → IsRestOf b rest → IsSpellableBook rest

-- and its contracts are accepted under its own declarations
abbrev pub RestsAreAccepted : Type 0
RestsAreAccepted = (b rest : Book) → IsRestOf b rest → All (λ entry. IsAccepted rest.declarations entry.1) rest.contracts
