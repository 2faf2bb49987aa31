-- Laws on fronts, of portfolios and of texts of payoff code: a fault that stands at a token leaves a front before it, and
-- is of Syntax exactly where the token ends all fronts; a front is what some text goes on from, names and limits aside.
use Rattle.std.specs.Prelude.{◌≡◌, ◌-◌, ◌↔◌, ℕ, List, [], ◌∷◌, ◌++◌, length}
use Rattle.std.specs.Str.{IsUtf8}
use Rattle.term_model.specs.Books.{Book}
use Rattle.contract_grammar.specs.Tokens.{Tok, tokens}
use Rattle.contract_parse.specs.Lines.{line_at, column_at}
use Rattle.contract_grammar.specs.Names.{nothing_declared}
use Rattle.contract_parse.specs.Expecting.{Expected, Open, Stops, expected_of, run}
use Rattle.contract_parse.specs.Fronts.{IsFront, IsWhole}
use Rattle.contract_grammar.specs.Texts.{Text}
use Rattle.contract_parse.specs.TextFaults.{IsFault}
use Rattle.contract_grammar.specs.declared.terms.Language.{Language}
use Rattle.contract_grammar.specs.declared.faults.TextKind.{TextKind}
use Rattle.contract_grammar.specs.declared.faults.TextKind.TheVariants.{Syntax}
use Rattle.contract_grammar.specs.declared.faults.TextFault.{TextFault}

-- the tokens before this one are a front, and its fault is of Syntax exactly where with it they are none
pub record EndsFront (l : Language) (before : List Tok) (t : Tok) (kind : TextKind) : Type 0 where
  pub front : IsFront l before
  pub syntax : (kind ≡ Syntax) ↔ (IsFront l (before ++ t ∷ []) → ⊥)

-- whichever token of the text it is that is refused
abbrev pub RefusedTokensEndFronts : Type 0
RefusedTokensEndFronts =
    (l : Language) (bytes : List ℕ) (before after : List Tok) (t : Tok) (kind : TextKind)
    → tokens bytes ≡ before ++ t ∷ after → run nothing_declared (expected_of l) (tokens bytes) ≡ Stops kind t.left → EndsFront l before t kind

-- the token of a text that is refused where so many bytes are left
pub record RefusedToken (l : Language) (bytes : List ℕ) (kind : TextKind) (left : ℕ) : Type 0 where
  pub before : List Tok
  pub token : Tok
  pub after : List Tok
  pub are : tokens bytes ≡ before ++ token ∷ after
  pub bytes_left : token.left ≡ left
  pub ends : EndsFront l before token kind

-- what is refused is one of the text's tokens
abbrev pub RefusalsEndFronts : Type 0
RefusalsEndFronts =
    (l : Language) (bytes : List ℕ) (kind : TextKind) (left : ℕ)
    → run nothing_declared (expected_of l) (tokens bytes) ≡ Stops kind left → RefusedToken l bytes kind left

-- the token of a text at which it has its fault
pub record FaultyToken (l : Language) (bytes : List ℕ) (f : TextFault) : Type 0 where
  pub left : ℕ
  pub refused : RefusedToken l bytes f.kind left
  pub line : f.line ≡ line_at bytes (length bytes - left)
  pub column : f.column ≡ column_at bytes (length bytes - left)

-- the fault of a portfolio's text
abbrev pub FaultsEndFronts : Type 0
FaultsEndFronts = (bytes : List ℕ) (f : TextFault) → IsUtf8 bytes → IsFault bytes f → FaultyToken Language.Contracts bytes f

-- where no rule failed before, the first token with which there is no front is at fault, and of Syntax
abbrev pub FrontsEndInSyntax : Type 0
FrontsEndInSyntax =
    (l : Language) (bytes : List ℕ) (before after : List Tok) (t : Tok) (ps : List Expected)
    → tokens bytes ≡ before ++ t ∷ after → run nothing_declared (expected_of l) before ≡ Open ps → (IsFront l (before ++ t ∷ []) → ⊥)
    → run nothing_declared (expected_of l) (tokens bytes) ≡ Stops Syntax t.left

-- the tokens of a portfolio's text are whole
abbrev pub TextsAreWhole : Type 0
TextsAreWhole = (bytes : List ℕ) (b : Book) → Text bytes b → IsWhole Language.Contracts (tokens bytes)

-- tokens over which nothing is refused are a front, and whole where nothing more is expected
abbrev pub TakenTokensAreFronts : Type 0
TakenTokensAreFronts = (l : Language) (ts : List Tok) (ps : List Expected) → run nothing_declared (expected_of l) ts ≡ Open ps → IsFront l ts

abbrev pub TakenTextsAreWhole : Type 0
TakenTextsAreWhole = (l : Language) (ts : List Tok) → run nothing_declared (expected_of l) ts ≡ Open [] → IsWhole l ts

-- a front is what goes on to a whole
abbrev pub FrontsGoOn : Type 0
FrontsGoOn = (l : Language) (ts : List Tok) → IsFront l ts ↔ ((more : List Tok) × IsWhole l (ts ++ more))
