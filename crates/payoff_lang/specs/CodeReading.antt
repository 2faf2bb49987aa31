-- What the readers of payoff code make of a text. The dates of an expression are put into a list, and an expression that
-- is read as one of code has for the offset of each observable the index of its date.
use Rattle.std.specs.Prelude.{◌≡◌, ◌≤ℤ◌, ◌<ℤ◌, ℕ, ℤ, pos, negsuc, List, [], ◌∷◌, ◌++◌, Some, None, codes, length, map, slice_get}
use Rattle.contract_grammar.specs.Tokens.{Tok}
use Rattle.contract_grammar.specs.Words.{Bytes}
use Rattle.contract_parse.specs.Heads.{BeginsAmount}
use Rattle.term_model.specs.declared.decls.Decls.{Decls}
use Rattle.contract_grammar.specs.Names.{BoundNames, DeclaredNames, names_in}
use Rattle.contract_grammar.specs.Judgements.{use_at}
use Rattle.contract_grammar.specs.Spelling.{Leaf, Part, ◌⨟◌, pair, templates_part, valued, word}
use Rattle.contract_parse.specs.Expecting.{Expected, amount_expected}
use Rattle.contract_parse.specs.Reading.{declared_in}
use Rattle.contract_parse.specs.declared.heads.AmountHead.{AmountHead}
use Rattle.payoff_terms.specs.declared.code.DateExpr.{DateExpr}
use Rattle.payoff_terms.specs.declared.code.Vx.{Vx}
use Rattle.payoff_terms.specs.declared.code.Code.{Code}
use Rattle.payoff_terms.specs.TemplateDates.{Date, date, insert_names, no_date}
use Rattle.payoff_lang.specs.CodeSpelling.{DatePart, code_part, value_part}
use Rattle.payoff_terms.specs.Code.{payoff_code, value_expression}

-- some templates are written, and these stand behind those that were there
pub record AddsTemplates (templates : List Bytes) (before after : List ℕ) (ts rest : List Tok) : Type 0 where
  pub written : List ℕ
  pub is : after ≡ before ++ written
  pub spelled : templates_part templates written ts rest

-- some templates are written, and these are they in rising order
pub record RisingTemplates (templates : List Bytes) (names : List ℕ) (ts rest : List Tok) : Type 0 where
  pub written : List ℕ
  pub is : names ≡ insert_names written []
  pub spelled : templates_part templates written ts rest

-- the dates of a list
abbrev pub dates_of : List DateExpr → List Date
dates_of dates = map date dates

-- the date with an index
abbrev pub date_listed : List Date → ℤ → Date
date_listed dates (pos i) = elim (slice_get dates i) [ Some x ↦ x | None ↦ no_date ]
date_listed dates (negsuc i) = no_date

-- an index at which a date stands
abbrev pub IsListed : List Date → ℤ → Type 0
IsListed dates index = (pos 0 ≤ℤ index) × (index <ℤ pos (length dates))

-- a date with this index in a list
pub record ListedDate (dates : List Date) (s : DeclaredNames) (index : ℤ) (ts rest : List Tok) : Type 0 where
  pub number : ℕ
  pub on : Date
  pub is : index ≡ pos number
  pub stands : slice_get dates number ≡ Some on
  pub spelled : DatePart s on ts rest

-- `model(label, date)`: the offset of the observable is the index of its date
abbrev pub listed_leaf : List Date → DeclaredNames → Leaf
listed_leaf dates s label index =
    word (codes "model") ⨟ pair (valued (use_at s.labels) label) (ListedDate dates s index)

-- the grammar's parts of the program's values, over declared names and under those that are bound
abbrev pub date_in : Decls → DateExpr → Part
date_in d x = DatePart (declared_in d []) (date x)

abbrev pub value_in : Decls → BoundNames → Vx → Part
value_in d bound v = value_part (declared_in d []) (names_in bound) (value_expression v)

abbrev pub code_in : Decls → BoundNames → Code → Part
code_in d bound k = code_part (declared_in d []) (names_in bound) (payoff_code k)

-- the first token of an amount
abbrev pub first_token_of_amount : AmountHead → Part
first_token_of_amount head ts rest = (t : Tok) × (ts ≡ t ∷ rest) × BeginsAmount t head

-- what stands behind it
abbrev pub behind_amount_head : ℕ → BoundNames → AmountHead → DeclaredNames → List Expected → List Expected
behind_amount_head depth bound head s ps = amount_expected s depth (names_in bound) head ps
