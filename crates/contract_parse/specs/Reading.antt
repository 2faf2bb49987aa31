-- What the tokens and the answers of the code stand for.
use Rattle.std.specs.Prelude.{◌≡◌, ◌≤◌, ◌≤ℤ◌, ◌^◌, ℕ, ℤ, unsigned_abs, List, [], ◌∷◌, false, Option, Some, None, if◌then◌else◌}
use Rattle.term_model.specs.Terms.{Expression, Num, Cmp, Logic}
use Rattle.term_model.specs.Declarations.{declarations}
use Rattle.term_model.specs.declared.decls.Decls.{Decls}
use Rattle.term_model.specs.declared.terms.NumOp.TheVariants.{Plus, Minus, Times, Min, Max}
use Rattle.contract_grammar.specs.Tokens.{Tok, is_last, tokens}
use Rattle.contract_grammar.specs.Words.{Bytes, is_the_mark, is_the_word}
use Rattle.contract_grammar.specs.Names.{DeclaredNames, declared_by}
use Rattle.contract_grammar.specs.declared.terms.Operator.{Operator}
use Rattle.contract_grammar.specs.declared.terms.Operator.TheVariants as operator
use Rattle.contract_grammar.specs.declared.token.LexemeKind.{LexemeKind}
use Rattle.contract_parse.specs.declared.token.Lexeme.{Lexeme}
use Rattle.contract_parse.specs.declared.words.Lookahead.{Lookahead}

abbrev pub tok_of : Lexeme → Tok
tok_of t = record { kind = t.kind; text = t.text.now; left = t.left }

abbrev pub tokens_after : LexemeKind → List ℕ → List Tok
tokens_after kind rest = if is_last kind then [] else tokens rest

-- the tokens from one on that is read ahead
abbrev pub tokens_ahead : Lookahead → List Tok
tokens_ahead ahead = tok_of ahead.token ∷ tokens_after ahead.token.kind ahead.after.now

-- a bound of a label, above the lower bound where there is one
abbrev pub IsBound : Option ℤ → ℤ → Type 0
IsBound None m = unsigned_abs m ≤ 10 ^ 37
IsBound (Some low) m = (unsigned_abs m ≤ 10 ^ 37) × (low ≤ℤ m)

-- the names that are declared where contracts stand
abbrev pub declared_in : Decls → List Bytes → DeclaredNames
declared_in d contracts = declared_by (declarations d) contracts

-- another token than this word stands next
pub record Lacks (w : Bytes) (ts : List Tok) : Type 0 where
  pub first : Tok
  pub after : List Tok
  pub is : ts ≡ first ∷ after
  pub other : is_the_word w first ≡ false

-- another token than this mark stands next
pub record LacksMark (m : Bytes) (ts : List Tok) : Type 0 where
  pub first : Tok
  pub after : List Tok
  pub is : ts ≡ first ∷ after
  pub other : is_the_mark m first ≡ false

-- an operator that stands between its operands
abbrev pub IsBetween : Operator → Type 0
IsBetween (operator.Arithmetic Plus) = Unit {0}
IsBetween (operator.Arithmetic Minus) = Unit {0}
IsBetween (operator.Arithmetic Times) = Unit {0}
IsBetween (operator.Arithmetic Min) = ⊥
IsBetween (operator.Arithmetic Max) = ⊥
IsBetween (operator.Comparison op) = Unit {0}
IsBetween (operator.Logic op) = Unit {0}

abbrev pub joined : Operator → Expression → Expression → Expression
joined (operator.Arithmetic op) left right = Num op left right
joined (operator.Comparison op) left right = Cmp op left right
joined (operator.Logic op) left right = Logic op left right
