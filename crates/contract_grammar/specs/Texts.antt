-- Which bytes are the text of which portfolio.
use Rattle.std.specs.Prelude.{List, [], ℕ}
use Rattle.std.specs.Str.{IsUtf8}
use Rattle.term_model.specs.Books.{Book}
use Rattle.contract_grammar.specs.Tokens.{tokens}
use Rattle.contract_grammar.specs.Statements.{portfolio}

-- the bytes are a text of this portfolio
pub record Text (bytes : List ℕ) (b : Book) : Type 0 where
  pub utf8 : IsUtf8 bytes
  pub spelled : portfolio b (tokens bytes) []
