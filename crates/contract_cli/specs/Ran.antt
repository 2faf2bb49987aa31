-- A run of a command on a portfolio: what it has read, and what it has written.
use Rattle.std.specs.Prelude.{ℕ, List}
use Rattle.term_model.specs.Books.{Book}
use Rattle.contract_grammar.specs.Texts.{Text}
use Rattle.command_words.specs.Commands.{Request, files_of}
use Rattle.command_courses.specs.Inputs.{file_at}
use Rattle.contract_cli.specs.Reading.{WereRead}
use Rattle.contract_cli.specs.Seen.{Edge, WritesAll}

-- a command has read its files, of which the first is a portfolio's, and written a text
pub record Ran (edge : Edge) (request : Request) (b : Book) (inputs : List (List ℕ)) (text : List ℕ) : Type 0 where
  pub read : WereRead edge.files.contents (files_of request) inputs
  pub spelled : Text (file_at inputs 0) b
  pub written : WritesAll edge.sink text
