-- A code file by its contents: declarations, a name and code. Where maps and boxes lie in memory is left out, so two files
-- with equal contents are equal here.
use Rattle.term_model.specs.declared.name.Name.{Name}
use Rattle.term_model.specs.Declarations.{Declarations, declarations}
use Rattle.payoff_terms.specs.declared.code_file.CodeFile.{CodeFile}
use Rattle.payoff_terms.specs.Code.{PayoffCode, payoff_code}

pub record CodeBook : Type 0 where
  pub declarations : Declarations
  pub name : Name
  pub code : PayoffCode

-- what the program's code file stands for
abbrev pub code_book : CodeFile → CodeBook
code_book file = record { declarations = declarations file.decls; name = file.name; code = payoff_code file.code }
