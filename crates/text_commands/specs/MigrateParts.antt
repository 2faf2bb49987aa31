-- What the parts of `migrate` answer: the contracts that are read so far, printed in version 2.
use Rattle.std.specs.Prelude.{ℕ, List, Result}
use Rattle.std.specs.Global.{Vec}
use Rattle.term_model.specs.declared.name.Name.{Name}
use Rattle.term_model.specs.Declarations.{Declarations}
use Rattle.term_model.specs.Terms.{Contract}
use Rattle.contract_parse.specs.NextContracts.{IsReadTo}
use Rattle.contract_parse.specs.declared.next_contracts.ContractReader.{ContractReader}
use Rattle.contract_print.specs.Canon.{IsCanon}
use Rattle.contract_print.specs.Migrated.{migrated}
use Rattle.used_contracts.specs.ChoosingParts.{so_far}
use Rattle.text_commands.specs.MigrateCourse.{migrate_of_text}
use Rattle.used_contracts.specs.ReadingParts.{IsBegun}
use Rattle.command_courses.specs.Stopping.{GoesDone}
use Rattle.command_courses.specs.declared.stop.Stop.{Stop}

-- so many contracts of a text are read, and what is printed is their portfolio in version 2
pub record IsMigratedTo (text : List ℕ) (d : Declarations) (reader : ContractReader) (printed : List ℕ) : Type 0 where
  pub entries : List (Name × Contract)
  pub read : IsReadTo text d entries reader
  pub canon : IsCanon printed (migrated (so_far d entries))

-- whichever text is begun
abbrev pub AnswersMigrated : Declarations → ContractReader → Result (Vec ℕ) Stop → Type 0
AnswersMigrated d reader r = (text : List ℕ) → IsBegun text d reader → GoesDone (migrate_of_text text) r
