-- What is answered of the fixings of a table, behind the contracts of a text.
use Rattle.std.specs.Prelude.{ℕ, List, Option, Result}
use Rattle.term_model.specs.Declarations.{declarations}
use Rattle.term_model.specs.Environments.{Environment}
use Rattle.contract_parse.specs.declared.next_contracts.ContractReader.{ContractReader}
use Rattle.command_courses.specs.FixingTables.{HoldsFixings, IsRowFault}
use Rattle.command_courses.specs.Stopping.{AnswersBy}
use Rattle.command_courses.specs.declared.stop.Stop.{Stop}
use Rattle.used_contracts.specs.ChoosingParts.{StopsIn, StopsOn, selection}
use Rattle.used_contracts.specs.ReadingParts.{IsBegun}
use Rattle.used_contracts.specs.declared.choice.Choice.{Choice}

-- the fixings of a table, or what stops a command behind the acceptance of the contracts of a text that is begun
abbrev pub AnswersFixingsOver : Choice → ContractReader → Option (List ℕ) → Result Environment Stop → Type 0
AnswersFixingsOver choice reader table r =
    let d = declarations choice.decls.now in
    (text : List ℕ) → IsBegun text d reader
    → AnswersBy (HoldsFixings d table) (StopsIn text d (λ b. StopsOn b (selection choice) (IsRowFault d table 2))) r
