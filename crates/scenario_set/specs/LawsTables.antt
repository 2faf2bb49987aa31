-- The laws of tables of scenarios. A table has one answer: it is refused at one record for one rule, or it holds one list of
-- scenarios, each with one value at each place that it fixes.
use Rattle.std.specs.Prelude.{◌≡◌, List}
use Rattle.term_model.specs.Declarations.{Declarations}
use Rattle.fixing_files.specs.Tables.{Table}
use Rattle.fixing_files.specs.declared.faults.RowFault.{RowFault}
use Rattle.scenario_set.specs.ScenarioTables.{HoldsScenarios, IsFirstFault}
use Rattle.scenario_set.specs.Scenarios.{NamedMap, SameScenarios}

abbrev pub ScenarioFaultsAreUnique : Type 0
ScenarioFaultsAreUnique =
    (d : Declarations) (table : Table) (one other : RowFault) → IsFirstFault d table one → IsFirstFault d table other → one ≡ other

abbrev pub FaultyTablesHoldNoScenarios : Type 0
FaultyTablesHoldNoScenarios =
    (d : Declarations) (table : Table) (fault : RowFault) (set : List NamedMap)
    → IsFirstFault d table fault → ¬ (HoldsScenarios d table set)

abbrev pub TablesHoldOneSet : Type 0
TablesHoldOneSet =
    (d : Declarations) (table : Table) (one other : List NamedMap)
    → HoldsScenarios d table one → HoldsScenarios d table other → SameScenarios one other
