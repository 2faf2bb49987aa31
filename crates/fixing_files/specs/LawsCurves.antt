-- The laws of tables of discount factors. A table has one answer: it is refused at one record for one rule, or it holds one
-- curve.
use Rattle.std.specs.Prelude.{◌≡◌, ◌⊎◌, List}
use Rattle.term_model.specs.Factors.{CurveRow}
use Rattle.fixing_files.specs.CurveTables.{HoldsCurve, IsFirstCurveFault}
use Rattle.fixing_files.specs.Tables.{Table}
use Rattle.fixing_files.specs.declared.faults.RowFault.{RowFault}

-- each table holds a curve or has a first record that breaks a rule
abbrev pub CurveTablesAreAnswered : Type 0
CurveTablesAreAnswered =
    (table : Table) → ((rows : List CurveRow) × HoldsCurve table rows) ⊎ ((fault : RowFault) × IsFirstCurveFault table fault)

abbrev pub CurveFaultsAreUnique : Type 0
CurveFaultsAreUnique =
    (table : Table) (one other : RowFault) → IsFirstCurveFault table one → IsFirstCurveFault table other → one ≡ other

abbrev pub FaultyTablesHoldNoCurve : Type 0
FaultyTablesHoldNoCurve =
    (table : Table) (fault : RowFault) (rows : List CurveRow) → IsFirstCurveFault table fault → ¬ (HoldsCurve table rows)

abbrev pub TablesHoldOneCurve : Type 0
TablesHoldOneCurve = (table : Table) (one other : List CurveRow) → HoldsCurve table one → HoldsCurve table other → one ≡ other
