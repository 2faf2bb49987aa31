-- Flow tables of accepted contracts can be taken together: their amounts add up to little enough; and what comes of tables
-- stands on their days, is no more than they add up to, and has amounts that a line can say where theirs have.
use Rattle.std.specs.Prelude.{◌≡◌, ◌≤◌, ◌≤ℤ◌, ◌*◌, ◌^◌, ℤ, [], ◌∷◌, List, length, unsigned_abs}
use Rattle.std.specs.List.{All}
use Rattle.term_model.specs.Declarations.{Declarations}
use Rattle.term_model.specs.Terms.{Contract}
use Rattle.term_model.specs.Environments.{Environment, IsAdmitted}
use Rattle.term_model.specs.Bounds.{aligned_total}
use Rattle.term_model.specs.Acceptance.{IsAccepted}
use Rattle.interval_check.specs.Within.{KeepsLimits}
use Rattle.flow_eval.specs.Tables.{IsTable, paid_by}
use Rattle.flow_eval.specs.declared.flow_table.FlowRow.{FlowRow}
use Rattle.flow_eval.specs.declared.flow_table.FlowTable.{FlowTable}
use Rattle.report.specs.FlowLines.{HaveLines, IsWholeInAsset}
use Rattle.report.specs.RunningSums.{AreNetOf}
use Rattle.exposure.specs.declared.accounts.Account.{Account}
use Rattle.exposure.specs.declared.accounts.PositionRow.{PositionRow}
use Rattle.exposure.specs.Positions.{ArePositions, position, sizes_in, sizes_of}
use Rattle.exposure.specs.Settlement.{ArePaidInTurn, Settles}

-- the amounts of a table, over all its days, parties and assets, add up to at most the contract's total
abbrev pub TablesAddUp : Type 0
TablesAddUp =
    (d : Declarations) (c : Contract) (env : Environment) (first last : ℤ) (rows : List FlowRow)
    → KeepsLimits d → IsAccepted d c → IsAdmitted d env → IsTable (paid_by d c env first) first last rows
    → (sizes_in rows ≤ aligned_total d c []) × (sizes_in rows ≤ 10 ^ 27)

-- so those of many tables add up to at most so much for each
abbrev pub ManyTablesAddUp : Type 0
ManyTablesAddUp =
    (tables : List FlowTable)
    → All (λ table. sizes_in table.rows.items ≤ 10 ^ 27) tables → sizes_of tables ≤ length tables * 10 ^ 27

-- on a day from the first to the last
abbrev pub IsDuring : ℤ → ℤ → ℤ → Type 0
IsDuring first last day = (first ≤ℤ day) × (day ≤ℤ last)

abbrev pub AreDuring : ℤ → ℤ → List FlowTable → Type 0
AreDuring first last tables = All (λ table. All (λ row. IsDuring first last row.day) table.rows.items) tables

-- positions, and rows that settle, stand on days of the tables
abbrev pub PositionsStandInTime : Type 0
PositionsStandInTime =
    (tables : List FlowTable) (rows : List PositionRow) (first last : ℤ)
    → AreDuring first last tables → ArePositions tables rows → All (λ row. IsDuring first last row.day) rows

abbrev pub SettledStandInTime : Type 0
SettledStandInTime =
    (tables : List FlowTable) (rows : List FlowRow) (first last : ℤ)
    → AreDuring first last tables → Settles tables rows → All (λ row. IsDuring first last row.day) rows

-- no payment of rows that settle in turn is more than the tables add up to
abbrev pub SettledAreWithin : Type 0
SettledAreWithin =
    (tables : List FlowTable) (rows : List FlowRow)
    → ArePaidInTurn tables rows → All (λ row. unsigned_abs row.amount ≤ sizes_of tables) rows

-- nor is a position
abbrev pub PositionsAreWithin : Type 0
PositionsAreWithin =
    (tables : List FlowTable) (rows : List PositionRow)
    → ArePositions tables rows → All (λ row. unsigned_abs row.amount ≤ sizes_of tables) rows

-- each amount of tables is a whole number at its asset's decimals
abbrev pub AreWholeInAssets : Declarations → List FlowTable → Type 0
AreWholeInAssets d tables = All (λ table. HaveLines d table.rows.items) tables

-- so is each position
abbrev pub PositionsAreWhole : Type 0
PositionsAreWhole =
    (d : Declarations) (tables : List FlowTable) (rows : List PositionRow)
    → AreWholeInAssets d tables → ArePositions tables rows → All (λ row. IsWholeInAsset d row.asset row.amount) rows

-- and each payment that settles in turn
abbrev pub SettledAreWhole : Type 0
SettledAreWhole =
    (d : Declarations) (tables : List FlowTable) (rows : List FlowRow)
    → AreWholeInAssets d tables → ArePaidInTurn tables rows → HaveLines d rows

-- the net of tables leaves each account where the tables do
abbrev pub NetsLeavePositions : Type 0
NetsLeavePositions =
    (tables : List FlowTable) (net : FlowTable) (x : Account)
    → AreNetOf tables net.rows.items → position (net ∷ []) x ≡ position tables x

-- and its amounts add up to no more
abbrev pub NetsAddUpToNoMore : Type 0
NetsAddUpToNoMore =
    (tables : List FlowTable) (net : FlowTable)
    → AreNetOf tables net.rows.items → sizes_of (net ∷ []) ≤ sizes_of tables
