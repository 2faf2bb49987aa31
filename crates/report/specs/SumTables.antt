-- The sum of flow tables: where each table is that of what something pays, the rows are the table of what they pay
-- together: a row for each day, asset and two parties between whom the sum is not 0, in the direction in which it is above 0.
use Rattle.std.specs.Prelude.{ℤ, pos, ◌+ℤ◌, ◌≤◌, ◌^◌, unsigned_abs, map, List, [], ◌∷◌, ◌++◌}
use Rattle.std.specs.List.{All}
use Rattle.term_model.specs.Flows.{Flow}
use Rattle.flow_eval.specs.Payments.{payment_on}
use Rattle.flow_eval.specs.Tables.{AreOrdered, IsDueRow, IsTable, IsMutual}
use Rattle.flow_eval.specs.declared.flow_table.FlowRow.{FlowRow}
use Rattle.flow_eval.specs.declared.flow_table.FlowTable.{FlowTable}
use Rattle.flow_eval.specs.declared.payments.Payment.{Payment}

-- what all of them pay on a day from one party to another in an asset
abbrev pub together : List (ℤ → Flow → ℤ) → ℤ → Flow → ℤ
together [] day w = pos 0
together (pays ∷ others) day w = pays day w +ℤ together others day w

-- the tables are those of what these pay, one after another, from a first to a last day
abbrev pub AreTablesOf : List (ℤ → Flow → ℤ) → ℤ → ℤ → List FlowTable → Type 0
AreTablesOf [] first last [] = Unit {0}
AreTablesOf (pays ∷ others) first last (table ∷ tables) =
    IsMutual pays × IsTable pays first last table.rows.items × AreTablesOf others first last tables
AreTablesOf _ first last _ = ⊥

-- the rows are those of the sum of tables, whatever the tables are those of
abbrev pub IsSumOf : List FlowTable → List FlowRow → Type 0
IsSumOf tables rows =
    (all : List (ℤ → Flow → ℤ)) (first last : ℤ)
    → AreTablesOf all first last tables → IsTable (together all) first last rows × All (IsDueRow first last) rows

-- an amount that can be summed with those of as many tables as there may be
abbrev pub HasSmallAmount : FlowRow → Type 0
HasSmallAmount row = unsigned_abs row.amount ≤ 10 ^ 27

-- rows in the order of a flow table, with amounts that can be summed
pub record IsSummable (rows : List FlowRow) : Type 0 where
  pub ordered : AreOrdered rows
  pub small : All (λ row. HasSmallAmount row) rows

abbrev pub AreSummable : List FlowTable → Type 0
AreSummable tables = All (λ table. IsSummable table.rows.items) tables

-- what a row says, as a payment from the lower party to the higher one
abbrev pub payment_of : FlowRow → Payment
payment_of row = payment_on row.day (record { asset = row.asset; from = row.from; to = row.to }) row.amount

-- the payments of tables, one table after another
abbrev pub payments_of : List FlowTable → List Payment
payments_of [] = []
payments_of (table ∷ tables) = map payment_of table.rows.items ++ payments_of tables
