-- What `positions` and `settle` say of a portfolio over fixings: from the flow tables of all its contracts, at the numbers that the
-- templates are declared with, a line for each party, day and asset of what the party comes to; or a line for each payment of
-- a table that settles this, under the name *.
use Rattle.std.specs.Prelude.{◌≡◌, ℕ, ℤ, List, [], ◌∷◌, ◌++◌, codes}
use Rattle.term_model.specs.declared.name.Name.{Name}
use Rattle.term_model.specs.Declarations.{Declarations}
use Rattle.term_model.specs.Environments.{Environment}
use Rattle.term_model.specs.Terms.{Contract}
use Rattle.flow_eval.specs.declared.flow_table.FlowRow.{FlowRow}
use Rattle.flow_eval.specs.declared.flow_table.FlowTable.{FlowTable}
use Rattle.exposure.specs.declared.accounts.PositionRow.{PositionRow}
use Rattle.exposure.specs.PositionLines.{IsPositionLine}
use Rattle.exposure.specs.Positions.{ArePositions}
use Rattle.exposure.specs.Settlement.{ArePaidInTurn, Settles}
use Rattle.flow_commands.specs.FlowsPromise.{AreLines, AreTables}

-- a line for each position
abbrev pub ArePositionLines : Declarations → List PositionRow → List ℕ → Type 0
ArePositionLines d [] text = text ≡ []
ArePositionLines d (row ∷ rows) text =
    (line : List ℕ) × (rest : List ℕ) × IsPositionLine d row line × ArePositionLines d rows rest × (text ≡ line ++ rest)

-- the lines of what parties come to by tables
pub record TellsPositions (d : Declarations) (tables : List FlowTable) (text : List ℕ) : Type 0 where
  pub rows : List PositionRow
  pub positions : ArePositions tables rows
  pub lines : ArePositionLines d rows text

-- the lines of payments in turn that settle it, under the name *
pub record TellsSettlement (d : Declarations) (tables : List FlowTable) (text : List ℕ) : Type 0 where
  pub rows : List FlowRow
  pub settles : Settles tables rows
  pub in_turn : ArePaidInTurn tables rows
  pub lines : AreLines d (codes "*") rows text

-- what a text tells of the flow tables of contracts
pub record IsToldOfTables (TellsOf : Declarations → List FlowTable → List ℕ → Type 0)
    (d : Declarations) (fixings : Environment) (last : ℤ) (entries : List (Name × Contract)) (text : List ℕ) : Type 0 where
  pub tables : List FlowTable
  pub are_tables : AreTables d fixings last entries tables
  pub told : TellsOf d tables text
