-- What is gathered of the first contracts of the sample, one contract after another: how many flow lines they have, and for
-- each the table of what it pays over all days.
use Rattle.std.specs.Prelude.{◌≡◌, ◌≤◌, ◌*◌, ◌^◌, ℕ, pos, List, length}
use Rattle.flow_eval.specs.declared.flow_table.FlowTable.{FlowTable}
use Rattle.report.specs.SumTables.{AreSummable, AreTablesOf}
use Rattle.sample.specs.Summary.{CountsLines, paid_over_days}

pub record IsGathered (number lines : ℕ) (tables : List FlowTable) : Type 0 where
  pub counted : CountsLines number lines
  pub few : lines ≤ number * 2 ^ 64
  pub are_tables : AreTablesOf (paid_over_days number) (pos 0) (pos 0) tables
  pub summable : AreSummable tables
  pub as_many : length tables ≡ number
