-- Laws of what `positions` and `settle` print of a portfolio. On each day, in each asset, the positions that are printed add up to
-- 0. The payments that are printed leave each party where the flows of all contracts leave it, in the form of a flow table, and on
-- each day, in each asset, they are at least one fewer than the parties that come to something there. So what `settle` prints
-- settles what `positions` prints of the same files.
use Rattle.std.specs.Prelude.{◌≡◌, ◌≤◌, ◌-◌, ◌==◌, ◌&&◌, ℕ, ℤ, pos, Bool, List, None, codes}
use Rattle.std.specs.List.{All, Contains, count_by}
use Rattle.std.specs.Ordering.{int_eq}
use Rattle.term_model.specs.Books.{Book}
use Rattle.term_model.specs.Environments.{Environment}
use Rattle.flow_eval.specs.declared.flow_table.FlowRow.{FlowRow}
use Rattle.flow_eval.specs.declared.flow_table.FlowTable.{FlowTable}
use Rattle.exposure.specs.declared.accounts.Account.{Account}
use Rattle.exposure.specs.declared.accounts.PositionRow.{PositionRow}
use Rattle.exposure.specs.Positions.{ArePositions, account_of, day_sum, is_on, position_in, row_for}
use Rattle.exposure.specs.Settlement.{ArePaidInTurn, Settles}
use Rattle.command_words.specs.Commands.{NettingAsked, Positions, Request, Settle}
use Rattle.command_courses.specs.Inputs.{table_if_named}
use Rattle.command_courses.specs.FixingTables.{AreFixings}
use Rattle.flow_commands.specs.FlowsPromise.{AreLines, AreTables, IsLastDay}
use Rattle.flow_commands.specs.NettingPromise.{ArePositionLines}
use Rattle.used_contracts.specs.AllAccepted.{AreAllAccepted}
use Rattle.used_contracts.specs.UsedContracts.{used}
use Rattle.command_courses.specs.declared.status.Status.TheVariants as status
use Rattle.contract_cli.specs.Ran.{Ran}
use Rattle.contract_cli.specs.RunLaws.{IsReadWhole}
use Rattle.contract_cli.specs.RunPromise.{Meets, Names}
use Rattle.contract_cli.specs.Seen.{Edge}

-- the flow tables of all contracts of a portfolio, which are accepted, over the fixings and to the last day that are asked for
pub record AreTablesOfAll (asked : NettingAsked) (inputs : List (List ℕ)) (b : Book) (tables : List FlowTable) : Type 0 where
  pub last : ℤ
  pub is_last : IsLastDay b.declarations asked.until last
  pub accepted : AreAllAccepted b.declarations (used None b)
  pub fixings : Environment
  pub are_fixings : AreFixings b.declarations (table_if_named asked.fixings inputs) fixings
  pub are_tables : AreTables b.declarations fixings last (used None b) tables

-- a run has read these tables, and written a text
pub record HasTables (edge : Edge) (request : Request) (asked : NettingAsked) : Type 0 where
  pub book : Book
  pub inputs : List (List ℕ)
  pub text : List ℕ
  pub ran : Ran edge request book inputs text
  pub tables : List FlowTable
  pub known : AreTablesOfAll asked inputs book tables

-- ---- payments and positions

-- payments bring each party to its position: each position is what its party comes to by the payments, and each party that
-- comes to something by them has its position
pub record BringToPositions (payments : List FlowRow) (rows : List PositionRow) : Type 0 where
  pub each : All (λ row. row.amount ≡ position_in payments (account_of row)) rows
  pub whole : (x : Account) → (position_in payments x ≡ pos 0 → ⊥) → Contains rows (row_for x (position_in payments x))

-- a position on a day, in an asset
abbrev pub stands_on : ℤ → ℕ → PositionRow → Bool
stands_on n a row = int_eq row.day n && (row.asset == a)

-- on each day, in each asset, there are fewer payments than positions, or none of either
abbrev pub AreFewer : List FlowRow → List PositionRow → Type 0
AreFewer payments rows = (n : ℤ) (a : ℕ) → count_by (is_on n a) payments ≤ count_by (stands_on n a) rows - 1

-- ---- `positions`

-- the lines that `positions` has written are those of the positions, which add up to 0 on each day in each asset
pub record HasPositions (edge : Edge) (asked : NettingAsked) : Type 0 where
  pub of : HasTables edge (Positions asked) asked
  pub rows : List PositionRow
  pub lines : ArePositionLines of.book.declarations rows of.text
  pub positions : ArePositions of.tables rows
  pub balanced : (n : ℤ) (a : ℕ) → day_sum n a rows ≡ pos 0

abbrev pub PrintedPositionsBalance : Type 0
PrintedPositionsBalance =
    (words : List (List ℕ)) (edge : Edge) (asked : NettingAsked)
    → Names words (Positions asked) → Meets words edge status.Done → HasPositions edge asked

-- ---- `settle`

-- the lines that `settle` has written are those of payments in turn that settle the tables: they bring each party to its position,
-- whatever list of positions is that of the tables, and are fewer
pub record HasSettled (edge : Edge) (asked : NettingAsked) : Type 0 where
  pub of : HasTables edge (Settle asked) asked
  pub rows : List FlowRow
  pub lines : AreLines of.book.declarations (codes "*") rows of.text
  pub settles : Settles of.tables rows
  pub in_turn : ArePaidInTurn of.tables rows
  pub bring : (positions : List PositionRow) → ArePositions of.tables positions → BringToPositions rows positions
  pub fewer : (positions : List PositionRow) → ArePositions of.tables positions → AreFewer rows positions

abbrev pub PrintedSettlementsSettle : Type 0
PrintedSettlementsSettle =
    (words : List (List ℕ)) (edge : Edge) (asked : NettingAsked)
    → Names words (Settle asked) → Meets words edge status.Done → HasSettled edge asked

-- ---- `positions` and `settle`, of the same files

pub record SettlesPrinted (first second : Edge) (asked : NettingAsked) : Type 0 where
  pub netted : HasPositions first asked
  pub settled : HasSettled second asked
  pub bring : BringToPositions settled.rows netted.rows
  pub fewer : AreFewer settled.rows netted.rows

abbrev pub SettlementsSettlePositions : Type 0
SettlementsSettlePositions =
    (words more : List (List ℕ)) (first second : Edge) (asked : NettingAsked) (inputs : List (List ℕ))
    → IsReadWhole words first (Positions asked) inputs → Meets words first status.Done
    → IsReadWhole more second (Settle asked) inputs → Meets more second status.Done
    → SettlesPrinted first second asked
