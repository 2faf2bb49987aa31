-- The tables of the flows of contracts leave each party at one position, so one text tells what parties come to, and one what settles
-- it.
use Rattle.std.proofs.Common.{◌≡◌, ◌∙◌, ◌-◌, ◌+ℤ◌, ℕ, ℤ, List, [], ◌∷◌, ◌++◌, ap, ap₂, refl, subst, sym}
use Rattle.std.specs.Prelude.{Option, None, codes}
use Rattle.std.specs.List.{Contains, filter}
use Rattle.std.proofs.Math.Path.{fun_ext}
use Rattle.std.proofs.lemmas.List.Elements.{All-weaker}
use Rattle.term_model.specs.declared.name.Name.{Name}
use Rattle.term_model.specs.Books.{Book}
use Rattle.term_model.specs.Declarations.{Declarations, decimals_of}
use Rattle.term_model.specs.Environments.{Environment}
use Rattle.term_model.specs.Terms.{Contract}
use Rattle.flow_eval.specs.declared.flow_table.FlowRow.{FlowRow}
use Rattle.flow_eval.specs.declared.flow_table.FlowTable.{FlowTable}
use Rattle.exposure.specs.declared.accounts.Account.{Account}
use Rattle.exposure.specs.declared.accounts.PositionRow.{PositionRow}
use Rattle.exposure.specs.PositionLines.{IsPositionLine, line_with}
use Rattle.exposure.specs.Positions.{ArePositions, IsPosition, account_of, is_on, position, position_in, row_for}
use Rattle.exposure.specs.Settlement.{ArePaidInTurn, PayInTurn, account}
use Rattle.exposure.proofs.OneFacts.{positions_are_one, settlements_are_one}
use Rattle.command_words.specs.Commands.{NettingAsked}
use Rattle.command_courses.specs.Course.{Tells}
use Rattle.command_courses.specs.FixingTables.{AreFixings}
use Rattle.flow_commands.specs.FlowsPromise.{AreLines, AreTables, IsLastDay}
use Rattle.flow_commands.specs.NettingCourse.{netting_on}
use Rattle.flow_commands.specs.NettingPromise.{ArePositionLines, TellsPositions, TellsSettlement}
use Rattle.used_contracts.specs.UsedContracts.{used}
use Rattle.command_courses.specs.declared.status.Status.{Status}
use Rattle.command_courses.proofs.FixingFacts.{HoldSame, hold_same}
use Rattle.used_contracts.proofs.OneLine.{one_amount, one_day_text, one_table}
use Rattle.flow_commands.proofs.LastDayFacts.{one_last}
use Rattle.flow_commands.proofs.FlowsAreOne.{one_lines}

-- ---- the same tables

module _ (d : Declarations) (last : ℤ) (one other : Environment) (same : HoldSame one other) where
  same_position : (x : Account) (entries : List (Name × Contract)) (tables more : List FlowTable)
      → AreTables d one last entries tables → AreTables d other last entries more → position tables x ≡ position more x
  same_position x [] [] [] h k = refl
  same_position x [] [] (m ∷ more) h k = absurd k
  same_position x [] (t ∷ tables) more h k = absurd h
  same_position x (entry ∷ entries) [] more h k = absurd h
  same_position x (entry ∷ entries) (t ∷ tables) [] h k = absurd k
  same_position x (entry ∷ entries) (t ∷ tables) (m ∷ more) h k =
      ap₂ (λ (a b : ℤ). a +ℤ b) (ap (λ (rows : List FlowRow). position_in rows x) (one_table d last one other same entry.1 t.rows.items m.rows.items h.0 k.0))
      (same_position x entries tables more h.1 k.1)

-- tables that leave each party at the same position
abbrev pub LeaveSame : List FlowTable → List FlowTable → Type 0
LeaveSame tables more = (x : Account) → position tables x ≡ position more x

-- so the tables of all contracts of a portfolio, over the fixings of one table to one last day
pub same_tables : (b : Book) (until table : Option (List ℕ)) (last end : ℤ) (fixings others : Environment) (tables more : List FlowTable)
    → IsLastDay b.declarations until last → IsLastDay b.declarations until end → AreFixings b.declarations table fixings → AreFixings b.declarations table others
    → AreTables b.declarations fixings last (used None b) tables → AreTables b.declarations others end (used None b) more → LeaveSame tables more
same_tables b until table last end fixings others tables more is was are were h k x =
    let d = b.declarations in
    let there = subst (λ (day : ℤ). AreTables d others day (used None b) more) (one_last d until end last was is) k in
    same_position d last fixings others (hold_same d table fixings others are were) x (used None b) tables more h there

pub same_positions : (tables more : List FlowTable) (rows : List PositionRow) → LeaveSame tables more → ArePositions tables rows → ArePositions more rows
same_positions tables more rows same h = record {
  ordered = h.ordered;
  right = All-weaker (IsPosition tables) (IsPosition more) (λ row is. record { exact = is.exact ∙ same (account_of row); some = is.some }) rows h.right;
  whole = λ x some. subst (λ (amount : ℤ). Contains rows (row_for x amount)) (same x) (h.whole x (λ none. some (sym (same x) ∙ none)));
  balanced = h.balanced;
}

same_turns : (tables more : List FlowTable) (rows : List FlowRow) → LeaveSame tables more → ArePaidInTurn tables rows → ArePaidInTurn more rows
same_turns tables more rows same h n a =
    subst (λ (due : ℕ → ℤ). PayInTurn due (filter (is_on n a) rows)) (fun_ext (λ (p : ℕ). same (account n a p))) (h n a)

-- ---- the same lines

one_position_line : (d : Declarations) (row : PositionRow) (t u : List ℕ) → IsPositionLine d row t → IsPositionLine d row u → t ≡ u
one_position_line d row t u h k =
    let days = one_day_text d.origin row.day h.day k.day h.is_day k.is_day in
    let amounts = one_amount row.amount h.amount k.amount (d.amounts - decimals_of d row.asset) h.is_amount k.is_amount in
    h.is_line ∙ ap (λ (day : List ℕ). line_with d day row h.amount) days ∙ ap (λ (amount : ℤ). line_with d k.day row amount) amounts ∙ sym k.is_line

one_position_lines : (d : Declarations) (rows : List PositionRow) (t u : List ℕ) → ArePositionLines d rows t → ArePositionLines d rows u → t ≡ u
one_position_lines d [] t u h k = h ∙ sym k
one_position_lines d (row ∷ rows) t u h k =
    h.4 ∙ ap (λ (x : List ℕ). x ++ h.1) (one_position_line d row h.0 k.0 h.2 k.2) ∙ ap (λ (x : List ℕ). k.0 ++ x) (one_position_lines d rows h.1 k.1 h.3 k.3) ∙ sym k.4

-- what is told of tables is one text
abbrev pub TellsOneText : (Declarations → List FlowTable → List ℕ → Type 0) → Type 0
TellsOneText TellsOf =
    (d : Declarations) (tables more : List FlowTable) (one other : List ℕ) → LeaveSame tables more → TellsOf d tables one → TellsOf d more other → one ≡ other

pub one_text_of_positions : TellsOneText TellsPositions
one_text_of_positions d tables more one other same h k =
    let rows = positions_are_one more h.rows k.rows (same_positions tables more h.rows same h.positions) k.positions in
    one_position_lines d k.rows one other (subst (λ (xs : List PositionRow). ArePositionLines d xs one) rows h.lines) k.lines

pub one_text_of_settlement : TellsOneText TellsSettlement
one_text_of_settlement d tables more one other same h k =
    let rows = settlements_are_one more h.rows k.rows h.settles.form.ordered k.settles.form.ordered (same_turns tables more h.rows same h.in_turn) k.in_turn in
    one_lines d (codes "*") k.rows one other (subst (λ (xs : List FlowRow). AreLines d (codes "*") xs one) rows h.lines) k.lines

-- ---- of a portfolio

pub told_of_netting : (TellsOf : Declarations → List FlowTable → List ℕ → Type 0) → TellsOneText TellsOf
    → (asked : NettingAsked) (b : Book) (table : Option (List ℕ)) (s t : Status) (one other : List ℕ)
    → Tells (netting_on TellsOf asked b table) s one → Tells (netting_on TellsOf asked b table) t other → one ≡ other
told_of_netting TellsOf single asked b table s t one other (a, known, (last, is, (c, all, (fixings, are, (e, fixed, (done, told))))))
    (x, knows, (end, was, (y, each, (others, were, (z, fixes, (ended, more)))))) =
    single b.declarations told.tables more.tables one other
    (same_tables b asked.until table last end fixings others told.tables more.tables is was are were told.are_tables more.are_tables) told.told more.told
