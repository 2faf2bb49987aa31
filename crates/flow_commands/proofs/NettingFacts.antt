-- The flow tables of accepted contracts can be added up, and lines can hold what comes of them.
use Rattle.std.proofs.Common.{◌≡◌, ◌∙◌, ◌<◌, ◌≤◌, ◌≤ℤ◌, ◌^◌, ℕ, ℤ, pos, List, [], ◌∷◌, ◌++◌, length, append_assoc, ap, arith, get_or, refl, subst, sym, true}
use Rattle.std.specs.Prelude.{All, Option, None, Result, Err, IsErrAnd}
use Rattle.std.specs.Global.{Vec}
use Rattle.std.proofs.lemmas.List.Elements.{All-cons, All-head, All-nil, All-tail, All-weaker}
use Rattle.term_model.specs.declared.decls.Decls.{Decls}
use Rattle.term_model.specs.declared.name.Name.{Name}
use Rattle.term_model.specs.Books.{Book}
use Rattle.term_model.specs.Declarations.{Declarations, declarations}
use Rattle.term_model.specs.Environments.{Environment, IsAdmitted}
use Rattle.term_model.specs.Terms.{Contract}
use Rattle.term_model.specs.Acceptance.{IsAccepted}
use Rattle.term_model.specs.Limits.{longest_file}
use Rattle.interval_check.specs.Within.{KeepsLimits}
use Rattle.flow_eval.specs.Readiness.{last_day}
use Rattle.flow_eval.specs.FlowAnswers.{AreKnownFlows}
use Rattle.flow_eval.specs.Tables.{IsDueRow}
use Rattle.flow_eval.specs.declared.flow_table.FlowRow.{FlowRow}
use Rattle.flow_eval.specs.declared.flow_table.FlowTable.{FlowTable}
use Rattle.report.specs.FlowLines.{HaveLines, IsWholeInAsset}
use Rattle.report.specs.RunningSums.{AreNetOf}
use Rattle.exposure.specs.declared.accounts.PositionRow.{PositionRow}
use Rattle.exposure.specs.LawsTables.{IsDuring}
use Rattle.exposure.specs.PositionLines.{AppendsPositionLine, IsPositionLine}
use Rattle.exposure.specs.Positions.{ArePositions, CanBeAddedUp, sizes_in}
use Rattle.exposure.specs.Settlement.{ArePaidInTurn, Settles}
use Rattle.exposure.proofs.TableSums.{many_tables_add_up, positions_are_within, positions_stand_in_time, settled_are_within, settled_stand_in_time, tables_add_up}
use Rattle.exposure.proofs.NetFacts.{nets_add_up_to_no_more, nets_leave_positions}
use Rattle.exposure.proofs.WholeFacts.{positions_are_whole, settled_are_whole}
use Rattle.used_contracts.specs.AllAccepted.{AreAllAccepted}
use Rattle.command_courses.specs.Course.{Stops, Tells}
use Rattle.used_contracts.specs.ChoosingParts.{Selection, StopsIn, selection, so_far}
use Rattle.flow_commands.specs.FlowsCourse.{flows_of_text}
use Rattle.flow_commands.specs.FlowsParts.{CanBeLast, IsSumOfFlows, PassesOf, StopsFlows, of_flows}
use Rattle.command_courses.specs.Inputs.{file_at, table_if_named}
use Rattle.command_courses.specs.FixingTables.{HoldsFixings}
use Rattle.command_courses.specs.FixingTables.{AreFixings}
use Rattle.flow_commands.specs.FlowsPromise.{AreTables, IsLastDay}
use Rattle.flow_commands.specs.NettingCourse.{flows_of_all, netting_of_text}
use Rattle.flow_commands.specs.NettingParts.{AnswersNetOfText, AppendsPositions, AreReady, IsDuePosition, KnowsNet, ListsNet, TablesKnown}
use Rattle.flow_commands.specs.NettingPromise.{ArePositionLines, IsToldOfTables}
use Rattle.command_courses.specs.Stopping.{AnswersBy, GoesDone}
use Rattle.command_words.specs.Commands.{NettingAsked}
use Rattle.used_contracts.specs.UsedContracts.{used}
use Rattle.flow_commands.specs.declared.flows_until.FlowsUntil.{FlowsUntil}
use Rattle.command_courses.specs.declared.status.Status.TheVariants as status
use Rattle.command_courses.specs.declared.stop.Stop.{Stop}
use Rattle.flow_commands.proofs.FlowsStops.{is_summed, stops_flows}
use Rattle.flow_commands.proofs.NettingAreOne.{same_positions}
use Rattle.used_contracts.proofs.LineFacts.{none_and, rows_have_lines, rows_writable, some_and}
use Rattle.command_courses.proofs.StopFacts.{answers_too, handed_on}
use Rattle.flow_commands.proofs.SumLineFacts.{all_fixed, as_many}
use Rattle.used_contracts.proofs.UsedFacts.{contracts_few, used_few}

-- ---- one more line

lines_more : (d : Declarations) (rows : List PositionRow) (text : List ℕ) (row : PositionRow) (line : List ℕ)
    → ArePositionLines d rows text → IsPositionLine d row line → ArePositionLines d (rows ++ row ∷ []) (text ++ line)
lines_more d [] text row line none is = (line, [], is, refl, none_and text line none)
lines_more d (r ∷ rows) text row line some is =
    (some.0, some.1 ++ line, some.2, lines_more d rows some.1 row line some.3 is, some_and text some.0 some.1 line some.4)

pub appends_position : (d : Declarations) (rows : List PositionRow) (row : PositionRow) (before middle after : List ℕ)
    → AppendsPositions d rows before middle → AppendsPositionLine d row middle after → AppendsPositions d (rows ++ row ∷ []) before after
appends_position d rows row before middle after some more = record {
  text = some.text ++ more.line;
  lines = lines_more d rows some.text row more.line some.lines more.is_line;
  appended = more.appended ∙ ap (λ (t : List ℕ). t ++ more.line) some.appended ∙ append_assoc before some.text more.line;
}

pub position_whole : (d : Declarations) (rows seen : List PositionRow) (i : ℕ) (none : PositionRow)
    → All (IsDuePosition d) rows → seen ≡ rows → i < length rows → IsWholeInAsset d (get_or seen i none).asset (get_or seen i none).amount
position_whole d rows seen i none due same within =
    subst (λ (xs : List PositionRow). IsWholeInAsset d (get_or xs i none).asset (get_or xs i none).amount) (sym same) (due i none within).whole

-- ---- tables that are ready

module _ (d : Declarations) (fixings : Environment) (last : ℤ) (limits : KeepsLimits d) (admitted : IsAdmitted d fixings) where
  abbrev AddsUp : FlowTable → Type 0
  AddsUp table = sizes_in table.rows.items ≤ 10 ^ 27

  abbrev IsTimely : FlowTable → Type 0
  IsTimely table = All (λ row. IsDuring (pos 0) (pos last_day) row.day) table.rows.items

  abbrev IsWhole : FlowTable → Type 0
  IsWhole table = HaveLines d table.rows.items

  one_adds_up : (c : Contract) (rows : List FlowRow) → IsAccepted d c → AreKnownFlows d c fixings (pos d.start) last rows → sizes_in rows ≤ 10 ^ 27
  one_adds_up c rows accepted known =
      (tables_add_up d c fixings (pos d.start) last rows limits accepted admitted (known.table fixings (λ q v e. e))).1

  one_timely : last ≤ℤ pos last_day → (c : Contract) (table : FlowTable) → AreKnownFlows d c fixings (pos d.start) last table.rows.items → IsTimely table
  one_timely h c table known =
      All-weaker (IsDueRow (pos 0) (pos last_day)) (λ (row : FlowRow). IsDuring (pos 0) (pos last_day) row.day) (λ row due. (due.0, due.1)) table.rows.items
      (rows_writable d.start last table.rows.items h known.due)

  -- what holds of the table of each accepted contract holds of all
  of_each : (P : FlowTable → Type 0) → ((c : Contract) (table : FlowTable) → IsAccepted d c → AreKnownFlows d c fixings (pos d.start) last table.rows.items → P table)
      → (entries : List (Name × Contract)) (tables : List FlowTable) → AreAllAccepted d entries → AreTables d fixings last entries tables → All P tables
  of_each P each [] [] all h = All-nil P
  of_each P each [] (table ∷ tables) all h = absurd h
  of_each P each (entry ∷ entries) [] all h = absurd h
  of_each P each (entry ∷ entries) (table ∷ tables) all h =
      let A : Name × Contract → Type 0 = λ e. IsAccepted d e.1 in
      All-cons P table tables (each entry.1 table (All-head A entry entries all) h.0) (of_each P each entries tables (All-tail A entry entries all) h.1)

  pub tables_ready : last ≤ℤ pos last_day → (entries : List (Name × Contract)) (tables : List FlowTable) → length entries ≤ longest_file → AreAllAccepted d entries
      → AreTables d fixings last entries tables → AreReady d tables
  tables_ready h entries tables few all k =
      let many = many_tables_add_up tables (of_each AddsUp (λ c table accepted known. one_adds_up c table.rows.items accepted known) entries tables all k) in
      let same = as_many d fixings last limits admitted entries tables k in
      record {
        together = omega arith;
        during = of_each IsTimely (λ c table accepted known. one_timely h c table known) entries tables all k;
        whole = of_each IsWhole (λ c table accepted known. rows_have_lines d c fixings (pos d.start) last table.rows.items accepted known) entries tables all k;
      }

-- the tables of all contracts
pub tables_known : (asked : NettingAsked) (b : Book) (table : Option (List ℕ)) (last : ℤ) → IsLastDay b.declarations asked.until last → last ≤ℤ pos last_day
    → length b.contracts ≤ longest_file → AreAllAccepted b.declarations (used None b) → (fixings : Environment) → AreFixings b.declarations table fixings
    → KeepsLimits b.declarations → IsAdmitted b.declarations fixings → (tables : List FlowTable)
    → AreTables b.declarations fixings last (used None b) tables → TablesKnown asked b table tables
tables_known asked b table last is_last within few all fixings are limits admitted tables found =
    let d = b.declarations in
    let fewer : length (used None b) ≤ length b.contracts = used_few None d b.contracts in
    record {
      last = last;
      is_last = is_last;
      accepted = all;
      fixings = fixings;
      are_fixings = are;
      fixed = all_fixed d fixings last limits admitted (used None b) tables found;
      are_tables = found;
      ready = tables_ready d fixings last limits admitted within (used None b) tables (omega arith) all found;
    }

-- the same of the flows of all contracts of a text
module _ (asked : NettingAsked) (text : List ℕ) (table : Option (List ℕ)) (until : FlowsUntil) (all : selection until.choice ≡ of_flows (flows_of_all asked))
    (last : CanBeLast (declarations until.choice.decls.now) asked.until until.last) (fixings : HoldsFixings (declarations until.choice.decls.now) table until.fixings.now) where
  abbrev of : Declarations
  of = declarations until.choice.decls.now

  knows_net : (limits : KeepsLimits of) → length text ≤ longest_file → until.summed ≡ true → (net : FlowTable) → ListsNet text until net
      → KnowsNet asked text table of net
  knows_net limits short summed net k =
      let h = k.lists in
      let b = so_far of h.entries in
      let passes = subst (λ (s : Selection). PassesOf s until b) all h.passes in
      let sum = subst (λ (s : Selection). IsSumOfFlows of until.fixings.now until.last (used s.only b) k.listed.sum) all (is_summed text until k.listed h summed) in
      record {
        entries = h.entries;
        is_text = h.is_text;
        tables = sum.tables;
        known = tables_known asked b table until.last last.is_last last.within (contracts_few text b h.is_text short) passes.accepted until.fixings.now fixings.are_fixings
            limits fixings.admitted sum.tables sum.are_tables;
        is_net = (k.told sum.tables sum.is_sum).1;
      }

  pub net_of_lists : (limits : KeepsLimits of) → length text ≤ longest_file → until.summed ≡ true → (r : Result FlowTable Stop)
      → AnswersBy (ListsNet text until) (StopsIn text of (StopsFlows until)) r
      → AnswersBy (KnowsNet asked text table of) (Stops (flows_of_text (flows_of_all asked) text table)) r
  net_of_lists limits short summed r h =
      answers_too (ListsNet text until) (KnowsNet asked text table of) (StopsIn text of (StopsFlows until)) (Stops (flows_of_text (flows_of_all asked) text table))
      (knows_net limits short summed) (stops_flows (flows_of_all asked) text table until all last fixings) r h

-- ---- lines can hold what comes of them

small_enough : (n m : ℕ) → n ≤ m → m ≤ 10 ^ 36 → n ≤ 10 ^ 36
small_enough n m h k = omega arith

pub can_be_added_up : (d : Declarations) (tables : List FlowTable) → AreReady d tables → CanBeAddedUp tables
can_be_added_up d tables ready = let h = ready.together in omega arith

pub net_can_be_added_up : (d : Declarations) (tables : List FlowTable) (net : FlowTable) → AreReady d tables → AreNetOf tables net.rows.items → CanBeAddedUp (net ∷ [])
net_can_be_added_up d tables net ready is =
    let h = ready.together in
    let less = nets_add_up_to_no_more tables net is in
    omega (arith, h, less)

-- the positions of the net are those of the tables
pub positions_of_net : (tables : List FlowTable) (net : FlowTable) (rows : List PositionRow) → AreNetOf tables net.rows.items → ArePositions (net ∷ []) rows → ArePositions tables rows
positions_of_net tables net rows is h = same_positions (net ∷ []) tables rows (λ x. nets_leave_positions tables net x is) h

pub due_positions : (d : Declarations) (tables : List FlowTable) (rows : List PositionRow) → AreReady d tables → ArePositions tables rows → All (IsDuePosition d) rows
due_positions d tables rows ready h =
    let days = positions_stand_in_time tables rows (pos 0) (pos last_day) ready.during h in
    let amounts = positions_are_within tables rows h in
    let whole = positions_are_whole d tables rows ready.whole h in
    λ k z l. record {
      first = (days k z l).0;
      last = (days k z l).1;
      small = let m = small_enough _ _ (amounts k z l) ready.together in omega arith;
      whole = whole k z l;
    }

pub due_settled : (d : Declarations) (tables : List FlowTable) (rows : List FlowRow) → AreReady d tables → Settles tables rows → ArePaidInTurn tables rows → All (IsDueRow (pos 0) (pos last_day)) rows
due_settled d tables rows ready h turns =
    let days = settled_stand_in_time tables rows (pos 0) (pos last_day) ready.during h in
    let amounts = settled_are_within tables rows turns in
    λ k z l. ((days k z l).0, (days k z l).1, small_enough _ _ (amounts k z l) ready.together)

pub settled_have_lines : (d : Declarations) (tables : List FlowTable) (rows : List FlowRow) → AreReady d tables → ArePaidInTurn tables rows → HaveLines d rows
settled_have_lines d tables rows ready turns = settled_are_whole d tables rows ready.whole turns

-- ---- what is told of the tables is what the course tells, and what kept them from being made stops it

module _ (TellsOf : Declarations → List FlowTable → List ℕ → Type 0) (asked : NettingAsked) (inputs : List (List ℕ)) where
  abbrev text : List ℕ
  text = file_at inputs 0

  abbrev table : Option (List ℕ)
  table = table_if_named asked.fixings inputs

  pub told_of_net : (d : Declarations) (net : FlowTable) (lines : List ℕ) (h : KnowsNet asked text table d net) → TellsOf d h.tables lines
      → Tells (netting_of_text TellsOf asked text table) status.Done lines
  told_of_net d net lines h told =
      let b = so_far d h.entries in
      let known = h.known in
      let are : IsToldOfTables TellsOf d known.fixings known.last (used None b) lines = record { tables = h.tables; are_tables = known.are_tables; told = told } in
      (b, h.is_text, (tt, refl, (known.last, known.is_last, (tt, known.accepted, (known.fixings, known.are_fixings, (tt, known.fixed, (refl, are)))))))

  pub stopped_without_net : (e : Stop) (r : Result (Vec ℕ) Stop) → AnswersNetOfText asked inputs (Err e) → IsErrAnd r (λ y. y ≡ e) → GoesDone (netting_of_text TellsOf asked text table) r
  stopped_without_net e r h given =
      handed_on (λ (all : Decls × FlowTable). KnowsNet asked text table (declarations all.0) all.1) (λ (lines : Vec ℕ). Tells (netting_of_text TellsOf asked text table) status.Done lines.items)
      (Stops (flows_of_text (flows_of_all asked) text table)) (Stops (netting_of_text TellsOf asked text table)) (λ f h. h) e r h given
