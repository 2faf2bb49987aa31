-- The sum of the flow tables of accepted contracts is the table of what they pay together.
use Rattle.std.proofs.Common.{◌≡◌, ◌≤◌, ◌^◌, ◌-ℤ◌, ◌+ℤ◌, ℕ, suc, ℤ, pos, List, [], ◌∷◌, map, length, ap, arith, refl, subst, sym, unsigned_abs}
use Rattle.std.specs.Prelude.{All, None, codes}
use Rattle.std.proofs.lemmas.Int.{ints}
use Rattle.std.proofs.lemmas.List.Elements.{All-cons, All-head, All-nil, All-tail, All-weaker}
use Rattle.term_model.specs.declared.name.Name.{Name}
use Rattle.term_model.specs.Declarations.{Declarations}
use Rattle.term_model.specs.Environments.{Environment, Extends, IsAdmitted}
use Rattle.term_model.specs.Flows.{Flow, amount_of}
use Rattle.term_model.specs.Limits.{longest_file}
use Rattle.term_model.specs.Terms.{Contract}
use Rattle.term_model.specs.Acceptance.{IsAccepted}
use Rattle.term_model.proofs.FlowFacts.{amounts_opposite}
use Rattle.interval_check.specs.Within.{KeepsLimits}
use Rattle.interval_check.proofs.GuaranteeFacts.{amounts_add_up_to_total}
use Rattle.flow_eval.specs.FlowAnswers.{AreKnownFlows}
use Rattle.flow_eval.specs.Tables.{IsDueRow, IsPaid, flow_in, paid_by}
use Rattle.flow_eval.specs.declared.flow_table.FlowRow.{FlowRow}
use Rattle.flow_eval.specs.declared.flow_table.FlowTable.{FlowTable}
use Rattle.report.specs.FlowLines.{HaveLines, PaysInAssets}
use Rattle.report.specs.SumTables.{AreTablesOf, IsSummable, IsSumOf, together}
use Rattle.report.specs.RunningSums.{IsSumOfFew}
use Rattle.report.specs.declared.sums.FlowSum.{FlowSum}
use Rattle.report.proofs.TableLines.{paid_in_assets, table_has_lines, together_in_assets}
use Rattle.used_contracts.specs.AllAccepted.{AreAllAccepted}
use Rattle.flow_commands.specs.FlowsParts.{IsSumOfFlows}
use Rattle.used_contracts.specs.AllFixed.{AreAllFixed, missing_of}
use Rattle.flow_commands.specs.FlowsPromise.{AreLines, AreSumLines, AreTables}
use Rattle.used_contracts.proofs.UsedFacts.{total_small}

same_day : (n : ℤ) → n ≡ n +ℤ pos 0
same_day n = omega (arith, ints)

-- an amount of one day is at most the total
amount_small : (d : Declarations) (c : Contract) (env : Environment) (f n : ℤ) (w : Flow) → KeepsLimits d → IsAccepted d c → IsAdmitted d env → unsigned_abs (amount_of d c env f n w) ≤ 10 ^ 27
amount_small d c env f n w limits accepted admitted =
    let most = (amounts_add_up_to_total d c env f n 1 w limits accepted.bounds admitted).1 in
    let total = total_small d c accepted in
    let one = ap (λ (k : ℤ). unsigned_abs (amount_of d c env f k w)) (same_day n) in
    omega arith

module _ (d : Declarations) (fixings : Environment) (last : ℤ) (limits : KeepsLimits d) (admitted : IsAdmitted d fixings) where
  itself : Extends fixings fixings
  itself q v e = e

  row_small : (c : Contract) → IsAccepted d c → (row : FlowRow) → IsPaid (paid_by d c fixings (pos d.start)) (pos d.start) last row → unsigned_abs row.amount ≤ 10 ^ 27
  row_small c accepted row paid =
      subst (λ (x : ℤ). unsigned_abs x ≤ 10 ^ 27) (sym paid.exact) (amount_small d c fixings (pos d.start) (row.day -ℤ pos d.start) (flow_in row) limits accepted admitted)

  pub one_summable : (c : Contract) (rows : List FlowRow) → IsAccepted d c → AreKnownFlows d c fixings (pos d.start) last rows → IsSummable rows
  one_summable c rows accepted known =
      let table = known.table fixings itself in
      record { ordered = table.ordered; small = All-weaker (IsPaid (paid_by d c fixings (pos d.start)) (pos d.start) last) (λ row. unsigned_abs row.amount ≤ 10 ^ 27) (row_small c accepted) rows table.right }

  pub all_summable : (entries : List (Name × Contract)) (tables : List FlowTable) → AreAllAccepted d entries → AreTables d fixings last entries tables → All (λ table. IsSummable table.rows.items) tables
  all_summable [] [] all h = All-nil (λ table. IsSummable table.rows.items)
  all_summable [] (table ∷ tables) all h = absurd h
  all_summable (entry ∷ entries) [] all h = absurd h
  all_summable (entry ∷ entries) (table ∷ tables) all h =
      let P : Name × Contract → Type 0 = λ e. IsAccepted d e.1 in
      All-cons (λ (t : FlowTable). IsSummable t.rows.items) table tables (one_summable entry.1 table.rows.items (All-head P entry entries all) h.0) (all_summable entries tables (All-tail P entry entries all) h.1)

  pub as_many : (entries : List (Name × Contract)) (tables : List FlowTable) → AreTables d fixings last entries tables → length tables ≡ length entries
  as_many [] [] h = refl
  as_many [] (table ∷ tables) h = absurd h
  as_many (entry ∷ entries) [] h = absurd h
  as_many (entry ∷ entries) (table ∷ tables) h = ap (λ (n : ℕ). suc n) (as_many entries tables h.1)

  -- the sum of as many tables as a text can hold contracts can be told
  pub sum_of_few : (entries : List (Name × Contract)) (sum : FlowSum) → length entries ≤ longest_file → IsSumOfFlows d fixings last entries sum → IsSumOfFew sum
  sum_of_few entries sum few h = record {
    tables = h.tables;
    is = h.is_sum;
    few = subst (λ (n : ℕ). n ≤ longest_file) (sym (as_many entries h.tables h.are_tables)) few;
  }

  pub all_fixed : (entries : List (Name × Contract)) (tables : List FlowTable) → AreTables d fixings last entries tables → AreAllFixed d fixings last entries
  all_fixed [] [] h = All-nil (λ (e : Name × Contract). missing_of d fixings last e.1 ≡ None)
  all_fixed [] (table ∷ tables) h = absurd h
  all_fixed (entry ∷ entries) [] h = absurd h
  all_fixed (entry ∷ entries) (table ∷ tables) h = All-cons (λ (e : Name × Contract). missing_of d fixings last e.1 ≡ None) entry entries h.0.fixed (all_fixed entries tables h.1)

  -- the tables are those of what each contract pays, in every environment that extends the fixings
  tables_in : (env : Environment) → Extends fixings env → (entries : List (Name × Contract)) (tables : List FlowTable) → AreTables d fixings last entries tables
      → AreTablesOf (map (λ (entry : Name × Contract). paid_by d entry.1 env (pos d.start)) entries) (pos d.start) last tables
  tables_in env extends [] [] h = tt
  tables_in env extends [] (table ∷ tables) h = absurd h
  tables_in env extends (entry ∷ entries) [] h = absurd h
  tables_in env extends (entry ∷ entries) (table ∷ tables) h =
      ((λ day w. amounts_opposite d entry.1 env (pos d.start) (day -ℤ pos d.start) w), h.0.table env extends, tables_in env extends entries tables h.1)

  pub sum_due : (entries : List (Name × Contract)) (tables : List FlowTable) (rows : List FlowRow) → AreTables d fixings last entries tables → IsSumOf tables rows → All (IsDueRow (pos d.start) last) rows
  sum_due entries tables rows h sum = (sum _ (pos d.start) last (tables_in fixings itself entries tables h)).1

  -- what accepted contracts pay together is paid at the decimals of the assets
  all_in_assets : (entries : List (Name × Contract)) → AreAllAccepted d entries → All (PaysInAssets d) (map (λ (entry : Name × Contract). paid_by d entry.1 fixings (pos d.start)) entries)
  all_in_assets [] all = All-nil (PaysInAssets d)
  all_in_assets (entry ∷ entries) all =
      let P : Name × Contract → Type 0 = λ e. IsAccepted d e.1 in
      All-cons (PaysInAssets d) (paid_by d entry.1 fixings (pos d.start)) (map (λ (e : Name × Contract). paid_by d e.1 fixings (pos d.start)) entries)
      (paid_in_assets d entry.1 fixings (pos d.start) (All-head P entry entries all)) (all_in_assets entries (All-tail P entry entries all))

  -- so the rows of the sum have lines
  pub sum_has_lines : (entries : List (Name × Contract)) (tables : List FlowTable) (rows : List FlowRow) → AreAllAccepted d entries → AreTables d fixings last entries tables → IsSumOf tables rows → HaveLines d rows
  sum_has_lines entries tables rows all h sum =
      let pays = map (λ (entry : Name × Contract). paid_by d entry.1 fixings (pos d.start)) entries in
      table_has_lines d (together pays) (pos d.start) last rows (together_in_assets d pays (all_in_assets entries all)) (sum pays (pos d.start) last (tables_in fixings itself entries tables h)).0

  pub sum_known : (entries : List (Name × Contract)) (tables : List FlowTable) (rows : List FlowRow) (text : List ℕ) → AreTables d fixings last entries tables → IsSumOf tables rows → AreLines d (codes "*") rows text → AreSumLines d fixings last entries text
  sum_known entries tables rows text h sum lines =
      record { rows = rows; table = λ env extends. (sum _ (pos d.start) last (tables_in env extends entries tables h)).0; lines = lines }
