-- The bytes of a portfolio and of a table have one answer of `flows`: one thing stops it, or one text is written.
use Rattle.std.proofs.Common.{◌≡◌, ◌∙◌, ℕ, ℤ, pos, Bool, true, false, List, [], ◌∷◌, ◌++◌, ap, subst, sym}
use Rattle.std.specs.Prelude.{codes, Option}
use Rattle.term_model.specs.declared.name.Name.{Name}
use Rattle.term_model.specs.Declarations.{Declarations}
use Rattle.term_model.specs.Environments.{Environment}
use Rattle.term_model.specs.Terms.{Contract}
use Rattle.term_model.specs.Books.{Book}
use Rattle.flow_eval.specs.declared.flow_table.FlowRow.{FlowRow}
use Rattle.flow_eval.proofs.TableFacts.{tables_are_one}
use Rattle.command_words.specs.Commands.{FlowsAsked}
use Rattle.command_courses.specs.Course.{Tells}
use Rattle.command_courses.specs.declared.status.Status.{Status}
use Rattle.command_courses.proofs.FixingFacts.{HoldSame, hold_same}
use Rattle.used_contracts.specs.UsedContracts.{used}
use Rattle.used_contracts.proofs.OneLine.{one_line, one_table}
use Rattle.flow_commands.specs.FlowsCourse.{flows_on}
use Rattle.flow_commands.specs.FlowsPromise.{AreAllLines, AreFlowLines, AreLines, AreLinesAsked, AreSumLines, paid_together}
use Rattle.flow_commands.proofs.LastDayFacts.{one_last}

-- ---- lines

pub one_lines : (d : Declarations) (name : List ℕ) (rows : List FlowRow) (t u : List ℕ) → AreLines d name rows t → AreLines d name rows u → t ≡ u
one_lines d name [] t u h k = h ∙ sym k
one_lines d name (row ∷ rows) t u h k =
    h.4 ∙ ap (λ (x : List ℕ). x ++ h.1) (one_line d name row h.0 k.0 h.2 k.2) ∙ ap (λ (x : List ℕ). k.0 ++ x) (one_lines d name rows h.1 k.1 h.3 k.3) ∙ sym k.4

module _ (d : Declarations) (last : ℤ) (one other : Environment) (same : HoldSame one other) where
  one_flow_lines : (name : List ℕ) (c : Contract) (t u : List ℕ) → AreFlowLines d one last name c t → AreFlowLines d other last name c u → t ≡ u
  one_flow_lines name c t u h k =
      let rows = one_table d last one other same c h.rows k.rows h.flows k.flows in
      one_lines d name k.rows t u (subst (λ (xs : List FlowRow). AreLines d name xs t) rows h.lines) k.lines

  pub one_all_lines : (entries : List (Name × Contract)) (t u : List ℕ) → AreAllLines d one last entries t → AreAllLines d other last entries u → t ≡ u
  one_all_lines [] t u h k = h ∙ sym k
  one_all_lines (entry ∷ entries) t u h k =
      h.4 ∙ ap (λ (x : List ℕ). x ++ h.1) (one_flow_lines entry.0 entry.1 h.0 k.0 h.2 k.2) ∙ ap (λ (x : List ℕ). k.0 ++ x) (one_all_lines entries h.1 k.1 h.3 k.3) ∙ sym k.4

  one_sum_lines : (entries : List (Name × Contract)) (t u : List ℕ) → AreSumLines d one last entries t → AreSumLines d other last entries u → t ≡ u
  one_sum_lines entries t u h k =
      let rows = tables_are_one (paid_together d entries one) (pos d.start) last h.rows k.rows (h.table one (λ q v e. e)) (k.table one (λ q v e. same q ∙ e)) in
      one_lines d (codes "*") k.rows t u (subst (λ (xs : List FlowRow). AreLines d (codes "*") xs t) rows h.lines) k.lines

  pub one_lines_asked : (net : Bool) (entries : List (Name × Contract)) (t u : List ℕ) → AreLinesAsked net d one last entries t → AreLinesAsked net d other last entries u → t ≡ u
  one_lines_asked true entries t u h k = one_sum_lines entries t u h k
  one_lines_asked false entries t u h k = one_all_lines entries t u h k

pub told_of_flows : (asked : FlowsAsked) (b : Book) (table : Option (List ℕ)) (s t : Status) (one other : List ℕ)
    → Tells (flows_on asked b table) s one → Tells (flows_on asked b table) t other → one ≡ other
told_of_flows asked b table s t one other (a, known, (last, is, (c, all, (fixings, are, (e, fixed, (done, lines))))))
    (x, knows, (end, was, (y, each, (others, were, (z, fixes, (ended, more)))))) =
    let same = hold_same b.declarations table fixings others are were in
    let to = one_last b.declarations asked.until end last was is in
    one_lines_asked b.declarations last fixings others same asked.net (used asked.contract b) one other lines
    (subst (λ (day : ℤ). AreLinesAsked asked.net b.declarations others day (used asked.contract b) other) to more)
