-- One more line, rows that can be written, and a contract without flows.
use Rattle.std.proofs.Common.{◌≡◌, ◌∙◌, ◌<◌, ◌≤ℤ◌, ◌-◌, ◌⊎◌, inl, inr, ℕ, ℤ, pos, List, [], ◌++◌, append_assoc, ap, arith, get_or, length, refl, subst, sym}
use Rattle.std.specs.Prelude.{All, Some, Result, Err}
use Rattle.std.proofs.lemmas.Int.{ints}
use Rattle.std.proofs.lemmas.List.{append-nil}
use Rattle.std.proofs.lemmas.List.Elements.{All-weaker}
use Rattle.term_model.specs.Declarations.{Declarations, decimals_of}
use Rattle.term_model.specs.Environments.{Environment}
use Rattle.term_model.specs.LawsScales.{IsMultiple}
use Rattle.term_model.specs.Terms.{Contract}
use Rattle.term_model.specs.Acceptance.{IsAccepted}
use Rattle.flow_eval.specs.Readiness.{last_day}
use Rattle.flow_eval.specs.FlowAnswers.{AreFlows, AreKnownFlows}
use Rattle.flow_eval.specs.Tables.{IsDueRow, paid_by}
use Rattle.flow_eval.specs.declared.faults.FlowErr.{FlowErr}
use Rattle.flow_eval.specs.declared.faults.FlowErr.TheVariants as flow
use Rattle.flow_eval.specs.declared.flow_table.FlowRow.{FlowRow}
use Rattle.flow_eval.specs.declared.flow_table.FlowTable.{FlowTable}
use Rattle.report.specs.FlowLines.{HaveLines}
use Rattle.report.proofs.TableLines.{paid_in_assets, table_has_lines}
use Rattle.command_courses.specs.FixingTables.{IsStopOf, missing_at}
use Rattle.command_courses.specs.Stopping.{AnswersBy}
use Rattle.command_courses.specs.declared.stop.Stop.{Stop}
use Rattle.command_courses.specs.declared.stop.Stop.TheVariants as stop
use Rattle.used_contracts.specs.AllFixed.{IsMissingOne, missing_of}

-- ---- one more line

pub none_and : (text line : List ℕ) → text ≡ [] → text ++ line ≡ line ++ []
none_and text line none = ap (λ (t : List ℕ). t ++ line) none ∙ sym (append-nil line)

pub some_and : (text first rest line : List ℕ) → text ≡ first ++ rest → text ++ line ≡ first ++ (rest ++ line)
some_and text first rest line is = ap (λ (t : List ℕ). t ++ line) is ∙ append_assoc first rest line

-- ---- rows that can be written

no_sooner : (start day : ℤ) → pos 0 ≤ℤ start → start ≤ℤ day → pos 0 ≤ℤ day
no_sooner start day h k = omega (arith, ints)

no_later : (last day : ℤ) → last ≤ℤ pos last_day → day ≤ℤ last → day ≤ℤ pos last_day
no_later last day h k = omega (arith, ints)

pub rows_writable : (start : ℕ) (last : ℤ) (rows : List FlowRow) → last ≤ℤ pos last_day → All (IsDueRow (pos start) last) rows → All (IsDueRow (pos 0) (pos last_day)) rows
rows_writable start last rows h all =
    All-weaker (IsDueRow (pos start) last) (IsDueRow (pos 0) (pos last_day)) (λ row due. (no_sooner (pos start) row.day (omega (arith, ints)) due.0, no_later last row.day h due.1, due.2)) rows all

-- the rows of an accepted contract have lines
pub rows_have_lines : (d : Declarations) (c : Contract) (fixings : Environment) (first last : ℤ) (rows : List FlowRow) → IsAccepted d c → AreKnownFlows d c fixings first last rows → HaveLines d rows
rows_have_lines d c fixings first last rows accepted known =
    table_has_lines d (paid_by d c fixings first) first last rows (paid_in_assets d c fixings first accepted) (known.table fixings (λ q v e. e))

pub row_has_line : (d : Declarations) (rows seen : List FlowRow) (i : ℕ) (none : FlowRow) → HaveLines d rows → seen ≡ rows → i < length rows → IsMultiple (get_or seen i none).amount (d.amounts - decimals_of d (get_or seen i none).asset)
row_has_line d rows seen i none lines same within =
    subst (λ (xs : List FlowRow). IsMultiple (get_or xs i none).amount (d.amounts - decimals_of d (get_or xs i none).asset)) (sym same) (lines i none within)

-- ---- a contract without flows

module _ (d : Declarations) (fixings : Environment) (last : ℤ) (c : Contract) where
  abbrev AnswersTable : Result FlowTable Stop → Type 0
  AnswersTable r = AnswersBy (λ table. AreKnownFlows d c fixings (pos d.start) last table.rows.items) (IsMissingOne d fixings last c) r

  by_memory : (s : Stop) → s ≡ stop.NoMemory → AnswersTable (Err s)
  by_memory s e = subst (λ (x : Stop). AnswersTable (Err x)) (sym e) tt

  by_missing : (label : ℕ) (day : ℤ) (s : Stop) → missing_of d fixings last c ≡ Some (record { label = label; day = day }) → (s ≡ missing_at d label day) ⊎ (s ≡ stop.NoMemory) → AnswersTable (Err s)
  by_missing label day s h (inl e) =
      let one : IsMissingOne d fixings last c _ = record { place = record { label = label; day = day }; missing = h; fault_is = refl } in
      subst (λ (x : Stop). AnswersTable (Err x)) (sym e) one
  by_missing label day s h (inr e) = by_memory s e

  pub without_flows : (e : FlowErr) (s : Stop) → AreFlows d c fixings (pos d.start) last (Err e) → IsStopOf d e s → AnswersTable (Err s)
  without_flows (flow.Missing label day) s h is = by_missing label day s h is
  without_flows flow.NoMemory s h is = by_memory s is
