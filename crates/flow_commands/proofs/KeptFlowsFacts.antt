-- The flows of one contract more: its table or its lines behind those before it, or the read of it that is not fixed.
use Rattle.std.proofs.Common.{◌≡◌, ℕ, ℤ, pos, Bool, true, false, List, [], ◌∷◌, ◌++◌, refl, subst, sym}
use Rattle.std.specs.Prelude.{Option, Some, None, is_some}
use Rattle.std.proofs.lemmas.List.Elements.{All-nil}
use Rattle.term_model.specs.declared.name.Name.{Name}
use Rattle.term_model.specs.Declarations.{Declarations, declarations}
use Rattle.term_model.specs.Environments.{Environment}
use Rattle.term_model.specs.Terms.{Contract}
use Rattle.flow_eval.specs.FlowAnswers.{AreKnownFlows}
use Rattle.flow_eval.specs.declared.flow_table.FlowTable.{FlowTable}
use Rattle.report.specs.RunningSums.{IsSumSoFar}
use Rattle.report.specs.declared.fault_lines.Fault.{Fault}
use Rattle.used_contracts.specs.AllFixed.{IsMissingOne, all_fixed}
use Rattle.used_contracts.specs.ChoosingParts.{Holds}
use Rattle.used_contracts.proofs.ChoosingFacts.{none_held, some_held}
use Rattle.used_contracts.proofs.FirstFacts.{IsFixedEntry}
use Rattle.used_contracts.proofs.HeldFacts.{fixed_more, missing_behind_held, missing_held_now}
use Rattle.used_contracts.proofs.LineFacts.{none_and, some_and}
use Rattle.flow_commands.specs.FlowsParts.{AddsFlows, AreListed, HasFlows, KeepsTable}
use Rattle.flow_commands.specs.FlowsPromise.{AreAllLines, AreFlowLines, AreTables}
use Rattle.flow_commands.specs.declared.flows.KeptFlows.{KeptFlows}
use Rattle.flow_commands.specs.declared.flows.Listed.{Listed}
use Rattle.flow_commands.specs.declared.flows_until.FlowsUntil.{FlowsUntil}

module _ (d : Declarations) (fixings : Environment) (last : ℤ) where
  lines_more : (entries : List (Name × Contract)) (entry : Name × Contract) (text lines : List ℕ) → AreAllLines d fixings last entries text
      → AreFlowLines d fixings last entry.0 entry.1 lines → AreAllLines d fixings last (entries ++ entry ∷ []) (text ++ lines)
  lines_more [] entry text lines none are = (lines, [], are, refl, none_and text lines none)
  lines_more (e ∷ es) entry text lines some are =
      (some.0, some.1 ++ lines, some.2, lines_more es entry some.1 lines some.3 are, some_and text some.0 some.1 lines some.4)

  tables_more : (entries : List (Name × Contract)) (entry : Name × Contract) (tables : List FlowTable) (table : FlowTable) → AreTables d fixings last entries tables
      → AreKnownFlows d entry.1 fixings (pos d.start) last table.rows.items → AreTables d fixings last (entries ++ entry ∷ []) (tables ++ table ∷ [])
  tables_more [] entry [] table none known = (known, tt)
  tables_more [] entry (t ∷ ts) table none known = absurd none
  tables_more (e ∷ es) entry [] table some known = absurd some
  tables_more (e ∷ es) entry (t ∷ ts) table some known = (some.0, tables_more es entry ts table some.1 known)

  listed_more : (summed : Bool) (before after : Listed) (table : FlowTable) (entries : List (Name × Contract)) (entry : Name × Contract)
      → KeepsTable summed d entry.0 table before after → AreKnownFlows d entry.1 fixings (pos d.start) last table.rows.items
      → AreListed summed d fixings last before entries → AreListed summed d fixings last after (entries ++ entry ∷ [])
  listed_more true before after table entries entry keeps known h = record {
    tables = h.tables ++ table ∷ [];
    are_tables = tables_more entries entry h.tables table h.are_tables known;
    is_sum = keeps h.tables h.is_sum;
  }
  listed_more false before after table entries entry keeps known h =
      subst (λ (text : List ℕ). AreAllLines d fixings last (entries ++ entry ∷ []) text) (sym keeps.appended)
      (lines_more entries entry before.text.items keeps.text h (record { rows = table.rows.items; flows = known; lines = keeps.lines }))

nothing_listed : (d : Declarations) (fixings : Environment) (last : ℤ) (summed : Bool) (listed : Listed) → listed.text.items ≡ [] → IsSumSoFar [] listed.sum
    → AreListed summed d fixings last listed []
nothing_listed d fixings last true listed text sum = record { tables = []; are_tables = tt; is_sum = sum }
nothing_listed d fixings last false listed text sum = text

module _ (until : FlowsUntil) (entry : Name × Contract) (before : KeptFlows) where
  abbrev d : Declarations
  d = declarations until.choice.decls.now

  -- where a read of those before it is not fixed
  pub flows_still : is_some before.missing ≡ true → AddsFlows until entry before before
  flows_still some = λ entries h. record {
    fixed = missing_behind_held d until.fixings.now until.last before.missing entries entry some h.fixed;
    listed = λ none. absurd (some_held before.missing some none);
  }

  -- where one of its own is the first that is not
  pub flows_stop : (f : Fault) → is_some before.missing ≡ false → IsMissingOne d until.fixings.now until.last entry.1 f
      → AddsFlows until entry before (record { listed = before.listed; missing = Some f })
  flows_stop f none one = λ entries h. record {
    fixed = missing_held_now d until.fixings.now until.last before.missing entries entry f (none_held before.missing none) one h.fixed;
    listed = λ empty. (let k : Some f ≡ None = empty in cc);
  }

  -- where each is fixed
  pub flows_on : (listed : Listed) (table : FlowTable) → is_some before.missing ≡ false
      → AreKnownFlows d entry.1 until.fixings.now (pos d.start) until.last table.rows.items
      → KeepsTable until.summed d entry.0 table before.listed listed
      → AddsFlows until entry before (record { listed = listed; missing = before.missing })
  flows_on listed table none known keeps =
      let empty = none_held before.missing none in
      λ entries h. record {
        fixed = fixed_more d until.fixings.now until.last before.missing entries entry empty known.fixed h.fixed;
        listed = λ _. listed_more d until.fixings.now until.last until.summed before.listed listed table entries entry keeps known (h.listed empty);
      }

pub nothing_kept : (until : FlowsUntil) (kept : KeptFlows) → kept.missing ≡ None → kept.listed.text.items ≡ [] → IsSumSoFar [] kept.listed.sum → HasFlows until kept []
nothing_kept until kept none text sum =
    let d = declarations until.choice.decls.now in
    record {
      fixed = subst (λ (r : Option Fault). Holds (all_fixed d until.fixings.now until.last []) r) (sym none) (All-nil (IsFixedEntry d until.fixings.now until.last));
      listed = λ _. nothing_listed d until.fixings.now until.last until.summed kept.listed text sum;
    }
