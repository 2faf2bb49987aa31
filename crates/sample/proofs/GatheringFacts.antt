-- One contract after another is gathered.
use Rattle.std.proofs.Common.{◌≡◌, ◌∙◌, ℕ, suc, ◌+◌, ◌*◌, ◌^◌, ◌≤◌, ℤ, pos, List, [], ◌∷◌, ◌++◌, length, refl, ap, sym, subst, arith}
use Rattle.std.proofs.lemmas.List.Elements.{All-push}
use Rattle.std.specs.Prelude.{IfOk, Result, Ok, Err}
use Rattle.std.specs.Global.{Vec}
use Rattle.term_model.specs.Environments.{IsAdmitted}
use Rattle.term_model.specs.Flows.{Flow}
use Rattle.flow_eval.specs.Tables.{IsTable, IsMutual}
use Rattle.flow_eval.specs.declared.flow_table.FlowRow.{FlowRow}
use Rattle.flow_eval.specs.declared.flow_table.FlowTable.{FlowTable}
use Rattle.report.specs.SumTables.{AreTablesOf, IsSummable, IsSumOf}
use Rattle.sample.specs.Days.{IsOverDays, over_days}
use Rattle.sample.specs.Gathering.{IsGathered}
use Rattle.sample.specs.Summary.{AreRowsOf, IsSummary, paid_of, paid_over_days, summary_text}
use Rattle.sample.specs.Sample.{sample_contract, sample_declarations, sample_fixings}
use Rattle.sample.proofs.ContractFacts.{paid_mutual, sums_summable}
use Rattle.sample.proofs.OverDays.{over_mutual}

tables_push : (all : List (ℤ → Flow → ℤ)) (tables : List FlowTable) (first last : ℤ) (pays : ℤ → Flow → ℤ) (table : FlowTable) → AreTablesOf all first last tables → IsMutual pays → IsTable pays first last table.rows.items → AreTablesOf (all ++ pays ∷ []) first last (tables ++ table ∷ [])
tables_push [] [] first last pays table h both_ways is = (both_ways, is, tt)
tables_push [] (t ∷ tables) first last pays table h both_ways is = absurd h
tables_push (p ∷ all) [] first last pays table h both_ways is = absurd h
tables_push (p ∷ all) (t ∷ tables) first last pays table h both_ways is = (h.0, h.1, tables_push all tables first last pays table h.2 both_ways is)

length_push : (tables : List FlowTable) (table : FlowTable) → length (tables ++ table ∷ []) ≡ suc (length tables)
length_push [] table = refl
length_push (t ∷ tables) table = ap (λ (n : ℕ). suc n) (length_push tables table)

few_on : (n m number : ℕ) → n ≤ number * 2 ^ 64 → m ≤ 2 ^ 64 → n + m ≤ suc number * 2 ^ 64
few_on n m number h k = omega arith

gathered_suc : (number lines : ℕ) (tables : List FlowTable) (rows : List FlowRow) (sums : FlowTable) → IsGathered number lines tables → AreRowsOf (sample_contract number) rows → length rows ≤ 2 ^ 64 → IsTable (over_days (paid_of (sample_contract number))) (pos 0) (pos 0) sums.rows.items → IsSummable sums.rows.items
    → IsGathered (suc number) (lines + length rows) (tables ++ sums ∷ [])
gathered_suc number lines tables rows sums before are few table summable = record {
  counted = (lines, rows, before.counted, are, refl);
  few = few_on lines (length rows) number before.few few;
  are_tables = tables_push (paid_over_days number) tables (pos 0) (pos 0) (over_days (paid_of (sample_contract number))) sums before.are_tables (over_mutual (paid_of (sample_contract number)) (paid_mutual number)) table;
  summable = All-push (λ (t : FlowTable). IsSummable t.rows.items) tables sums before.summable summable;
  as_many = length_push tables sums ∙ ap (λ (n : ℕ). suc n) before.as_many;
}

one_on : (n : ℕ) → n + 1 ≡ suc n
one_on n = omega arith

pub gathered_next : (number lines more : ℕ) (tables after : List FlowTable) (rows : List FlowRow) (sums : FlowTable) → IsAdmitted sample_declarations sample_fixings → IsGathered number lines tables → AreRowsOf (sample_contract number) rows → IsOverDays rows sums.rows.items → more ≡ lines + length rows → length rows ≤ 2 ^ 64
    → after ≡ tables ++ sums ∷ [] → IsGathered (number + 1) more after
gathered_next number lines more tables after rows sums admitted before are over e few is =
    let pays = paid_of (sample_contract number) in
    let table = over pays (paid_mutual number) are in
    subst (λ (n : ℕ). IsGathered n more after) (sym (one_on number)) (
    subst (λ (m : ℕ). IsGathered (suc number) m after) (sym e) (
    subst (λ (ts : List FlowTable). IsGathered (suc number) (lines + length rows) ts) (sym is) (gathered_suc number lines tables rows sums before are few table (sums_summable number sums.rows.items admitted table))
    )
    )

-- what is gathered of all contracts makes the summary
pub summary_answers : {E : Type 0} (count lines : ℕ) (tables given : List FlowTable) (rows : List FlowRow) (written : List FlowRow) (r : Result (Vec ℕ) E) → IsGathered count lines tables → given ≡ tables → IsSumOf given rows → written ≡ rows
    → IfOk r (λ text. text.items ≡ summary_text count lines written) → IfOk r (λ text. IsSummary count text.items)
summary_answers count lines tables given rows written (Ok text) all same sum is h = record {
  lines = lines;
  counted = all.counted;
  rows = rows;
  sums = (sum (paid_over_days count) (pos 0) (pos 0) (subst (λ (ts : List FlowTable). AreTablesOf (paid_over_days count) (pos 0) (pos 0) ts) (sym same) all.are_tables)).0;
  is_text = subst (λ (rs : List FlowRow). text.items ≡ summary_text count lines rs) is h;
}
summary_answers count lines tables given rows written (Err x) all same sum is h = tt
