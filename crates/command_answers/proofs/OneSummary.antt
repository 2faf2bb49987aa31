-- The sample of a number of contracts has one summary.
use Rattle.std.proofs.Common.{◌≡◌, ◌∙◌, ℕ, zero, suc, pos, ◌+◌, List, length, ap₂, sym}
use Rattle.flow_eval.specs.declared.flow_table.FlowRow.{FlowRow}
use Rattle.flow_eval.proofs.TableFacts.{tables_are_one}
use Rattle.report.specs.SumTables.{together}
use Rattle.flow_eval.specs.Readiness.{last_day}
use Rattle.sample.specs.Sample.{sample_contract}
use Rattle.sample.specs.Summary.{CountsLines, IsSummary, paid_of, paid_over_days, summary_text}

one_count : (number a b : ℕ) → CountsLines number a → CountsLines number b → a ≡ b
one_count zero a b h k = h ∙ sym k
one_count (suc number) a b h k =
    let rows : h.1 ≡ k.1 = tables_are_one (paid_of (sample_contract number)) (pos 0) (pos last_day) h.1 k.1 h.3 k.3 in
    h.4 ∙ ap₂ (λ (n : ℕ) (r : List FlowRow). n + length r) (one_count number h.0 k.0 h.2 k.2) rows ∙ sym k.4

pub one_summary : (count : ℕ) (one other : List ℕ) → IsSummary count one → IsSummary count other → one ≡ other
one_summary count one other h k =
    let rows : h.rows ≡ k.rows = tables_are_one (together (paid_over_days count)) (pos 0) (pos 0) h.rows k.rows h.sums k.sums in
    h.is_text ∙ ap₂ (λ (n : ℕ) (r : List FlowRow). summary_text count n r) (one_count count h.lines k.lines h.counted k.counted) rows ∙ sym k.is_text
