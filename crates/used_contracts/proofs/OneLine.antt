-- A row of a flow table has one line, and a contract over fixings one flow table.
use Rattle.std.proofs.Common.{◌≡◌, ◌∙◌, ◌-◌, ◌^◌, ◌+ℤ◌, ℕ, ℤ, pos, List, ap, arith, sym}
use Rattle.std.specs.Prelude.{Option, Some, None}
use Rattle.std.proofs.lemmas.Int.{ints}
use Rattle.decimal.specs.Rounding.{raised}
use Rattle.decimal.proofs.PowerFacts.{ten_above}
use Rattle.term_model.specs.Declarations.{Declarations, decimals_of}
use Rattle.term_model.specs.Environments.{Environment}
use Rattle.term_model.specs.Terms.{Contract}
use Rattle.term_model.proofs.DateTextFacts.{texts_unique}
use Rattle.interval_check.proofs.MultipleFacts.{times-cancel}
use Rattle.flow_eval.specs.FlowAnswers.{AreKnownFlows}
use Rattle.flow_eval.specs.Tables.{paid_by}
use Rattle.flow_eval.specs.declared.flow_table.FlowRow.{FlowRow}
use Rattle.flow_eval.proofs.TableFacts.{tables_are_one}
use Rattle.report.specs.FlowLines.{IsDayText, IsFlowLine, line_with}
use Rattle.command_courses.proofs.FixingFacts.{HoldSame}

pub one_day_text : (origin : Option ℤ) (day : ℤ) (t u : List ℕ) → IsDayText origin day t → IsDayText origin day u → t ≡ u
one_day_text None day t u h k = h ∙ sym k
one_day_text (Some origin) day t u h k = texts_unique t u (origin +ℤ day) h k

-- an amount is a multiple by one number
pub one_amount : (amount m n : ℤ) (k : ℕ) → amount ≡ raised m k → amount ≡ raised n k → m ≡ n
one_amount amount m n k h e =
    let same : raised m k ≡ raised n k = sym h ∙ e in
    let low = times-cancel m n (10 ^ k) (ten_above k) (omega (arith, ints, same)) in
    let high = times-cancel n m (10 ^ k) (ten_above k) (omega (arith, ints, same)) in
    omega (arith, ints, low, high)

pub one_line : (d : Declarations) (name : List ℕ) (row : FlowRow) (t u : List ℕ) → IsFlowLine d name row t → IsFlowLine d name row u → t ≡ u
one_line d name row t u h k =
    let days = one_day_text d.origin row.day h.day k.day h.is_day k.is_day in
    let amounts = one_amount row.amount h.amount k.amount (d.amounts - decimals_of d row.asset) h.is_amount k.is_amount in
    h.is_line ∙ ap (λ (day : List ℕ). line_with d name day row h.amount) days ∙ ap (λ (amount : ℤ). line_with d name k.day row amount) amounts ∙ sym k.is_line

module _ (d : Declarations) (last : ℤ) (one other : Environment) (same : HoldSame one other) where
  pub one_table : (c : Contract) (rows more : List FlowRow) → AreKnownFlows d c one (pos d.start) last rows → AreKnownFlows d c other (pos d.start) last more → rows ≡ more
  one_table c rows more h k =
      tables_are_one (paid_by d c one (pos d.start)) (pos d.start) last rows more (h.table one (λ q v e. e)) (k.table one (λ q v e. same q ∙ e))
