-- What is paid over all days: a function of who pays whom in what, as if it were paid on each day alike, so that its flow
-- table of one day is the table of what is paid over all.
use Rattle.std.specs.Prelude.{ℕ, zero, suc, ℤ, pos, ◌+ℤ◌, List}
use Rattle.std.specs.List.{All}
use Rattle.term_model.specs.Flows.{Flow}
use Rattle.flow_eval.specs.Readiness.{last_day}
use Rattle.flow_eval.specs.Payments.{payment_on}
use Rattle.flow_eval.specs.Tables.{IsDueRow, IsTable, IsMutual}
use Rattle.flow_eval.specs.declared.flow_table.FlowRow.{FlowRow}
use Rattle.flow_eval.specs.declared.payments.Payment.{Payment}

-- the sum of the first n numbers
unfoldable pub sum_before : ℕ → (ℕ → ℤ) → ℤ
sum_before zero f = pos 0
sum_before (suc n) f = sum_before n f +ℤ f n

-- rows on the days from 0 to the last; and rows of what is paid over all, on day 0
abbrev pub AreDue : List FlowRow → Type 0
AreDue rows = All (IsDueRow (pos 0) (pos last_day)) rows

abbrev pub AreUndated : List FlowRow → Type 0
AreUndated rows = All (IsDueRow (pos 0) (pos 0)) rows

-- what is paid from day 0 to the last
abbrev pub over_days : (ℤ → Flow → ℤ) → ℤ → Flow → ℤ
over_days pays day w = sum_before (suc last_day) (λ i. pays (pos i) w)

-- what a row says, on day 0
abbrev pub undated : FlowRow → Payment
undated row = payment_on (pos 0) (record { asset = row.asset; from = row.from; to = row.to }) row.amount

-- the rows are what others come to over all days, whatever those are the table of
abbrev pub IsOverDays : List FlowRow → List FlowRow → Type 0
IsOverDays rows sums =
    (pays : ℤ → Flow → ℤ)
    → IsMutual pays → IsTable pays (pos 0) (pos last_day) rows → IsTable (over_days pays) (pos 0) (pos 0) sums
