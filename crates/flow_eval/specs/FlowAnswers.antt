-- What the flows of a contract are, that stands on a day, up to a last day: its flow table, the same in every environment
-- that extends the fixings; or the first place that it reads on these days and that is not fixed. There is a table exactly
-- where every place that is read is fixed. Want of memory says nothing.
use Rattle.std.specs.Prelude.{ℤ, pos, ◌-ℤ◌, ◌≡◌, ◌⊎◌, List, [], Some, None, Result, Ok, Err}
use Rattle.std.specs.List.{All}
use Rattle.term_model.specs.Declarations.{Declarations}
use Rattle.term_model.specs.Terms.{Contract}
use Rattle.term_model.specs.Environments.{Environment, Place, Extends}
use Rattle.term_model.specs.Reads.{first_unfixed, reads_of_contract}
use Rattle.flow_eval.specs.declared.faults.FlowErr.{FlowErr}
use Rattle.flow_eval.specs.declared.faults.FlowErr.TheVariants.{Missing, NoMemory}
use Rattle.flow_eval.specs.declared.flow_table.FlowRow.{FlowRow}
use Rattle.flow_eval.specs.declared.flow_table.FlowTable.{FlowTable}
use Rattle.flow_eval.specs.Tables.{IsDueRow, IsTable, paid_by}

-- the places that a contract which stands on the first day reads up to the last one, over the fixings
abbrev pub reads_until : Declarations → Contract → Environment → ℤ → ℤ → List Place
reads_until d c fixings first last = reads_of_contract d c [] [] fixings first (pos 0) (last -ℤ first)

-- every place that is read is fixed, and the rows are the table of what is paid in each environment that extends the
-- fixings; each is due, and of an amount that a line can hold
pub record AreKnownFlows (d : Declarations) (c : Contract) (fixings : Environment) (first last : ℤ) (rows : List FlowRow) : Type 0 where
  pub fixed : first_unfixed fixings (reads_until d c fixings first last) ≡ None
  pub table : (env : Environment) → Extends fixings env → IsTable (paid_by d c env first) first last rows
  pub due : All (IsDueRow first last) rows

-- an answer is the flows, or what they lack
abbrev pub AreFlows : Declarations → Contract → Environment → ℤ → ℤ → Result FlowTable FlowErr → Type 0
AreFlows d c fixings first last (Ok table) = AreKnownFlows d c fixings first last table.rows.items
AreFlows d c fixings first last (Err (Missing label day)) =
    first_unfixed fixings (reads_until d c fixings first last) ≡ Some (record { label = label; day = day })
AreFlows d c fixings first last (Err NoMemory) = Unit {0}

-- what an answer tells: its rows, or its fault
abbrev pub told : Result FlowTable FlowErr → Result (List FlowRow) FlowErr
told (Ok table) = Ok table.rows.items
told (Err e) = Err e

-- but for want of memory, there is one answer
abbrev pub AnswersAreOne : Type 0
AnswersAreOne =
    (d : Declarations) (c : Contract) (fixings : Environment) (first last : ℤ) (one other : Result FlowTable FlowErr)
    → AreFlows d c fixings first last one → AreFlows d c fixings first last other
    → (told one ≡ told other) ⊎ ((one ≡ Err NoMemory) ⊎ (other ≡ Err NoMemory))
