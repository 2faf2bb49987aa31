-- The flow table of what is paid from a first to a last day: a row for each day, asset and two parties between whom the
-- amount is not 0, in the direction in which it is above 0. The rows stand in order of day, asset, lower party and
-- higher party; the places of assets and parties are those of the declarations.
use Rattle.std.specs.Prelude.{ℤ, pos, neg_ℤ, ◌-ℤ◌, ◌<ℤ◌, ◌≤ℤ◌, ◌<◌, ◌≤◌, ◌^◌, ◌≡◌, unsigned_abs, ◌⊎◌, min, max, List, [], ◌∷◌}
use Rattle.std.specs.List.{All, Contains}
use Rattle.term_model.specs.Declarations.{Declarations}
use Rattle.term_model.specs.Terms.{Contract}
use Rattle.term_model.specs.Environments.{Environment}
use Rattle.term_model.specs.Flows.{Flow, amount_of}
use Rattle.term_model.specs.LawsFlows.{reversed}
use Rattle.flow_eval.specs.declared.flow_table.FlowRow.{FlowRow}
use Rattle.flow_eval.specs.declared.flow_table.Slot.{Slot}

-- where a row stands
abbrev pub slot_of : FlowRow → Slot
slot_of row = record { day = row.day; asset = row.asset; lower = min row.from row.to; higher = max row.from row.to }

-- one slot before another: by day, by asset, by lower party and by higher party
abbrev pub Precedes : Slot → Slot → Type 0
Precedes a b =
    (a.day <ℤ b.day) ⊎ ((a.day ≡ b.day) × ((a.asset < b.asset) ⊎ ((a.asset ≡ b.asset)
    × ((a.lower < b.lower) ⊎ ((a.lower ≡ b.lower) × (a.higher < b.higher))))))

-- each row stands before all that follow
abbrev pub AreOrdered : List FlowRow → Type 0
AreOrdered [] = Unit {0}
AreOrdered (row ∷ rest) = All (λ next. Precedes (slot_of row) (slot_of next)) rest × AreOrdered rest

-- who pays whom in what, by a row
abbrev pub flow_in : FlowRow → Flow
flow_in row = record { from = row.from; to = row.to; asset = row.asset }

abbrev pub row_for : ℤ → Flow → ℤ → FlowRow
row_for day w amount = record { day = day; asset = w.asset; from = w.from; to = w.to; amount = amount }

-- what is paid back is the negative of what is paid
abbrev pub IsMutual : (ℤ → Flow → ℤ) → Type 0
IsMutual pays = (day : ℤ) (w : Flow) → pays day (reversed w) ≡ neg_ℤ (pays day w)

-- a row on a day from the first to the last, of just what is paid, which is above 0
pub record IsPaid (pays : ℤ → Flow → ℤ) (first last : ℤ) (row : FlowRow) : Type 0 where
  pub no_sooner : first ≤ℤ row.day
  pub no_later : row.day ≤ℤ last
  pub some : pos 0 <ℤ row.amount
  pub exact : row.amount ≡ pays row.day (flow_in row)

-- an amount that a line can hold
abbrev pub FitsLine : ℤ → Type 0
FitsLine amount = unsigned_abs amount ≤ 10 ^ 36

-- a row on a day from the first to the last, of an amount that its line can hold
abbrev pub IsDueRow : ℤ → ℤ → FlowRow → Type 0
IsDueRow first last row = (first ≤ℤ row.day) × (row.day ≤ℤ last) × FitsLine row.amount

-- the rows are the table of what is paid on a day from one party to another in an asset
pub record IsTable (pays : ℤ → Flow → ℤ) (first last : ℤ) (rows : List FlowRow) : Type 0 where
  pub ordered : AreOrdered rows
  pub right : All (λ row. IsPaid pays first last row) rows
  pub whole : (day : ℤ) (w : Flow) → first ≤ℤ day → day ≤ℤ last → pos 0 <ℤ pays day w → Contains rows (row_for day w (pays day w))

-- what a contract that stands on the first day pays on a day, at the portfolio's decimals
abbrev pub paid_by : Declarations → Contract → Environment → ℤ → ℤ → Flow → ℤ
paid_by d c env first day w = amount_of d c env first (day -ℤ first) w

-- there is one table
abbrev pub TablesAreOne : Type 0
TablesAreOne =
    (pays : ℤ → Flow → ℤ) (first last : ℤ) (one other : List FlowRow)
    → IsTable pays first last one → IsTable pays first last other → one ≡ other
