-- The summary of the sample: how many contracts it has, how many lines their flows have, and what they come to over all
-- days and contracts: a line for each asset and two parties between whom the sum is not 0, in declared order, in the
-- direction in which it is above 0.
use Rattle.std.specs.Prelude.{◌≡◌, ℕ, zero, suc, ℤ, pos, ◌+◌, List, [], ◌∷◌, ◌++◌, length, codes}
use Rattle.std.specs.List.{flat_map}
use Rattle.term_model.specs.Declarations.{Declarations}
use Rattle.term_model.specs.Terms.{Contract}
use Rattle.term_model.specs.Flows.{Flow}
use Rattle.flow_eval.specs.Tables.{IsTable, paid_by}
use Rattle.flow_eval.specs.declared.flow_table.FlowRow.{FlowRow}
use Rattle.report.specs.CheckLines.{line_feed}
use Rattle.report.specs.FlowLines.{behind_payer, name_at}
use Rattle.report.specs.Pieces.{number_text}
use Rattle.report.specs.SumTables.{together}
use Rattle.sample.specs.Sample.{sample_contract, sample_declarations, sample_fixings}
use Rattle.flow_eval.specs.Readiness.{last_day}
use Rattle.sample.specs.Days.{over_days}

-- what a contract of the sample pays on a day from one party to another in an asset
abbrev pub paid_of : Contract → ℤ → Flow → ℤ
paid_of c = paid_by sample_declarations c sample_fixings (pos 0)

-- the rows of its flow table
abbrev pub AreRowsOf : Contract → List FlowRow → Type 0
AreRowsOf c rows = IsTable (paid_of c) (pos 0) (pos last_day) rows

-- so many lines have the flows of the first contracts together
abbrev pub CountsLines : ℕ → ℕ → Type 0
CountsLines zero lines = lines ≡ 0
CountsLines (suc number) lines =
    (before : ℕ) × (rows : List FlowRow) × CountsLines number before
    × AreRowsOf (sample_contract number) rows × (lines ≡ before + length rows)

-- what each of the first contracts pays over all days
abbrev pub paid_over_days : ℕ → List (ℤ → Flow → ℤ)
paid_over_days zero = []
paid_over_days (suc number) = paid_over_days number ++ over_days (paid_of (sample_contract number)) ∷ []

-- FROM,TO,ASSET,AMOUNT, where the asset has the decimals of the amounts
abbrev pub sum_line : Declarations → FlowRow → List ℕ
sum_line d row = name_at d.parties row.from ++ behind_payer d row row.amount

-- a word and a number
abbrev pub number_line : List ℕ → ℕ → List ℕ
number_line word number = word ++ (number_text number ++ line_feed)

-- the lines of a number of contracts, of a number of flow lines and of sums
abbrev pub summary_text : ℕ → ℕ → List FlowRow → List ℕ
summary_text count lines rows =
    number_line (codes "contracts ") count ++ (number_line (codes "lines ") lines ++ flat_map (sum_line sample_declarations) rows)

-- the text is the summary of the sample of so many contracts
pub record IsSummary (count : ℕ) (text : List ℕ) : Type 0 where
  pub lines : ℕ
  pub counted : CountsLines count lines
  pub rows : List FlowRow
  pub sums : IsTable (together (paid_over_days count)) (pos 0) (pos 0) rows
  pub is_text : text ≡ summary_text count lines rows
