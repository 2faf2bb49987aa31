-- The laws of tables of fixings. A table has one answer: it is refused at one record for one rule, or it holds one value
-- at each place that it fixes. And a field has a mantissa at a scale exactly where it is the text of a decimal that fits.
use Rattle.std.specs.Prelude.{◌≡◌, ◌↔◌, ℕ, ◌-◌, ◌≤◌, ◌^◌, ℤ, unsigned_abs, List, Some}
use Rattle.decimal.specs.DecimalText.{IsDecimalText}
use Rattle.decimal.specs.Mantissas.{decimal_of}
use Rattle.decimal.specs.Rounding.{raised}
use Rattle.term_model.specs.Declarations.{Declarations}
use Rattle.term_model.specs.Environments.{Environment, Place, held}
use Rattle.fixing_files.specs.Records.{mantissa_at}
use Rattle.fixing_files.specs.Tables.{Table, IsFirstFault, Holds}
use Rattle.fixing_files.specs.declared.faults.RowFault.{RowFault}

abbrev pub FaultsAreUnique : Type 0
FaultsAreUnique =
    (d : Declarations) (table : Table) (one other : RowFault) → IsFirstFault d table one → IsFirstFault d table other → one ≡ other

abbrev pub FaultyTablesHoldNothing : Type 0
FaultyTablesHoldNothing =
    (d : Declarations) (table : Table) (fault : RowFault) (env : Environment)
    → IsFirstFault d table fault → ¬ (Holds d table env)

abbrev pub TablesHoldOneMap : Type 0
TablesHoldOneMap =
    (d : Declarations) (table : Table) (one other : Environment)
    → Holds d table one → Holds d table other → (q : Place) → held one q ≡ held other q

-- a text writes a decimal with no more decimals than the scale, and m is its mantissa there, within the limit
pub record Writes (text : List ℕ) (scale : ℕ) (m : ℤ) : Type 0 where
  pub mantissa : ℤ
  pub decimals : ℕ
  pub written : IsDecimalText text mantissa decimals
  pub few : decimals ≤ scale
  pub widened : m ≡ raised mantissa (scale - decimals)
  pub limited : unsigned_abs m ≤ 10 ^ 37

abbrev pub MantissasAreWritten : Type 0
MantissasAreWritten =
    (text : List ℕ) (scale : ℕ) (m : ℤ) → scale ≤ 18 → (mantissa_at scale (decimal_of text) ≡ Some m) ↔ Writes text scale m
