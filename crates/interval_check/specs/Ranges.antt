-- The program's ranges as those of the model, and what is known of a range that passed its trial:
-- mantissas of at most 10^37 in size, and a scale of at most 27.
use Rattle.std.specs.Prelude.{◌≡◌, ℕ, ◌≤◌, ◌^◌, Result, Ok, Err, unsigned_abs}
use Rattle.term_model.specs.declared.values.Kind.{Kind}
use Rattle.term_model.specs.Kinds.{scale_of_kind}
use Rattle.term_model.specs.Bounds.{Range}
use Rattle.interval_check.specs.declared.ranges.Range.{Range as Found}
use Rattle.interval_check.specs.declared.ranges.Shared.{Shared as FoundShared}
use Rattle.interval_check.specs.declared.ranges.Operands.{Operands as FoundOperands}
use Rattle.interval_check.specs.Intervals.{interval}
use Rattle.interval_check.specs.RangeTrials.{Shared, Operands}

abbrev pub range : Found → Range
range r = record { interval = interval r.interval; kind = r.kind }

abbrev pub range_found : Result Found ℕ → Result Range ℕ
range_found (Ok r) = Ok (range r)
range_found (Err k) = Err k

abbrev pub shared_found : Result FoundShared ℕ → Result Shared ℕ
shared_found (Ok p) = Ok (record { left = interval p.left; right = interval p.right })
shared_found (Err k) = Err k

abbrev pub operands_found : Result FoundOperands ℕ → Result Operands ℕ
operands_found (Ok p) = Ok (record { left = range p.left; right = range p.right })
operands_found (Err k) = Err k

pub record IsFit (r : Range) : Type 0 where
  pub low : unsigned_abs r.interval.low ≤ 10 ^ 37
  pub high : unsigned_abs r.interval.high ≤ 10 ^ 37
  pub scale : scale_of_kind r.kind ≤ 27

-- so is each of two
pub record AreFit (p : FoundOperands) : Type 0 where
  pub left : IsFit (range p.left)
  pub right : IsFit (range p.right)

-- it passed its trial, and is of this kind
pub record IsFitOfKind (k : Kind) (r : Found) : Type 0 where
  pub fit : IsFit (range r)
  pub kind : r.kind ≡ k
