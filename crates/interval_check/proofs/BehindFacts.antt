-- What was found of a part, where the part stands behind other nodes.
use Rattle.std.proofs.Common.{◌≡◌, ℕ, Result, Ok, Err, refl, ap, ◌∙◌}
use Rattle.term_model.specs.Bounds.{Range}
use Rattle.term_core.specs.Trying.{moved}
use Rattle.interval_check.specs.declared.ranges.Range.{Range as FoundRange}
use Rattle.interval_check.specs.declared.totals.Total.{Total as FoundTotal}
use Rattle.interval_check.specs.Ranges.{range, range_found}
use Rattle.interval_check.specs.Totals.{total, total_found}
use Rattle.interval_check.specs.TotalTrials.{Total}

range_moved : (k : ℕ) (r : Result FoundRange ℕ) → range_found (moved k r) ≡ moved k (range_found r)
range_moved k (Ok x) = refl
range_moved k (Err j) = refl

total_moved : (k : ℕ) (r : Result FoundTotal ℕ) → total_found (moved k r) ≡ moved k (total_found r)
total_moved k (Ok x) = refl
total_moved k (Err j) = refl

pub range_behind : (k : ℕ) (r : Result FoundRange ℕ) (x : FoundRange) (t : Result Range ℕ) → Ok x ≡ moved k r → range_found r ≡ t → Ok (range x) ≡ moved k t
range_behind k r x t p h = ap range_found p ∙ range_moved k r ∙ ap (moved k) h

pub total_behind : (k : ℕ) (r : Result FoundTotal ℕ) (x : FoundTotal) (t : Result Total ℕ) → Ok x ≡ moved k r → total_found r ≡ t → Ok (total x) ≡ moved k t
total_behind k r x t p h = ap total_found p ∙ total_moved k r ∙ ap (moved k) h
