-- A number of at most 10^37 in size fits 128 bits.
use Rattle.std.proofs.Common.{ℤ, ◌≡◌, FitsSigned, arith, subst, sym}
use Rattle.std.specs.Int.{w128}
use Rattle.std.proofs.lemmas.Int.{fits_signed_from_abs}
use Rattle.interval_check.specs.Safety.{IsSmall}

pub small_fits : (m k : ℤ) → k ≡ m → IsSmall m → FitsSigned w128 k
small_fits m k e h = subst (λ (z : ℤ). FitsSigned w128 z) (sym e) (fits_signed_from_abs w128 m (omega arith))
