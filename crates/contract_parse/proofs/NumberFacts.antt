-- Numbers of tokens are within their limits.
use Rattle.std.proofs.Common.{ℤ, ◌^◌, ◌≤◌, FitsSigned, arith, unsigned_abs, w32, w64}
use mir.Syntax.{w128}
use Rattle.std.proofs.lemmas.Int.{fits_signed_from_abs}

pub fits_small : (n : ℤ) → unsigned_abs n ≤ 1_000_000 → FitsSigned w32 n
fits_small n h = fits_signed_from_abs w32 n (omega arith)

pub fits_days : (n : ℤ) → unsigned_abs n ≤ 2_000_000 → FitsSigned w32 n
fits_days n h = fits_signed_from_abs w32 n (omega arith)

pub fits_day : (n : ℤ) → unsigned_abs n ≤ 400_000 → FitsSigned w64 n
fits_day n h = fits_signed_from_abs w64 n (omega arith)

pub fits_wide : (n : ℤ) → unsigned_abs n ≤ 10 ^ 37 → FitsSigned w128 n
fits_wide n h = fits_signed_from_abs w128 n (omega arith)
