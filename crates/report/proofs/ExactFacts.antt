-- A multiple of a power of ten, at fewer decimals, is what it is a multiple by.
use Rattle.std.proofs.Common.{◌≡◌, ◌∙◌, ℕ, ◌-◌, ◌^◌, ◌≤◌, ◌<◌, ◌⊎◌, inl, inr, Bool, ℤ, pos, unsigned_abs, ◌*ℤ◌, if◌then◌else◌, ap, sym, subst, le-leb, arith}
use Rattle.std.proofs.lemmas.Bool.{cases_lt}
use Rattle.std.proofs.lemmas.Int.{ints, by_lt_z}
use Rattle.decimal.specs.declared.rounding.Mode.TheVariants.{Floor}
use Rattle.decimal.specs.Rounding.{raised, rounded, at_scale}
use Rattle.decimal.specs.Rounded.{IsRounded}
use Rattle.decimal.proofs.PowerFacts.{ten_above}
use Rattle.interval_check.proofs.AlignedFacts.{below_raised}
use Rattle.interval_check.proofs.MultipleFacts.{times-size}
use Rattle.decimal.proofs.RoundedFacts.{wider, raised_none, rounds_to_scale}
use Rattle.decimal.proofs.OneRoundingFacts.{rounds_to_one}

-- what is times n is its own floor over n
own_floor : (m : ℤ) (n : ℕ) → 0 < n → IsRounded Floor (m *ℤ pos n) n m
own_floor m n h = (omega (arith, ints), λ p le. by_lt_z m p (λ l. absurd (omega (arith, ints, wider m p n l))) (λ l. l))

pub exact_floor : (m : ℤ) (a b : ℕ) → b ≤ a → at_scale Floor (raised m (a - b)) a b ≡ m
unfolding at_scale
exact_floor m a b le = by (cases_lt b a)
  where
    same : a ≤ b → at_scale Floor (raised m (a - b)) a b ≡ m
    same least =
        ap (λ (t : Bool). if t then raised (raised m (a - b)) (b - a) else rounded Floor (raised m (a - b)) (10 ^ (a - b))) (le-leb a b least)
        ∙ raised_none (raised m (a - b)) (b - a) (omega (arith, least, le)) ∙ raised_none m (a - b) (omega (arith, least, le))

    by : (b < a) ⊎ (a ≤ b) → at_scale Floor (raised m (a - b)) a b ≡ m
    by (inl less) =
        rounds_to_one Floor (raised m (a - b)) (10 ^ (a - b)) (at_scale Floor (raised m (a - b)) a b) m (ten_above (a - b))
        (rounds_to_scale Floor (raised m (a - b)) a b less) (own_floor m (10 ^ (a - b)) (ten_above (a - b)))
    by (inr least) = same least

-- what is at more decimals small is so without them
pub smaller : (m : ℤ) (k n : ℕ) → unsigned_abs (raised m k) ≤ n → unsigned_abs m ≤ n
smaller m k n h = omega (arith, h, times-size m (10 ^ k), below_raised (unsigned_abs m) k)

-- no more decimals than there are
pub no_more : (m : ℤ) (a b n : ℕ) → b ≤ a → a ≤ b → unsigned_abs m ≤ n → unsigned_abs (raised m (b - a)) ≤ n
no_more m a b n le least h = subst (λ (x : ℤ). unsigned_abs x ≤ n) (sym (raised_none m (b - a) (omega (arith, le, least)))) h
