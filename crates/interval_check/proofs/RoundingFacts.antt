-- Rounding keeps order: what is not greater is not rounded to a greater number.
use Rattle.std.proofs.Common.{◌≡◌, ◌≢◌, ℕ, ◌+◌, ◌-◌, ◌*◌, ◌^◌, ◌%◌, ◌<◌, ◌≤◌, ◌⊎◌, inl, inr, ℤ, pos, ◌-ℤ◌, ◌*ℤ◌, ◌≤ℤ◌, ◌<ℤ◌, unsigned_abs, ap, sym, subst, ◌∙◌, arith}
use Rattle.std.proofs.Math.Nat.{mul_comm, add-mul, mul-le-mul_right}
use Rattle.std.proofs.lemmas.Bool.{cases_lt}
use Rattle.std.proofs.lemmas.Bool.Decides.{nat_tests}
use Rattle.std.proofs.lemmas.Int.{ints, by_lt_z}
use Rattle.decimal.specs.declared.rounding.Mode.{Mode}
use Rattle.decimal.specs.declared.rounding.Mode.TheVariants.{HalfEven, HalfAway, Floor, Ceil}
use Rattle.decimal.specs.Rounding.{raised, at_scale}
use Rattle.decimal.specs.Rounded.{distance, IsNearest, IsRounded}
use Rattle.decimal.proofs.PowerFacts.{ten_above}
use Rattle.decimal.proofs.RoundedFacts.{wider, rounds_to_scale}
use Rattle.decimal.proofs.OneRoundingFacts.{rounds_to_one}
use Rattle.interval_check.proofs.MultipleFacts.{times-le, times-sub, times-times, times-cancel, times-size}

-- the nearest is no farther than another
no_farther : (Pref : ℤ → ℤ → Type 0) (m p q : ℤ) (n : ℕ) → q ≢ p → IsNearest Pref m n p → distance m n p ≤ distance m n q
no_farther Pref m p q n other near = by (near q other)
  where
    by : (distance m n p < distance m n q) ⊎ ((distance m n p ≡ distance m n q) × Pref p q) → distance m n p ≤ distance m n q
    by (inl less) = omega arith
    by (inr same) = let e = same.0 in omega arith

-- where the lesser of two numbers is rounded to the greater answer, both are halfway
halfway : (m k P Q : ℤ) → m ≤ℤ k → Q <ℤ P → unsigned_abs (m -ℤ P) ≤ unsigned_abs (m -ℤ Q) → unsigned_abs (k -ℤ Q) ≤ unsigned_abs (k -ℤ P) → m ≡ k
halfway m k P Q le less near_p near_q = omega (arith, ints)

nearest_halfway : (Pref : ℤ → ℤ → Type 0) (m k p q : ℤ) (n : ℕ) → 0 < n → m ≤ℤ k → q <ℤ p → IsNearest Pref m n p → IsNearest Pref k n q → m ≡ k
nearest_halfway Pref m k p q n above le less near_p near_q =
    halfway m k (p *ℤ pos n) (q *ℤ pos n) le (omega (arith, ints, wider q p n less)) (no_farther Pref m p q n (λ e. omega (arith, ints)) near_p) (no_farther Pref k q p n (λ e. omega (arith, ints)) near_q)

nearest_rises : (mode : Mode) (m k p q : ℤ) (n : ℕ) → 0 < n → IsRounded mode m n p → IsRounded mode k n q → (q <ℤ p → m ≡ k) → p ≤ℤ q
nearest_rises mode m k p q n above at_p at_q meet =
    by_lt_z q p
    (λ less. let same = rounds_to_one mode m n p q above at_p (subst (λ (x : ℤ). IsRounded mode x n q) (sym (meet less)) at_q) in absurd (omega (arith, ints)))
    (λ le. le)

-- over one denominator
pub rounded_rises : (mode : Mode) (m k p q : ℤ) (n : ℕ) → 0 < n → m ≤ℤ k → IsRounded mode m n p → IsRounded mode k n q → p ≤ℤ q
rounded_rises HalfEven m k p q n above le at_p at_q =
    nearest_rises HalfEven m k p q n above at_p at_q (λ less. nearest_halfway (λ a b. unsigned_abs a % 2 ≡ 0) m k p q n above le less at_p at_q)
rounded_rises HalfAway m k p q n above le at_p at_q =
    nearest_rises HalfAway m k p q n above at_p at_q (λ less. nearest_halfway (λ a b. unsigned_abs b < unsigned_abs a) m k p q n above le less at_p at_q)
rounded_rises Floor m k p q n above le at_p at_q = at_q.1 p (let here = at_p.0 in omega (arith, ints))
rounded_rises Ceil m k p q n above le at_p at_q = at_p.1 q (let here = at_q.0 in omega (arith, ints))

-- the same number over a denominator of k times the size

distance_times : (m q : ℤ) (n k : ℕ) → distance (m *ℤ pos k) (n * k) q ≡ distance m n q * k
distance_times m q n k =
    ap (λ (x : ℤ). unsigned_abs (m *ℤ pos k -ℤ x)) (times-times q n k)
    ∙ ap unsigned_abs (sym (times-sub m (q *ℤ pos n) k))
    ∙ times-size (m -ℤ q *ℤ pos n) k

nearest_times : (Pref : ℤ → ℤ → Type 0) (m p : ℤ) (n k : ℕ) → 0 < k → IsNearest Pref m n p → IsNearest Pref (m *ℤ pos k) (n * k) p
nearest_times Pref m p n k above near q other = by (near q other)
  where
    by : (distance m n p < distance m n q) ⊎ ((distance m n p ≡ distance m n q) × Pref p q) → (distance (m *ℤ pos k) (n * k) p < distance (m *ℤ pos k) (n * k) q) ⊎ ((distance (m *ℤ pos k) (n * k) p ≡ distance (m *ℤ pos k) (n * k) q) × Pref p q)
    by (inl less) =
        let more : distance m n p + 1 ≤ distance m n q = omega arith in
        inl (omega (arith, distance_times m p n k, distance_times m q n k, mul-le-mul_right k more, add-mul (distance m n p) 1 k))
    by (inr same) = inr (distance_times m p n k ∙ ap (λ (x : ℕ). x * k) same.0 ∙ sym (distance_times m q n k), same.1)

pub rounded_times : (mode : Mode) (m p : ℤ) (n k : ℕ) → 0 < k → IsRounded mode m n p → IsRounded mode (m *ℤ pos k) (n * k) p
rounded_times HalfEven m p n k above at_p = nearest_times (λ a b. unsigned_abs a % 2 ≡ 0) m p n k above at_p
rounded_times HalfAway m p n k above at_p = nearest_times (λ a b. unsigned_abs b < unsigned_abs a) m p n k above at_p
rounded_times Floor m p n k above at_p = (
  subst (λ (x : ℤ). x ≤ℤ (m *ℤ pos k)) (sym (times-times p n k)) (times-le (p *ℤ pos n) m k at_p.0),
  λ q h. at_p.1 q (times-cancel (q *ℤ pos n) m k above (subst (λ (x : ℤ). x ≤ℤ (m *ℤ pos k)) (times-times q n k) h)),
)
rounded_times Ceil m p n k above at_p = (
  subst (λ (x : ℤ). (m *ℤ pos k) ≤ℤ x) (sym (times-times p n k)) (times-le m (p *ℤ pos n) k at_p.0),
  λ q h. at_p.1 q (times-cancel m (q *ℤ pos n) k above (subst (λ (x : ℤ). (m *ℤ pos k) ≤ℤ x) (times-times q n k) h)),
)

-- over two denominators
pub rounded_across : (mode : Mode) (m : ℤ) (n : ℕ) (p : ℤ) (k : ℤ) (l : ℕ) (q : ℤ) → 0 < n → 0 < l → (m *ℤ pos l) ≤ℤ (k *ℤ pos n) → IsRounded mode m n p → IsRounded mode k l q → p ≤ℤ q
rounded_across mode m n p k l q above over le at_p at_q =
    rounded_rises mode (m *ℤ pos l) (k *ℤ pos n) p q (n * l) (positive n l above over) le (rounded_times mode m p n l over at_p)
    (subst (λ (x : ℕ). IsRounded mode (k *ℤ pos n) x q) (mul_comm l n) (rounded_times mode k q l n above at_q))
  where
    positive : (a b : ℕ) → 0 < a → 0 < b → 0 < a * b
    positive a b ha hb =
        let one : 1 ≤ a = omega arith in
        omega (arith, mul-le-mul_right b one)

-- to another scale

pub at_scale_up : (mode : Mode) (m : ℤ) (a b : ℕ) → a ≤ b → at_scale mode m a b ≡ raised m (b - a)
unfolding at_scale
at_scale_up mode m a b h = grind (arith, nat_tests)

pub raised_rises : (m n : ℤ) (k : ℕ) → m ≤ℤ n → raised m k ≤ℤ raised n k
raised_rises m n k h = times-le m n (10 ^ k) h

pub at_scale_rises : (mode : Mode) (m n : ℤ) (a b : ℕ) → m ≤ℤ n → at_scale mode m a b ≤ℤ at_scale mode n a b
at_scale_rises mode m n a b h = by (cases_lt b a)
  where
    by : (b < a) ⊎ (a ≤ b) → at_scale mode m a b ≤ℤ at_scale mode n a b
    by (inl down) =
        rounded_rises mode m n (at_scale mode m a b) (at_scale mode n a b) (10 ^ (a - b)) (ten_above (a - b)) h (rounds_to_scale mode m a b down) (rounds_to_scale mode n a b down)
    by (inr up) =
        let e = at_scale_up mode m a b up in
        let e' = at_scale_up mode n a b up in
        omega (arith, ints, raised_rises m n (b - a) h)
