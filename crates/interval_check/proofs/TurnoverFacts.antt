-- The turnover of a contract is at most its total, and at least the sum of the sizes of its flows over any days.
use Rattle.std.proofs.Common.{◌≡◌, ℕ, ◌+◌, ◌-◌, ◌*◌, ◌^◌, max, ◌≤◌, ℤ, pos, neg_ℤ, ◌+ℤ◌, ◌-ℤ◌, ◌*ℤ◌, unsigned_abs, Bool, true, false, ◌&&◌, not, ◌==◌, if◌then◌else◌, List, ◌∷◌, Option, Some, None, refl, ap, sym, subst, arith}
use Rattle.std.proofs.Math.Nat.{mul-le-mul_right, mul-le-mul_left}
use Rattle.std.proofs.lemmas.Int.{ints}
use Rattle.decimal.specs.Rounding.{raised}
use Rattle.term_model.specs.Declarations.{Declarations}
use Rattle.term_model.specs.declared.values.Kind.{Kind}
use Rattle.term_model.specs.Terms.{Expression, Contract, Zero, Pay, Both, Scale, After, Let, Within}
use Rattle.term_model.specs.Environments.{Environment, IsAdmitted}
use Rattle.term_model.specs.Kinds.{kind_of}
use Rattle.term_model.specs.Values.{Entry, kinds, num, kind_or, value_of, first_true}
use Rattle.term_model.specs.Flows.{Flow, count_of, scale_of_contract, unit_flow, flow_of}
use Rattle.term_model.specs.Bounds.{Interval, Range, range_kinds, interval_of, greatest_size, total_of}
use Rattle.interval_check.specs.Nodes.{IsBoundedContract, range_of}
use Rattle.interval_check.specs.Within.{IsIn, KeepsLimits}
use Rattle.interval_check.specs.Sums.{sum_of_sizes, sum_of_flows, entry_of, turnover_of}
use Rattle.interval_check.proofs.TestFacts.{small_between}
use Rattle.interval_check.proofs.ValueFacts.{AreInside, same_kinds, values_lie}
use Rattle.interval_check.proofs.SumFacts.{sum_same, sum_none, sum_raised, sum_plus, sum_times, sum_of_one, sum_on_day_zero}

-- at most the total

-- a number of an interval is at most the greatest size in it
pub size_in : (i : Interval) (m : ℤ) → IsIn i m → unsigned_abs m ≤ greatest_size i
size_in i m h = small_between i.low i.high m (greatest_size i) (omega arith) (omega arith) h.low h.high

-- a unit in one direction, or nothing
unit_size : (on same ours theirs : Bool) → unsigned_abs (if on && not same then (if ours then pos 1 else (if theirs then neg_ℤ (pos 1) else pos 0)) else pos 0) ≤ 1
unit_size false same ours theirs = omega arith
unit_size true true ours theirs = omega arith
unit_size true false true theirs = omega arith
unit_size true false false true = omega arith
unit_size true false false false = omega arith

unit_at_most : (a p q : ℕ) (w : Flow) → unsigned_abs (unit_flow a p q w) ≤ 1
unit_at_most a p q w = unit_size (a == w.asset) (p == q) ((p == w.from) && (q == w.to)) ((p == w.to) && (q == w.from))

-- a name that is bound by a `let`
pub inside_let : (d : Declarations) (e : Expression) (g : List Range) (es : List Entry) (env : Environment) (f : ℤ) → AreInside g es → IsIn (interval_of d e g) (num (value_of d e es env f)) → AreInside (range_of d e g ∷ g) (entry_of d e es env f ∷ es)
inside_let d e g es env f inside h =
    (ap (λ (ks : List Kind). kind_or (kind_of d e ks)) (sym (same_kinds g es inside)), h, inside)

pub both_at_most : (x y a b p q : ℕ) → x ≤ a → y ≤ b → x * p + y * q ≤ a * p + b * q
both_at_most x y a b p q h g =
    let left = mul-le-mul_right p h in
    let right = mul-le-mul_right q g in
    omega arith

pub product_at_most : (x y a b : ℕ) → x ≤ a → y ≤ b → x * y ≤ a * b
product_at_most x y a b h g =
    let one = mul-le-mul_right y h in
    let two = mul-le-mul_left a g in
    omega arith

pub branch_at_most : (o : Option ℕ) (x : ℕ → ℕ) (y a b p q : ℕ) → ((k : ℕ) → x k ≤ a) → y ≤ b → elim o [ Some k ↦ x k * p | None ↦ y * q ] ≤ max (a * p) (b * q)
branch_at_most (Some k) x y a b p q h g = let left = mul-le-mul_right p (h k) in omega arith
branch_at_most None x y a b p q h g = let right = mul-le-mul_right q g in omega arith

abbrev pub TurnoverIsAtMost : Declarations → Contract → Type 0
TurnoverIsAtMost d c =
    (g : List Range) (es : List Entry) (env : Environment) (f : ℤ) (w : Flow) → IsBoundedContract d c g → AreInside g es → IsAdmitted d env → turnover_of d c es env f w ≤ total_of d c g

pub turnover_at_most : (d : Declarations) → KeepsLimits d → (c : Contract) → TurnoverIsAtMost d c
turnover_at_most d limits Zero g es env f w h inside admitted = omega arith
turnover_at_most d limits (Pay a p q) g es env f w h inside admitted = unit_at_most a p q w
turnover_at_most d limits (Both a b) g es env f w h inside admitted =
    subst (λ (ks : List Kind). turnover_of d a es env f w * 10 ^ (max (scale_of_contract d a ks) (scale_of_contract d b ks) - scale_of_contract d a ks) + turnover_of d b es env f w * 10 ^ (max (scale_of_contract d a ks) (scale_of_contract d b ks) - scale_of_contract d b ks) ≤ total_of d (Both a b) g) (same_kinds g es inside)
    (both_at_most (turnover_of d a es env f w) (turnover_of d b es env f w) (total_of d a g) (total_of d b g) (10 ^ (max (scale_of_contract d a (range_kinds g)) (scale_of_contract d b (range_kinds g)) - scale_of_contract d a (range_kinds g))) (10 ^ (max (scale_of_contract d a (range_kinds g)) (scale_of_contract d b (range_kinds g)) - scale_of_contract d b (range_kinds g))) (turnover_at_most d limits a g es env f w h.0 inside admitted) (turnover_at_most d limits b g es env f w h.1 inside admitted))
turnover_at_most d limits (Scale e c) g es env f w h inside admitted =
    product_at_most (turnover_of d c es env f w) (unsigned_abs (num (value_of d e es env f))) (total_of d c g) (greatest_size (interval_of d e g)) (turnover_at_most d limits c g es env f w h.1 inside admitted) (size_in (interval_of d e g) (num (value_of d e es env f)) (values_lie d limits e g es env f h.0 inside admitted))
turnover_at_most d limits (After n c) g es env f w h inside admitted =
    turnover_at_most d limits c g es env (f +ℤ pos (count_of n)) w h.0 inside admitted
turnover_at_most d limits (Let e c) g es env f w h inside admitted =
    turnover_at_most d limits c (range_of d e g ∷ g) (entry_of d e es env f ∷ es) env f w h.1 (inside_let d e g es env f inside (values_lie d limits e g es env f h.0 inside admitted)) admitted
turnover_at_most d limits (Within e n a b) g es env f w h inside admitted =
    let i = scale_of_contract d a (range_kinds g) in
    let j = scale_of_contract d b (range_kinds g) in
    subst (λ (ks : List Kind). elim (first_true d e es env f (count_of n)) [ Some k ↦ turnover_of d a es env (f +ℤ pos k) w * 10 ^ (max (scale_of_contract d a ks) (scale_of_contract d b ks) - scale_of_contract d a ks) | None ↦ turnover_of d b es env (f +ℤ pos (count_of n)) w * 10 ^ (max (scale_of_contract d a ks) (scale_of_contract d b ks) - scale_of_contract d b ks) ] ≤ total_of d (Within e n a b) g) (same_kinds g es inside)
    (branch_at_most (first_true d e es env f (count_of n)) (λ k. turnover_of d a es env (f +ℤ pos k) w) (turnover_of d b es env (f +ℤ pos (count_of n)) w) (total_of d a g) (total_of d b g) (10 ^ (max i j - i)) (10 ^ (max i j - j)) (λ k. turnover_at_most d limits a g es env (f +ℤ pos k) w h.1 inside admitted) (turnover_at_most d limits b g es env (f +ℤ pos (count_of n)) w h.2 inside admitted))

-- at least the flows

-- k days later
moved_sum : (d : Declarations) (c : Contract) (es : List Entry) (env : Environment) (f m : ℤ) (k n : ℕ) (w : Flow) → sum_of_sizes n (λ i. flow_of d c es env f (m +ℤ pos i -ℤ pos k) w) ≡ sum_of_flows d c es env f (m -ℤ pos k) n w
moved_sum d c es env f m k n w =
    sum_same n _ _ (λ i. let same : m +ℤ pos i -ℤ pos k ≡ m -ℤ pos k +ℤ pos i = omega (arith, ints) in ap (λ (x : ℤ). flow_of d c es env f x w) same)

raised_sum : (n : ℕ) (x : ℕ → ℤ) (k most : ℕ) → sum_of_sizes n x ≤ most → sum_of_sizes n (λ i. raised (x i) k) ≤ most * 10 ^ k
raised_sum n x k most h = omega (arith, sum_raised n x k, mul-le-mul_right (10 ^ k) h)

sum_of_both : (n : ℕ) (x y : ℕ → ℤ) (p q a b : ℕ) → sum_of_sizes n x ≤ a → sum_of_sizes n y ≤ b → sum_of_sizes n (λ k. raised (x k) p +ℤ raised (y k) q) ≤ a * 10 ^ p + b * 10 ^ q
sum_of_both n x y p q a b h g =
    let left = raised_sum n x p a h in
    let right = raised_sum n y q b g in
    let parts = sum_plus n (λ k. raised (x k) p) (λ k. raised (y k) q) in
    omega arith

sum_of_product : (n : ℕ) (v : ℤ) (x : ℕ → ℤ) (most : ℕ) → sum_of_sizes n x ≤ most → sum_of_sizes n (λ i. v *ℤ x i) ≤ most * unsigned_abs v
sum_of_product n v x most h = omega (arith, sum_times n v x, mul-le-mul_right (unsigned_abs v) h)

sum_of_branch : (n : ℕ) (o : Option ℕ) (x : ℕ → ℕ → ℤ) (y : ℕ → ℤ) (a : ℕ → ℕ) (b p q : ℕ) → ((k : ℕ) → sum_of_sizes n (x k) ≤ a k) → sum_of_sizes n y ≤ b → sum_of_sizes n (λ i. elim o [ Some k ↦ raised (x k i) p | None ↦ raised (y i) q ]) ≤ elim o [ Some k ↦ a k * 10 ^ p | None ↦ b * 10 ^ q ]
sum_of_branch n (Some k) x y a b p q h g = raised_sum n (x k) p (a k) (h k)
sum_of_branch n None x y a b p q h g = raised_sum n y q b g

pub flows_within_turnover : (d : Declarations) (c : Contract) (es : List Entry) (env : Environment) (f m : ℤ) (n : ℕ) (w : Flow) → sum_of_flows d c es env f m n w ≤ turnover_of d c es env f w
flows_within_turnover d Zero es env f m n w =
    let none = sum_none n (λ i. pos 0) (λ i l. refl) in
    omega arith
flows_within_turnover d (Pay a p q) es env f m n w = sum_on_day_zero n m (unit_flow a p q w)
flows_within_turnover d (Both a b) es env f m n w =
    let i = scale_of_contract d a (kinds es) in
    let j = scale_of_contract d b (kinds es) in
    sum_of_both n (λ k. flow_of d a es env f (m +ℤ pos k) w) (λ k. flow_of d b es env f (m +ℤ pos k) w) (max i j - i) (max i j - j) (turnover_of d a es env f w) (turnover_of d b es env f w) (flows_within_turnover d a es env f m n w) (flows_within_turnover d b es env f m n w)
flows_within_turnover d (Scale e c) es env f m n w =
    sum_of_product n (num (value_of d e es env f)) (λ i. flow_of d c es env f (m +ℤ pos i) w) (turnover_of d c es env f w) (flows_within_turnover d c es env f m n w)
flows_within_turnover d (After k c) es env f m n w =
    subst (λ (s : ℕ). s ≤ turnover_of d c es env (f +ℤ pos (count_of k)) w) (sym (moved_sum d c es env (f +ℤ pos (count_of k)) m (count_of k) n w)) (flows_within_turnover d c es env (f +ℤ pos (count_of k)) (m -ℤ pos (count_of k)) n w)
flows_within_turnover d (Let e c) es env f m n w = flows_within_turnover d c (entry_of d e es env f ∷ es) env f m n w
flows_within_turnover d (Within e k a b) es env f m n w =
    let i = scale_of_contract d a (kinds es) in
    let j = scale_of_contract d b (kinds es) in
    let day = f +ℤ pos (count_of k) in
    sum_of_branch n (first_true d e es env f (count_of k)) (λ l t. flow_of d a es env (f +ℤ pos l) (m +ℤ pos t -ℤ pos l) w) (λ t. flow_of d b es env day (m +ℤ pos t -ℤ pos (count_of k)) w) (λ l. turnover_of d a es env (f +ℤ pos l) w) (turnover_of d b es env day w) (max i j - i) (max i j - j)
    (λ l. subst (λ (s : ℕ). s ≤ turnover_of d a es env (f +ℤ pos l) w) (sym (moved_sum d a es env (f +ℤ pos l) m l n w)) (flows_within_turnover d a es env (f +ℤ pos l) (m -ℤ pos l) n w))
    (subst (λ (s : ℕ). s ≤ turnover_of d b es env day w) (sym (moved_sum d b es env day m (count_of k) n w)) (flows_within_turnover d b es env day (m -ℤ pos (count_of k)) n w))

-- one day alone
pub flow_within_turnover : (d : Declarations) (c : Contract) (es : List Entry) (env : Environment) (f n : ℤ) (w : Flow) → unsigned_abs (flow_of d c es env f n w) ≤ turnover_of d c es env f w
flow_within_turnover d c es env f n w =
    let known = flows_within_turnover d c es env f n 1 w in
    let here : n +ℤ pos 0 ≡ n = omega (arith, ints) in
    let same : unsigned_abs (flow_of d c es env f (n +ℤ pos 0) w) ≡ unsigned_abs (flow_of d c es env f n w) = ap (λ (x : ℤ). unsigned_abs (flow_of d c es env f x w)) here in
    omega (arith, sum_of_one (λ i. flow_of d c es env f (n +ℤ pos i) w))
