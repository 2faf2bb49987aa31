-- What a contract pays to anyone: sums over days, pairs of parties and assets at once. Such a sum is taken over a list of
-- occasions in which no day, pair and asset stands twice, so over any finite part of all that there are. The volume of a
-- contract is the sizes of all its single payments between two different parties, before any is netted against another.
use Rattle.std.specs.Prelude.{ℕ, ℤ, pos, ◌+ℤ◌, ◌+◌, ◌-◌, ◌*◌, ◌^◌, ◌≤◌, ◌≡◌, ◌⊎◌, ◌==◌, max, unsigned_abs, List, [], ◌∷◌, Some, None, if◌then◌else◌}
use Rattle.std.specs.List.{All, sum_by}
use Rattle.term_model.specs.Declarations.{Declarations}
use Rattle.term_model.specs.declared.rules.Rule.TheVariants.{Bound}
use Rattle.term_model.specs.Terms.{Contract, Zero, Pay, Both, Scale, After, Let, Within}
use Rattle.term_model.specs.Environments.{Environment, IsAdmitted}
use Rattle.term_model.specs.Values.{Entry, kinds, num, value_of, first_true, entry_of}
use Rattle.term_model.specs.Flows.{Flow, count_of, scale_of_contract, flow_of, amount_of}
use Rattle.term_model.specs.Bounds.{Range, total_of, aligned_total}
use Rattle.term_model.specs.Acceptance.{Meets}
use Rattle.interval_check.specs.Nodes.{IsBoundedContract}
use Rattle.interval_check.specs.Within.{AreWithin, KeepsLimits}

-- a day, and who may pay whom in what on it
pub record Occasion : Type 0 where
  pub day : ℤ
  pub flow : Flow

-- the same asset, and the same two parties, whichever of them pays
pub record IsSamePair (v w : Flow) : Type 0 where
  pub asset : v.asset ≡ w.asset
  pub parties : ((v.from ≡ w.from) × (v.to ≡ w.to)) ⊎ ((v.from ≡ w.to) × (v.to ≡ w.from))

-- another day, another asset or another pair of parties
abbrev pub IsApart : Occasion → Occasion → Type 0
IsApart x y = x.day ≡ y.day → IsSamePair x.flow y.flow → ⊥

-- no day, pair of parties and asset stands twice
abbrev pub AreApart : List Occasion → Type 0
AreApart [] = Unit {0}
AreApart (x ∷ xs) = All (λ y. IsApart x y) xs × AreApart xs

-- the sizes of all single payments between two different parties, in units of the contract's scale
abbrev pub volume_of : Declarations → Contract → List Entry → Environment → ℤ → ℕ
volume_of d Zero es env f = 0
volume_of d (Pay a p q) es env f = if p == q then 0 else 1
volume_of d (Both a b) es env f =
    let i = scale_of_contract d a (kinds es) in
    let j = scale_of_contract d b (kinds es) in
    volume_of d a es env f * 10 ^ (max i j - i) + volume_of d b es env f * 10 ^ (max i j - j)
volume_of d (Scale e c) es env f = volume_of d c es env f * unsigned_abs (num (value_of d e es env f))
volume_of d (After n c) es env f = volume_of d c es env (f +ℤ pos (count_of n))
volume_of d (Let e c) es env f = volume_of d c (entry_of d e es env f ∷ es) env f
volume_of d (Within e n a b) es env f =
    let i = scale_of_contract d a (kinds es) in
    let j = scale_of_contract d b (kinds es) in
    elim (first_true d e es env f (count_of n)) [
      | Some k ↦ volume_of d a es env (f +ℤ pos k) * 10 ^ (max i j - i)
      | None ↦ volume_of d b es env (f +ℤ pos (count_of n)) * 10 ^ (max i j - j)
    ]

-- the sizes of what a contract pays on the occasions
abbrev pub sum_on : Declarations → Contract → List Entry → Environment → ℤ → List Occasion → ℕ
sum_on d c es env f xs = sum_by (λ x. unsigned_abs (flow_of d c es env f x.day x.flow)) xs

-- the same of a closed contract at the portfolio's decimals
abbrev pub amounts_on : Declarations → Contract → Environment → ℤ → List Occasion → ℕ
amounts_on d c env f xs = sum_by (λ x. unsigned_abs (amount_of d c env f x.day x.flow)) xs

-- over all days, pairs of parties and assets, the sizes of what a contract pays add up to at most its volume, and this
-- is at most its total
abbrev pub AllFlowsAddUpToTotal : Type 0
AllFlowsAddUpToTotal =
    (d : Declarations) (c : Contract) (g : List Range) (es : List Entry) (env : Environment) (f : ℤ) (xs : List Occasion)
    → KeepsLimits d → IsBoundedContract d c g → AreWithin g es → IsAdmitted d env → AreApart xs
    → (sum_on d c es env f xs ≤ volume_of d c es env f) × (volume_of d c es env f ≤ total_of d c g)

-- the same of a closed contract, in units of its scale and at the portfolio's decimals
abbrev pub AllAmountsAddUpToTotal : Type 0
AllAmountsAddUpToTotal =
    (d : Declarations) (c : Contract) (env : Environment) (f : ℤ) (xs : List Occasion)
    → KeepsLimits d → Meets d Bound c → IsAdmitted d env → AreApart xs
    → (sum_on d c [] env f xs ≤ total_of d c []) × (amounts_on d c env f xs ≤ aligned_total d c [])
