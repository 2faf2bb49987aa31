-- What a contract is worth on a day, at a scale that is no less than its own.
use Rattle.std.specs.Prelude.{ℕ, ℤ, ◌-◌, ◌≤◌, ◌≡◌, List}
use Rattle.decimal.specs.Rounding.{raised}
use Rattle.term_model.specs.Declarations.{Declarations}
use Rattle.term_model.specs.Terms.{Contract}
use Rattle.term_model.specs.Environments.{Environment}
use Rattle.term_model.specs.Values.{Entry, kinds}
use Rattle.term_model.specs.Flows.{Flow, flow_of, scale_of_contract}

-- what c pays on its own day x, at scale s
abbrev pub flow_at_scale : Declarations → List Entry → Environment → ℤ → ℤ → Flow → ℕ → Contract → ℤ
flow_at_scale d g env f x w s c = raised (flow_of d c g env f x w) (s - scale_of_contract d c (kinds g))

-- at scale s it pays v
abbrev pub IsWorth : Declarations → List Entry → Environment → ℤ → ℤ → Flow → ℕ → ℤ → Contract → Type 0
IsWorth d g env f x w s v c = (scale_of_contract d c (kinds g) ≤ s) × (flow_at_scale d g env f x w s c ≡ v)

-- at the scale of c another contract pays what c pays
abbrev pub IsWorthTheSame : Declarations → List Entry → Environment → ℤ → ℤ → Flow → Contract → Contract → Type 0
IsWorthTheSame d g env f x w r c = IsWorth d g env f x w (scale_of_contract d c (kinds g)) (flow_of d c g env f x w) r
