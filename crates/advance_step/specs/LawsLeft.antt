-- The laws of what is left of a contract after some days.
use Rattle.std.specs.Prelude.{ℕ, suc, ℤ, pos, ◌+◌, ◌+ℤ◌, ◌≤◌, ◌≡◌, List, []}
use Rattle.term_model.specs.Declarations.{Declarations}
use Rattle.term_model.specs.Terms.{Contract}
use Rattle.term_model.specs.Environments.{Environment, IsAdmitted, Extends}
use Rattle.term_model.specs.Values.{Entry, kinds}
use Rattle.term_model.specs.Flows.{Flow, flow_of, scale_of_contract}
use Rattle.term_model.specs.Residuals.{Carries}
use Rattle.rewriting.specs.Worth.{flow_at_scale}
use Rattle.advance_step.specs.WhatIsLeft.{left_of}

-- it has no greater a scale
abbrev pub LeftScales : Type 0
LeftScales =
    (d : Declarations) (c : Contract) (g : List Entry) (env : Environment) (f : ℤ) (j : ℕ)
    → scale_of_contract d (left_of d c g env f j) (kinds g) ≤ scale_of_contract d c (kinds g)

-- it pays on each later day what the contract pays
abbrev pub LeftFlows : Type 0
LeftFlows =
    (d : Declarations) (c : Contract) (g : List Entry) (env : Environment) (f : ℤ) (j n : ℕ) (w : Flow)
    → flow_at_scale d g env (f +ℤ pos (suc j)) (pos n) w (scale_of_contract d c (kinds g)) (left_of d c g env f j)
    ≡ flow_of d c g env f (pos (suc j + n)) w

-- a contract is left of c, whatever the admitted environment that extends the fixings
abbrev pub IsLeftInAdmitted : Declarations → Environment → Contract → ℤ → ℕ → Contract → Type 0
IsLeftInAdmitted d fixings c f j rest = (env : Environment) → IsAdmitted d env → Extends fixings env → rest ≡ left_of d c [] env f j

-- such a contract carries it
abbrev pub LeftCarries : Type 0
LeftCarries =
    (d : Declarations) (c : Contract) (f : ℤ) (fixings : Environment) (j : ℕ) (rest : Contract)
    → scale_of_contract d c [] ≤ d.amounts → IsLeftInAdmitted d fixings c f j rest
    → Carries d c f fixings (suc j) rest
