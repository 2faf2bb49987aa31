-- What is left of an accepted contract is accepted.
use Rattle.std.specs.Prelude.{ℕ, ℤ, ◌+◌, ◌≤◌, List, []}
use Rattle.term_model.specs.Declarations.{Declarations}
use Rattle.term_model.specs.Terms.{Contract}
use Rattle.term_model.specs.Environments.{Environment}
use Rattle.term_model.specs.Values.{Entry}
use Rattle.term_model.specs.Sizes.{reach, past_of_contract}
use Rattle.term_model.specs.WellFormed.{IsWellFormedContract, HasOnlyNumbers}
use Rattle.term_model.specs.Acceptance.{IsAccepted}
use Rattle.interval_check.specs.Within.{KeepsLimits}
use Rattle.advance_step.specs.WhatIsLeft.{left_of}

-- no offset leaves its limit, since the reach and the past of the contract are together at most 1,000,000 days
abbrev pub LeftIsWellFormed : Type 0
LeftIsWellFormed =
    (d : Declarations) (c : Contract) (g : List Entry) (env : Environment) (f : ℤ) (j k : ℕ)
    → reach c + past_of_contract c ≤ 1_000_000 → IsWellFormedContract d k c → HasOnlyNumbers c
    → IsWellFormedContract d k (left_of d c g env f j) × HasOnlyNumbers (left_of d c g env f j)

abbrev pub LeftIsAccepted : Type 0
LeftIsAccepted =
    (d : Declarations) (c : Contract) (env : Environment) (f : ℤ) (j : ℕ)
    → KeepsLimits d → IsAccepted d c → IsAccepted d (left_of d c [] env f j)
