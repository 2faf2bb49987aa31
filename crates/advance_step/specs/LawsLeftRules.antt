-- What is left of an accepted contract after some days: nothing past its reach, its types so many days sooner, and the
-- rules on sorts, scales and bounds.
use Rattle.std.specs.Prelude.{ℕ, suc, ℤ, pos, ◌-ℤ◌, ◌+◌, ◌≤◌, ◌≡◌, ◌⊎◌, List}
use Rattle.term_model.specs.Declarations.{Declarations}
use Rattle.term_model.specs.Terms.{Contract, Zero}
use Rattle.term_model.specs.Environments.{Environment}
use Rattle.term_model.specs.Values.{Entry}
use Rattle.term_model.specs.Sizes.{reach, past_of_contract, nodes_of_contract}
use Rattle.term_model.specs.Times.{TypedContract, lowered_by}
use Rattle.term_model.specs.Bounds.{Range}
use Rattle.interval_check.specs.Nodes.{ContractMeetsRules}
use Rattle.interval_check.specs.Narrowing.{AreNarrower}
use Rattle.interval_check.specs.Within.{KeepsLimits}
use Rattle.rewriting.specs.Replacing.{ReplacesContract}
use Rattle.advance_step.specs.WhatIsLeft.{left_of}

abbrev pub NothingIsLeft : Type 0
NothingIsLeft =
    (d : Declarations) (c : Contract) (g : List Entry) (env : Environment) (f : ℤ) (j : ℕ) → reach c ≤ j
    → left_of d c g env f j ≡ Zero

-- what is left, if anything, reaches so many days less far
abbrev pub ReachIsLess : Type 0
ReachIsLess =
    (d : Declarations) (c : Contract) (g : List Entry) (env : Environment) (f : ℤ) (j : ℕ)
    → (left_of d c g env f j ≡ Zero) ⊎ (reach (left_of d c g env f j) + suc j ≤ reach c)

-- and reads at most so many days farther back
abbrev pub PastIsMore : Type 0
PastIsMore =
    (d : Declarations) (c : Contract) (g : List Entry) (env : Environment) (f : ℤ) (j : ℕ)
    → past_of_contract (left_of d c g env f j) ≤ past_of_contract c + suc j

abbrev pub NodesAreNoMore : Type 0
NodesAreNoMore =
    (d : Declarations) (c : Contract) (g : List Entry) (env : Environment) (f : ℤ) (j : ℕ)
    → (nodes_of_contract (left_of d c g env f j) ≤ nodes_of_contract c)

abbrev pub LeftIsTyped : Type 0
LeftIsTyped =
    (d : Declarations) (c : Contract) (es : List Entry) (env : Environment) (f : ℤ) (j : ℕ) (g : List ℤ) (t : ℤ)
    → TypedContract g c t → TypedContract (lowered_by (suc j) g) (left_of d c es env f j) (t -ℤ pos (suc j))

abbrev pub LeftReplaces : Type 0
LeftReplaces =
    (d : Declarations) (c : Contract) (es : List Entry) (env : Environment) (f : ℤ) (j : ℕ) (g : List Range)
    → KeepsLimits d → AreNarrower g g → ContractMeetsRules d c g → ReplacesContract d (left_of d c es env f j) c g
