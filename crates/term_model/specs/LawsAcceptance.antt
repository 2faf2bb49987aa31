-- The law of refusals: a contract has at most one refusal, which is a rule and a node, and an accepted contract has
-- none. So a checker that answers a refusal has no choice. And of one rule: it holds everywhere or fails first at one
-- node, and never both.
use Rattle.std.specs.Prelude.{ℕ, ◌≡◌}
use Rattle.term_model.specs.Declarations.{Declarations}
use Rattle.term_model.specs.declared.rules.Rule.{Rule}
use Rattle.term_model.specs.Terms.{Contract}
use Rattle.term_model.specs.Acceptance.{Meets, FailsAt, IsAccepted, IsRefusal}

abbrev pub RefusalsAreUnique : Type 0
RefusalsAreUnique =
    (d : Declarations) (c : Contract) (rule other : Rule) (j k : ℕ)
    → IsRefusal d c rule j → IsRefusal d c other k → (rule ≡ other) × (j ≡ k)

abbrev pub AcceptedAreNotRefused : Type 0
AcceptedAreNotRefused = (d : Declarations) (c : Contract) (rule : Rule) (k : ℕ) → IsAccepted d c → IsRefusal d c rule k → ⊥

abbrev pub RulesHoldOrFail : Type 0
RulesHoldOrFail =
    (d : Declarations) (rule : Rule) (c : Contract) (k : ℕ) → Meets d rule c → FailsAt d rule c k → ⊥

abbrev pub FaultsAreUnique : Type 0
FaultsAreUnique =
    (d : Declarations) (rule : Rule) (c : Contract) (j k : ℕ) → FailsAt d rule c j → FailsAt d rule c k → j ≡ k
