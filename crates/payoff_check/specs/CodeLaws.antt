-- The laws of verdicts on code at a setting: it is accepted or has a refusal, which is a rule and a node; never both; and
-- never two refusals. So, but for want of memory, a check has no choice in its answer.
use Rattle.std.specs.Prelude.{ℕ, ◌≡◌, ◌⊎◌, List, Result, Err}
use Rattle.term_model.specs.Declarations.{Declarations}
use Rattle.term_model.specs.declared.rules.Rule.{Rule}
use Rattle.term_model.specs.declared.rules.CheckErr.{CheckErr}
use Rattle.term_model.specs.declared.rules.CheckErr.TheVariants.{NoMemory}
use Rattle.payoff_terms.specs.Code.{PayoffCode}
use Rattle.payoff_terms.specs.CodeAcceptance.{IsAcceptedCode, IsCodeRefusal}
use Rattle.payoff_check.specs.declared.checks.CodeFacts.{CodeFacts}
use Rattle.payoff_check.specs.CodeChecks.{IsCheckedCode}

pub record HasRefusal (d : Declarations) (xs : List ℕ) (k : PayoffCode) : Type 0 where
  pub rule : Rule
  pub node : ℕ
  pub refused : IsCodeRefusal d xs k rule node

abbrev pub CodeIsAcceptedOrRefused : Type 0
CodeIsAcceptedOrRefused = (d : Declarations) (xs : List ℕ) (k : PayoffCode) → IsAcceptedCode d xs k ⊎ HasRefusal d xs k

abbrev pub AcceptedCodeIsNotRefused : Type 0
AcceptedCodeIsNotRefused =
    (d : Declarations) (xs : List ℕ) (k : PayoffCode) (rule : Rule) (n : ℕ) → IsAcceptedCode d xs k → IsCodeRefusal d xs k rule n → ⊥

abbrev pub CodeRefusalsAreUnique : Type 0
CodeRefusalsAreUnique =
    (d : Declarations) (xs : List ℕ) (k : PayoffCode) (rule other : Rule) (m n : ℕ)
    → IsCodeRefusal d xs k rule m → IsCodeRefusal d xs k other n → (rule ≡ other) × (m ≡ n)

abbrev pub CodeAnswersAreUnique : Type 0
CodeAnswersAreUnique =
    (d : Declarations) (xs : List ℕ) (k : PayoffCode) (a b : Result CodeFacts CheckErr)
    → IsCheckedCode d xs k a → IsCheckedCode d xs k b
    → (a ≡ b) ⊎ ((a ≡ Err NoMemory) ⊎ (b ≡ Err NoMemory))
