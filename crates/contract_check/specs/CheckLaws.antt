-- The law of checks: but for want of memory, a contract has one answer. It is accepted, with the facts that are true of
-- it, or refused, with the rule and the node that the order of trial names; and never both.
use Rattle.std.specs.Prelude.{◌≡◌, ◌⊎◌, Result, Err}
use Rattle.term_model.specs.Declarations.{Declarations}
use Rattle.term_model.specs.Terms.{Contract}
use Rattle.term_model.specs.Acceptance.{Facts, AreFacts}
use Rattle.term_model.specs.declared.rules.CheckErr.{CheckErr}
use Rattle.term_model.specs.declared.rules.CheckErr.TheVariants.{NoMemory}
use Rattle.contract_check.specs.declared.checks.Facts.{Facts as Answer}
use Rattle.contract_check.specs.Checks.{IsChecked}

abbrev pub FactsAreUnique : Type 0
FactsAreUnique = (d : Declarations) (c : Contract) (a b : Facts) → AreFacts d c a → AreFacts d c b → a ≡ b

abbrev pub AnswersAreUnique : Type 0
AnswersAreUnique =
    (d : Declarations) (c : Contract) (a b : Result Answer CheckErr) → IsChecked d c a → IsChecked d c b
    → (a ≡ b) ⊎ ((a ≡ Err NoMemory) ⊎ (b ≡ Err NoMemory))
