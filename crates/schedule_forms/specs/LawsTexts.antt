-- Laws of schedule files and their texts: every plan of a text is within the limits and names only what is declared, so it
-- can be expanded; a text has no fault, and stands for at most one schedule file; bytes have at most one first fault; and
-- the portfolio of the expansions is one that texts can stand for, so that its canonical text is a text of it.
use Rattle.std.specs.Prelude.{◌≡◌, ℕ, List}
use Rattle.std.specs.List.{All}
use Rattle.contract_grammar.specs.declared.faults.TextFault.{TextFault}
use Rattle.contract_print.specs.Spellable.{IsSpellableBook}
use Rattle.schedule_forms.specs.PlanBooks.{PlanBook, expanded_book}
use Rattle.schedule_forms.specs.DeclaredPlans.{IsPlanOfTexts}
use Rattle.schedule_forms.specs.PlanSpelling.{PlanText}
use Rattle.schedule_forms.specs.PlanTexts.{IsPlanFault}

abbrev pub PlansOfTextsAreExpandable : Type 0
PlansOfTextsAreExpandable =
    (bytes : List ℕ) (b : PlanBook) → PlanText bytes b → All (λ entry. IsPlanOfTexts b.declarations entry.1) b.plans

abbrev pub PlanTextsHaveNoFault : Type 0
PlanTextsHaveNoFault = (bytes : List ℕ) (b : PlanBook) (f : TextFault) → PlanText bytes b → IsPlanFault bytes f → ⊥

abbrev pub OnePlanFile : Type 0
OnePlanFile = (bytes : List ℕ) (b b' : PlanBook) → PlanText bytes b → PlanText bytes b' → b ≡ b'

abbrev pub OnePlanFault : Type 0
OnePlanFault = (bytes : List ℕ) (f g : TextFault) → IsPlanFault bytes f → IsPlanFault bytes g → f ≡ g

abbrev pub ExpandedTextsAreSpellable : Type 0
ExpandedTextsAreSpellable = (bytes : List ℕ) (b : PlanBook) → PlanText bytes b → IsSpellableBook (expanded_book b)
