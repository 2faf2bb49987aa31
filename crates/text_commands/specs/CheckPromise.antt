-- What the command `check` writes of a portfolio: for each contract in its order, at the numbers that the templates are
-- declared with, a line with the facts of the contract where it is accepted, and so is causal, or with the rule that
-- refuses it and the first node at which that fails.
use Rattle.std.specs.Prelude.{◌≡◌, ◌⊎◌, ℕ, pos, List, [], ◌∷◌, ◌++◌, None}
use Rattle.term_model.specs.declared.name.Name.{Name}
use Rattle.term_model.specs.declared.rules.Rule.{Rule}
use Rattle.term_model.specs.Books.{Book}
use Rattle.term_model.specs.Declarations.{Declarations}
use Rattle.term_model.specs.Terms.{Contract}
use Rattle.term_model.specs.Acceptance.{Facts, IsAccepted, AreFacts, IsRefusal}
use Rattle.term_model.specs.Causality.{IsCausal}
use Rattle.report.specs.CheckLines.{accepted_line, refused_line}
use Rattle.command_courses.specs.declared.status.Status.{Status}
use Rattle.command_courses.specs.declared.status.Status.TheVariants as status
use Rattle.used_contracts.specs.AllAccepted.{AreAllAccepted}
use Rattle.used_contracts.specs.UsedContracts.{used}

-- the line of a named contract without names of templates
pub data IsCheckLine (d : Declarations) (name : List ℕ) (c : Contract) (line : List ℕ) : Type 0 where
  accepted :
      (facts : Facts) → IsAccepted d c → AreFacts d c facts → IsCausal d c
      → line ≡ accepted_line d.amounts name facts.start facts.scale (pos facts.total) facts.horizon → IsCheckLine d name c line
  refused : (rule : Rule) (node : ℕ) → IsRefusal d c rule node → line ≡ refused_line name rule node → IsCheckLine d name c line

-- the lines of contracts, one after another
abbrev pub AreCheckLines : Declarations → List (Name × Contract) → List ℕ → Type 0
AreCheckLines d [] text = text ≡ []
AreCheckLines d (entry ∷ entries) text =
    (first : List ℕ) × (rest : List ℕ) × IsCheckLine d entry.0 entry.1 first × AreCheckLines d entries rest × (text ≡ first ++ rest)

-- the verdict on a portfolio: all of its contracts are accepted, or some are not
abbrev pub Verdict : Book → Status → Type 0
Verdict b s =
    ((s ≡ status.Done) × AreAllAccepted b.declarations (used None b))
    ⊎ ((s ≡ status.Refused) × (AreAllAccepted b.declarations (used None b) → ⊥))

-- the status and the text of `check` of a portfolio: it has the lines of all contracts also where some are refused
abbrev pub IsCheckText : Book → Status → List ℕ → Type 0
IsCheckText b s text = Verdict b s × AreCheckLines b.declarations (used None b) text
