-- What a part of `novate` answers: the renaming, where both parties are declared.
use Rattle.std.specs.Prelude.{◌≡◌, ℕ, List, Option, Some, Result}
use Rattle.term_model.specs.Declarations.{Declarations}
use Rattle.contract_grammar.specs.Names.{index_in}
use Rattle.report.specs.declared.fault_lines.Fault.{Fault}
use Rattle.command_words.specs.Commands.{NovateAsked}
use Rattle.command_courses.specs.Course.{Course, behind}
use Rattle.lifecycle_commands.specs.NovateCourse.{novate_on}
use Rattle.command_courses.specs.Names.{IsUndeclared}
use Rattle.used_contracts.specs.Portfolios.{portfolio_of}
use Rattle.command_courses.specs.Stopping.{AnswersBy}
use Rattle.lifecycle_commands.specs.declared.advance_to.Renaming.{Renaming}
use Rattle.command_courses.specs.declared.stop.Stop.{Stop}

-- the first of the two parties that is not declared
pub data LacksParty (d : Declarations) (asked : NovateAsked) (f : Fault) : Type 0 where
  no_old : IsUndeclared d.parties asked.old f → LacksParty d asked f
  no_new :
      (old : ℕ) → index_in d.parties asked.old ≡ Some old → IsUndeclared d.parties asked.new f → LacksParty d asked f

-- the renaming in the contract of the name, by the places of the parties
pub record IsRenaming (d : Declarations) (asked : NovateAsked) (renaming : Renaming) : Type 0 where
  pub contract : renaming.contract.now ≡ asked.contract
  pub old_is : index_in d.parties asked.old ≡ Some renaming.old
  pub new_is : index_in d.parties asked.new ≡ Some renaming.new

abbrev pub AnswersRenaming : Declarations → NovateAsked → Result Renaming Stop → Type 0
AnswersRenaming d asked r = AnswersBy (IsRenaming d asked) (LacksParty d asked) r

-- the course of `novate` on a text and a table
abbrev pub novate_of_text : NovateAsked → List ℕ → Option (List ℕ) → Course
novate_of_text asked text table = behind (portfolio_of text) (λ b. novate_on asked b table)
