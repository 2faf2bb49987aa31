-- The stages that `advance` and `novate` alone have: that of the new day, and that of a party.
use Rattle.std.specs.Prelude.{◌≡◌, ℕ, List, Some}
use Rattle.term_model.specs.Declarations.{Declarations}
use Rattle.contract_grammar.specs.Names.{index_in}
use Rattle.command_courses.specs.Course.{Stage}
use Rattle.command_courses.specs.Days.{IsWordFault}
use Rattle.command_courses.specs.Names.{IsUndeclared}
use Rattle.command_courses.specs.declared.status.Status.TheVariants as status
use Rattle.lifecycle_commands.specs.AdvancePromise.{IsNewDay, greatest_new_day}

-- the place of a declared party
abbrev pub party_named : Declarations → List ℕ → Stage ℕ
party_named d name = record {
  status = status.UnknownName;
  Passes = λ place. index_in d.parties name ≡ Some place;
  FaultIs = IsUndeclared d.parties name;
}

-- the new day of a word, on which a portfolio can stand
abbrev pub new_day : Declarations → List ℕ → Stage ℕ
new_day d word = record { status = status.DayRange; Passes = IsNewDay d word; FaultIs = IsWordFault d greatest_new_day word }
