-- A law of names: those that are declared have their places.
use Rattle.std.specs.Prelude.{◌≡◌, None}
use Rattle.term_model.specs.Declarations.{Declarations}
use Rattle.term_model.specs.Flows.{Flow}
use Rattle.command_words.specs.Commands.{ValueAsked}
use Rattle.valuation_commands.specs.ValuePromise.{AreBetween, first_unknown}

-- where the names of the words are declared, the two parties and the asset have their places
abbrev pub DeclaredNamesHavePlaces : Type 0
DeclaredNamesHavePlaces =
    (d : Declarations) (asked : ValueAsked) → first_unknown d asked ≡ None → (flow : Flow) × AreBetween d asked.between flow
