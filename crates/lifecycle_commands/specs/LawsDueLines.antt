-- Laws of what is due: two texts of `advance`, and two of `novate`, begin with the same lines.
use Rattle.std.specs.Prelude.{◌≡◌, ℕ, List, Option}
use Rattle.term_model.specs.Books.{Book}
use Rattle.command_words.specs.Commands.{AdvanceAsked, NovateAsked}
use Rattle.lifecycle_commands.specs.AdvancePromise.{IsAdvanceText}
use Rattle.lifecycle_commands.specs.NovatePromise.{IsNovateText}

-- and two texts of `advance` begin with the same due lines, and go on with what is left on the same day
abbrev pub DueLinesAreOne : Type 0
DueLinesAreOne =
    (b : Book) (asked : AdvanceAsked) (table : Option (List ℕ)) (one other : List ℕ)
    (h : IsAdvanceText b asked table one) (k : IsAdvanceText b asked table other) → (h.advanced.due ≡ k.advanced.due) × (h.day ≡ k.day)

-- and so do two texts of `novate`
abbrev pub DueLinesOfNovateAreOne : Type 0
DueLinesOfNovateAreOne =
    (b : Book) (asked : NovateAsked) (table : Option (List ℕ)) (one other : List ℕ)
    (h : IsNovateText b asked table one) (k : IsNovateText b asked table other) → (h.novated.due ≡ k.novated.due) × (h.day ≡ k.day)
