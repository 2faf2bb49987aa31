-- A list of places is a sub-list of another if it is that one with some of its places left out.
use Rattle.std.specs.Prelude.{◌≡◌, ◌⊎◌, List, [], ◌∷◌}
use Rattle.term_model.specs.Environments.{Place}

abbrev pub IsSublist : List Place → List Place → Type 0
IsSublist xs [] = xs ≡ []
IsSublist xs (y ∷ ys) = IsSublist xs ys ⊎ ((rest : List Place) × (xs ≡ y ∷ rest) × IsSublist rest ys)
