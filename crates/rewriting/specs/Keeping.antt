-- What a term keeps of the one in whose place it stands.
use Rattle.std.specs.Prelude.{ℕ, ℤ, ◌<◌, ◌≡◌, ◌⊎◌, List, Contains, slice_get}
use Rattle.term_model.specs.Declarations.{Declarations}
use Rattle.term_model.specs.Terms.{Expression, Contract}
use Rattle.term_model.specs.Environments.{Place}
use Rattle.term_model.specs.Reads.{places_or}
use Rattle.term_model.specs.Times.{TypedContract}
use Rattle.term_model.specs.WellFormed.{IsWellFormedContract, IsClosed, HasOnlyNumbers}
use Rattle.rewriting.specs.Measures.{size, size_in}

-- each place of the first is among the second
abbrev pub AreAmong : List Place → List Place → Type 0
AreAmong xs ys = (q : Place) → Contains xs q → Contains ys q

-- so are the places of each name
abbrev pub NamesReadLess : List (List Place) → List (List Place) → Type 0
NamesReadLess bs cs = (k : ℕ) → AreAmong (places_or (slice_get bs k)) (places_or (slice_get cs k))

-- it is the same, or has fewer nodes and observables together
abbrev pub IsNoLarger : Expression → Expression → Type 0
IsNoLarger r e = (r ≡ e) ⊎ (size r < size e)

abbrev pub IsNoLargerIn : Contract → Contract → Type 0
IsNoLargerIn r c = (r ≡ c) ⊎ (size_in r < size_in c)

-- each type of c is a type of r
abbrev pub KeepsTypes : Contract → Contract → Type 0
KeepsTypes r c = (g : List ℤ) (t : ℤ) → TypedContract g c t → TypedContract g r t

-- r is well formed under as many binders as c, and names no template where c names none
abbrev pub StaysWellFormed : Declarations → Contract → Contract → Type 0
StaysWellFormed d r c =
    (k : ℕ) → IsWellFormedContract d k c → HasOnlyNumbers c → IsWellFormedContract d k r × HasOnlyNumbers r

-- r is closed where c is
abbrev pub StaysClosed : Declarations → Contract → Contract → Type 0
StaysClosed d r c = IsClosed d c → IsClosed d r
