-- What the entries of bound names stand for: for each a value with its kind, and the list of the places that its
-- expression reads. An entry either knows the value, where every place of the list is fixed, or has the first that is not.
use Rattle.std.specs.Prelude.{◌≡◌, List, [], ◌∷◌, Some, None}
use Rattle.term_model.specs.declared.values.Value.{Value}
use Rattle.term_model.specs.declared.values.Missing.{Missing}
use Rattle.term_model.specs.Environments.{Environment, Place}
use Rattle.term_model.specs.Values.{Entry}
use Rattle.term_model.specs.Reads.{first_unfixed}
use Rattle.expr_eval.specs.declared.scratch.Held.{Held}
use Rattle.expr_eval.specs.declared.scratch.Held.TheVariants.{Known, Lacking}
use Rattle.expr_eval.specs.declared.scratch.Binding.{Binding}

abbrev pub place_of : Missing → Place
place_of m = record { label = m.label; day = m.day }

-- a known value is w and no place of the list is unfixed; a lacking one is the first unfixed place
abbrev pub IsHeldFor : Environment → Held → Value → List Place → Type 0
IsHeldFor fixings (Known v) w places = (v ≡ w) × (first_unfixed fixings places ≡ None)
IsHeldFor fixings (Lacking m) w places = first_unfixed fixings places ≡ Some (place_of m)

-- an entry for each name, with its kind
abbrev pub StandFor : Environment → List Binding → List Entry → List (List Place) → Type 0
StandFor fixings [] [] [] = Unit {0}
StandFor fixings (b ∷ bs) (e ∷ es) (p ∷ ps) =
    (b.kind ≡ e.kind) × IsHeldFor fixings b.held e.value p × StandFor fixings bs es ps
StandFor fixings _ _ _ = ⊥
