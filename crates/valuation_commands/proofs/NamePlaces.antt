-- Names that are all declared have their places.
use Rattle.std.proofs.Common.{◌≡◌, ◌∙◌, ℕ, List, ◌∷◌, refl, sym}
use Rattle.std.specs.Map.{keys_of}
use Rattle.std.specs.Prelude.{Option, Some, None}
use Rattle.contract_grammar.specs.Names.{index_in}
use Rattle.valuation_commands.specs.LawsNames.{DeclaredNamesHavePlaces}
use Rattle.valuation_commands.specs.ValuePromise.{Naming, first_unknown_of, names_set}

-- the first of names that are all declared has a place, and the others are declared
first_index : (n : Naming) (ns : List Naming) (o : Option ℕ) → index_in n.among n.name ≡ o → first_unknown_of (n ∷ ns) ≡ None → ((k : ℕ) × (o ≡ Some k)) × (first_unknown_of ns ≡ None)
first_index n ns None is none = absurd (let no : Some n.name ≡ None = sym (rw is refl) ∙ none in cc)
first_index n ns (Some k) is none = ((k, refl), sym (rw is refl) ∙ none)

pub declared_names_have_places : DeclaredNamesHavePlaces
declared_names_have_places d asked none =
    let from : Naming = record { name = asked.between.from; among = d.parties } in
    let to : Naming = record { name = asked.between.to; among = d.parties } in
    let asset : Naming = record { name = asked.between.asset; among = keys_of d.assets } in
    let set = names_set d asked.settings in
    let payer = first_index from (to ∷ asset ∷ set) (index_in d.parties asked.between.from) refl none in
    let receiver = first_index to (asset ∷ set) (index_in d.parties asked.between.to) refl payer.1 in
    let third = first_index asset set (index_in (keys_of d.assets) asked.between.asset) refl receiver.1 in
    (record { from = payer.0.0; to = receiver.0.0; asset = third.0.0 }, record { from = payer.0.1; to = receiver.0.1; asset = third.0.1 })
