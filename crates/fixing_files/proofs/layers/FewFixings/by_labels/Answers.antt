use Rattle.std.proofs.Common.{◌≡◌, ◌∙◌, ◌++◌, List, [], map, refl, subst, sym}
use Rattle.std.proofs.lemmas.List.{map-id}
use Rattle.std.proofs.lemmas.Map.Iter.{iter_end}
use Rattle.term_model.specs.Environments.{Environment}
use Rattle.term_model.specs.declared.values.Value.{Value}
use Rattle.fixing_files.specs.Layers.{HoldSame, entries_held, entry_held}
use Rattle.fixing_files.specs.declared.records.Place.{Place as Spot}
use Rattle.fixing_files.proofs.LayerFacts.{adds_entry}
use Rattle.fixing_files.proofs.layers.FewFixings.by_labels.Goals as goal

pub loop-place-init : goal.loop-place-init
loop-place-init c = subst (λ (e : Environment). HoldSame e []) (sym c.none-fixings.ensures) (λ q. refl)

pub loop-place-preserved : goal.loop-place-preserved
loop-place-preserved c =
    adds_entry c.loop-place.yielded c.loop-place.fixings c.add_entry.new.fixings (c.in-Some.place, c.in-Some.value) c.loop-place.invariant c.in_ok-add_entry.ensures

pub returns : goal.returns
returns c =
    let start = c.into_iter-place-iterator.ensures.into_iter_gives in
    let end = iter_end (λ (p : Spot × Value). p) c.in_ok-all.all.entries c.loop-place.yielded c.into_iter-place-iterator.result c.loop-place.place-iterator c.next.new.self c.next.result start.0 c.loop-place.yielded_by c.in-None.is c.next.ensures.steps in
    let all : c.loop-place.yielded ≡ c.in_ok-all.all.entries = sym (map-id c.loop-place.yielded) ∙ end.0 in
    let gathered : HoldSame c.loop-place.fixings (entries_held c.in_ok-all.all.entries) = subst (λ (l : List (Spot × Value)). HoldSame c.loop-place.fixings (map entry_held l)) all c.loop-place.invariant in
    let both : HoldSame (entries_held c.in_ok-all.all.entries) (entries_held c.self.inside.risen.items ++ entries_held c.self.inside.others.entries) = subst (λ (l : List (Spot × Value)). HoldSame (entries_held c.in_ok-all.all.entries) (entries_held l ++ entries_held c.self.inside.others.entries)) c.deref.ensures.value c.in_ok-all.ensures in
    subst (λ (e : Environment). HoldSame c.loop-place.fixings e) c.self.view_is (λ q. gathered q ∙ both q)
