use Rattle.std.proofs.Common.{◌≡◌, ◌∙◌, List, None, Some, ap, sym}
use Rattle.term_model.specs.Environments.{Environment, held}
use Rattle.term_model.specs.declared.values.Value.{Value}
use Rattle.fixing_files.specs.Layers.{entries_held}
use Rattle.fixing_files.specs.Steps.{place_of}
use Rattle.fixing_files.specs.declared.records.Place.{Place as Spot}
use Rattle.fixing_files.proofs.LayerFacts.{found_is, held_above, held_below}
use Rattle.fixing_files.proofs.layers.FewFixings.get.Goals as goal

pub returns-in-Some : goal.returns-in-Some
returns-in-Some c =
    let q = place_of c.args.place in
    let same = ap (λ (es : List (Spot × Value)). held (entries_held es) q) c.deref.ensures.value in
    let front : held (entries_held c.self.inside.risen.items) q ≡ Some c.in-Some.value = sym same ∙ sym c.in-Some.ensures in
    sym (held_above (entries_held c.self.inside.risen.items) (entries_held c.self.inside.others.entries) q c.in-Some.value front)
    ∙ ap (λ (e : Environment). held e q) c.self.view_is

pub returns-in-None : goal.returns-in-None
returns-in-None c =
    let q = place_of c.args.place in
    let same = ap (λ (es : List (Spot × Value)). held (entries_held es) q) c.deref.ensures.value in
    let front : held (entries_held c.self.inside.risen.items) q ≡ None = sym same ∙ sym c.in-None.ensures in
    c.copied.ensures ∙ c.get.ensures.value ∙ sym (found_is c.self.inside.others c.args.place)
    ∙ sym (held_below (entries_held c.self.inside.risen.items) (entries_held c.self.inside.others.entries) q front)
    ∙ ap (λ (e : Environment). held e q) c.self.view_is
