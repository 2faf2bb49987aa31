use Rattle.std.proofs.Common.{◌≡◌, ◌++◌, ◌∙◌, List, None, ap, subst, sym, true}
use Rattle.std.specs.Prelude.{is_some}
use Rattle.term_model.specs.Environments.{Environment, held}
use Rattle.term_model.specs.declared.values.Value.{Value}
use Rattle.fixing_files.specs.Layers.{AreInOrder, ComesBehind, entries_held}
use Rattle.fixing_files.specs.Runs.{AddsUnlessHeld}
use Rattle.fixing_files.specs.Steps.{place_of}
use Rattle.fixing_files.specs.declared.records.Place.{Place as Spot}
use Rattle.fixing_files.proofs.LayerFacts.{adds_behind, adds_new, found_is, held_already, held_below, held_in_back, held_in_front, held_set, none_in, none_unless, one_more, pair_back}
use Rattle.fixing_files.proofs.layers.FewFixings.add.Goals as goal

pub returns-then-contains_key-clause-added : goal.returns-then-contains_key-clause-added
returns-then-contains_key-clause-added c =
    let front = entries_held c.self.inside.risen.items in
    let others = c.self.inside.others in
    let q = place_of c.args.place in
    let there : is_some (held (entries_held others.entries) q) ≡ true = ap is_some (found_is others c.args.place) ∙ sym c.contains_key.ensures ∙ c.if-contains_key.true in
    held_already c.args.self.now q c.args.value
    (subst (λ (e : Environment). is_some (held e q) ≡ true) c.self.view_is (held_in_back front (entries_held others.entries) q there))

behind : (c : goal.In_ok-push) → ComesBehind c.self.inside.risen.items c.args.place
behind c = subst (λ (es : List (Spot × Value)). ComesBehind es c.args.place) c.deref.ensures.value (c.is_behind.ensures c.if-is_behind.true)

pub invariant_of-self : goal.invariant_of-self
invariant_of-self c =
    subst AreInOrder (sym c.in_ok-push.ensures.items) (one_more c.self.inside.risen.items c.args.place c.self.invariant c.args.value (behind c))

pub returns-in_ok-push-clause-added : goal.returns-in_ok-push-clause-added
returns-in_ok-push-clause-added c =
    let es = c.self.inside.risen.items in
    let others = c.self.inside.others in
    let q = place_of c.args.place in
    let below : held (entries_held others.entries) q ≡ None = none_in others c.args.place (sym c.contains_key.ensures ∙ c.if-contains_key.false) in
    let adds = adds_behind es (entries_held others.entries) c.args.place c.args.value c.self.invariant (behind c) below in
    subst (λ (e : Environment). AddsUnlessHeld e (entries_held c.push.new.self.items ++ entries_held others.entries) q c.args.value) c.self.view_is
    (subst (λ (l : List (Spot × Value)). AddsUnlessHeld (entries_held es ++ entries_held others.entries) (entries_held l ++ entries_held others.entries) q c.args.value) (sym c.in_ok-push.ensures.items) adds)

pub returns-in_ok-insert-clause-added : goal.returns-in_ok-insert-clause-added
returns-in_ok-insert-clause-added c =
    let front = entries_held c.self.inside.risen.items in
    let others = c.self.inside.others in
    let q = place_of c.args.place in
    let same = ap (λ (es : List (Spot × Value)). held (entries_held es) q) c.deref-else-is_behind.ensures.value in
    let none : held front q ≡ None = sym same ∙ sym c.value_at.ensures ∙ none_unless c.value_at.result c.if-is_none.ensures in
    let below : held (entries_held others.entries) q ≡ None = none_in others c.args.place (sym c.contains_key.ensures ∙ c.if-contains_key.false) in
    let adds = pair_back front (entries_held others.entries) (entries_held c.insert.new.self.entries) q c.args.value none (held_set others c.insert.new.self c.args.place c.args.value c.in_ok-insert.ensures.updates) in
    subst (λ (e : Environment). AddsUnlessHeld e (front ++ entries_held c.insert.new.self.entries) q c.args.value) c.self.view_is
    (adds_new (front ++ entries_held others.entries) _ q c.args.value (held_below front (entries_held others.entries) q none ∙ below) adds)

pub returns-else-is_none-clause-added : goal.returns-else-is_none-clause-added
returns-else-is_none-clause-added c =
    let front = entries_held c.self.inside.risen.items in
    let others = c.self.inside.others in
    let q = place_of c.args.place in
    let same = ap (λ (es : List (Spot × Value)). held (entries_held es) q) c.deref-else-is_behind.ensures.value in
    let there : is_some (held front q) ≡ true = ap is_some (sym same ∙ sym c.value_at.ensures) ∙ c.if-is_none.ensures in
    held_already c.args.self.now q c.args.value
    (subst (λ (e : Environment). is_some (held e q) ≡ true) c.self.view_is (held_in_front front (entries_held others.entries) q there))
