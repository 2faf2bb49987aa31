use Rattle.std.proofs.Common.{ℕ, Result, length, rules, subst, sym}
use Rattle.std.specs.List.Sorted.{IsBinarySearchResult, IsSearchInRange}
use Rattle.std.proofs.lemmas.List.Sorted.{answers_always}
use Rattle.term_model.specs.declared.values.Value.{Value}
use Rattle.fixing_files.specs.Layers.{place_order}
use Rattle.fixing_files.specs.declared.records.Place.{Place as Spot}
use Rattle.fixing_files.proofs.LayerFacts.{searched_at, searched_none}
use Rattle.fixing_files.proofs.layers.value_at.Goals as goal

pub returns-in-Ok : goal.returns-in-Ok
returns-in-Ok c =
    let es = c.args.risen.now in
    let facts = c.binary_search_by_key.ensures in
    let by_key = facts.position (λ (e : Spot × Value). e.0) (answers_always _ _ _ (λ f a r g called. search rules)) in
    let within = subst (λ (r : Result ℕ ℕ). IsSearchInRange r (length es)) c.in-Ok.is facts.bound in
    let found = subst (λ (r : Result ℕ ℕ). IsBinarySearchResult (λ (e : Spot × Value). place_order e.0 c.args.place) es r) c.in-Ok.is by_key in
    sym (searched_at es c.args.place c.requires c.in-Ok.at _ within found)

pub returns-in-Err : goal.returns-in-Err
returns-in-Err c =
    let es = c.args.risen.now in
    let facts = c.binary_search_by_key.ensures in
    let by_key = facts.position (λ (e : Spot × Value). e.0) (answers_always _ _ _ (λ f a r g called. search rules)) in
    let within = subst (λ (r : Result ℕ ℕ). IsSearchInRange r (length es)) c.in-Err.is facts.bound in
    let found = subst (λ (r : Result ℕ ℕ). IsBinarySearchResult (λ (e : Spot × Value). place_order e.0 c.args.place) es r) c.in-Err.is by_key in
    sym (searched_none es c.args.place c.requires c.in-Err.field-0 within found)
