-- Each value of a total is what a contract that the code means is worth in that scenario.
use Rattle.std.proofs.Common.{◌≡◌, ◌∙◌, ℕ, zero, suc, ℤ, List, [], ◌∷◌, map, Option, None, Some, slice_get, ap, subst, sym}
use Rattle.std.proofs.lemmas.Option.{slice_get_within}
use Rattle.payoff_terms.specs.LawsCode.{CodeValuesAreFixed}
use Rattle.payoff_eval.specs.Questions.{asked_on}
use Rattle.scenario_set.specs.LawsTotals.{ScenariosAreWorth, at_setting}
use Rattle.scenario_set.specs.Scenarios.{NamedMap}
use Rattle.scenario_set.specs.Totals.{Inquiry, IsFixedIn, lacked_in, value_at, worth_in}
use Rattle.scenario_set.proofs.OneTotalFacts.{worth_stays}

value_of_map : (f : NamedMap → ℤ) (set : List NamedMap) (i : ℕ) (s : NamedMap) → slice_get set i ≡ Some s → value_at (map f set) i ≡ f s
value_of_map f [] i s h = absurd (cc)
value_of_map f (x ∷ set) zero s h = let is : x ≡ s = cc in ap f is
value_of_map f (x ∷ set) (suc i) s h = value_of_map f set i s h

fixed_at : (q : Inquiry) (set : List NamedMap) (i : ℕ) (s : NamedMap) → slice_get set i ≡ Some s → IsFixedIn q set i → lacked_in q.book q.setting q.asked s.map ≡ None
fixed_at q set i s stands f =
    let at : ◌≡◌ {A = Option NamedMap} (Some f.scenario) (Some s) = sym f.stands ∙ stands in
    let is : f.scenario ≡ s = cc in
    subst (λ (m : NamedMap). lacked_in q.book q.setting q.asked m.map ≡ None) is f.fixed

pub scenarios_are_worth : CodeValuesAreFixed → ScenariosAreWorth
scenarios_are_worth stay b xs curve at from to asset set t c v totals means i s stands env x may =
    let a = asked_on curve at from to asset in
    let q : Inquiry = at_setting b xs a in
    let fixed = fixed_at q set i s stands (totals.fixed i (slice_get_within set i s stands)) in
    ap (λ (vs : List ℤ). value_at vs i) totals.values
    ∙ value_of_map (λ (m : NamedMap). worth_in b xs a m.map) set i s stands
    ∙ sym (worth_stays stay q s.map env fixed x)
    ∙ means.values xs env a may
