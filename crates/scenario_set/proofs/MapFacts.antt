-- The maps of scenarios: what they hold is what their rows say.
use Rattle.std.proofs.Common.{◌≡◌, ◌∙◌, ◌↔◌, ◌⊎◌, inl, inr, ℕ, zero, suc, ◌<◌, true, List, [], ◌∷◌, ◌++◌, length, map, get_or, Option, Some, None, slice_get, refl, sym, ap, ap₂, subst, arith}
use Rattle.std.specs.Prelude.{Contains, option_map}
use Rattle.std.proofs.lemmas.Bool.{cases_Bool}
use Rattle.std.proofs.lemmas.List.{get_or-map, length-map}
use Rattle.std.proofs.lemmas.List.Elements.{Contains-append_cases, Contains-append_left, Contains-append_right}
use Rattle.std.proofs.lemmas.Map.Made.{Contains-tail}
use Rattle.std.proofs.lemmas.Option.{slice_get-map}
use Rattle.term_model.specs.Environments.{Environment, Place, held, same_place}
use Rattle.term_model.specs.declared.values.Value.{Value}
use Rattle.scenario_set.specs.Collecting.{Names}
use Rattle.scenario_set.specs.Scenarios.{NamedMap, map_of, maps_of, row_held, rows_held}
use Rattle.scenario_set.specs.Settling.{Fills, IsFirst, Settles, names_of, row_for, rows_at}
use Rattle.scenario_set.specs.Watches.{Rows}
use Rattle.scenario_set.specs.declared.scenarios.Scenario.{Scenario}
use Rattle.scenario_set.specs.declared.scenarios.SetRow.{SetRow}
use Rattle.scenario_set.specs.declared.watches.Group.TheVariants.{Each, Of}
use Rattle.fixing_files.proofs.LayerFacts.{same_is, same_itself}

-- ---- the rows of a map

abbrev row_back : Place × Value → SetRow
row_back p = row_for p.0 p.1

rows_to : (rows : List SetRow) (q : Place) (v : Value) → Contains (rows_held rows) (q, v) → Contains rows (row_for q v)
rows_to rows q v h =
    let within : h.0 < length rows = omega (arith, h.1, length-map rows row_held) in
    let read : get_or (rows_held rows) h.0 (q, v) ≡ row_held (get_or rows h.0 (row_for q v)) = get_or-map row_held rows h.0 (row_for q v) (q, v) within in
    (h.0, within, ap row_back (sym read ∙ h.2))

pub rows_from : (rows : List SetRow) (q : Place) (v : Value) → Contains rows (row_for q v) → Contains (rows_held rows) (q, v)
rows_from rows q v h = (
  h.0,
  omega (arith, h.1, length-map rows row_held),
  get_or-map row_held rows h.0 (row_for q v) (q, v) h.1 ∙ ap row_held h.2,
)

-- ---- the scenarios

pub names_maps : (common : List SetRow) (each : List Scenario) → map (λ (s : NamedMap). s.name) (maps_of (rows_held common) each) ≡ names_of each
names_maps common [] = refl
names_maps common (s ∷ each) = ap (λ (l : Names). s.name ∷ l) (names_maps common each)

rows_of : (each : List Scenario) (i : ℕ) (z : Scenario) → slice_get each i ≡ Some z → rows_at each i ≡ z.own.items
rows_of [] i z e = absurd (cc)
rows_of (s ∷ each) zero z e = let same : s ≡ z = cc in ap (λ (x : Scenario). x.own.items) same
rows_of (s ∷ each) (suc i) z e = rows_of each i z e

module _ (common : List SetRow) (each : List Scenario) (i : ℕ) (s : NamedMap) where
  held_by : (o : Option Scenario) → slice_get each i ≡ o → option_map (map_of (rows_held common)) o ≡ Some s → (q : Place) (v : Value)
      → Contains s.map (q, v) ↔ (Contains (rows_at each i) (row_for q v) ⊎ Contains common (row_for q v))
  held_by None at e q v = absurd (cc)
  held_by (Some z) at e q v =
      let same : map_of (rows_held common) z ≡ s = cc in
      let is : rows_held z.own.items ++ rows_held common ≡ s.map = ap (λ (x : NamedMap). x.map) same in
      let rows : rows_at each i ≡ z.own.items = rows_of each i z at in (
        (λ h. elim (Contains-append_cases (rows_held z.own.items) (rows_held common) (q, v) (subst (λ (x : Environment). Contains x (q, v)) (sym is) h)) [
          | inl one ↦ inl (subst (λ (l : List SetRow). Contains l (row_for q v)) (sym rows) (rows_to z.own.items q v one))
          | inr all ↦ inr (rows_to common q v all)
        ]),
        (λ h. subst (λ (x : Environment). Contains x (q, v)) is (elim h [
          | inl one ↦ Contains-append_left (rows_held z.own.items) (rows_held common) (q, v) (rows_from z.own.items q v (subst (λ (l : List SetRow). Contains l (row_for q v)) rows one))
          | inr all ↦ Contains-append_right (rows_held z.own.items) (rows_held common) (q, v) (rows_from common q v all)
        ])),
      )

  -- what the map of a scenario has is what its rows and those of all say
  pub map_holds : slice_get (maps_of (rows_held common) each) i ≡ Some s → (q : Place) (v : Value)
      → Contains s.map (q, v) ↔ (Contains (rows_at each i) (row_for q v) ⊎ Contains common (row_for q v))
  map_holds e = held_by (slice_get each i) refl (sym (slice_get-map (map_of (rows_held common)) each i) ∙ e)

settled_holds : (kept : Rows) (common : List SetRow) (each : List Scenario) → Fills kept common each → (i : ℕ) (s : NamedMap) → slice_get (maps_of (rows_held common) each) i ≡ Some s → (q : Place) (v : Value)
    → Contains s.map (q, v) ↔ (IsFirst kept (Of i) (row_for q v) ⊎ IsFirst kept Each (row_for q v))
settled_holds kept common each fills i s e q v =
    let h = map_holds common each i s e q v in
    let own = fills.own_is i (row_for q v) in
    let all = fills.common_is (row_for q v) in (
      (λ x. elim (h.0 x) [ inl one ↦ inl (own.0 one) | inr more ↦ inr (all.0 more) ]),
      (λ x. h.1 (elim x [ inl one ↦ inl (own.1 one) | inr more ↦ inr (all.1 more) ])),
    )

pub settles_maps : (names : Names) (kept : Rows) (common : List SetRow) (each : List Scenario) → names_of each ≡ names → Fills kept common each → Settles names kept (maps_of (rows_held common) each)
settles_maps names kept common each named fills = record {
  names_are = names_maps common each ∙ named;
  holds = settled_holds kept common each fills;
}

-- ---- what is found in a map

pub held_among : (e : Environment) (q : Place) (v : Value) → held e q ≡ Some v → Contains e (q, v)
held_among [] q v h = absurd (cc)
held_among (x ∷ e) q v h = elim (cases_Bool (same_place x.0 q)) [
  | inl here ↦
      let found : ◌≡◌ {A = Option Value} (Some x.1) (Some v) = rw here at h in
      let value : x.1 ≡ v = cc in
      let place : x.0 ≡ q = same_is x.0 q here in
      (0, omega arith, ap₂ (λ (p : Place) (w : Value). (p, w)) place value)
  | inr other ↦
      let rest = held_among e q v (rw other at h) in
      (suc rest.0, omega (arith, rest.1), rest.2)
]

pub among_held : (e : Environment) (q : Place) (v : Value) → ((w : Value) → Contains e (q, w) → w ≡ v) → Contains e (q, v) → held e q ≡ Some v
among_held [] q v one h = absurd (omega (arith, h.1))
among_held (x ∷ e) q v one h = elim (cases_Bool (same_place x.0 q)) [
  | inl here ↦
      let place : x.0 ≡ q = same_is x.0 q here in
      let first : Contains (x ∷ e) (q, x.1) = (0, omega arith, ap (λ (p : Place). (p, x.1)) place) in
      rw here (ap (λ (w : Value). Some w) (one x.1 first))
  | inr other ↦
      let apart : x ≡ (q, v) → ⊥ = λ e. let same : same_place x.0 q ≡ true = subst (λ (p : Place × Value). same_place p.0 q ≡ true) (sym e) (same_itself q) in absurd (cc) in
      rw other (among_held e q v (λ w i. one w (suc i.0, omega (arith, i.1), i.2)) (Contains-tail x e (q, v) apart h))
]
