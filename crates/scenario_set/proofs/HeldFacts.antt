-- The maps of scenarios: own rows, and behind them what holds in all.
use Rattle.std.proofs.Common.{◌≡◌, ◌∙◌, ℕ, zero, suc, ◌+◌, ◌<◌, List, [], ◌∷◌, ◌++◌, length, map, take, get_or, Option, Some, None, slice_get, refl, sym, ap, subst, inl, inr}
use Rattle.std.proofs.lemmas.Bool.{cases_Bool}
use Rattle.std.proofs.lemmas.List.{append_assoc, length-map, map_more}
use Rattle.std.proofs.lemmas.Option.{slice_get-map, slice_get_read}
use Rattle.term_model.specs.Environments.{Environment, Place, held, same_place}
use Rattle.term_model.specs.declared.values.Value.{Value}
use Rattle.fixing_files.specs.Layers.{HoldSame}
use Rattle.fixing_files.specs.Runs.{AddsUnlessHeld}
use Rattle.fixing_files.proofs.LayerFacts.{adds_last}
use Rattle.scenario_set.specs.Scenarios.{IsMapOf, NamedMap, SameScenarios, map_of, maps_of, row_held, rows_held}
use Rattle.scenario_set.specs.declared.scenarios.Scenario.{Scenario}
use Rattle.scenario_set.specs.declared.scenarios.SetRow.{SetRow}

-- one more row
pub rows_more :
    (before now after : Environment) (rows : List SetRow) (i : ℕ) (r : SetRow) → i < length rows
    → HoldSame now (before ++ rows_held (take i rows))
    → AddsUnlessHeld now after (record { label = (get_or rows i r).label; day = (get_or rows i r).day }) (get_or rows i r).value
    → HoldSame after (before ++ rows_held (take (i + 1) rows))
rows_more before now after rows i r within same adds p =
    let x = get_or rows i r in
    let q : Place = record { label = x.label; day = x.day } in
    let e = before ++ rows_held (take i rows) in
    let listed : before ++ rows_held (take (i + 1) rows) ≡ e ++ (q, x.value) ∷ [] =
    ap (λ (more : Environment). before ++ more) (map_more row_held rows i r within)
    ∙ sym (append_assoc before (rows_held (take i rows)) ((q, x.value) ∷ [])) in
    adds_last e now after q x.value same adds p ∙ ap (λ (env : Environment). held env p) (sym listed)

-- what is found in the first map, or else in the second
abbrev or_else : Option Value → Option Value → Option Value
or_else (Some v) o = Some v
or_else None o = o

held_append : (e more : Environment) (q : Place) → held (e ++ more) q ≡ or_else (held e q) (held more q)
held_append [] more q = refl
held_append (x ∷ rest) more q = elim (cases_Bool (same_place x.0 q)) [
  | inl here ↦ rw here refl
  | inr there ↦ rw there (held_append rest more q)
]

pub same_above : (one other more : Environment) → HoldSame one other → HoldSame (one ++ more) (other ++ more)
same_above one other more same q =
    held_append one more q ∙ ap (λ (o : Option Value). or_else o (held more q)) (same q) ∙ sym (held_append other more q)

pub same_below : (e one other : Environment) → HoldSame one other → HoldSame (e ++ one) (e ++ other)
same_below e one other same q =
    held_append e one q ∙ ap (λ (o : Option Value). or_else (held e q) o) (same q) ∙ sym (held_append e other q)

-- the map of a scenario is that of its rows and of those of all
pub map_is :
    (common : Environment) (each : List Scenario) (set : List NamedMap) (i : ℕ) (s : Scenario) (own : List SetRow)
    (one two env : Environment) → maps_of common each ≡ set → i < length set → s ≡ get_or each i s → own ≡ s.own.items
    → HoldSame one (rows_held own) → HoldSame two (one ++ common) → HoldSame env two → IsMapOf set i env
map_is common each set i s own one two env view inside read rows first second third =
    let within : i < length each = subst (λ (n : ℕ). i < n) (ap length (sym view) ∙ length-map each (map_of common)) inside in
    let stands : slice_get each i ≡ Some s = slice_get_read each (length each) i s refl within read in
    let there : slice_get (maps_of common each) i ≡ Some (map_of common s) = slice_get-map (map_of common) each i ∙ rw stands refl in
    let same : HoldSame env (rows_held s.own.items ++ common) = λ q.
    third q ∙ second q ∙ same_above one (rows_held own) common first q
    ∙ ap (λ (r : List SetRow). held (rows_held r ++ common) q) rows in
    record { scenario = map_of common s; stands = subst (λ (l : List NamedMap). slice_get l i ≡ Some (map_of common s)) view there; same = same }

-- scenarios over two maps that hold the same

names_same : (one other : Environment) (each : List Scenario) → map (λ (s : NamedMap). s.name) (maps_of one each) ≡ map (λ (s : NamedMap). s.name) (maps_of other each)
names_same one other [] = refl
names_same one other (s ∷ each) = ap (λ (l : List (List ℕ)). s.name ∷ l) (names_same one other each)

maps_same : (one other : Environment) (each : List Scenario) → HoldSame one other → (i : ℕ) (s t : NamedMap) → slice_get (maps_of one each) i ≡ Some s → slice_get (maps_of other each) i ≡ Some t → HoldSame s.map t.map
maps_same one other [] same i s t e f = absurd (cc)
maps_same one other (x ∷ each) same zero s t e f =
    let first : map_of one x ≡ s = cc in
    let second : map_of other x ≡ t = cc in
    subst (λ (m : NamedMap). HoldSame m.map t.map) first (subst (λ (m : NamedMap). HoldSame (map_of one x).map m.map) second (same_below (rows_held x.own.items) one other same))
maps_same one other (x ∷ each) same (suc i) s t e f = maps_same one other each same i s t e f

pub same_scenarios : (one other : Environment) (each : List Scenario) → HoldSame one other → SameScenarios (maps_of one each) (maps_of other each)
same_scenarios one other each same = record { names = names_same one other each; maps = maps_same one other each same }

-- scenarios over a map that holds what the rows of all say
pub laid_same :
    (rows : List SetRow) (each : List Scenario) (set : List NamedMap) (common : Environment) → maps_of (rows_held rows) each ≡ set
    → HoldSame common (rows_held rows) → SameScenarios (maps_of common each) set
laid_same rows each set common view same =
    subst (λ (s : List NamedMap). SameScenarios (maps_of common each) s) view (same_scenarios common (rows_held rows) each same)
