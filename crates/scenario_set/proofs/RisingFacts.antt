-- Tables whose rows rise: no two rows of a scenario have one place, so what the rows say is what the table holds.
use Rattle.std.proofs.Common.{◌≡◌, ◌≢◌, ◌∙◌, ◌⊎◌, inl, inr, ℕ, zero, suc, ◌+◌, ◌<◌, ◌≤◌, ◌-◌, Bool, true, false, List, [], ◌∷◌, ◌++◌, length, get_or, Option, Some, None, Result, Ok, Err, slice_get, refl, sym, ap, subst, arith}
use Rattle.std.specs.Prelude.{All, Contains, IfOk, IfSome, slice_set}
use Rattle.std.proofs.lemmas.Bool.{cases_Bool, cases_lt}
use Rattle.std.proofs.lemmas.Int.{ints}
use Rattle.std.proofs.lemmas.List.{length_push}
use Rattle.std.proofs.lemmas.List.Elements.{All-contains, All-head, All-nil, All-tail, All-weaker}
use Rattle.std.proofs.lemmas.Map.Made.{Contains-tail}
use Rattle.std.proofs.lemmas.Option.{slice_get-get_or, slice_get_within}
use Rattle.term_model.specs.Declarations.{Declarations}
use Rattle.term_model.specs.Environments.{Environment, Place, held, same_place}
use Rattle.term_model.specs.declared.values.Value.{Value}
use Rattle.fixing_files.specs.Layers.{HoldSame}
use Rattle.fixing_files.specs.Records.{Fields}
use Rattle.fixing_files.specs.Tables.{Table, record_at}
use Rattle.fixing_files.proofs.LayerFacts.{same_itself}
use Rattle.scenario_set.specs.ScenarioRecords.{Told, told}
use Rattle.scenario_set.specs.ScenarioSteps.{is_header}
use Rattle.scenario_set.specs.ScenarioTables.{HoldsScenarios, Tells}
use Rattle.scenario_set.specs.Scenarios.{NamedMap, maps_of, rows_held}
use Rattle.scenario_set.specs.Scopes.{Scope}
use Rattle.scenario_set.specs.Collecting.{Agree, AreNamed, HasNumber, IsIn, IsNumbered, Names}
use Rattle.scenario_set.specs.Settling.{names_of, row_for, rows_at}
use Rattle.scenario_set.specs.Rising.{AddsBehind, AddsOwn, AddsRow, AreAll, AreApart, EndsBefore, GathersRows, IsBefore, IsLong, IsNext, Reaches, Rise, Rises, TakesRising, TakesRow, place_at, row_told, rows_for}
use Rattle.scenario_set.specs.Watches.{group_of}
use Rattle.scenario_set.specs.declared.rising.Rising.{Rising}
use Rattle.scenario_set.specs.declared.scenarios.Scenario.{Scenario}
use Rattle.scenario_set.specs.declared.scenarios.SetRow.{SetRow}
use Rattle.scenario_set.proofs.AnswerFacts.{AreGathered, IsSaidOf, gathered_holds, in_table}
use Rattle.scenario_set.proofs.CollectFacts.{alone_none, grows_by, header_alone, header_named, header_said, named_none, names_more, next_alone, own_by, same_own, say_next, up_to_next}
use Rattle.scenario_set.proofs.FillFacts.{length_of_names, names_push, puts_own, rows_read}
use Rattle.scenario_set.proofs.MapFacts.{map_holds, names_maps, rows_from}
use Rattle.scenario_set.proofs.NumberFacts.{get_cases}

-- ---- rows that rise

before_trans : (a b c : SetRow) → IsBefore a b → IsBefore b c → IsBefore a c
before_trans a b c (inl h) (inl i) = inl (omega (arith, h, i))
before_trans a b c (inl h) (inr i) = inl (omega (arith, h, i.0))
before_trans a b c (inr h) (inl i) = inl (omega (arith, h.0, i))
before_trans a b c (inr h) (inr i) = inr (h.0 ∙ i.0, omega (arith, ints, h.1, i.1))

none_before : (q : Place) (v w : Value) → ¬ (IsBefore (row_for q v) (row_for q w))
none_before q v w (inl h) = omega (arith, h)
none_before q v w (inr h) = omega (arith, ints, h.1)

pub rise_none : Rise []
rise_none i j a b lt e f = absurd (cc)

all_before : (rows : List SetRow) (row : SetRow) → Rise rows → EndsBefore rows row → (i : ℕ) (a : SetRow) → slice_get rows i ≡ Some a → IsBefore a row
all_before rows row rise ends i a e =
    let within = slice_get_within rows i a e in
    elim (cases_lt (i + 1) (length rows)) [
      | inl below ↦
          let k = length rows - 1 in
          let last = slice_get-get_or rows k a (omega (arith, below)) in
          before_trans a (get_or rows k a) row (rise i k a (get_or rows k a) (omega (arith, below)) e last) (ends k (get_or rows k a) (omega (arith, below)) last)
      | inr end ↦ ends i a (omega (arith, end, within)) e
    ]

pub rise_push : (rows : List SetRow) (row : SetRow) → Rise rows → EndsBefore rows row → Rise (rows ++ row ∷ [])
rise_push rows row rise ends i j a b lt e f = elim (get_cases rows row j b f) [
  | inl front ↦ elim (get_cases rows row i a e) [
    | inl both ↦ rise i j a b lt both front
    | inr last ↦ absurd (omega (arith, last.0, lt, slice_get_within rows j b front))
  ]
  | inr last ↦ elim (get_cases rows row i a e) [
    | inl front ↦ subst (λ (x : SetRow). IsBefore a x) last.1 (all_before rows row rise ends i a front)
    | inr also ↦ absurd (omega (arith, also.0, last.0, lt))
  ]
]

-- one place has one value
place_once : (rows : List SetRow) → Rise rows → (q : Place) (v w : Value) → Contains rows (row_for q v) → Contains rows (row_for q w) → v ≡ w
place_once rows rise q v w h k =
    let e = slice_get-get_or rows h.0 (row_for q v) h.1 ∙ ap (λ (r : SetRow). Some r) h.2 in
    let f = slice_get-get_or rows k.0 (row_for q w) k.1 ∙ ap (λ (r : SetRow). Some r) k.2 in
    elim (cases_lt h.0 k.0) [
      | inl below ↦ absurd (none_before q v w (rise h.0 k.0 (row_for q v) (row_for q w) below e f))
      | inr over ↦ elim (cases_lt k.0 h.0) [
        | inl below ↦ absurd (none_before q w v (rise k.0 h.0 (row_for q w) (row_for q v) below f e))
        | inr other ↦
            let at : h.0 ≡ k.0 = omega (arith, over, other) in
            let same : ◌≡◌ {A = Option SetRow} (Some (row_for q v)) (Some (row_for q w)) = sym e ∙ ap (λ (n : ℕ). slice_get rows n) at ∙ f in
            let row : row_for q v ≡ row_for q w = cc in
            ap (λ (r : SetRow). r.value) row
      ]
    ]

-- ---- the scenarios

rows_push_none : (each : List Scenario) (s : Scenario) → s.own.items ≡ [] → (j : ℕ) → rows_at (each ++ s ∷ []) j ≡ rows_at each j
rows_push_none [] s none zero = none
rows_push_none [] s none (suc j) = refl
rows_push_none (x ∷ each) s none zero = refl
rows_push_none (x ∷ each) s none (suc j) = rows_push_none each s none j

pub reached_next : (each after : List Scenario) (i : ℕ) (name : List ℕ) (s : Scenario) → i ≡ length each → after ≡ each ++ s ∷ [] → s.name ≡ name → s.own.items ≡ [] → Reaches each after i name
reached_next each after i name s end pushed called none = record {
  same = λ j. ap (λ (l : List Scenario). rows_at l j) pushed ∙ rows_push_none each s none j;
  next = inr (end, ap names_of pushed ∙ names_push each s ∙ ap (λ (n : List ℕ). names_of each ++ n ∷ []) called);
}

reached_within : (each after : List Scenario) (i : ℕ) (name : List ℕ) → IsNext each after i name → i < length after
reached_within each after i name (inl h) =
    omega (arith, h.0, length_of_names each (names_of after) (sym h.1), length_of_names after (names_of after) refl)
reached_within each after i name (inr h) =
    omega (arith, h.0, length_of_names after (names_of each ++ name ∷ []) h.1, length_push (names_of each) name, length_of_names each (names_of each) refl)

adds_by : (each after : List Scenario) (i : ℕ) (name : List ℕ) (old s : Scenario) (row : SetRow) (b : Bool) → Reaches each after i name → old ≡ get_or after i old → s.name ≡ old.name → AddsBehind old.own.items s.own.items row b → AddsOwn each (slice_set after i s) i name row b
adds_by each after i name old s row true h read called adds =
    let within = reached_within each after i name h.next in
    let was : old.own.items ≡ rows_at each i = ap (λ (x : Scenario). x.own.items) read ∙ sym (rows_read after i old within) ∙ h.same i in
    let p = puts_own after i old s row within read called adds.1 in
    record {
      behind = subst (λ (l : List SetRow). EndsBefore l row) was adds.0;
      here = p.here ∙ ap (λ (l : List SetRow). l ++ row ∷ []) (h.same i);
      others = λ j apart. p.others j apart ∙ h.same j;
      next = elim h.next [ inl x ↦ inl (x.0, p.names ∙ x.1) | inr x ↦ inr (x.0, p.names ∙ x.1) ];
    }
adds_by each after i name old s row false h read called adds = tt {0}

pub adds_own : {E : Type 0} (each after : List Scenario) (i : ℕ) (name : List ℕ) (old s : Scenario) (row : SetRow) (r : Result Bool E) → Reaches each after i name → old ≡ get_or after i old → s.name ≡ old.name → IfOk r (AddsBehind old.own.items s.own.items row) → IfOk r (AddsOwn each (slice_set after i s) i name row)
adds_own each after i name old s row (Ok b) h read called adds = adds_by each after i name old s row b h read called adds
adds_own each after i name old s row (Err e) h read called adds = adds

-- ---- what a record says is added

-- the names of the scenarios grow as the names do
long_next : (each next : List Scenario) (names after : Names) (name : List ℕ) (i : ℕ) → names_of each ≡ names → HasNumber names after name i → IsNext each next i name → names_of next ≡ after
long_next each next names after name i long h step = elim h.from [
  | inl same ↦ elim step [
    | inl x ↦ x.1 ∙ long ∙ sym same
    | inr x ↦ absurd (omega (arith, x.0, length_of_names each names long, slice_get_within names i name (ap (λ (l : Names). slice_get l i) (sym same) ∙ h.is)))
  ]
  | inr more ↦ elim (get_cases names name i name (ap (λ (l : Names). slice_get l i) (sym more.0) ∙ h.is)) [
    | inl front ↦ absurd (more.1 i front)
    | inr last ↦ elim step [
      | inl x ↦ absurd (omega (arith, x.0, length_of_names each names long, last.0))
      | inr x ↦ x.1 ∙ ap (λ (l : Names). l ++ name ∷ []) long ∙ sym more.0
    ]
  ]
]

own_by_name : (t : Told) (before after : Rising) (name : List ℕ) (i : ℕ) (b : Bool) → t.scope ≡ Some name → HasNumber before.names.keys after.names.keys name i → after.common.items ≡ before.common.items → IsLong before → AddsOwn before.each.items after.each.items i name (row_told t) b → TakesRow t before after b
own_by_name t before after name i true scope h common long adds = record {
  own = Some i;
  numbered = subst (λ (s : Scope). IsNumbered before.names.keys after.names.keys s (Some i)) (sym scope) (i, refl, h);
  behind = adds.behind;
  here = adds.here;
  others = λ o apart. others o apart;
  long = long_next before.each.items after.each.items before.names.keys after.names.keys name i long h adds.next;
}
  where
    others : (o : Option ℕ) → o ≢ Some i → rows_for after o ≡ rows_for before o
    others None apart = common
    others (Some j) apart = adds.others j (λ e. apart (ap (λ (k : ℕ). Some k) e))
own_by_name t before after name i false scope h common long adds = tt {0}

pub adds_named : {E : Type 0} (t : Told) (before after : Rising) (name : List ℕ) (i : ℕ) (r : Result Bool E) → t.scope ≡ Some name → HasNumber before.names.keys after.names.keys name i → after.common.items ≡ before.common.items → IsLong before → IfOk r (AddsOwn before.each.items after.each.items i name (row_told t)) → IfOk r (TakesRow t before after)
adds_named t before after name i (Ok b) scope h common long adds = own_by_name t before after name i b scope h common long adds
adds_named t before after name i (Err e) scope h common long adds = adds

-- ---- one record more

rise_next : (rows now : Option ℕ → List SetRow) (own : Option ℕ) (row : SetRow) → ((o : Option ℕ) → Rise (rows o)) → EndsBefore (rows own) row → now own ≡ rows own ++ row ∷ [] → ((o : Option ℕ) → o ≢ own → now o ≡ rows o) → (o : Option ℕ) → Rise (now o)
rise_next rows now own row rise ends here others o = elim (same_own o own) [
  | inl same ↦ subst (λ (p : Option ℕ). Rise (now p)) (sym same) (subst (λ (l : List SetRow). Rise l) (sym here) (rise_push (rows own) row (rise own) ends))
  | inr apart ↦ subst (λ (l : List SetRow). Rise l) (sym (others o apart)) (rise o)
]

pub rises_none : (d : Declarations) (table : Table) (r : Rising) → r.names.keys ≡ [] → r.each.items ≡ [] → r.common.items ≡ [] → Rises d table 0 r
rises_none d table r names each common = record {
  alone = alone_none d table;
  are_named = subst (λ (l : Names). AreNamed d table 0 l) (sym names) (named_none d table);
  long = ap names_of each ∙ sym names;
  rise = λ o. subst (λ (l : List SetRow). Rise l) (sym (empty o)) rise_none;
  says = λ o q v. (
    (λ has. absurd (no_row (row_for q v) (subst (λ (l : List SetRow). Contains l (row_for q v)) (empty o) has))),
    (λ h. absurd (omega (arith, h.1.few, h.1.tells.at.below_header))),
  );
}
  where
    no_row : (r : SetRow) → ¬ (Contains [] r)
    no_row r h = omega (arith, h.1)

    empty : (o : Option ℕ) → rows_for r o ≡ []
    empty None = common
    empty (Some i) = ap (λ (l : List Scenario). rows_at l i) each

module _ (d : Declarations) (table : Table) (m : ℕ) (f : Fields) (stands : record_at table (m + 1) ≡ Some f) (before after : Rising) (c : Rises d table m before) where
  header_rises : m + 1 ≡ 1 → is_header f ≡ true → Rises d table (m + 1) before
  header_rises one is = record {
    alone = header_alone d table m f stands one is;
    are_named = header_named d table m f stands before.names.keys one c.are_named;
    long = c.long;
    rise = c.rise;
    says = λ o q v. (
      (λ has.
          let x = (c.says o q v).0 has in
          absurd (omega (arith, one, x.1.few, x.1.tells.at.below_header))),
      (λ h. absurd (header_said d table m f stands before.names.keys one (group_of o) q (record { number = h.0; value = v }) h.1)),
    );
  }

  told_rises : (t : Told) → 2 ≤ m + 1 → told d f ≡ Ok t → AddsRow t before after → Rises d table (m + 1) after
  told_rises t two meaning h =
      let names = before.names.keys in
      let now = after.names.keys in
      let grows = grows_by d table m f stands t two meaning names now c.are_named t.scope h.own h.numbered in
      let own_is = own_by d table m f stands t two meaning names now c.are_named t.scope h.own refl h.numbered in
      record {
        alone = λ n k few b. elim (up_to_next n m few) [ inl within ↦ c.alone n k within b | inr next ↦ next_alone d table m f stands t two meaning n k next b ];
        are_named = names_more d table m f stands t two meaning names now c.are_named grows h.own own_is;
        long = h.long;
        rise = rise_next (rows_for before) (rows_for after) h.own (row_told t) c.rise h.behind h.here h.others;
        says = say_next d table m f stands t two meaning names now c.are_named grows h.own own_is (rows_for before) (rows_for after) c.says h.here h.others;
      }

  pub takes_rises : TakesRising d (m + 1) f before after true → Rises d table (m + 1) after
  takes_rises (inl h) = subst (λ (r : Rising). Rises d table (m + 1) r) (sym h.2) (header_rises h.0 h.1)
  takes_rises (inr (two, t, meaning, h)) = told_rises t two meaning h

-- ---- all records

-- a place that is not held is not among the pairs
none_among : (e : Environment) (q : Place) (v : Value) → held e q ≡ None → ¬ (Contains e (q, v))
none_among [] q v none h = omega (arith, h.1)
none_among (x ∷ e) q v none h = elim (cases_Bool (same_place x.0 q)) [
  | inl here ↦
      let wrong : ◌≡◌ {A = Option Value} (Some x.1) None = rw here at none in absurd (cc)
  | inr other ↦
      let apart : x ≡ (q, v) → ⊥ = λ e. let same : same_place x.0 q ≡ true = subst (λ (p : Place × Value). same_place p.0 q ≡ true) (sym e) (same_itself q) in absurd (cc) in
      none_among e q v (rw other at none) (Contains-tail x e (q, v) apart h)
]

module _ (d : Declarations) (table : Table) (r : Rising) (c : Rises d table (length table) r) (apart : (i : ℕ) → AreApart (rows_for r (Some i)) (rows_held r.common.items)) where
  abbrev Has : Option ℕ → Place → Value → Type 0
  Has o q v = Contains (rows_for r o) (row_for q v)

  row_said : (o : Option ℕ) (q : Place) (v : Value) → Has o q v → IsSaidOf d table r.names.keys o q v
  row_said o q v has =
      let x = (c.says o q v).0 has in
      record { number = x.0; told = x.1.told; tells = x.1.tells; place = x.1.place; value = x.1.value; within = x.1.within }

  row_has : (o : Option ℕ) (q : Place) (v : Value) → IsSaidOf d table r.names.keys o q v → Has o q v
  row_has o q v s =
      (c.says o q v).1 (s.number, record { few = in_table d table s.number s.told s.tells; told = s.told; tells = s.tells; place = s.place; value = s.value; within = s.within })

  apart_rows : (i : ℕ) (q : Place) (v w : Value) → Has (Some i) q v → Has None q w → v ≡ w
  apart_rows i q v w own all =
      absurd (none_among (rows_held r.common.items) q w
      (All-contains (λ (x : SetRow). held (rows_held r.common.items) (place_at x) ≡ None) (rows_for r (Some i)) (row_for q v) (apart i) own)
      (rows_from r.common.items q w all))

  -- the rows that count for one scenario have one value at a place
  one_row : (o p : Option ℕ) → (o ≡ p) ⊎ (o ≡ None) ⊎ (p ≡ None) → (q : Place) (v w : Value) → Has o q v → Has p q w → v ≡ w
  one_row None None meet q v w h k = place_once r.common.items (c.rise None) q v w h k
  one_row None (Some j) meet q v w h k = sym (apart_rows j q w v k h)
  one_row (Some i) None meet q v w h k = apart_rows i q v w h k
  one_row (Some i) (Some j) (inl same) q v w h k =
      place_once (rows_for r (Some i)) (c.rise (Some i)) q v w h (subst (λ (o : Option ℕ). Has o q w) (sym same) k)
  one_row (Some i) (Some j) (inr (inl none)) q v w h k = absurd (cc)
  one_row (Some i) (Some j) (inr (inr none)) q v w h k = absurd (cc)

  -- the rows to which a record belongs
  own_by_scope : (n : ℕ) (t : Told) → Tells d table n t → (s : Scope) → t.scope ≡ s → (o : Option ℕ) × IsIn r.names.keys (group_of o) t.scope × ((s ≡ None) → o ≡ None)
  own_by_scope n t tells None e = (None, e, λ none. refl)
  own_by_scope n t tells (Some name) e =
      let there = c.are_named.listed n t name (in_table d table n t tells) tells e in
      (Some there.0, (name, there.1, e), λ none. absurd (cc))

  said_row : (n : ℕ) (t : Told) → Tells d table n t → (o : Option ℕ) → IsIn r.names.keys (group_of o) t.scope → Has o t.place t.value
  said_row n t tells o within = row_has o t.place t.value (record { number = n; told = t; tells = tells; place = refl; value = refl; within = within })

  agree : Agree d table (length table)
  agree n e few h =
      let x = own_by_scope n h.one h.says h.one.scope refl in
      let y = own_by_scope e h.other h.says_other h.other.scope refl in
      let row = said_row n h.one h.says x.0 x.1 in
      elim h.meet [
        | inl same ↦
            let within = subst (λ (s : Scope). IsIn r.names.keys (group_of x.0) s) (sym same) x.1 in
            let other = said_row e h.other h.says_other x.0 within in
            h.another (one_row x.0 x.0 (inl refl) h.one.place h.other.value h.one.value (subst (λ (q : Place). Has x.0 q h.other.value) h.same_place other) row)
        | inr one ↦
            let other = said_row e h.other h.says_other y.0 y.1 in
            let here = subst (λ (q : Place). Has y.0 q h.other.value) h.same_place other in
            elim one [
              | inl none ↦ h.another (one_row y.0 x.0 (inr (inl (y.2 none))) h.one.place h.other.value h.one.value here row)
              | inr none ↦ h.another (one_row y.0 x.0 (inr (inr (x.2 none))) h.one.place h.other.value h.one.value here row)
            ]
      ]

  gathered : 1 ≤ length r.names.keys → AreGathered d table r.names.keys Has
  gathered some = record { alone = c.alone; agree = agree; are_named = c.are_named; some = some; said = row_said; has = row_has }

  pub rising_holds : (set : List NamedMap) → 1 ≤ length r.names.keys → AreAll r set → HoldsScenarios d table set
  rising_holds set some h = gathered_holds d table r.names.keys set Has (gathered some) h.names_are h.holds

-- ---- the scenarios of all rows

abbrev IsFree : Environment → SetRow → Type 0
IsFree env r = held env (place_at r) ≡ None

apart_at : (env : Environment) (each : List Scenario) → All (λ (s : Scenario). AreApart s.own.items env) each → (i : ℕ) → AreApart (rows_at each i) env
apart_at env [] all i = All-nil (IsFree env)
apart_at env (s ∷ each) all zero = All-head (λ (x : Scenario). AreApart x.own.items env) s each all
apart_at env (s ∷ each) all (suc i) = apart_at env each (All-tail (λ (x : Scenario). AreApart x.own.items env) s each all) i

pub settled_all : (r : Rising) (env : Environment) → IsLong r → HoldSame env (rows_held r.common.items) → All (λ (s : Scenario). AreApart s.own.items env) r.each.items → AreAll r (maps_of (rows_held r.common.items) r.each.items)
settled_all r env long same all = record {
  names_are = names_maps r.common.items r.each.items ∙ long;
  holds = λ i s e. map_holds r.common.items r.each.items i s e;
  apart = λ i. All-weaker (IsFree env) (IsFree (rows_held r.common.items)) (λ x h. sym (same (place_at x)) ∙ h) (rows_at r.each.items i) (apart_at env r.each.items all i);
}

pub all_answered : {E : Type 0} (d : Declarations) (table : Table) (r : Rising) (res : Result (Option (List NamedMap)) E) → GathersRows d table r → IfOk res (λ found. IfSome found (AreAll r)) → IfOk res (λ found. IfSome found (HoldsScenarios d table))
all_answered d table r (Ok (Some set)) g h = rising_holds d table r g.rises h.apart set g.some h
all_answered d table r (Ok None) g h = h
all_answered d table r (Err e) g h = h
