-- Rows are put where they belong: the first of each group at each place.
use Rattle.std.proofs.Common.{◌≡◌, ◌≢◌, ◌∙◌, ◌↔◌, ◌⊎◌, inl, inr, ℕ, zero, suc, ◌<◌, ◌==◌, true, false, List, [], ◌∷◌, ◌++◌, length, get_or, Some, slice_get, append_assoc, refl, sym, ap, subst, arith}
use Rattle.std.specs.Prelude.{Contains, slice_set}
use Rattle.std.specs.BTreeMap.{IsOrdered, is_at}
use Rattle.std.specs.declared.cmp.Ordering.{Ordering}
use Rattle.std.specs.declared.cmp.Ordering.TheVariants.{Equal, Less, Greater}
use Rattle.std.specs.Ordering.{is_eq}
use Rattle.std.proofs.lemmas.Bool.{cases_Bool}
use Rattle.std.proofs.lemmas.Bool.Decides.{nat_tests}
use Rattle.std.proofs.lemmas.List.{length-map}
use Rattle.std.proofs.lemmas.List.Elements.{Contains-append_left, Contains-push, Contains-push_cases}
use Rattle.std.proofs.lemmas.Map.Entries.{btree_map_get_place, place_from_lookup}
use Rattle.std.proofs.lemmas.Option.{get_or_from_slice_get, slice_get-get_or, slice_get_within}
use Rattle.scenario_set.specs.Settling.{Fills, IsFirst, PutsOwn, PutsRow, names_of, row_at, rows_at}
use Rattle.scenario_set.specs.Watches.{Rows, row_of, spot_of, spot_order}
use Rattle.scenario_set.specs.declared.scenarios.Scenario.{Scenario}
use Rattle.scenario_set.specs.declared.scenarios.SetRow.{SetRow}
use Rattle.scenario_set.specs.declared.mentions.Mention.{Mention}
use Rattle.scenario_set.specs.declared.watches.Group.{Group}
use Rattle.scenario_set.specs.declared.watches.Group.TheVariants.{All, Each, Of}
use Rattle.scenario_set.specs.declared.watches.Spot.{Spot}
use Rattle.scenario_set.proofs.SpotFacts.{same_spot, spots_total}

-- ---- one scenario is written

names_set : (each : List Scenario) (i : ℕ) (s : Scenario) → i < length each → ((d : Scenario) → s.name ≡ (get_or each i d).name) → names_of (slice_set each i s) ≡ names_of each
names_set [] i s within same = refl
names_set (x ∷ each) zero s within same = ap (λ (n : List ℕ). n ∷ names_of each) (same x)
names_set (x ∷ each) (suc i) s within same = ap (λ (l : List (List ℕ)). x.name ∷ l) (names_set each i s (omega (arith, within)) same)

rows_set : (each : List Scenario) (i : ℕ) (s : Scenario) → i < length each → rows_at (slice_set each i s) i ≡ s.own.items
rows_set [] i s within = absurd (omega (arith, within))
rows_set (x ∷ each) zero s within = refl
rows_set (x ∷ each) (suc i) s within = rows_set each i s (omega (arith, within))

rows_other : (each : List Scenario) (i j : ℕ) (s : Scenario) → j ≢ i → rows_at (slice_set each i s) j ≡ rows_at each j
rows_other [] i j s apart = refl
rows_other (x ∷ each) zero zero s apart = absurd (apart refl)
rows_other (x ∷ each) zero (suc j) s apart = refl
rows_other (x ∷ each) (suc i) zero s apart = refl
rows_other (x ∷ each) (suc i) (suc j) s apart = rows_other each i j s (λ e. apart (ap (λ (n : ℕ). suc n) e))

pub rows_read : (each : List Scenario) (i : ℕ) (d : Scenario) → i < length each → rows_at each i ≡ (get_or each i d).own.items
rows_read [] i d within = absurd (omega (arith, within))
rows_read (x ∷ each) zero d within = refl
rows_read (x ∷ each) (suc i) d within = rows_read each i d (omega (arith, within))

any_read : (each : List Scenario) (i : ℕ) (d e : Scenario) → i < length each → get_or each i d ≡ get_or each i e
any_read [] i d e within = absurd (omega (arith, within))
any_read (x ∷ each) zero d e within = refl
any_read (x ∷ each) (suc i) d e within = any_read each i d e (omega (arith, within))

pub puts_own : (each : List Scenario) (i : ℕ) (old s : Scenario) (row : SetRow) → i < length each → old ≡ get_or each i old → s.name ≡ old.name → s.own.items ≡ old.own.items ++ row ∷ [] → PutsOwn each (slice_set each i s) i row
puts_own each i old s row within read name rows = record {
  names = names_set each i s within (λ d. name ∙ ap (λ (x : Scenario). x.name) (read ∙ any_read each i old d within));
  here = rows_set each i s within ∙ rows ∙ ap (λ (x : Scenario). x.own.items ++ row ∷ []) read ∙ ap (λ (l : List SetRow). l ++ row ∷ []) (sym (rows_read each i old within));
  others = λ j apart. rows_other each i j s apart;
}

-- ---- scenarios without rows

pub names_push : (each : List Scenario) (s : Scenario) → names_of (each ++ s ∷ []) ≡ names_of each ++ s.name ∷ []
names_push [] s = refl
names_push (x ∷ each) s = ap (λ (l : List (List ℕ)). x.name ∷ l) (names_push each s)

pub no_rows_push : (each : List Scenario) (s : Scenario) → s.own.items ≡ [] → ((i : ℕ) → rows_at each i ≡ []) → (i : ℕ) → rows_at (each ++ s ∷ []) i ≡ []
no_rows_push [] s none all zero = none
no_rows_push [] s none all (suc i) = refl
no_rows_push (x ∷ each) s none all zero = all 0
no_rows_push (x ∷ each) s none all (suc i) = no_rows_push each s none (λ j. all (suc j)) i

pub names_next : (each after : List Scenario) (s : Scenario) (items rest all : List (List ℕ)) → after ≡ each ++ s ∷ [] → items ≡ s.name ∷ rest → names_of each ++ items ≡ all → names_of after ++ rest ≡ all
names_next each after s items rest all pushed steps joined =
    ap (λ (l : List Scenario). names_of l ++ rest) pushed ∙ ap (λ (l : List (List ℕ)). l ++ rest) (names_push each s)
    ∙ append_assoc (names_of each) (s.name ∷ []) rest ∙ ap (λ (l : List (List ℕ)). names_of each ++ l) (sym steps) ∙ joined

pub no_rows_next : (each after : List Scenario) (s : Scenario) → after ≡ each ++ s ∷ [] → s.own.items ≡ [] → ((i : ℕ) → rows_at each i ≡ []) → (i : ℕ) → rows_at after i ≡ []
no_rows_next each after s pushed none all i = ap (λ (l : List Scenario). rows_at l i) pushed ∙ no_rows_push each s none all i

-- ---- the entries so far

-- an entry gives a row of a group
pub record IsGiven (entries : List (Spot × Mention)) (g : Group) (r : SetRow) : Type 0 where
  pub entry : Spot × Mention
  pub among : Contains entries entry
  pub group : entry.0.group ≡ g
  pub row : row_at entry.0 entry.1 ≡ r

pub record FillsFront (entries : List (Spot × Mention)) (common : List SetRow) (each : List Scenario) : Type 0 where
  pub common_is : (r : SetRow) → Contains common r ↔ IsGiven entries Each r
  pub own_is : (i : ℕ) (r : SetRow) → Contains (rows_at each i) r ↔ IsGiven entries (Of i) r

module _ (entries : List (Spot × Mention)) (e : Spot × Mention) where
  given_old : (g : Group) (r : SetRow) → IsGiven entries g r → IsGiven (entries ++ e ∷ []) g r
  given_old g r h = record { entry = h.entry; among = Contains-append_left entries (e ∷ []) h.entry h.among; group = h.group; row = h.row }

  -- the last entry gives a row of another group
  miss : (g : Group) (l : List SetRow) → e.0.group ≢ g → ((r : SetRow) → Contains l r ↔ IsGiven entries g r) → (r : SetRow) → Contains l r ↔ IsGiven (entries ++ e ∷ []) g r
  miss g l other all r = (
    (λ h. given_old g r ((all r).0 h)),
    (λ h. elim (Contains-push_cases entries e h.entry h.among) [
      | inl old ↦ (all r).1 (record { entry = h.entry; among = old; group = h.group; row = h.row })
      | inr new ↦ absurd (other (ap (λ (x : Spot × Mention). x.0.group) new ∙ h.group))
    ]),
  )

  hit : (g : Group) (l more : List SetRow) → e.0.group ≡ g → more ≡ l ++ row_at e.0 e.1 ∷ [] → ((r : SetRow) → Contains l r ↔ IsGiven entries g r) → (r : SetRow) → Contains more r ↔ IsGiven (entries ++ e ∷ []) g r
  hit g l more here pushed all r = (
    (λ h. elim (Contains-push_cases l (row_at e.0 e.1) r (subst (λ (x : List SetRow). Contains x r) pushed h)) [
      | inl old ↦ given_old g r ((all r).0 old)
      | inr new ↦ record { entry = e; among = Contains-push entries e; group = here; row = new }
    ]),
    (λ h. subst (λ (x : List SetRow). Contains x r) (sym pushed) (elim (Contains-push_cases entries e h.entry h.among) [
      | inl old ↦ Contains-append_left l (row_at e.0 e.1 ∷ []) r ((all r).1 (record { entry = h.entry; among = old; group = h.group; row = h.row }))
      | inr new ↦
          let row : row_at e.0 e.1 ≡ r = ap (λ (x : Spot × Mention). row_at x.0 x.1) new ∙ h.row in
          subst (λ (x : SetRow). Contains (l ++ row_at e.0 e.1 ∷ []) x) row (Contains-push l (row_at e.0 e.1))
    ])),
  )

  module _ (common common_after : List SetRow) (each after : List Scenario) (fills : FillsFront entries common each) where
    put_by : (g : Group) → e.0.group ≡ g → PutsRow common each common_after after g (row_at e.0 e.1) → FillsFront (entries ++ e ∷ []) common_after after
    put_by All here puts = record {
      common_is = miss Each common_after (λ x. let wrong : All ≡ Each = sym here ∙ x in absurd (cc)) (subst (λ (l : List SetRow). (r : SetRow) → Contains l r ↔ IsGiven entries Each r) (sym puts.0) fills.common_is);
      own_is = λ i. miss (Of i) (rows_at after i) (λ x. let wrong : All ≡ Of i = sym here ∙ x in absurd (cc)) (subst (λ (l : List Scenario). (r : SetRow) → Contains (rows_at l i) r ↔ IsGiven entries (Of i) r) (sym puts.1) (fills.own_is i));
    }
    put_by Each here puts = record {
      common_is = hit Each common common_after here puts.0 fills.common_is;
      own_is = λ i. miss (Of i) (rows_at after i) (λ x. let wrong : Each ≡ Of i = sym here ∙ x in absurd (cc)) (subst (λ (l : List Scenario). (r : SetRow) → Contains (rows_at l i) r ↔ IsGiven entries (Of i) r) (sym puts.1) (fills.own_is i));
    }
    put_by (Of k) here puts = record {
      common_is = miss Each common_after (λ x. let wrong : Of k ≡ Each = sym here ∙ x in absurd (cc)) (subst (λ (l : List SetRow). (r : SetRow) → Contains l r ↔ IsGiven entries Each r) (sym puts.0) fills.common_is);
      own_is = λ i. own_by i (cases_Bool (i == k));
    }
      where
        own_by : (i : ℕ) → ((i == k) ≡ true) ⊎ ((i == k) ≡ false) → (r : SetRow) → Contains (rows_at after i) r ↔ IsGiven (entries ++ e ∷ []) (Of i) r
        own_by i (inl same) =
            let at : i ≡ k = grind (arith, nat_tests) in
            hit (Of i) (rows_at each i) (rows_at after i) (here ∙ ap (λ (n : ℕ). Of n) (sym at)) (subst (λ (n : ℕ). rows_at after n ≡ rows_at each n ++ row_at e.0 e.1 ∷ []) (sym at) puts.1.here) (fills.own_is i)
        own_by i (inr other) =
            let apart : i ≢ k = λ x. grind (arith, nat_tests) in
            miss (Of i) (rows_at after i) (λ x. let same : Of k ≡ Of i = sym here ∙ x in let number : k ≡ i = cc in apart (sym number))
            (subst (λ (l : List SetRow). (r : SetRow) → Contains l r ↔ IsGiven entries (Of i) r) (sym (puts.1.others i apart)) (fills.own_is i))

    pub put_more : PutsRow common each common_after after e.0.group (row_at e.0 e.1) → FillsFront (entries ++ e ∷ []) common_after after
    put_more puts = put_by e.0.group refl puts

pub names_put : (common common_after : List SetRow) (each after : List Scenario) (g : Group) (row : SetRow) → PutsRow common each common_after after g row → names_of after ≡ names_of each
names_put common common_after each after All row puts = ap names_of puts.1
names_put common common_after each after Each row puts = ap names_of puts.1
names_put common common_after each after (Of i) row puts = puts.1.names

pub same_length : (each other : List Scenario) → names_of each ≡ names_of other → length each ≡ length other
same_length each other e = sym (length-map each (λ (s : Scenario). s.name)) ∙ ap length e ∙ length-map other (λ (s : Scenario). s.name)

pub length_of_names : (each : List Scenario) (names : List (List ℕ)) → names_of each ≡ names → length each ≡ length names
length_of_names each names e = sym (length-map each (λ (s : Scenario). s.name)) ∙ ap length e

-- ---- all entries

module _ (firsts : Rows) (ordered : IsOrdered spot_order firsts) where
  given_first : (g : Group) (r : SetRow) → IsGiven firsts.entries g r → IsFirst firsts g r
  given_first g r h =
      let at : slice_get firsts.entries h.among.0 ≡ Some h.entry = slice_get-get_or firsts.entries h.among.0 h.entry h.among.1 ∙ ap (λ (x : Spot × Mention). Some x) h.among.2 in
      let found : row_of firsts h.entry.0 ≡ Some h.entry.1 = btree_map_get_place spots_total firsts h.among.0 h.entry.0 h.entry.1 ordered at in
      let group : h.entry.0.group ≡ g = h.group in
      let label : h.entry.0.label ≡ r.label = ap (λ (x : SetRow). x.label) h.row in
      let day : h.entry.0.day ≡ r.day = ap (λ (x : SetRow). x.day) h.row in
      let spot : h.entry.0 ≡ record { group = g; label = r.label; day = r.day } = λ i. record { group = group i; label = label i; day = day i } in
      (h.entry.1, ap (row_of firsts) (sym spot) ∙ found, ap (λ (x : SetRow). x.value) h.row)

  first_given : (g : Group) (r : SetRow) → IsFirst firsts g r → IsGiven firsts.entries g r
  first_given g r h =
      let f = h.0 in
      let value = h.2 in
      let spot = spot_of g (record { label = r.label; day = r.day }) in
      let p = place_from_lookup (is_at (spot_order spot)) firsts.entries f h.1 in
      let here : spot ≡ p.1 = same_spot spot p.1 (equal_from (spot_order spot p.1) p.3) in
      let within = slice_get_within firsts.entries p.0 (p.1, f) p.2 in
      record {
        entry = (p.1, f);
        among = (p.0, within, get_or_from_slice_get firsts.entries p.0 (p.1, f) (p.1, f) p.2);
        group = ap (λ (x : Spot). x.group) (sym here);
        row = (let label : p.1.label ≡ r.label = ap (λ (x : Spot). x.label) (sym here) in let day : p.1.day ≡ r.day = ap (λ (x : Spot). x.day) (sym here) in λ i. record { label = label i; day = day i; value = value i });
      }
    where
      equal_from : (o : Ordering) → is_eq o ≡ true → o ≡ Equal
      equal_from Less e = absurd (cc)
      equal_from Equal e = refl
      equal_from Greater e = absurd (cc)

  pub fills_all : (common : List SetRow) (each : List Scenario) → FillsFront firsts.entries common each → Fills firsts common each
  fills_all common each h = record {
    common_is = λ r. ((λ i. given_first Each r ((h.common_is r).0 i)), (λ i. (h.common_is r).1 (first_given Each r i)));
    own_is = λ i r. ((λ x. given_first (Of i) r ((h.own_is i r).0 x)), (λ x. (h.own_is i r).1 (first_given (Of i) r x)));
  }
