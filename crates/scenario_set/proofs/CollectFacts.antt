-- A table of scenarios after one record more, and at the end.
use Rattle.std.proofs.Common.{◌≡◌, ◌≢◌, ◌∙◌, ◌↔◌, ◌⊎◌, inl, inr, ℕ, zero, suc, ◌+◌, ◌<◌, ◌≤◌, ◌==◌, Bool, true, false, List, [], ◌∷◌, ◌++◌, length, Option, Some, None, Ok, slice_get, refl, sym, ap, subst, arith}
use Rattle.std.specs.Prelude.{Contains}
use Rattle.std.proofs.lemmas.Bool.{cases_Bool, cases_lt}
use Rattle.std.proofs.lemmas.Bool.Decides.{nat_tests}
use Rattle.std.proofs.lemmas.List.{length_push}
use Rattle.std.proofs.lemmas.List.Elements.{Contains-append_left, Contains-push, Contains-push_cases}
use Rattle.std.proofs.lemmas.Option.{slice_get_within}
use Rattle.term_model.specs.Declarations.{Declarations}
use Rattle.term_model.specs.Environments.{Place, same_place}
use Rattle.term_model.specs.declared.values.Value.{Value}
use Rattle.fixing_files.specs.Records.{Fields}
use Rattle.fixing_files.specs.Tables.{StandsAt, Table, record_at}
use Rattle.fixing_files.specs.declared.faults.RowKind.{RowKind}
use Rattle.fixing_files.specs.declared.faults.RowKind.TheVariants as kind
use Rattle.fixing_files.proofs.TableFacts.{record_within}
use Rattle.scenario_set.specs.Scopes.{Meet, Scope}
use Rattle.scenario_set.specs.ScenarioRecords.{Told, header, told}
use Rattle.scenario_set.specs.ScenarioSteps.{is_header}
use Rattle.scenario_set.specs.ScenarioTables.{Breaks, BreaksAlone, Conflicts, Contradicts, IsFirstFault, IsFirstOf, LacksHeader, Tells}
use Rattle.scenario_set.specs.Collecting.{Agree, AreNamed, AreSeen, AreSound, Clashes, Collects, IsIn, IsNumbered, IsSaid, Names, TakesRecord}
use Rattle.scenario_set.specs.Mentions.{FirstIs, IsSeen, next, told_of}
use Rattle.scenario_set.specs.Rising.{row_told}
use Rattle.scenario_set.specs.Settling.{row_for}
use Rattle.scenario_set.specs.Watches.{IsUnseen, Kept, TakesMention, clash_in, group_of, seen_at, spot_of}
use Rattle.scenario_set.specs.declared.drafts.Draft.{Draft}
use Rattle.scenario_set.specs.declared.mentions.Mention.{Mention}
use Rattle.scenario_set.specs.declared.scenarios.SetRow.{SetRow}
use Rattle.scenario_set.specs.Mentions.{Seen}
use Rattle.scenario_set.specs.declared.watches.Group.{Group}
use Rattle.scenario_set.specs.declared.watches.Group.TheVariants.{All, Each, Of}
use Rattle.scenario_set.specs.declared.watches.Spot.{Spot}
use Rattle.scenario_set.proofs.NumberFacts.{get_cases, get_front}
use Rattle.fixing_files.proofs.LayerFacts.{same_is, same_itself}
use Rattle.scenario_set.proofs.RecordFacts.{header_from, not_both, other_from, same_told}
use Rattle.scenario_set.proofs.SeenFacts.{IsApart, IsEither, first_of_both, next_seen, none_is_seen, seen_moves, told_first}

pub up_to_next : (n m : ℕ) → n ≤ m + 1 → (n ≤ m) ⊎ (n ≡ m + 1)
up_to_next n m h = elim (cases_lt m n) [ inl above ↦ inr (omega arith) | inr within ↦ inl within ]

-- the rows of each scenario, and those of all, are what the first m records say
abbrev pub Say : Declarations → Table → ℕ → Names → (Option ℕ → List SetRow) → Type 0
Say d table m names rows =
    (o : Option ℕ) (q : Place) (v : Value)
    → Contains (rows o) (row_for q v)
    ↔ ((n : ℕ) × IsSaid d table m names (group_of o) q (record { number = n; value = v }))

pub same_own : (o p : Option ℕ) → (o ≡ p) ⊎ (o ≢ p)
same_own None None = inl refl
same_own None (Some j) = inr (λ e. absurd (cc))
same_own (Some i) None = inr (λ e. absurd (cc))
same_own (Some i) (Some j) = elim (cases_Bool (i == j)) [
  | inl same ↦ let at : i ≡ j = grind (arith, nat_tests) in inl (ap (λ (k : ℕ). Some k) at)
  | inr other ↦ let apart : i ≢ j = λ e. grind (arith, nat_tests) in inr (λ e. apart (let at : i ≡ j = cc in at))
]

-- ---- before the first record

pub alone_none : (d : Declarations) (table : Table) → AreSound d table 0
alone_none d table n k few b = elim b [ inl h ↦ omega (arith, few, h.number) | inr h ↦ omega (arith, few, h.at.below_header) ]

pub named_none : (d : Declarations) (table : Table) → AreNamed d table 0 []
named_none d table = record {
  few = omega arith;
  named = λ i name e. absurd (cc);
  listed = λ n t name few s e. absurd (omega (arith, few, s.at.below_header));
  ordered = λ i j n k a b lt e f g h. absurd (cc);
}

pub collects_none : (d : Declarations) (table : Table) (kept : Kept) → IsUnseen kept → Collects d table 0 [] kept
collects_none d table kept unseen = record {
  alone = alone_none d table;
  agree = λ n e few c. omega (arith, few, c.says.at.below_header);
  are_named = named_none d table;
  are_seen = λ g q. subst (λ (s : Seen). IsSeen (IsSaid d table 0 [] g q) s) (sym (unseen (spot_of g q)))
      (none_is_seen (IsSaid d table 0 [] g q) (λ x h. omega (arith, h.few, h.tells.at.below_header)));
}

-- ---- names

pub first_unique : (d : Declarations) (table : Table) (name : List ℕ) (n k : ℕ) → IsFirstOf d table name n → IsFirstOf d table name k → n ≡ k
first_unique d table name n k h i = omega (arith, h.first k i.says.0 i.says.1 i.says.2, i.first n h.says.0 h.says.1 h.says.2)

pub names_unique : (d : Declarations) (table : Table) (m : ℕ) (names : Names) → AreNamed d table m names → (i j : ℕ) (a : List ℕ) → slice_get names i ≡ Some a → slice_get names j ≡ Some a → i ≡ j
names_unique d table m names named i j a e f =
    let first = (named.named i a e).2 in
    let n = (named.named i a e).0 in
    elim (cases_lt i j) [
      | inl below ↦ absurd (omega (arith, named.ordered i j n n a a below e f first first))
      | inr over ↦ elim (cases_lt j i) [
        | inl below ↦ absurd (omega (arith, named.ordered j i n n a a below f e first first))
        | inr other ↦ omega arith
      ]
    ]

-- ---- one record more

module _ (d : Declarations) (table : Table) (m : ℕ) (f : Fields) (stands : record_at table (m + 1) ≡ Some f) where
  next_fields : (n : ℕ) (g : Fields) → StandsAt table n g → n ≡ m + 1 → f ≡ g
  next_fields n g h is = let e : Some f ≡ Some g = sym stands ∙ ap (record_at table) (sym is) ∙ h.stands in cc

  within_table : m + 1 ≤ length table
  within_table = record_within table (m + 1) f stands

  -- the header

  pub header_alone : m + 1 ≡ 1 → is_header f ≡ true → AreSound d table (m + 1)
  header_alone one is n k few b = elim b [
    | inl h ↦ h.other (ap (record_at table) (sym one) ∙ stands ∙ ap (λ (g : Fields). Some g) (header_from f is))
    | inr h ↦ omega (arith, few, one, h.at.below_header)
  ]

  pub header_named : (names : Names) → m + 1 ≡ 1 → AreNamed d table m names → AreNamed d table (m + 1) names
  header_named names one c = record {
    few = omega (arith, c.few);
    named = λ i name e. let h = c.named i name e in (h.0, omega (arith, h.1), h.2);
    listed = λ n t name few s e. absurd (omega (arith, few, one, s.at.below_header));
    ordered = c.ordered;
  }

  -- no record before the header's end says anything
  pub header_said : (names : Names) → m + 1 ≡ 1 → (g : Group) (q : Place) (x : Mention) → ¬ (IsSaid d table (m + 1) names g q x)
  header_said names one g q x h = omega (arith, h.few, one, h.tells.at.below_header)

  pub collects_header : (names : Names) (kept : Kept) → m + 1 ≡ 1 → is_header f ≡ true → Collects d table m names kept → Collects d table (m + 1) names kept
  collects_header names kept one is c = record {
    alone = header_alone one is;
    agree = λ n e few h. omega (arith, few, one, h.says.at.below_header);
    are_named = header_named names one c.are_named;
    are_seen = λ g q. seen_moves (IsSaid d table m names g q) (IsSaid d table (m + 1) names g q)
        (λ x h. record { few = omega (arith, h.few); told = h.told; tells = h.tells; place = h.place; value = h.value; within = h.within })
        (λ x h. absurd (header_said names one g q x h))
        (seen_at kept (spot_of g q)) (c.are_seen g q);
  }

  -- a record that says something

  module _ (t : Told) (two : 2 ≤ m + 1) (meaning : told d f ≡ Ok t) where
    tells_next : Tells d table (m + 1) t
    tells_next = record { fields = f; at = record { below_header = two; stands = stands }; meaning = meaning }

    same_next : (n : ℕ) (u : Told) → n ≡ m + 1 → Tells d table n u → t ≡ u
    same_next n u is h = same_told d table (m + 1) t u tells_next (subst (λ (k : ℕ). Tells d table k u) is h)

    pub next_alone : (n : ℕ) (k : RowKind) → n ≡ m + 1 → ¬ (LacksHeader table n k ⊎ BreaksAlone d table n k)
    next_alone n k is (inl b) = omega (arith, is, two, b.number)
    next_alone n k is (inr b) = not_both d table (m + 1) t k tells_next (subst (λ (j : ℕ). BreaksAlone d table j k) is b)

    module _ (names after : Names) (named : AreNamed d table m names) where
      -- how the names grow
      pub record Adds (s : Scope) : Type 0 where
        pub name : List ℕ
        pub scope : s ≡ Some name
        pub grown : after ≡ names ++ name ∷ []
        pub absent : (j : ℕ) → slice_get names j ≢ Some name

      abbrev pub Grows : Scope → Type 0
      Grows s = (after ≡ names) ⊎ Adds s

      -- for which scenario the record counts
      abbrev pub OwnIs : Option ℕ → Type 0
      OwnIs None = t.scope ≡ None
      OwnIs (Some i) = (name : List ℕ) × (slice_get after i ≡ Some name) × (t.scope ≡ Some name)

      pub grows_by : (s : Scope) (own : Option ℕ) → IsNumbered names after s own → Grows s
      grows_by None own h = inl h.1
      grows_by (Some name) own h = elim h.2.from [
        | inl same ↦ inl same
        | inr more ↦ inr (record { name = name; scope = refl; grown = more.0; absent = more.1 })
      ]

      pub own_by : (s : Scope) (own : Option ℕ) → t.scope ≡ s → IsNumbered names after s own → OwnIs own
      own_by None own e h = subst OwnIs (sym h.0) e
      own_by (Some name) own e h = subst OwnIs (sym h.1) (name, h.2.is, e)

      -- the record's scenario is among the names

      own_listed : (own : Option ℕ) → OwnIs own → (name : List ℕ) → t.scope ≡ Some name → (i : ℕ) × (slice_get after i ≡ Some name)
      own_listed None is name e = absurd (let wrong : ◌≡◌ {A = Scope} None (Some name) = sym is ∙ e in cc)
      own_listed (Some i) is name e =
          let same : ◌≡◌ {A = Scope} (Some is.0) (Some name) = sym is.2 ∙ e in (i, is.1 ∙ same)

      module _ (grows : Grows t.scope) (own : Option ℕ) (own_is : OwnIs own) where
        front_by : Grows t.scope → (i : ℕ) (name : List ℕ) → slice_get names i ≡ Some name → slice_get after i ≡ Some name
        front_by (inl same) i name e = ap (λ (l : Names). slice_get l i) same ∙ e
        front_by (inr adds) i name e =
            ap (λ (l : Names). slice_get l i) adds.grown ∙ get_front names (adds.name ∷ []) i (slice_get_within names i name e) ∙ e

        -- a name of an earlier record was there before
        back_by : Grows t.scope → (i : ℕ) (name : List ℕ) (n : ℕ) (u : Told) → n ≤ m → Tells d table n u → u.scope ≡ Some name → slice_get after i ≡ Some name → slice_get names i ≡ Some name
        back_by (inl same) i name n u few s e at = ap (λ (l : Names). slice_get l i) (sym same) ∙ at
        back_by (inr adds) i name n u few s e at =
            elim (get_cases names adds.name i name (ap (λ (l : Names). slice_get l i) (sym adds.grown) ∙ at)) [
              | inl front ↦ front
              | inr last ↦
                  let there = named.listed n u name few s e in
                  absurd (adds.absent there.0 (there.1 ∙ ap (λ (k : List ℕ). Some k) (sym last.1)))
            ]

        listed_next : (n : ℕ) (u : Told) (name : List ℕ) → n ≤ m + 1 → Tells d table n u → u.scope ≡ Some name → (i : ℕ) × (slice_get after i ≡ Some name)
        listed_next n u name few s e = elim (up_to_next n m few) [
          | inl within ↦ let there = named.listed n u name within s e in (there.0, front_by grows there.0 name there.1)
          | inr next ↦ own_listed own own_is name (ap (λ (x : Told). x.scope) (same_next n u next s) ∙ e)
        ]

        -- a new name has its first record here
        new_first : (adds : Adds t.scope) → IsFirstOf d table adds.name (m + 1)
        new_first adds = record { says = (t, tells_next, adds.scope); first = λ k u s e. above_all adds k u s e }
          where
            above_all : (adds : Adds t.scope) (k : ℕ) (u : Told) → Tells d table k u → u.scope ≡ Some adds.name → m + 1 ≤ k
            above_all adds k u s e = elim (cases_lt m k) [
              | inl above ↦ omega (arith, above)
              | inr within ↦ let there = named.listed k u adds.name within s e in absurd (adds.absent there.0 there.1)
            ]

        named_by : Grows t.scope → (i : ℕ) (name : List ℕ) → slice_get after i ≡ Some name → (n : ℕ) × (n ≤ m + 1) × IsFirstOf d table name n
        named_by (inl same) i name e =
            let h = named.named i name (ap (λ (l : Names). slice_get l i) (sym same) ∙ e) in (h.0, omega (arith, h.1), h.2)
        named_by (inr adds) i name e = elim (get_cases names adds.name i name (ap (λ (l : Names). slice_get l i) (sym adds.grown) ∙ e)) [
          | inl front ↦ let h = named.named i name front in (h.0, omega (arith, h.1), h.2)
          | inr last ↦ (m + 1, omega arith, subst (λ (k : List ℕ). IsFirstOf d table k (m + 1)) last.1 (new_first adds))
        ]

        ordered_by : Grows t.scope → (i j n k : ℕ) (a b : List ℕ) → i < j → slice_get after i ≡ Some a → slice_get after j ≡ Some b → IsFirstOf d table a n → IsFirstOf d table b k → n < k
        ordered_by (inl same) i j n k a b lt e g one other =
            named.ordered i j n k a b lt (ap (λ (l : Names). slice_get l i) (sym same) ∙ e) (ap (λ (l : Names). slice_get l j) (sym same) ∙ g) one other
        ordered_by (inr adds) i j n k a b lt e g one other =
            let at_i = get_cases names adds.name i a (ap (λ (l : Names). slice_get l i) (sym adds.grown) ∙ e) in
            let at_j = get_cases names adds.name j b (ap (λ (l : Names). slice_get l j) (sym adds.grown) ∙ g) in
            elim at_j [
              | inl front ↦ elim at_i [
                | inl both ↦ named.ordered i j n k a b lt both front one other
                | inr last ↦ absurd (omega (arith, last.0, lt, slice_get_within names j b front))
              ]
              | inr last ↦ elim at_i [
                | inl front ↦
                    let h = named.named i a front in
                    let first = subst (λ (x : List ℕ). IsFirstOf d table x (m + 1)) last.1 (new_first adds) in
                    omega (arith, h.1, first_unique d table a n h.0 one h.2, first_unique d table b k (m + 1) other first)
                | inr also ↦ absurd (omega (arith, last.0, also.0, lt))
              ]
            ]

        few_by : Grows t.scope → length after ≤ m + 1
        few_by (inl same) = omega (arith, named.few, ap length same)
        few_by (inr adds) = omega (arith, named.few, ap length adds.grown, length_push names adds.name)

        pub names_more : AreNamed d table (m + 1) after
        names_more = record { few = few_by grows; named = named_by grows; listed = listed_next; ordered = ordered_by grows }

        -- the groups by the names that grew

        in_on : (g : Group) (s : Scope) → IsIn names g s → IsIn after g s
        in_on All s h = h
        in_on Each s h = h
        in_on (Of i) s h = (h.0, front_by grows i h.0 h.1, h.2)

        in_back : (g : Group) (n : ℕ) (u : Told) → n ≤ m → Tells d table n u → IsIn after g u.scope → IsIn names g u.scope
        in_back All n u few s h = h
        in_back Each n u few s h = h
        in_back (Of i) n u few s h = (h.0, back_by grows i h.0 n u few s h.2 h.1, h.2)

        -- what the earlier records say, by the names that grew

        abbrev Was : Group → Place → Mention → Type 0
        Was g q x = IsSaid d table m after g q x

        was_on : (g : Group) (q : Place) (x : Mention) → IsSaid d table m names g q x → Was g q x
        was_on g q x h = record { few = h.few; told = h.told; tells = h.tells; place = h.place; value = h.value; within = in_on g h.told.scope h.within }

        was_back : (g : Group) (q : Place) (x : Mention) → Was g q x → IsSaid d table m names g q x
        was_back g q x h = record { few = h.few; told = h.told; tells = h.tells; place = h.place; value = h.value; within = in_back g x.number h.told h.few h.tells h.within }

        -- the rows of each group with the record's

        abbrev pub row : Mention
        row = record { number = m + 1; value = t.value }

        abbrev Is : Group → Place → Mention → Type 0
        Is g q x = IsSaid d table (m + 1) after g q x

        said_old : (g : Group) (q : Place) (x : Mention) → Was g q x → Is g q x
        said_old g q x h = record { few = omega (arith, h.few); told = h.told; tells = h.tells; place = h.place; value = h.value; within = h.within }

        said_new : (g : Group) (q : Place) → t.place ≡ q → IsIn after g t.scope → Is g q row
        said_new g q e w = record { few = omega arith; told = t; tells = tells_next; place = e; value = refl; within = w }

        said_cases : (g : Group) (q : Place) (x : Mention) → Is g q x → Was g q x ⊎ ((row ≡ x) × (t.place ≡ q) × IsIn after g t.scope)
        said_cases g q x h = elim (up_to_next x.number m h.few) [
          | inl within ↦ inl (record { few = within; told = h.told; tells = h.tells; place = h.place; value = h.value; within = h.within })
          | inr here ↦
              let same : t ≡ h.told = same_next x.number h.told here h.tells in
              let value : t.value ≡ x.value = ap (λ (u : Told). u.value) same ∙ h.value in
              let number : m + 1 ≡ x.number = sym here in
              inr (λ i. record { number = number i; value = value i }, ap (λ (u : Told). u.place) same ∙ h.place, subst (λ (s : Scope). IsIn after g s) (ap (λ (u : Told). u.scope) (sym same)) h.within)
        ]

        -- the rows of scenarios, where the record's comes behind those of its own

        own_in : (o : Option ℕ) → OwnIs o → IsIn after (group_of o) t.scope
        own_in None is = is
        own_in (Some i) is = is

        own_only : (o : Option ℕ) → OwnIs o → (p : Option ℕ) → IsIn after (group_of p) t.scope → p ≡ o
        own_only None is None w = refl
        own_only None is (Some j) w = absurd (let wrong : ◌≡◌ {A = Scope} (Some w.0) None = sym w.2 ∙ is in cc)
        own_only (Some i) is None w = absurd (let wrong : ◌≡◌ {A = Scope} (Some is.0) None = sym is.2 ∙ w in cc)
        own_only (Some i) is (Some j) w =
            let name : ◌≡◌ {A = Scope} (Some w.0) (Some is.0) = sym w.2 ∙ is.2 in
            ap (λ (k : ℕ). Some k) (names_unique d table (m + 1) after names_more j i is.0 (w.1 ∙ name) is.1)

        module _ (rows now : Option ℕ → List SetRow) (were : Say d table m names rows) (here : now own ≡ rows own ++ row_told t ∷ []) (others : (o : Option ℕ) → o ≢ own → now o ≡ rows o) where
          abbrev SaidNow : Option ℕ → Place → Value → Type 0
          SaidNow o q v = (n : ℕ) × Is (group_of o) q (record { number = n; value = v })

          was_said : (o : Option ℕ) (q : Place) (v : Value) → Contains (rows o) (row_for q v) → SaidNow o q v
          was_said o q v has =
              let x = (were o q v).0 has in
              let old : Mention = record { number = x.0; value = v } in
              (x.0, said_old (group_of o) q old (was_on (group_of o) q old x.1))

          had : (o : Option ℕ) (q : Place) (v : Value) (n : ℕ) → Was (group_of o) q (record { number = n; value = v }) → Contains (rows o) (row_for q v)
          had o q v n h = (were o q v).1 (n, was_back (group_of o) q (record { number = n; value = v }) h)

          hit_said : (q : Place) (v : Value) → Contains (rows own ++ row_told t ∷ []) (row_for q v) → SaidNow own q v
          hit_said q v has = elim (Contains-push_cases (rows own) (row_told t) (row_for q v) has) [
            | inl old ↦ was_said own q v old
            | inr new ↦
                let label : t.place.label ≡ q.label = ap (λ (r : SetRow). r.label) new in
                let day : t.place.day ≡ q.day = ap (λ (r : SetRow). r.day) new in
                let place : t.place ≡ q = λ i. record { label = label i; day = day i } in
                let value : t.value ≡ v = ap (λ (r : SetRow). r.value) new in
                (m + 1, subst (λ (w : Value). Is (group_of own) q (record { number = m + 1; value = w })) value (said_new (group_of own) q place (own_in own own_is)))
          ]

          hit_has : (q : Place) (v : Value) → SaidNow own q v → Contains (rows own ++ row_told t ∷ []) (row_for q v)
          hit_has q v (n, h) = elim (said_cases (group_of own) q (record { number = n; value = v }) h) [
            | inl old ↦ Contains-append_left (rows own) (row_told t ∷ []) (row_for q v) (had own q v n old)
            | inr new ↦
                let label : t.place.label ≡ q.label = ap (λ (p : Place). p.label) new.1 in
                let day : t.place.day ≡ q.day = ap (λ (p : Place). p.day) new.1 in
                let value : t.value ≡ v = ap (λ (x : Mention). x.value) new.0 in
                let same : row_told t ≡ row_for q v = λ i. record { label = label i; day = day i; value = value i } in
                subst (λ (r : SetRow). Contains (rows own ++ row_told t ∷ []) r) same (Contains-push (rows own) (row_told t))
          ]

          miss_has : (o : Option ℕ) (q : Place) (v : Value) → o ≢ own → SaidNow o q v → Contains (rows o) (row_for q v)
          miss_has o q v apart (n, h) = elim (said_cases (group_of o) q (record { number = n; value = v }) h) [
            | inl old ↦ had o q v n old
            | inr new ↦ absurd (apart (own_only own own_is o new.2))
          ]

          pub say_next : Say d table (m + 1) after now
          say_next o q v = elim (same_own o own) [
            | inl same ↦
                subst (λ (p : Option ℕ). Contains (now p) (row_for q v) ↔ SaidNow p q v) (sym same) (
                  (λ has. hit_said q v (subst (λ (l : List SetRow). Contains l (row_for q v)) here has)),
                  (λ h. subst (λ (l : List SetRow). Contains l (row_for q v)) (sym here) (hit_has q v h)),
                )
            | inr apart ↦ (
              (λ has. was_said o q v (subst (λ (l : List SetRow). Contains l (row_for q v)) (others o apart) has)),
              (λ h. subst (λ (l : List SetRow). Contains l (row_for q v)) (sym (others o apart)) (miss_has o q v apart h)),
            )
          ]

        module _ (kept : Kept) (were : AreSeen d table m names kept) where
          seen : (g : Group) (q : Place) → IsSeen (Was g q) (seen_at kept (spot_of g q))
          seen g q = seen_moves (IsSaid d table m names g q) (Was g q) (was_on g q) (was_back g q) (seen_at kept (spot_of g q)) (were g q)

          -- what the record contradicts

          abbrev Against : Option ℕ → Mention → Type 0
          Against None x = IsApart (Was All t.place) t.value x
          Against (Some i) x = IsEither (IsApart (Was (Of i) t.place) t.value) (IsApart (Was Each t.place) t.value) x

          first_against : (o : Option ℕ) → FirstIs (Against o) (clash_in kept o t.place t.value)
          first_against None =
              let all = seen All t.place in
              told_first (Was All t.place) t.value (seen_at kept (spot_of All t.place)).first (seen_at kept (spot_of All t.place)).other all.first_is all.other_is
          first_against (Some i) =
              let one = seen (Of i) t.place in
              let each = seen Each t.place in
              first_of_both (IsApart (Was (Of i) t.place) t.value) (IsApart (Was Each t.place) t.value)
              (told_of (seen_at kept (spot_of (Of i) t.place)).first (seen_at kept (spot_of (Of i) t.place)).other t.value)
              (told_of (seen_at kept (spot_of Each t.place)).first (seen_at kept (spot_of Each t.place)).other t.value)
              (told_first (Was (Of i) t.place) t.value (seen_at kept (spot_of (Of i) t.place)).first (seen_at kept (spot_of (Of i) t.place)).other one.first_is one.other_is)
              (told_first (Was Each t.place) t.value (seen_at kept (spot_of Each t.place)).first (seen_at kept (spot_of Each t.place)).other each.first_is each.other_is)

          -- a row of a group that meets the record's, with another value, contradicts it
          contradicts : (g : Group) (x : Mention) → IsApart (Was g t.place) t.value x → ((u : Told) → IsIn after g u.scope → Meet u.scope t.scope) → Contradicts d table (m + 1) x.number
          contradicts g x h meet = record {
            one = t;
            other = h.0.told;
            says = tells_next;
            says_other = h.0.tells;
            before = omega (arith, h.0.few);
            same_place = h.0.place;
            another = λ e. h.1 (sym h.0.value ∙ e);
            meet = meet h.0.told h.0.within;
          }

          against_to : (o : Option ℕ) → OwnIs o → (x : Mention) → Against o x → Contradicts d table (m + 1) x.number
          against_to None is x h = contradicts All x h (λ u i. inr (inr is))
          against_to (Some i) is x (inl h) = contradicts (Of i) x h (λ u w.
              let same : w.0 ≡ is.0 = (let e : ◌≡◌ {A = Option (List ℕ)} (Some w.0) (Some is.0) = sym w.1 ∙ is.1 in cc) in
              inl (w.2 ∙ ap (λ (k : List ℕ). Some k) same ∙ sym is.2))
          against_to (Some i) is x (inr h) = contradicts Each x h (λ u w. inr (inl w))

          -- and nothing else does
          abbrev row_of : (e : ℕ) → Contradicts d table (m + 1) e → Mention
          row_of e c = record { number = e; value = c.other.value }

          apart_of : (g : Group) (e : ℕ) (c : Contradicts d table (m + 1) e) → IsIn after g c.other.scope → IsApart (Was g t.place) t.value (row_of e c)
          apart_of g e c w =
              let same : t ≡ c.one = same_next (m + 1) c.one refl c.says in (
                record {
                  few = omega (arith, c.before);
                  told = c.other;
                  tells = c.says_other;
                  place = c.same_place ∙ ap (λ (u : Told). u.place) (sym same);
                  value = refl;
                  within = w;
                },
                λ v. c.another (v ∙ ap (λ (u : Told). u.value) same),
              )

          against_from : (o : Option ℕ) → OwnIs o → (e : ℕ) (c : Contradicts d table (m + 1) e) → Against o (row_of e c)
          against_from None is e c = apart_of All e c (tt {0})
          against_from (Some i) is e c =
              let same : t.scope ≡ c.one.scope = ap (λ (u : Told). u.scope) (same_next (m + 1) c.one refl c.says) in
              elim c.meet [
                | inl here ↦ inl (apart_of (Of i) e c (is.0, is.1, here ∙ sym same ∙ is.2))
                | inr other ↦ elim other [
                  | inl each ↦ inr (apart_of Each e c each)
                  | inr none ↦ absurd (let wrong : ◌≡◌ {A = Scope} (Some is.0) None = sym is.2 ∙ same ∙ none in cc)
                ]
              ]

          agrees_next : clash_in kept own t.place t.value ≡ None → (e : ℕ) → ¬ (Contradicts d table (m + 1) e)
          agrees_next none e c =
              let first : FirstIs (Against own) None = subst (λ (o : Option Mention). FirstIs (Against own) o) none (first_against own) in
              first (row_of e c) (against_from own own_is e c)

          pub conflict_next : (x : Mention) → clash_in kept own t.place t.value ≡ Some x → Conflicts d table (m + 1) x.number
          conflict_next x some =
              let first : FirstIs (Against own) (Some x) = subst (λ (o : Option Mention). FirstIs (Against own) o) some (first_against own) in
              record {
                contradicts = against_to own own_is x first.0;
                first = λ e c. first.1 (row_of e c) (against_from own own_is e c);
              }

          module _ (now : Kept) where
            abbrev Ends : Group → Place → Type 0
            Ends g q = IsSeen (Is g q) (seen_at now (spot_of g q))

            hit : (g : Group) (q : Place) → t.place ≡ q → IsIn after g t.scope → seen_at now (spot_of g q) ≡ next (seen_at kept (spot_of g q)) row → Ends g q
            hit g q e w is =
                subst (λ (s : Seen). IsSeen (Is g q) s) (sym is)
                (next_seen (Was g q) (Is g q) row (said_old g q) (said_new g q e w)
                (λ x h. elim (said_cases g q x h) [ inl old ↦ inl old | inr new ↦ inr new.0 ])
                (λ x h. omega (arith, h.few))
                (seen_at kept (spot_of g q)) (seen g q))

            miss : (g : Group) (q : Place) → (t.place ≡ q → IsIn after g t.scope → ⊥) → seen_at now (spot_of g q) ≡ seen_at kept (spot_of g q) → Ends g q
            miss g q out is =
                subst (λ (s : Seen). IsSeen (Is g q) s) (sym is)
                (seen_moves (Was g q) (Is g q) (said_old g q)
                (λ x h. elim (said_cases g q x h) [ inl old ↦ old | inr new ↦ absurd (out new.1 new.2) ])
                (seen_at kept (spot_of g q)) (seen g q))

            -- at the record's own place
            there : (o : Option ℕ) → OwnIs o → TakesMention kept now o t.place row → (g : Group) → Ends g t.place
            there o is taken All = hit All t.place refl (tt {0}) taken.at_all
            there None is taken Each = hit Each t.place refl is taken.at_own
            there (Some i) is taken Each =
                miss Each t.place (λ e w. let wrong : ◌≡◌ {A = Scope} (Some is.0) None = sym is.2 ∙ w in absurd (cc))
                (taken.others (spot_of Each t.place)
                (λ e. let wrong : Each ≡ Of i = ap (λ (s : Spot). s.group) e in absurd (cc))
                (λ e. let wrong : Each ≡ All = ap (λ (s : Spot). s.group) e in absurd (cc)))
            there None is taken (Of j) =
                miss (Of j) t.place (λ e w. let wrong : ◌≡◌ {A = Scope} (Some w.0) None = sym w.2 ∙ is in absurd (cc))
                (taken.others (spot_of (Of j) t.place)
                (λ e. let wrong : Of j ≡ Each = ap (λ (s : Spot). s.group) e in absurd (cc))
                (λ e. let wrong : Of j ≡ All = ap (λ (s : Spot). s.group) e in absurd (cc)))
            there (Some i) is taken (Of j) = elim (cases_Bool (i == j)) [
              | inl same ↦
                  let at : i ≡ j = grind (arith, nat_tests) in
                  subst (λ (k : ℕ). Ends (Of k) t.place) at (hit (Of i) t.place refl is taken.at_own)
              | inr other ↦
                  let apart : i ≢ j = λ e. grind (arith, nat_tests) in
                  miss (Of j) t.place
                  (λ e w.
                  let name : ◌≡◌ {A = Scope} (Some w.0) (Some is.0) = sym w.2 ∙ is.2 in
                  apart (names_unique d table (m + 1) after names_more i j is.0 is.1 (w.1 ∙ name)))
                  (taken.others (spot_of (Of j) t.place)
                  (λ e. let same : Of j ≡ Of i = ap (λ (s : Spot). s.group) e in let number : j ≡ i = cc in apart (sym number))
                  (λ e. let wrong : Of j ≡ All = ap (λ (s : Spot). s.group) e in absurd (cc)))
            ]

            -- a spot of another place
            place_from : (g h : Group) (q p : Place) → spot_of g q ≡ spot_of h p → p ≡ q
            place_from g h q p e =
                let label : p.label ≡ q.label = ap (λ (s : Spot). s.label) (sym e) in
                let day : p.day ≡ q.day = ap (λ (s : Spot). s.day) (sym e) in
                λ i. record { label = label i; day = day i }

            seen_next : TakesMention kept now own t.place row → AreSeen d table (m + 1) after now
            seen_next taken g q = elim (cases_Bool (same_place t.place q)) [
              | inl here ↦ subst (λ (p : Place). Ends g p) (same_is t.place q here) (there own own_is taken g)
              | inr apart ↦
                  let other : t.place ≢ q = λ e. let same : same_place t.place q ≡ true = subst (λ (p : Place). same_place t.place p ≡ true) e (same_itself t.place) in absurd (cc) in
                  miss g q (λ e w. other e)
                  (taken.others (spot_of g q) (λ e. other (place_from g (group_of own) q t.place e)) (λ e. other (place_from g All q t.place e)))
            ]

            pub told_collects : (c : Collects d table m names kept) → clash_in kept own t.place t.value ≡ None → TakesMention kept now own t.place row → Collects d table (m + 1) after now
            told_collects c none taken = record {
              alone = λ n k few b. elim (up_to_next n m few) [ inl within ↦ c.alone n k within b | inr next ↦ next_alone n k next b ];
              agree = λ n e few h. elim (up_to_next n m few) [
                | inl within ↦ c.agree n e within h
                | inr next ↦ agrees_next none e (subst (λ (k : ℕ). Contradicts d table k e) next h)
              ];
              are_named = names_more;
              are_seen = seen_next taken;
            }

-- ---- the next record is taken, or breaks a rule

module _ (d : Declarations) (table : Table) (m : ℕ) (f : Fields) (stands : record_at table (m + 1) ≡ Some f) (before after : Draft)
    (c : Collects d table m before.names.keys before.watch) where
  pub takes_collects : TakesRecord d (m + 1) f before after None → Collects d table (m + 1) after.names.keys after.watch
  takes_collects (inl h) =
      subst (λ (x : Draft). Collects d table (m + 1) x.names.keys x.watch) (sym h.2)
      (collects_header d table m f stands before.names.keys before.watch h.0 h.1 c)
  takes_collects (inr (two, t, meaning, h)) =
      told_collects d table m f stands t two meaning before.names.keys after.names.keys c.are_named
      (grows_by d table m f stands t two meaning before.names.keys after.names.keys c.are_named t.scope h.own h.numbered)
      h.own
      (own_by d table m f stands t two meaning before.names.keys after.names.keys c.are_named t.scope h.own refl h.numbered)
      before.watch c.are_seen after.watch c h.agrees h.taken

  conflict_at : (two : 2 ≤ m + 1) (t : Told) (meaning : told d f ≡ Ok t) (e : ℕ) → Clashes t before.names.keys after.names.keys before.watch e → Conflicts d table (m + 1) e
  conflict_at two t meaning e h =
      subst (λ (k : ℕ). Conflicts d table (m + 1) k) h.number
      (conflict_next d table m f stands t two meaning before.names.keys after.names.keys c.are_named
      (grows_by d table m f stands t two meaning before.names.keys after.names.keys c.are_named t.scope h.own h.numbered)
      h.own
      (own_by d table m f stands t two meaning before.names.keys after.names.keys c.are_named t.scope h.own refl h.numbered)
      before.watch c.are_seen h.row h.clash)

  breaks_next : (k : RowKind) → TakesRecord d (m + 1) f before after (Some k) → Breaks d table (m + 1) k
  breaks_next k (inl h) = inl (record {
    number = h.0;
    kind = h.2;
    other = λ e. other_from f h.1 (let same : Some f ≡ Some header = sym stands ∙ ap (record_at table) h.0 ∙ e in cc);
  })
  breaks_next k (inr (two, inl meaning)) = inr (inl (record { fields = f; at = record { below_header = two; stands = stands }; meaning = meaning }))
  breaks_next k (inr (two, inr (t, meaning, h))) = inr (inr (inl (h.0, h.1, conflict_at two t meaning h.0 h.2)))

-- none of the first records breaks a rule
pub none_breaks : (d : Declarations) (table : Table) (m : ℕ) → AreSound d table m → Agree d table m → m ≤ length table → (n : ℕ) (k : RowKind) → n ≤ m → ¬ (Breaks d table n k)
none_breaks d table m alone agree within n k few (inl b) = alone n k few (inl b)
none_breaks d table m alone agree within n k few (inr (inl b)) = alone n k few (inr b)
none_breaks d table m alone agree within n k few (inr (inr (inl b))) = agree n b.0 few b.2.contradicts
none_breaks d table m alone agree within n k few (inr (inr (inr b))) = omega (arith, few, within, b.number)

first_fault : (d : Declarations) (table : Table) (m : ℕ) (names : Names) (kept : Kept) → Collects d table m names kept → m ≤ length table → (k : RowKind) → Breaks d table (m + 1) k → IsFirstFault d table (record { row = m + 1; kind = k })
first_fault d table m names kept c within k b = record {
  breaks = b;
  first = λ n l h. elim (cases_lt m n) [ inl above ↦ omega (arith, above) | inr few ↦ absurd (none_breaks d table m c.alone c.agree within n l few h) ];
}

pub next_fault : (d : Declarations) (table : Table) (m : ℕ) (f : Fields) (stands : record_at table (m + 1) ≡ Some f) (before after : Draft) → Collects d table m before.names.keys before.watch
    → (k : RowKind) → TakesRecord d (m + 1) f before after (Some k) → IsFirstFault d table (record { row = m + 1; kind = k })
next_fault d table m f stands before after c k h =
    first_fault d table m before.names.keys before.watch c (omega (arith, record_within table (m + 1) f stands)) k (breaks_next d table m f stands before after c k h)

-- ---- behind the last record

pub unnamed_fault : (d : Declarations) (table : Table) (m : ℕ) (names : Names) (kept : Kept) → Collects d table m names kept → m ≡ length table → length names ≡ 0
    → IsFirstFault d table (record { row = m + 1; kind = kind.Shape })
unnamed_fault d table m names kept c all none =
    first_fault d table m names kept c (omega (arith, all)) kind.Shape (inr (inr (inr (record {
      number = omega (arith, all);
      kind = refl;
      none = λ n t name s e.
          let there = c.are_named.listed n t name (omega (arith, all, record_within table n s.fields s.at.stands)) s e in
          omega (arith, none, slice_get_within names there.0 name there.1);
    }))))

pub not_empty : (n : ℕ) (b : Bool) → (b ≡ true) ↔ (n ≡ 0) → b ≡ false → 1 ≤ n
not_empty zero b empty other = absurd (let same : b ≡ true = empty.1 refl in cc)
not_empty (suc n) b empty other = omega arith
