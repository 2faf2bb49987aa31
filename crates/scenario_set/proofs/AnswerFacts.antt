-- What was gathered and settled is what the table holds.
use Rattle.std.proofs.Common.{◌≡◌, ◌∙◌, ◌↔◌, ◌⊎◌, inl, inr, ℕ, ◌≤◌, List, [], ◌∷◌, length, map, Option, Some, None, Result, Ok, Err, slice_get, refl, sym, ap, subst, arith}
use Rattle.std.specs.Prelude.{Contains, IfOk, option_map}
use Rattle.std.proofs.lemmas.Bool.{cases_Bool, cases_lt}
use Rattle.std.proofs.lemmas.Option.{slice_get-get_or, slice_get-map, slice_get_within}
use Rattle.term_model.specs.Declarations.{Declarations}
use Rattle.term_model.specs.Environments.{IsValueOf, Place, label_of}
use Rattle.term_model.specs.declared.values.Value.{Value}
use Rattle.fixing_files.specs.Records.{Fields, said}
use Rattle.fixing_files.specs.Rows.{same_value}
use Rattle.fixing_files.specs.Tables.{Table}
use Rattle.fixing_files.specs.declared.faults.RowErr.{RowErr}
use Rattle.fixing_files.specs.declared.faults.RowKind.{RowKind}
use Rattle.fixing_files.proofs.LawFacts.{said_sound}
use Rattle.fixing_files.proofs.TableFacts.{record_within}
use Rattle.fixing_files.proofs.ValueFacts.{differ, same_from}
use Rattle.scenario_set.specs.Scopes.{Covers, Meet, Scope, scope_said}
use Rattle.scenario_set.specs.ScenarioRecords.{Told, told, told_by}
use Rattle.scenario_set.specs.ScenarioTables.{AnswersScenarios, Breaks, HoldsFor, HoldsScenarios, IsFirstOf, Tells}
use Rattle.scenario_set.specs.Scenarios.{AreAdmitted, NamedMap}
use Rattle.scenario_set.specs.Collecting.{Agree, AreNamed, AreSound, Collects, IsIn, IsSaid, Names}
use Rattle.scenario_set.specs.Mentions.{FirstIs}
use Rattle.scenario_set.specs.Settling.{AreWithin, IsFirst, IsWithin, Settles, row_for}
use Rattle.scenario_set.specs.Watches.{Kept, group_of, seen_at, spot_of}
use Rattle.scenario_set.specs.declared.mentions.Mention.{Mention}
use Rattle.scenario_set.specs.declared.watches.Group.{Group}
use Rattle.scenario_set.specs.declared.watches.Group.TheVariants.{All, Each, Of}
use Rattle.scenario_set.proofs.CollectFacts.{none_breaks}
use Rattle.scenario_set.proofs.MapFacts.{among_held, held_among}
use Rattle.scenario_set.proofs.RecordFacts.{same_told}

-- ---- scopes

covers_meet : (s t : Scope) (name : List ℕ) → Covers s name → Covers t name → Meet s t
covers_meet None t name h i = inr (inl refl)
covers_meet (Some a) None name h i = inr (inr refl)
covers_meet (Some a) (Some b) name h i = inl (ap (λ (k : List ℕ). Some k) (h ∙ sym i))

covers_none : (s : Scope) (name : List ℕ) → s ≡ None → Covers s name
covers_none None name e = tt {0}
covers_none (Some a) name e = absurd (cc)

covers_some : (s : Scope) (a name : List ℕ) → s ≡ Some a → a ≡ name → Covers s name
covers_some None a name e is = absurd (cc)
covers_some (Some b) a name e is = let same : b ≡ a = cc in same ∙ is

-- ---- records that count for one scenario agree

module _ (d : Declarations) (table : Table) (m : ℕ) (agree : Agree d table m) where
  one_value : (n k : ℕ) (t u : Told) → n ≤ m → k ≤ m → Tells d table n t → Tells d table k u → t.place ≡ u.place → Meet t.scope u.scope → Meet u.scope t.scope → t.value ≡ u.value
  one_value n k t u few low s r place meet back = elim (cases_Bool (same_value t.value u.value)) [
    | inl same ↦ same_from t.value u.value same
    | inr other ↦
        let apart = differ t.value u.value other in
        elim (cases_lt n k) [
          | inl before ↦ absurd (agree k n low (record { one = u; other = t; says = r; says_other = s; before = before; same_place = place; another = apart; meet = meet }))
          | inr over ↦ elim (cases_lt k n) [
            | inl before ↦ absurd (agree n k few (record { one = t; other = u; says = s; says_other = r; before = before; same_place = sym place; another = λ e. apart (sym e); meet = back }))
            | inr under ↦
                let same : n ≡ k = omega arith in
                absurd (apart (ap (λ (x : Told). x.value) (same_told d table k t u (subst (λ (j : ℕ). Tells d table j t) same s) r)))
          ]
        ]
  ]

-- ---- every group of which a row is kept is there

within_by : (names : Names) (g : Group) (s : Scope) → IsIn names g s → IsWithin g (length names)
within_by names All s h = tt {0}
within_by names Each s h = tt {0}
within_by names (Of i) s h = slice_get_within names i h.0 h.1

module _ (d : Declarations) (table : Table) (m : ℕ) (names : Names) (kept : Kept) (c : Collects d table m names kept) where
  -- the first row of a group is said
  pub first_said : (g : Group) (q : Place) (f : Mention) → (seen_at kept (spot_of g q)).first ≡ Some f → IsSaid d table m names g q f
  first_said g q f e =
      let first : FirstIs (IsSaid d table m names g q) (Some f) = subst (λ (o : Option Mention). FirstIs (IsSaid d table m names g q) o) e (c.are_seen g q).first_is in
      first.0

  pub are_within : AreWithin kept.first (length names)
  are_within spot f e =
      let x = first_said spot.group (record { label = spot.label; day = spot.day }) f e in
      within_by names spot.group x.told.scope x.within

-- ---- what was read, by what is held in each scenario, or in all

-- a record says this of one scenario, or of all
pub record IsSaidOf (d : Declarations) (table : Table) (names : Names) (o : Option ℕ) (q : Place) (v : Value) : Type 0 where
  pub number : ℕ
  pub told : Told
  pub tells : Tells d table number told
  pub place : told.place ≡ q
  pub value : told.value ≡ v
  pub within : IsIn names (group_of o) told.scope

-- no record breaks a rule, and what is held is what the records say
pub record AreGathered (d : Declarations) (table : Table) (names : Names) (Has : Option ℕ → Place → Value → Type 0) : Type 0 where
  pub alone : AreSound d table (length table)
  pub agree : Agree d table (length table)
  pub are_named : AreNamed d table (length table) names
  pub some : 1 ≤ length names
  pub said : (o : Option ℕ) (q : Place) (v : Value) → Has o q v → IsSaidOf d table names o q v
  pub has : (o : Option ℕ) (q : Place) (v : Value) → IsSaidOf d table names o q v → Has o q v

pub in_table : (d : Declarations) (table : Table) (n : ℕ) (t : Told) → Tells d table n t → n ≤ length table
in_table d table n t s = record_within table n s.fields s.at.stands

module _ (d : Declarations) (table : Table) (names : Names) (set : List NamedMap) (Has : Option ℕ → Place → Value → Type 0) (c : AreGathered d table names Has)
    (names_are : map (λ (x : NamedMap). x.name) set ≡ names)
    (holds : (i : ℕ) (s : NamedMap) → slice_get set i ≡ Some s → (q : Place) (v : Value) → Contains s.map (q, v) ↔ (Has (Some i) q v ⊎ Has None q v)) where
  name_at : (i : ℕ) (s : NamedMap) → slice_get set i ≡ Some s → slice_get names i ≡ Some s.name
  name_at i s e =
      ap (λ (l : Names). slice_get l i) (sym names_are) ∙ slice_get-map (λ (x : NamedMap). x.name) set i ∙ ap (λ (o : Option NamedMap). option_map (λ (x : NamedMap). x.name) o) e

  map_by : (i : ℕ) (name : List ℕ) (o : Option NamedMap) → slice_get set i ≡ o → option_map (λ (x : NamedMap). x.name) o ≡ Some name → (s : NamedMap) × (slice_get set i ≡ Some s) × (s.name ≡ name)
  map_by i name None at e = absurd (cc)
  map_by i name (Some s) at e = (s, at, cc)

  map_at : (i : ℕ) (name : List ℕ) → slice_get names i ≡ Some name → (s : NamedMap) × (slice_get set i ≡ Some s) × (s.name ≡ name)
  map_at i name e =
      map_by i name (slice_get set i) refl (sym (slice_get-map (λ (x : NamedMap). x.name) set i) ∙ ap (λ (l : Names). slice_get l i) names_are ∙ e)

  -- there is a first scenario
  first_name : (name : List ℕ) × (n : ℕ) × IsFirstOf d table name n
  first_name =
      let at = slice_get-get_or names 0 [] (omega (arith, c.some)) in
      let first = c.are_named.named 0 _ at in (_, first.0, first.2)

  sound : (n : ℕ) (k : RowKind) → ¬ (Breaks d table n k)
  sound n k b = none_breaks d table (length table) c.alone c.agree (omega arith) n k (within b) b
    where
      within : Breaks d table n k → n ≤ length table
      within (inl b) =
          let s = first_name.2.says in omega (arith, b.number, s.1.at.below_header, in_table d table first_name.1 s.0 s.1)
      within (inr (inl b)) = record_within table n b.fields b.at.stands
      within (inr (inr (inl b))) = in_table d table n b.2.contradicts.one b.2.contradicts.says
      within (inr (inr (inr b))) =
          let s = first_name.2.says in absurd (b.none first_name.1 s.0 first_name.0 s.1 s.2)

  -- what a map has is said for its scenario

  pub record IsSaidFor (s : NamedMap) (q : Place) (v : Value) : Type 0 where
    pub number : ℕ
    pub told : Told
    pub tells : Tells d table number told
    pub place : told.place ≡ q
    pub value : told.value ≡ v
    pub covers : Covers told.scope s.name

  covers_own : (i : ℕ) (s : NamedMap) → slice_get set i ≡ Some s → (u : Scope) → IsIn names (Of i) u → Covers u s.name
  covers_own i s at u w =
      let e : ◌≡◌ {A = Option (List ℕ)} (Some w.0) (Some s.name) = sym w.1 ∙ name_at i s at in
      let same : w.0 ≡ s.name = cc in
      covers_some u w.0 s.name w.2 same

  said_of : (i : ℕ) (s : NamedMap) → slice_get set i ≡ Some s → (q : Place) (v : Value) → Contains s.map (q, v) → IsSaidFor s q v
  said_of i s at q v has = elim ((holds i s at q v).0 has) [
    | inl own ↦
        let x = c.said (Some i) q v own in
        record { number = x.number; told = x.told; tells = x.tells; place = x.place; value = x.value; covers = covers_own i s at x.told.scope x.within }
    | inr each ↦
        let x = c.said None q v each in
        record { number = x.number; told = x.told; tells = x.tells; place = x.place; value = x.value; covers = covers_none x.told.scope s.name x.within }
  ]

  -- and what is said for it the map has

  has_by : (i : ℕ) (s : NamedMap) → slice_get set i ≡ Some s → (q : Place) (v : Value) (n : ℕ) (t : Told) → Tells d table n t → t.place ≡ q → t.value ≡ v → (o : Scope) → t.scope ≡ o → Covers o s.name → Contains s.map (q, v)
  has_by i s at q v n t r place value None e covers =
      (holds i s at q v).1 (inr (c.has None q v (record { number = n; told = t; tells = r; place = place; value = value; within = e })))
  has_by i s at q v n t r place value (Some a) e covers =
      let own : IsIn names (Of i) t.scope = (s.name, name_at i s at, e ∙ ap (λ (k : List ℕ). Some k) covers) in
      (holds i s at q v).1 (inl (c.has (Some i) q v (record { number = n; told = t; tells = r; place = place; value = value; within = own })))

  holds_for : (i : ℕ) (s : NamedMap) → slice_get set i ≡ Some s → HoldsFor d table s
  holds_for i s at q v = (
    (λ e. let x = said_of i s at q v (held_among s.map q v e) in (x.number, x.told, x.tells, x.place, x.value, x.covers)),
    (λ p.
        let t = p.1 in
        among_held s.map q v
        (λ w has.
        let x = said_of i s at q w has in
        let one = one_value d table (length table) c.agree x.number p.0 x.told t (in_table d table x.number x.told x.tells) (in_table d table p.0 t p.2) x.tells p.2 (x.place ∙ sym p.3) (covers_meet x.told.scope t.scope s.name x.covers p.5) (covers_meet t.scope x.told.scope s.name p.5 x.covers) in
        sym x.value ∙ one ∙ p.4)
        (has_by i s at q v p.0 t p.2 p.3 p.4 t.scope refl p.5)),
  )

  pub gathered_holds : HoldsScenarios d table set
  gathered_holds = record {
    sound = sound;
    named = λ i s e. let n = c.are_named.named i s.name (name_at i s e) in (n.0, n.2);
    listed = λ n t name s e.
        let there = c.are_named.listed n t name (in_table d table n t s) s e in
        let z = map_at there.0 name there.1 in (there.0, z.0, z.1, z.2);
    ordered = λ i j n k s t lt e f one other. c.are_named.ordered i j n k s.name t.name lt (name_at i s e) (name_at j t f) one other;
    holds = holds_for;
  }

-- ---- the first values that were kept

module _ (d : Declarations) (table : Table) (names : Names) (kept : Kept) (c : Collects d table (length table) names kept) where
  abbrev Has : Option ℕ → Place → Value → Type 0
  Has o q v = IsFirst kept.first (group_of o) (row_for q v)

  first_is_said : (o : Option ℕ) (q : Place) (v : Value) → Has o q v → IsSaidOf d table names o q v
  first_is_said o q v first =
      let x = first_said d table (length table) names kept c (group_of o) q first.0 first.1 in
      record { number = first.0.number; told = x.told; tells = x.tells; place = x.place; value = x.value ∙ first.2; within = x.within }

  -- two records of one group meet
  in_one : (o : Option ℕ) (s u : Scope) → IsIn names (group_of o) s → IsIn names (group_of o) u → s ≡ u
  in_one None s u h w = h ∙ sym w
  in_one (Some i) s u h w =
      let same : ◌≡◌ {A = Option (List ℕ)} (Some h.0) (Some w.0) = sym h.1 ∙ w.1 in h.2 ∙ same ∙ sym w.2

  first_of : (o : Option ℕ) (q : Place) (v : Value) → IsSaidOf d table names o q v → (f : Option Mention) → (seen_at kept (spot_of (group_of o) q)).first ≡ f → FirstIs (IsSaid d table (length table) names (group_of o) q) f → Has o q v
  first_of o q v s None e none =
      absurd (none (record { number = s.number; value = v }) (record { few = in_table d table s.number s.told s.tells; told = s.told; tells = s.tells; place = s.place; value = s.value; within = s.within }))
  first_of o q v s (Some f) e first =
      let x = first.0 in
      let one = in_one o x.told.scope s.told.scope x.within s.within in
      (f, e, sym x.value ∙ one_value d table (length table) c.agree f.number s.number x.told s.told x.few (in_table d table s.number s.told s.tells) x.tells s.tells (x.place ∙ sym s.place) (inl one) (inl (sym one)) ∙ s.value)

  collected : 1 ≤ length names → AreGathered d table names Has
  collected some = record {
    alone = c.alone;
    agree = c.agree;
    are_named = c.are_named;
    some = some;
    said = first_is_said;
    has = λ o q v s. first_of o q v s (seen_at kept (spot_of (group_of o) q)).first refl (c.are_seen (group_of o) q).first_is;
  }

  pub holds_scenarios : (set : List NamedMap) → 1 ≤ length names → Settles names kept.first set → HoldsScenarios d table set
  holds_scenarios set some h = gathered_holds d table names set Has (collected some) h.names_are h.holds

-- ---- what a record says is within the label's declaration

told_parts : (o : Option Scope) (r : Result (Place × Value) RowKind) (t : Told) → told_by o r ≡ Ok t → r ≡ Ok (t.place, t.value)
told_parts None r t e = absurd (cc)
told_parts (Some s) (Err k) t e = absurd (cc)
told_parts (Some s) (Ok p) t e =
    let same : record { scope = s; place = p.0; value = p.1 } ≡ t = cc in
    ap (λ (x : Told). Ok (x.place, x.value)) same

pub told_sound : (d : Declarations) (fields : Fields) (t : Told) → told d fields ≡ Ok t → IsValueOf (label_of d t.place.label) t.value
unfolding told
told_sound d [] t e = absurd (cc)
told_sound d (a ∷ []) t e = absurd (cc)
told_sound d (a ∷ b ∷ []) t e = absurd (cc)
told_sound d (a ∷ b ∷ x ∷ []) t e = absurd (cc)
told_sound d (a ∷ b ∷ x ∷ y ∷ []) t e =
    (said_sound d (b ∷ x ∷ y ∷ []) t.place t.value (told_parts (scope_said a) (said d (b ∷ x ∷ y ∷ [])) t e)).value
told_sound d (a ∷ b ∷ x ∷ y ∷ z ∷ more) t e = absurd (cc)

pub are_admitted : (d : Declarations) (table : Table) (set : List NamedMap) → HoldsScenarios d table set → AreAdmitted d set
are_admitted d table set h i s at q v e =
    let p = (h.holds i s at q v).0 e in
    let sound = told_sound d p.2.fields p.1 p.2.meaning in
    subst (λ (w : Value). IsValueOf (label_of d q.label) w) p.4 (subst (λ (x : Place). IsValueOf (label_of d x.label) p.1.value) p.3 sound)

pub answer_admitted : (d : Declarations) (table : Table) (r : Result (List NamedMap) RowErr) → AnswersScenarios d table r → IfOk r (AreAdmitted d)
answer_admitted d table (Ok set) h = are_admitted d table set h
answer_admitted d table (Err e) h = tt {0}
