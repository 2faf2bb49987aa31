-- A table after one record more, and at the end: the rows that were gathered, and the first record that breaks a rule.
use Rattle.std.proofs.Common.{◌≡◌, ◌≢◌, ◌∙◌, ◌⊎◌, inl, inr, ℕ, zero, suc, ◌+◌, ◌<◌, ◌≤◌, ◌==◌, ℤ, ◌&&◌, true, false, List, [], ◌∷◌, length, Option, Some, None, Result, Ok, Err, refl, sym, ap, ap₂, subst, arith}
use Rattle.std.specs.Prelude.{codes}
use Rattle.std.specs.Str.{bytes_eq}
use Rattle.std.specs.declared.vec.Vec.{Vec}
use Rattle.std.specs.declared.alloc.Global.{Global}
use Rattle.std.proofs.lemmas.Bool.{and_parts, cases_Bool, cases_lt}
use Rattle.std.proofs.lemmas.Bool.Decides.{nat_tests}
use Rattle.std.proofs.lemmas.Slice.Eq.{bytes_eq-Decides}
use Rattle.term_model.specs.Declarations.{Declarations}
use Rattle.term_model.specs.Environments.{Place}
use Rattle.term_model.specs.declared.values.Value.{Value}
use Rattle.fixing_files.specs.Records.{Fields, header, said}
use Rattle.fixing_files.specs.Runs.{AreRising, run_at, values_of}
use Rattle.fixing_files.specs.Rows.{AreRuns, HaveOwnNumbers, RowAt, same_value}
use Rattle.fixing_files.specs.Folds.{ClashesAt, HoldsDays, IsFirstRow, SettlesAll}
use Rattle.fixing_files.specs.Gathering.{AddsSaid, Collects, Gathers, Stops, StopsAt, TakesOn, missing, row_of}
use Rattle.fixing_files.specs.Steps.{is_header}
use Rattle.fixing_files.specs.Tables.{Table, BreaksAlone, Breaks, Conflicts, Holds, IsFirstFault, LacksHeader, Says, StandsAt, record_at}
use Rattle.fixing_files.specs.declared.faults.RowFault.{RowFault}
use Rattle.fixing_files.specs.declared.faults.RowKind.{RowKind}
use Rattle.fixing_files.specs.declared.faults.RowKind.TheVariants as kind
use Rattle.fixing_files.specs.declared.rows.Row.{Row}
use Rattle.fixing_files.specs.declared.rows.Run.{Run}
use Rattle.fixing_files.specs.declared.folds.Clash.{Clash}
use Rattle.fixing_files.specs.declared.runs.FixedDay.{FixedDay}
use Rattle.fixing_files.proofs.LawFacts.{same_saying}
use Rattle.fixing_files.proofs.RunFacts.{found_in, held_in, held_values}
use Rattle.fixing_files.specs.declared.folds.AllSettled.TheVariants.{Runs, Clashes as AllClashing}
use Rattle.fixing_files.proofs.TableFacts.{record_within}
use Rattle.fixing_files.proofs.ValueFacts.{differ, same_from}

-- the header

same_bytes : (a b : List ℕ) → bytes_eq a b ≡ true → a ≡ b
same_bytes a b h = (bytes_eq-Decides a b).0 h

header_from : (r : Fields) → is_header r ≡ true → r ≡ header
header_from [] h = absurd (cc)
header_from (a ∷ []) h = absurd (cc)
header_from (a ∷ b ∷ []) h = absurd (cc)
header_from (a ∷ b ∷ c ∷ []) h =
    let one = and_parts (bytes_eq a (codes "label")) (bytes_eq b (codes "day") && bytes_eq c (codes "value")) h in
    let two = and_parts (bytes_eq b (codes "day")) (bytes_eq c (codes "value")) one.1 in
    let first = same_bytes a (codes "label") one.0 in
    let second = same_bytes b (codes "day") two.0 in
    let third = same_bytes c (codes "value") two.1 in
    λ i. first i ∷ second i ∷ third i ∷ []
header_from (a ∷ b ∷ c ∷ e ∷ more) h = absurd (cc)

other_from : (r : Fields) → is_header r ≡ false → r ≢ header
other_from r h e = let same : is_header r ≡ true = subst (λ (x : Fields). is_header x ≡ true) (sym e) refl in absurd (cc)

up_to_next : (n m : ℕ) → n ≤ m + 1 → (n ≤ m) ⊎ (n ≡ m + 1)
up_to_next n m h = elim (cases_lt m n) [ inl above ↦ inr (omega arith) | inr within ↦ inl within ]

-- before the first record

pub collects_none : (d : Declarations) (table : Table) → Collects d table 0 []
collects_none d table = record {
  alone = λ n k few b. elim b [ inl h ↦ omega (arith, few, h.number) | inr h ↦ omega (arith, few, h.at.below_header) ];
  says = λ n q v. ((λ p. omega (arith, p.0, p.1.at.below_header)), (λ h. absurd h));
}

adds_old : (s : Result (Place × Value) RowKind) (n : ℕ) (before after : List Run) → AddsSaid s n before after → (l : ℕ) (x : Row) → RowAt before l x → RowAt after l x
adds_old (Ok p) n before after adds l x h = (adds l x).1 (inl h)
adds_old (Err k) n before after adds l x h = absurd adds

-- one record more

module _ (d : Declarations) (table : Table) (m : ℕ) (f : Fields) (stands : record_at table (m + 1) ≡ Some f) where
  next_fields : (n : ℕ) (g : Fields) → StandsAt table n g → n ≡ m + 1 → f ≡ g
  next_fields n g h is = let e : Some f ≡ Some g = sym stands ∙ ap (record_at table) (sym is) ∙ h.stands in cc

  module _ (before after : List Run) (collects : Collects d table m before) (takes : TakesOn d (m + 1) f before after) where
    next_alone : (n : ℕ) (k : RowKind) → n ≡ m + 1 → TakesOn d (m + 1) f before after → ¬ (LacksHeader table n k ⊎ BreaksAlone d table n k)
    next_alone n k is (inl t) (inl b) =
        let one : 1 ≡ m + 1 = sym t.0 in
        b.other (ap (record_at table) one ∙ stands ∙ ap (λ (g : Fields). Some g) (header_from f t.1))
    next_alone n k is (inr t) (inl b) = omega (arith, is, t.0, b.number)
    next_alone n k is (inl t) (inr b) = omega (arith, is, t.0, b.at.below_header)
    next_alone n k is (inr t) (inr b) =
        let meaning : said d f ≡ Err k = ap (said d) (next_fields n b.fields b.at is) ∙ b.meaning in
        subst (λ (s : Result (Place × Value) RowKind). AddsSaid s (m + 1) before after) meaning t.1

    still_alone : (n : ℕ) (k : RowKind) → n ≤ m + 1 → ¬ (LacksHeader table n k ⊎ BreaksAlone d table n k)
    still_alone n k few b = elim (up_to_next n m few) [
      | inl within ↦ collects.alone n k within b
      | inr next ↦ next_alone n k next takes b
    ]

    stays : TakesOn d (m + 1) f before after → (l : ℕ) (x : Row) → RowAt before l x → RowAt after l x
    stays (inl t) l x h = (t.2 l x).1 h
    stays (inr t) l x h = adds_old (said d f) (m + 1) before after t.1 l x h

    next_row : (n : ℕ) (q : Place) (v : Value) → n ≡ m + 1 → Says d table n q v → TakesOn d (m + 1) f before after → RowAt after q.label (row_of n q v)
    next_row n q v is s (inl t) = absurd (omega (arith, is, t.0, s.at.below_header))
    next_row n q v is s (inr t) =
        let meaning : said d f ≡ Ok (q, v) = ap (said d) (next_fields n s.fields s.at is) ∙ s.meaning in
        let adds = subst (λ (r : Result (Place × Value) RowKind). AddsSaid r (m + 1) before after) meaning t.1 in
        (adds q.label (row_of n q v)).1 (inr (refl, ap (λ (k : ℕ). row_of k q v) (sym is)))

    one_more : {n : ℕ} {q : Place} {v : Value} → (n ≤ m) × Says d table n q v → (n ≤ m + 1) × Says d table n q v
    one_more p = (omega (arith, p.0), p.1)

    said_next : (n : ℕ) (q : Place) (v : Value) (s : Result (Place × Value) RowKind) → 2 ≤ m + 1 → said d f ≡ s → AddsSaid s (m + 1) before after → RowAt after q.label (row_of n q v) → (n ≤ m + 1) × Says d table n q v
    said_next n q v (Err k) two e adds h = absurd adds
    said_next n q v (Ok p) two e adds h = elim ((adds q.label (row_of n q v)).0 h) [
      | inl old ↦ one_more {n = n} {q = q} {v = v} ((collects.says n q v).1 old)
      | inr new ↦
          let number : m + 1 ≡ n = ap (λ (x : Row). x.number) new.1 in
          let place : p.0 ≡ q = ap₂ (λ (l : ℕ) (t : ℤ). record { label = l; day = t }) new.0 (ap (λ (x : Row). x.day) new.1) in
          let value : p.1 ≡ v = ap (λ (x : Row). x.value) new.1 in (
            omega (arith, number),
            record {
              fields = f;
              at = record { below_header = omega (arith, two, number); stands = ap (record_at table) (sym number) ∙ stands };
              meaning = e ∙ ap₂ (λ (a : Place) (b : Value). Ok (a, b)) place value;
            },
          )
    ]

    said_before : (n : ℕ) (q : Place) (v : Value) → TakesOn d (m + 1) f before after → RowAt after q.label (row_of n q v) → (n ≤ m + 1) × Says d table n q v
    said_before n q v (inl t) h = one_more {n = n} {q = q} {v = v} ((collects.says n q v).1 ((t.2 q.label (row_of n q v)).0 h))
    said_before n q v (inr t) h = said_next n q v (said d f) t.0 refl t.1 h

    pub collects_more : Collects d table (m + 1) after
    collects_more = record {
      alone = still_alone;
      says = λ n q v. (
        (λ p. elim (up_to_next n m p.0) [
          | inl within ↦ stays takes q.label (row_of n q v) ((collects.says n q v).0 (within, p.1))
          | inr next ↦ next_row n q v next p.1 takes
        ]),
        said_before n q v takes,
      );
    }

  pub stops_there : (k : RowKind) → StopsAt d (m + 1) f k → LacksHeader table (m + 1) k ⊎ BreaksAlone d table (m + 1) k
  stops_there k (inl t) = inl (record {
    number = t.0;
    kind = t.2;
    other = λ e. other_from f t.1 (let same : Some f ≡ Some header = sym stands ∙ ap (record_at table) t.0 ∙ e in cc);
  })
  stops_there k (inr t) = inr (record { fields = f; at = record { below_header = t.0; stands = stands }; meaning = t.1 })

pub empty_stops : (d : Declarations) (table : Table) (runs : List Run) → length table ≡ 0 → Collects d table 0 runs → Stops d table runs (record { row = 1; kind = kind.Shape })
empty_stops d [] runs none collects =
    record { read = 0; next = refl; collects = collects; breaks = inl (record { number = refl; kind = refl; other = λ e. absurd (cc) }) }
empty_stops d (r ∷ table) runs none collects = absurd (omega (arith, none))

-- the rows that were gathered

module _ (d : Declarations) (table : Table) (m : ℕ) (runs : List Run) (collects : Collects d table m runs) where
  said_at_row : (l : ℕ) (x : Row) → RowAt runs l x → (x.number ≤ m) × Says d table x.number (record { label = l; day = x.day }) x.value
  said_at_row l x h = (collects.says x.number (record { label = l; day = x.day }) x.value).1 h

  pub own_numbers : HaveOwnNumbers runs
  own_numbers l x y h i e =
      let p : Place = record { label = l; day = x.day } in
      let q : Place = record { label = l; day = y.day } in
      let s = said_at_row l x h in
      let u = said_at_row l y i in
      let same = same_saying d table y.number p q x.value y.value (subst (λ (n : ℕ). Says d table n p x.value) e s.1) u.1 in
      let day : x.day ≡ y.day = ap (λ (r : Place). r.day) same.0 in
      let value : x.value ≡ y.value = same.1 in
      λ j. record { day = day j; number = e j; value = value j }

  first_number : (q : Place) (y : Row) → y.day ≡ q.day → y.number ≤ m → IsFirstRow (RowAt runs q.label) y → (k : ℕ) (w : Value) → Says d table k q w → y.number ≤ k
  first_number q y day few first k w s = elim (cases_lt m k) [
    | inl above ↦ omega (arith, few, above)
    | inr within ↦ first.first (row_of k q w) ((collects.says k q w).0 (within, s)) (sym day)
  ]

  pub clash_within : (n e : ℕ) → ClashesAt runs n e → n ≤ m
  clash_within n e c = omega (arith, (said_at_row c.label c.clash.row c.clash.has).0, c.clash.number)

  pub clash_conflicts : (n e : ℕ) → ClashesAt runs n e → Conflicts d table n e
  clash_conflicts n e c =
      let l = c.label in
      let x = c.clash.row in
      let y = c.clash.first in
      let q : Place = record { label = l; day = x.day } in
      let s = said_at_row l x c.clash.has in
      let u = said_at_row l y c.clash.is_first.has in
      let other : Says d table y.number q y.value = subst (λ (t : ℤ). Says d table y.number (record { label = l; day = t }) y.value) c.clash.same_day u.1 in
      let le : y.number ≤ x.number = c.clash.is_first.first x c.clash.has (sym c.clash.same_day) in
      let lt : y.number < x.number = elim (cases_lt y.number x.number) [
        | inl below ↦ below
        | inr above ↦
            let one : y.number ≡ x.number = omega (arith, le, above) in
            absurd (c.clash.another (same_saying d table x.number q q y.value x.value (subst (λ (k : ℕ). Says d table k q y.value) one other) s.1).1)
      ] in
      let at_e : Says d table e q y.value = subst (λ (k : ℕ). Says d table k q y.value) c.clash.earlier other in
      record {
        place = q;
        value = x.value;
        other = y.value;
        earlier = e;
        says = subst (λ (k : ℕ). Says d table k q x.value) c.clash.number s.1;
        says_other = at_e;
        before = omega (arith, lt, c.clash.number, c.clash.earlier);
        another = c.clash.another;
        first = record { value = y.value; says = at_e; first = λ k w r. omega (arith, c.clash.earlier, first_number q y c.clash.same_day u.0 c.clash.is_first k w r) };
      }

  -- a record that conflicts clashes, or an earlier one does
  pub record ClashesBy (n : ℕ) : Type 0 where
    pub number : ℕ
    pub earlier : ℕ
    pub clash : ClashesAt runs number earlier
    pub by : number ≤ n

  conflict_at : (n e : ℕ) (h : Conflicts d table n e) → n ≤ m → (k : ℕ) (w : Value) → Says d table k h.place w → h.first.value ≢ w → k ≤ n → ClashesBy n
  conflict_at n e h few k w s other by =
      let q = h.place in
      let low : e ≤ h.earlier = h.first.first h.earlier h.other h.says_other in
      let y = row_of e q h.first.value in
      let first : IsFirstRow (RowAt runs q.label) y = record {
        has = (collects.says e q h.first.value).0 (omega (arith, low, h.before, few), h.first.says);
        first = λ z i day.
            let r = said_at_row q.label z i in
            h.first.first z.number z.value (subst (λ (t : ℤ). Says d table z.number (record { label = q.label; day = t }) z.value) day r.1);
      } in
      record {
        number = k;
        earlier = e;
        clash = record {
          label = q.label;
          clash = record {
            row = row_of k q w;
            first = y;
            has = (collects.says k q w).0 (omega (arith, by, few), s);
            is_first = first;
            same_day = refl;
            another = other;
            number = refl;
            earlier = refl;
          };
        };
        by = by;
      }

  pub conflict_clashes : (n e : ℕ) → Conflicts d table n e → n ≤ m → ClashesBy n
  conflict_clashes n e h few = elim (cases_Bool (same_value h.first.value h.value)) [
    | inl same ↦
        let is = same_from h.first.value h.value same in
        conflict_at n e h few h.earlier h.other h.says_other (λ v. h.another (sym v ∙ is)) (omega (arith, h.before))
    | inr apart ↦ conflict_at n e h few n h.value h.says (differ h.first.value h.value apart) (omega arith)
  ]

  -- what breaks a rule among them conflicts, and so clashes
  breaks_by : (n : ℕ) (k : RowKind) → Breaks d table n k → n ≤ m → ClashesBy n
  breaks_by n k (inl b) few = absurd (collects.alone n k few (inl b))
  breaks_by n k (inr (inl b)) few = absurd (collects.alone n k few (inr b))
  breaks_by n k (inr (inr b)) few = conflict_clashes n b.0 b.2 few

  pub clash_fault : (c : Clash) → ClashesAt runs c.number c.earlier → ((n e : ℕ) → ClashesAt runs n e → c.number ≤ n) → IsFirstFault d table (record { row = c.number; kind = kind.Conflict c.earlier })
  clash_fault c clash least = record {
    breaks = inr (inr (c.earlier, refl, clash_conflicts c.number c.earlier clash));
    first = λ n k b. elim (cases_lt m n) [
      | inl above ↦ omega (arith, above, clash_within c.number c.earlier clash)
      | inr within ↦ let by = breaks_by n k b within in omega (arith, least by.number by.earlier by.clash, by.by)
    ];
  }

  pub next_fault : (fault : RowFault) → fault.row ≡ m + 1 → LacksHeader table fault.row fault.kind ⊎ BreaksAlone d table fault.row fault.kind → ((n e : ℕ) → ¬ (ClashesAt runs n e)) → IsFirstFault d table fault
  next_fault fault next alone agree = record {
    breaks = elim alone [ inl b ↦ inl b | inr b ↦ inr (inl b) ];
    first = λ n k b. elim (cases_lt m n) [
      | inl above ↦ omega (arith, above, next)
      | inr within ↦ let by = breaks_by n k b within in absurd (agree by.number by.earlier by.clash)
    ];
  }

breaks_within : (d : Declarations) (table : Table) (n : ℕ) (k : RowKind) → 1 ≤ length table → Breaks d table n k → n ≤ length table
breaks_within d table n k some (inl b) = omega (arith, some, b.number)
breaks_within d table n k some (inr (inl b)) = record_within table n b.fields b.at.stands
breaks_within d table n k some (inr (inr b)) = record_within table n b.2.says.fields b.2.says.at.stands

pub gathered_holds : (d : Declarations) (table : Table) (runs : List Run) (days : List (Vec FixedDay Global)) → 1 ≤ length table → Collects d table (length table) runs
    → ((l : ℕ) → HoldsDays (RowAt runs l) (run_at days l)) → ((n e : ℕ) → ¬ (ClashesAt runs n e)) → Holds d table (values_of days)
gathered_holds d table runs days some collects hold agree = record {
  sound = λ n k b.
      let by = breaks_by d table (length table) runs collects n k b (breaks_within d table n k some b) in
      agree by.number by.earlier by.clash;
  holds = λ q v.
      let is = held_values days q in
      let h = hold q.label in (
        (λ e.
            let p = (h.holds q.day v).0 (held_in (run_at days q.label) q.day v (sym is ∙ e)) in
            (p.0, ((collects.says p.0 q v).1 p.1).1)),
        (λ s.
            let within = record_within table s.0 s.1.fields s.1.at.stands in
            is ∙ found_in (run_at days q.label) q.day v h.rising ((h.holds q.day v).1 (s.0, (collects.says s.0 q v).0 (within, s.1)))),
      );
}

-- how reading ends

pub ends_there : (d : Declarations) (table : Table) (runs : List Run) (n : ℕ) → n ≡ length table → AreRuns runs → Collects d table n runs → Gathers d table runs (missing n)
ends_there d table runs zero is all collects = record { are_runs = all; ends = empty_stops d table runs (sym is) collects }
ends_there d table runs (suc n) is all collects =
    let some : (suc n == 0) ≡ false = grind (arith, nat_tests) in
    rw some (record { are_runs = all; ends = (omega (arith, is), subst (λ (k : ℕ). Collects d table k runs) is collects) })

pub stops_gather : (d : Declarations) (table : Table) (runs : List Run) (m : ℕ) (f : Fields) (k : RowKind) → record_at table (m + 1) ≡ Some f → StopsAt d (m + 1) f k → AreRuns runs → Collects d table m runs
    → Gathers d table runs (Some (record { row = m + 1; kind = k }))
stops_gather d table runs m f k stands stops all collects =
    record { are_runs = all; ends = record { read = m; next = refl; collects = collects; breaks = stops_there d table m f stands k stops } }

-- what the rows come to

pub gathers_own : (d : Declarations) (table : Table) (runs : List Run) (fault : Option RowFault) → Gathers d table runs fault → HaveOwnNumbers runs
gathers_own d table runs None g = own_numbers d table (length table) runs g.ends.1
gathers_own d table runs (Some fault) g = own_numbers d table g.ends.read runs g.ends.collects

pub gathers_clash : (d : Declarations) (table : Table) (runs : List Run) (fault : Option RowFault) (c : Clash) → Gathers d table runs fault → SettlesAll runs (AllClashing c)
    → IsFirstFault d table (record { row = c.number; kind = kind.Conflict c.earlier })
gathers_clash d table runs None c g s = clash_fault d table (length table) runs g.ends.1 c s.0 s.1
gathers_clash d table runs (Some fault) c g s = clash_fault d table g.ends.read runs g.ends.collects c s.0 s.1

pub gathers_fault : (d : Declarations) (table : Table) (runs : List Run) (fault : RowFault) (days : Vec (Vec FixedDay Global) Global) → Gathers d table runs (Some fault) → SettlesAll runs (Runs days) → IsFirstFault d table fault
gathers_fault d table runs fault days g s = next_fault d table g.ends.read runs g.ends.collects fault g.ends.next g.ends.breaks s.1

pub gathers_holds : (d : Declarations) (table : Table) (runs : List Run) (days : Vec (Vec FixedDay Global) Global) → Gathers d table runs None → SettlesAll runs (Runs days) → Holds d table (values_of days.items)
gathers_holds d table runs days g s = gathered_holds d table runs days.items g.ends.0 g.ends.1 s.0 s.1

pub settled_rise : (runs : List Run) (days : Vec (Vec FixedDay Global) Global) → SettlesAll runs (Runs days) → AreRising days.items
settled_rise runs days s l = (s.0 l).rising
