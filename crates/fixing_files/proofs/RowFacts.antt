-- The rows of labels, as rows are added.
use Rattle.std.proofs.Common.{◌≡◌, ◌∙◌, ◌⊎◌, inl, inr, ℕ, zero, suc, ◌+◌, ◌-◌, ◌<◌, ℤ, true, List, [], ◌∷◌, ◌++◌, length, get_or, set, Option, Some, None, Result, Ok, Err, slice_get, refl, sym, ap, ap₂, subst, arith}
use Rattle.std.specs.Prelude.{◌<ℤ◌, Contains, OnOk, slice_index, vec_len}
use Rattle.std.specs.declared.vec.Vec.{Vec}
use Rattle.std.specs.declared.alloc.Global.{Global}
use Rattle.std.proofs.lemmas.Bool.{cases_lt}
use Rattle.std.proofs.lemmas.Int.{ints}
use Rattle.std.proofs.lemmas.List.{get_or_append_left, get_or_push, length_push}
use Rattle.std.proofs.lemmas.List.Elements.{Contains-append_left, Contains-push, Contains-push_cases}
use Rattle.std.proofs.lemmas.Option.{slice_get-get_or}
use Rattle.fixing_files.specs.Runs.{IsRising, day_at, no_day}
use Rattle.fixing_files.specs.Rows.{AddsRow, AddsRowAt, AreRuns, HasNoRow, HasRisen, HasRow, IsRun, RowAt, SameRows, rises_above, row_at}
use Rattle.fixing_files.specs.declared.runs.FixedDay.{FixedDay}
use Rattle.fixing_files.specs.declared.rows.Row.{Row}
use Rattle.fixing_files.specs.declared.rows.Run.{Run}
use Rattle.fixing_files.proofs.FoldFacts.{rising_on}

-- one of the first n, or the next
pub up_to : (n k : ℕ) → k < n + 1 → (k < n) ⊎ (k ≡ n)
up_to n k h = elim (cases_lt k n) [ inl under ↦ inl under | inr over ↦ inr (omega arith) ]

last_below : (o : Option FixedDay) (last : FixedDay) (t : ℤ) → o ≡ Some last → rises_above o t ≡ true → last.day <ℤ t
last_below None last t is h = absurd (cc)
last_below (Some d) last t is h =
    let same : d ≡ last = cc in
    let below : d.day <ℤ t = grind (arith, ints) in
    subst (λ (x : FixedDay). x.day <ℤ t) same below

-- a day that is above the last is above all
pub above_all : (days : List FixedDay) (t : ℤ) → IsRising days → rises_above (slice_get days (length days - 1)) t ≡ true → (k : ℕ) → k < length days → day_at days k <ℤ t
above_all days t rising h k within =
    let n = length days - 1 in
    let last : day_at days n <ℤ t = last_below (slice_get days n) (get_or days n no_day) t (slice_get-get_or days n no_day (omega arith)) h in
    elim (cases_lt k n) [
      | inl under ↦ omega (arith, ints, rising k n under (omega arith), last)
      | inr over ↦
          let same : k ≡ n = omega arith in
          subst (λ (i : ℕ). day_at days i <ℤ t) (sym same) last
    ]

-- a row that rises

risen_row : (days : List FixedDay) (numbers : List ℕ) (z : FixedDay) (n : ℕ) → length numbers ≡ length days → (k : ℕ) → k < length days → row_at (days ++ z ∷ []) (numbers ++ n ∷ []) k ≡ row_at days numbers k
risen_row days numbers z n long k within =
    let day = get_or_append_left days (z ∷ []) no_day k within in
    let number : slice_index (numbers ++ n ∷ []) k ≡ slice_index numbers k = get_or_append_left numbers (n ∷ []) 0 k (omega arith) in
    ap₂ (λ (d : FixedDay) (m : ℕ). record { day = d.day; number = m; value = d.value }) day number

risen_last : (days : List FixedDay) (numbers : List ℕ) (row : Row) → length numbers ≡ length days → (k : ℕ) → k ≡ length days
    → row_at (days ++ record { day = row.day; value = row.value } ∷ []) (numbers ++ row.number ∷ []) k ≡ row
risen_last days numbers row long k is =
    let day = get_or_push days (record { day = row.day; value = row.value }) no_day k (sym is) in
    let number : slice_index (numbers ++ row.number ∷ []) k ≡ row.number = get_or_push numbers row.number 0 k (omega (arith, is, long)) in
    ap₂ (λ (d : FixedDay) (m : ℕ). record { day = d.day; number = m; value = d.value }) day number

module _ (before after : Run) (row : Row) (run : IsRun before) where
  pub risen_run : rises_above (slice_get before.days.items (length before.days.items - 1)) row.day ≡ true
      → after.days.items ≡ before.days.items ++ record { day = row.day; value = row.value } ∷ [] → after.numbers.items ≡ before.numbers.items ++ row.number ∷ [] → IsRun after
  risen_run above days numbers =
      let z : FixedDay = record { day = row.day; value = row.value } in
      let rising = rising_on before.days.items z run.rising (above_all before.days.items row.day run.rising above) in
      let long : length after.numbers.items ≡ length after.days.items = omega (arith, ap length days, ap length numbers, length_push before.days.items z, length_push before.numbers.items row.number, run.numbered) in
      record { rising = subst IsRising (sym days) rising; numbered = long }

  risen_to : (days : List FixedDay) (numbers : List ℕ) → after.days.items ≡ days → after.numbers.items ≡ numbers → (x : Row) → HasRisen days numbers x → HasRisen after.days.items after.numbers.items x
  risen_to days numbers d n x h = record {
    at = h.at;
    within = omega (arith, ap length d, h.within);
    is = ap₂ (λ (ds : List FixedDay) (ns : List ℕ). row_at ds ns h.at) d n ∙ h.is;
  }

  risen_from : (days : List FixedDay) (numbers : List ℕ) → after.days.items ≡ days → after.numbers.items ≡ numbers → (x : Row) → HasRisen after.days.items after.numbers.items x → HasRisen days numbers x
  risen_from days numbers d n x h = record {
    at = h.at;
    within = omega (arith, ap length d, h.within);
    is = ap₂ (λ (ds : List FixedDay) (ns : List ℕ). row_at ds ns h.at) (sym d) (sym n) ∙ h.is;
  }

  pub risen_added : after.days.items ≡ before.days.items ++ record { day = row.day; value = row.value } ∷ [] → after.numbers.items ≡ before.numbers.items ++ row.number ∷ []
      → after.late.items ≡ before.late.items → AddsRow before after row
  risen_added days numbers late x = (onwards, back)
    where
      z : FixedDay
      z = record { day = row.day; value = row.value }

      ds : List FixedDay
      ds = before.days.items

      onwards : HasRow after x → HasRow before x ⊎ (row ≡ x)
      onwards (inr i) = inl (inr (subst (λ (l : List Row). Contains l x) late i))
      onwards (inl h) =
          let r = risen_from (before.days.items ++ record { day = row.day; value = row.value } ∷ []) (before.numbers.items ++ row.number ∷ []) days numbers x h in
          elim (up_to (length before.days.items) r.at (omega (arith, r.within, length_push before.days.items (record { day = row.day; value = row.value })))) [
            | inl under ↦ inl (inl (record { at = r.at; within = under; is = sym (risen_row before.days.items before.numbers.items (record { day = row.day; value = row.value }) row.number run.numbered r.at under) ∙ r.is }))
            | inr last ↦ inr (sym (risen_last before.days.items before.numbers.items row run.numbered r.at last) ∙ r.is)
          ]

      back : HasRow before x ⊎ (row ≡ x) → HasRow after x
      back (inl (inr i)) = inr (subst (λ (l : List Row). Contains l x) (sym late) i)
      back (inl (inl h)) =
          inl (risen_to (before.days.items ++ record { day = row.day; value = row.value } ∷ []) (before.numbers.items ++ row.number ∷ []) days numbers x (record {
            at = h.at;
            within = omega (arith, h.within, length_push before.days.items (record { day = row.day; value = row.value }));
            is = risen_row before.days.items before.numbers.items (record { day = row.day; value = row.value }) row.number run.numbered h.at h.within ∙ h.is;
          }))
      back (inr is) =
          inl (risen_to (before.days.items ++ record { day = row.day; value = row.value } ∷ []) (before.numbers.items ++ row.number ∷ []) days numbers x (record {
            at = length before.days.items;
            within = omega (arith, length_push before.days.items (record { day = row.day; value = row.value }));
            is = risen_last before.days.items before.numbers.items row run.numbered (length before.days.items) refl ∙ is;
          }))

  pub late_run : after.days.items ≡ before.days.items → after.numbers.items ≡ before.numbers.items → IsRun after
  late_run days numbers = record {
    rising = subst IsRising (sym days) run.rising;
    numbered = omega (arith, ap length days, ap length numbers, run.numbered);
  }

  pub late_added : after.days.items ≡ before.days.items → after.numbers.items ≡ before.numbers.items → after.late.items ≡ before.late.items ++ row ∷ [] → AddsRow before after row
  late_added days numbers late x = (onwards, back)
    where
      onwards : HasRow after x → HasRow before x ⊎ (row ≡ x)
      onwards (inl h) = inl (inl (risen_from before.days.items before.numbers.items days numbers x h))
      onwards (inr i) = elim (Contains-push_cases before.late.items row x (subst (λ (l : List Row). Contains l x) late i)) [
        | inl old ↦ inl (inr old)
        | inr new ↦ inr new
      ]

      back : HasRow before x ⊎ (row ≡ x) → HasRow after x
      back (inl (inl h)) = inl (risen_to before.days.items before.numbers.items days numbers x h)
      back (inl (inr i)) = inr (subst (λ (l : List Row). Contains l x) (sym late) (Contains-append_left before.late.items (row ∷ []) x i))
      back (inr is) = inr (subst (λ (l : List Row). Contains l x) (sym late) (subst (λ (r : Row). Contains (before.late.items ++ row ∷ []) r) is (Contains-push before.late.items row)))

-- no rows

pub new_none : (run : Run) → run.days.items ≡ [] → run.late.items ≡ [] → HasNoRow run
new_none run days late x (inl h) = omega (arith, h.within, ap length days)
new_none run days late x (inr i) = omega (arith, i.1, ap length late)

-- runs of all labels

pub row_within : (runs : List Run) (l : ℕ) (x : Row) → RowAt runs l x → l < length runs
row_within [] l x h = absurd h
row_within (r ∷ runs) zero x h = omega arith
row_within (r ∷ runs) (suc l) x h = omega (arith, row_within runs l x h)

pub row_left : (runs : List Run) (run : Run) (l : ℕ) (x : Row) → RowAt runs l x → RowAt (runs ++ run ∷ []) l x
row_left [] run l x h = absurd h
row_left (r ∷ runs) run zero x h = h
row_left (r ∷ runs) run (suc l) x h = row_left runs run l x h

pub row_last : (runs : List Run) (run : Run) (x : Row) → HasRow run x → RowAt (runs ++ run ∷ []) (length runs) x
row_last [] run x h = h
row_last (r ∷ runs) run x h = row_last runs run x h

pub row_cases : (runs : List Run) (run : Run) (l : ℕ) (x : Row) → RowAt (runs ++ run ∷ []) l x → RowAt runs l x ⊎ ((l ≡ length runs) × HasRow run x)
row_cases [] run zero x h = inr (refl, h)
row_cases [] run (suc l) x h = absurd h
row_cases (r ∷ runs) run zero x h = inl h
row_cases (r ∷ runs) run (suc l) x h = elim (row_cases runs run l x h) [
  | inl front ↦ inl front
  | inr last ↦ inr (omega (arith, last.0), last.1)
]

pub same_push : (before runs : List Run) (run : Run) → SameRows before runs → HasNoRow run → SameRows before (runs ++ run ∷ [])
same_push before runs run same none l x = (
  (λ h. elim (row_cases runs run l x h) [ inl front ↦ (same l x).0 front | inr last ↦ absurd (none x last.1) ]),
  (λ h. row_left runs run l x ((same l x).1 h)),
)

pub runs_push : (runs : List Run) (run : Run) → AreRuns runs → IsRun run → AreRuns (runs ++ run ∷ [])
runs_push [] run all one zero r h = let same : run ≡ r = cc in subst IsRun same one
runs_push [] run all one (suc l) r h = absurd (cc)
runs_push (q ∷ runs) run all one zero r h = all zero r h
runs_push (q ∷ runs) run all one (suc l) r h = runs_push runs run (λ k. all (suc k)) one l r h

apart_suc : {A : Type 0} (l k : ℕ) → (l ≡ k) × A → (suc l ≡ suc k) × A
apart_suc l k p = (omega (arith, p.0), p.1)

down_suc : {A : Type 0} (l k : ℕ) → (suc l ≡ suc k) × A → (l ≡ k) × A
down_suc l k p = (omega (arith, p.0), p.1)

pub added_at : (runs : List Run) (l : ℕ) (old new : Run) (row : Row) → slice_get runs l ≡ Some old → AddsRow old new row → AddsRowAt runs (set runs l new) l row
added_at [] l old new row is adds k x = absurd (cc)
added_at (q ∷ runs) zero old new row is adds zero x =
    let same : q ≡ old = cc in (
      (λ h. elim ((adds x).0 h) [ inl before ↦ inl (subst (λ (r : Run). HasRow r x) (sym same) before) | inr here ↦ inr (refl, here) ]),
      (λ h. elim h [ inl before ↦ (adds x).1 (inl (subst (λ (r : Run). HasRow r x) same before)) | inr here ↦ (adds x).1 (inr here.1) ]),
    )
added_at (q ∷ runs) zero old new row is adds (suc k) x = ((λ h. inl h), (λ h. elim h [ inl before ↦ before | inr here ↦ absurd (omega (arith, here.0)) ]))
added_at (q ∷ runs) (suc l) old new row is adds zero x = ((λ h. inl h), (λ h. elim h [ inl before ↦ before | inr here ↦ absurd (omega (arith, here.0)) ]))
added_at (q ∷ runs) (suc l) old new row is adds (suc k) x =
    let rest = added_at runs l old new row is adds k x in (
      (λ h. elim (rest.0 h) [ inl before ↦ inl before | inr here ↦ inr (apart_suc l k here) ]),
      (λ h. elim h [ inl before ↦ rest.1 (inl before) | inr here ↦ rest.1 (inr (down_suc l k here)) ]),
    )

pub added_after : (before mid after : List Run) (l : ℕ) (row : Row) → SameRows before mid → AddsRowAt mid after l row → AddsRowAt before after l row
added_after before mid after l row same adds k x = (
  (λ h. elim ((adds k x).0 h) [ inl old ↦ inl ((same k x).0 old) | inr new ↦ inr new ]),
  (λ h. elim h [ inl old ↦ (adds k x).1 (inl ((same k x).1 old)) | inr new ↦ (adds k x).1 (inr new) ]),
)

pub same_itself : (runs : List Run) → SameRows runs runs
same_itself runs l x = ((λ h. h), (λ h. h))

pub runs_none : AreRuns []
runs_none l run h = absurd (cc)

pub on_ok : {T E : Type 0} (P Q : Type 0) (r : Result T E) → (P → Q) → OnOk r P → OnOk r Q
on_ok P Q (Ok x) f p = f p
on_ok P Q (Err e) f p = tt

pub runs_long : (runs : Vec Run Global) → vec_len runs ≡ length runs.items
runs_long runs = runs.ok.0
