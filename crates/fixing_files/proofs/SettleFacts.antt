-- What the rows of labels come to: of one that rose, of one that was sorted, and of all.
use Rattle.std.proofs.Common.{◌≡◌, ◌∙◌, ◌↔◌, ◌⊎◌, inl, inr, ℕ, zero, suc, ◌+◌, ◌<◌, ◌≤◌, ℤ, Bool, true, false, List, [], ◌∷◌, ◌++◌, length, get_or, Option, Some, None, Result, Ok, Err, IfOk, slice_get, append_assoc, append-nil, ◌==◌, refl, sym, ap, ap₂, subst, arith}
use Rattle.std.specs.Prelude.{Contains, nat_le, slice_index, vec_len}
use Rattle.std.specs.Cmp.{IsTotalOrder}
use Rattle.std.specs.declared.cmp.Ordering.{Ordering}
use Rattle.std.specs.Ordering.{int_cmp, is_lt, nat_cmp, ordering_then}
use Rattle.std.specs.List.Sorted.{IsPermutation, IsSortedByKey}
use Rattle.std.specs.declared.vec.Vec.{Vec}
use Rattle.std.specs.declared.alloc.Global.{Global}
use Rattle.std.proofs.lemmas.Bool.{cases_Bool, cases_lt}
use Rattle.std.proofs.lemmas.Bool.Decides.{nat_tests}
use Rattle.std.proofs.lemmas.Cmp.{int_cmp_total, nat_cmp_total, on_total, then_total}
use Rattle.std.proofs.lemmas.Int.{ints}
use Rattle.std.proofs.lemmas.List.{length_push}
use Rattle.std.proofs.lemmas.List.Elements.{Contains-push_cases, Contains-append_left, Contains-push}
use Rattle.std.proofs.lemmas.List.Sorted.{Contains-permutation, IsPermutation-sym, ranks_by, sorted_far}
use Rattle.term_model.specs.declared.values.Value.{Value}
use Rattle.fixing_files.specs.Runs.{IsRising, day_at, no_day, run_at}
use Rattle.fixing_files.specs.Rows.{AreRuns, HasOwnNumbers, HasRisen, HasRow, HasRows, HaveOwnNumbers, IsRun, RowAt, row_at, row_from}
use Rattle.fixing_files.specs.Folds.{Clashes, ClashesAt, HoldsDays, IsBefore, IsFirstRow, IsInOrder, IsLeast, Settles, SettlesAll, lesser}
use Rattle.fixing_files.specs.declared.runs.FixedDay.{FixedDay}
use Rattle.fixing_files.specs.declared.rows.Row.{Row}
use Rattle.fixing_files.specs.declared.rows.Run.{Run}
use Rattle.fixing_files.specs.declared.folds.Clash.{Clash}
use Rattle.fixing_files.specs.declared.folds.Settled.{Settled}
use Rattle.fixing_files.specs.declared.folds.Settled.TheVariants.{Days, Clashes as Clashing}
use Rattle.fixing_files.specs.declared.folds.AllSettled.TheVariants.{Runs, Clashes as AllClashing}
use Rattle.fixing_files.proofs.RunFacts.{run_past, same_read}
use Rattle.fixing_files.proofs.RowFacts.{row_cases, row_last, row_left, row_within, up_to}

-- the same rows

module _ (In Out : Row → Type 0) (to : (x : Row) → In x → Out x) (from : (x : Row) → Out x → In x) where
  first_moves : (x : Row) → IsFirstRow In x → IsFirstRow Out x
  first_moves x f = record { has = to x f.has; first = λ y i e. f.first y (from y i) e }

  pub clash_moves : (n e : ℕ) → Clashes In n e → Clashes Out n e
  clash_moves n e c =
      record { row = c.row; first = c.first; has = to c.row c.has; is_first = first_moves c.first c.is_first; same_day = c.same_day; another = c.another; number = c.number; earlier = c.earlier }

  pub days_move : (days : List FixedDay) → HoldsDays In days → HoldsDays Out days
  days_move days h = record {
    rising = h.rising;
    holds = λ t v. (
      (λ i. let p = (h.holds t v).0 i in (p.0, to (record { day = t; number = p.0; value = v }) p.1)),
      (λ p. (h.holds t v).1 (p.0, from (record { day = t; number = p.0; value = v }) p.1)),
    );
  }

pub least_moves : (In Out : Row → Type 0) → ((x : Row) → In x → Out x) → ((x : Row) → Out x → In x) → (o : Option Clash) → IsLeast In o → IsLeast Out o
least_moves In Out to from None none = λ n e c. none n e (clash_moves Out In from to n e c)
least_moves In Out to from (Some b) least =
    (clash_moves In Out to from b.number b.earlier least.0, λ n e c. least.1 n e (clash_moves Out In from to n e c))

pub settles_moves : (In Out : Row → Type 0) → ((x : Row) → In x → Out x) → ((x : Row) → Out x → In x) → (s : Settled) → Settles In s → Settles Out s
settles_moves In Out to from (Days days) h = (days_move In Out to from days.items h.0, least_moves In Out to from None h.1)
settles_moves In Out to from (Clashing c) h = least_moves In Out to from (Some c) h

pub own_moves : (In Out : Row → Type 0) → ((x : Row) → Out x → In x) → HasOwnNumbers In → HasOwnNumbers Out
own_moves In Out from own x y h i e = own x y (from x h) (from y i) e

-- rows that rose

module _ (days : List FixedDay) (numbers : List ℕ) (late : List Row) (rising : IsRising days) (none : late ≡ []) where
  abbrev Risen : Row → Type 0
  Risen x = HasRisen days numbers x ⊎ Contains late x

  risen_of : (x : Row) → Risen x → HasRisen days numbers x
  risen_of x (inl h) = h
  risen_of x (inr i) = absurd (omega (arith, i.1, ap length none))

  same_place_of : (i j : ℕ) → i < length days → j < length days → day_at days i ≡ day_at days j → i ≡ j
  same_place_of i j a b e = elim (cases_lt i j) [
    | inl under ↦ absurd (omega (arith, ints, rising i j under b, e))
    | inr over ↦ elim (cases_lt j i) [
      | inl under ↦ absurd (omega (arith, ints, rising j i under a, e))
      | inr other ↦ omega arith
    ]
  ]

  pub risen_holds : HoldsDays Risen days
  risen_holds = record {
    rising = rising;
    holds = λ t v. (
      (λ i.
          let read : get_or days i.0 no_day ≡ record { day = t; value = v } = same_read days i.0 no_day (record { day = t; value = v }) i.1 ∙ i.2 in
          (slice_index numbers i.0, inl (record { at = i.0; within = i.1; is = ap (λ (z : FixedDay). record { day = z.day; number = slice_index numbers i.0; value = z.value }) read }))),
      (λ p.
          let h = risen_of (record { day = t; number = p.0; value = v }) p.1 in
          let day = ap (λ (x : Row). x.day) h.is in
          let value = ap (λ (x : Row). x.value) h.is in
          let read : get_or days h.at no_day ≡ record { day = t; value = v } = ap₂ (λ (s : ℤ) (w : Value). record { day = s; value = w }) day value in
          (h.at, h.within, same_read days h.at (record { day = t; value = v }) no_day h.within ∙ read)),
    );
  }

  pub risen_agree : (n e : ℕ) → ¬ (Clashes Risen n e)
  risen_agree n e c =
      let x = risen_of c.row c.has in
      let y = risen_of c.first c.is_first.has in
      let days_are : day_at days y.at ≡ day_at days x.at = ap (λ (r : Row). r.day) y.is ∙ c.same_day ∙ sym (ap (λ (r : Row). r.day) x.is) in
      let same = same_place_of y.at x.at y.within x.within days_are in
      c.another (ap (λ (r : Row). r.value) (sym y.is) ∙ ap (λ (k : ℕ). (get_or days k no_day).value) same ∙ ap (λ (r : Row). r.value) x.is)

nothing : {A : Type 0} (xs : List A) → length xs ≡ 0 → xs ≡ []
nothing [] h = refl
nothing (x ∷ xs) h = absurd (omega (arith, h))

pub no_late : (run : Run) (b : Bool) → b ≡ (vec_len run.late == 0) → b ≡ true → run.late.items ≡ []
no_late run b is yes_is =
    let none : vec_len run.late ≡ 0 = grind (arith, nat_tests) in
    nothing run.late.items (omega (arith, none, run.late.ok.0))

pub nothing_left : {A : Type 0} (front items all : List A) (n : ℕ) → front ++ items ≡ all → n ≡ length items → n ≡ 0 → front ≡ all
nothing_left front items all n joined long none =
    let empty : items ≡ [] = nothing items (omega (arith, long, none)) in
    sym (append-nil front) ∙ ap (λ xs. front ++ xs) (sym empty) ∙ joined

pub one_moved : {A : Type 0} (front items rest all : List A) (x : A) → front ++ items ≡ all → items ≡ x ∷ rest → (front ++ x ∷ []) ++ rest ≡ all
one_moved front items rest all x joined is = append_assoc front (x ∷ []) rest ∙ ap (λ xs. front ++ xs) (sym is) ∙ joined

row_seam : (front : List Run) (run : Run) (rest : List Run) (x : Row) → HasRow run x → RowAt (front ++ run ∷ rest) (length front) x
row_seam [] run rest x h = h
row_seam (r ∷ front) run rest x h = row_seam front run rest x h

pub own_next : (front items rest all : List Run) (run : Run) → front ++ items ≡ all → items ≡ run ∷ rest → HaveOwnNumbers all → HasOwnNumbers (HasRow run)
own_next front items rest all run joined is own x y h i e =
    let whole : front ++ run ∷ rest ≡ all = ap (λ xs. front ++ xs) (sym is) ∙ joined in
    own (length front) x y
    (subst (λ (l : List Run). RowAt l (length front) x) whole (row_seam front run rest x h))
    (subst (λ (l : List Run). RowAt l (length front) y) whole (row_seam front run rest y i))
    e

get_seam : (front : List Run) (run : Run) (rest : List Run) → slice_get (front ++ run ∷ rest) (length front) ≡ Some run
get_seam [] run rest = refl
get_seam (r ∷ front) run rest = get_seam front run rest

pub run_next : (front items rest all : List Run) (run : Run) → front ++ items ≡ all → items ≡ run ∷ rest → AreRuns all → IsRun run
run_next front items rest all run joined is runs =
    let whole : front ++ run ∷ rest ≡ all = ap (λ xs. front ++ xs) (sym is) ∙ joined in
    runs (length front) run (subst (λ (l : List Run). slice_get l (length front) ≡ Some run) whole (get_seam front run rest))

pub settles_rows : {E : Type 0} (run : Run) (rows : List Row) → HasRows run rows → (r : Result Settled E) → IfOk r (λ s. Settles (Contains rows) s) → IfOk r (λ s. Settles (HasRow run) s)
settles_rows run rows same (Ok s) h = settles_moves (Contains rows) (HasRow run) (λ x i. (same x).0 i) (λ x i. (same x).1 i) s h
settles_rows run rows same (Err e) h = tt

-- rows that were sorted

abbrev pub key : Row → ℤ × ℕ
key x = (x.day, x.number)

abbrev pub compared : ℤ × ℕ → ℤ × ℕ → Ordering
compared a b = ordering_then (int_cmp a.0 b.0) (nat_cmp a.1 b.1)

compared_total : IsTotalOrder compared
compared_total = then_total (on_total (λ (p : ℤ × ℕ). p.0) int_cmp_total) (on_total (λ (p : ℤ × ℕ). p.1) nat_cmp_total)

not_behind : (x y : Row) → is_lt (compared (key y) (key x)) ≡ false → IsBefore x y
not_behind x y h = (grind (arith, ints), λ e. grind (arith, ints, nat_tests))

pub sorted_in_order : (rows : List Row) → IsSortedByKey key compared rows → IsInOrder rows
sorted_in_order rows sorted i j d le within =
    not_behind (get_or rows i d) (get_or rows j d)
    (sorted_far (λ (x y : Row). is_lt (compared (key x) (key y))) (ranks_by compared_total key) rows sorted i j d le within)

-- the rows that rose, up to the k-th, are put behind the others

pub record IsAmong (days : List FixedDay) (numbers : List ℕ) (k : ℕ) (x : Row) : Type 0 where
  pub at : ℕ
  pub under : at < k
  pub is : row_at days numbers at ≡ x

abbrev pub AreJoined : List FixedDay → List ℕ → List Row → ℕ → List Row → Type 0
AreJoined days numbers late k rows = (x : Row) → Contains rows x ↔ (IsAmong days numbers k x ⊎ Contains late x)

pub joined_none : (days : List FixedDay) (numbers : List ℕ) (late : List Row) → AreJoined days numbers late 0 late
joined_none days numbers late x = ((λ i. inr i), (λ h. elim h [ inl a ↦ absurd (omega (arith, a.under)) | inr i ↦ i ]))

pub joined_more : (days : List FixedDay) (numbers : List ℕ) (late : List Row) (k : ℕ) (rows : List Row) (row : Row) → row_at days numbers k ≡ row
    → AreJoined days numbers late k rows → AreJoined days numbers late (k + 1) (rows ++ row ∷ [])
joined_more days numbers late k rows row is all x = (
  (λ i. elim (Contains-push_cases rows row x i) [
    | inl old ↦ elim ((all x).0 old) [ inl a ↦ inl (record { at = a.at; under = omega (arith, a.under); is = a.is }) | inr late_one ↦ inr late_one ]
    | inr new ↦ inl (record { at = k; under = omega arith; is = is ∙ new })
  ]),
  (λ h. elim h [
    | inl a ↦ elim (up_to k a.at a.under) [
      | inl under ↦ Contains-append_left rows (row ∷ []) x ((all x).1 (inl (record { at = a.at; under = under; is = a.is })))
      | inr last ↦ subst (λ (r : Row). Contains (rows ++ row ∷ []) r) (sym is ∙ ap (λ (m : ℕ). row_at days numbers m) (sym last) ∙ a.is) (Contains-push rows row)
    ]
    | inr late_one ↦ Contains-append_left rows (row ∷ []) x ((all x).1 (inr late_one))
  ]),
)

read_number : (numbers : List ℕ) (k d e : ℕ) → k < length numbers → get_or numbers k d ≡ get_or numbers k e
read_number [] k d e h = absurd (omega (arith, h))
read_number (n ∷ numbers) zero d e h = refl
read_number (n ∷ numbers) (suc k) d e h = read_number numbers k d e (omega arith)

pub joined_step : (days read : List FixedDay) (numbers : List ℕ) (late : List Row) (k : ℕ) (rows after : List Row) (z : FixedDay) (n : ℕ) → read ≡ days → k < length days → k < length numbers → n ≡ get_or numbers k n
    → after ≡ rows ++ row_from (get_or read k z) n ∷ [] → AreJoined days numbers late k rows → AreJoined days numbers late (k + 1) after
joined_step days read numbers late k rows after z n same within inside is pushed all =
    let day : get_or days k no_day ≡ get_or read k z = same_read days k no_day z within ∙ ap (λ (l : List FixedDay). get_or l k z) (sym same) in
    let number : slice_index numbers k ≡ n = read_number numbers k 0 n inside ∙ sym is in
    let row : row_at days numbers k ≡ record { day = (get_or read k z).day; number = n; value = (get_or read k z).value } = ap₂ (λ (d : FixedDay) (m : ℕ). record { day = d.day; number = m; value = d.value }) day number in
    subst (λ (l : List Row). AreJoined days numbers late (k + 1) l) (sym pushed) (joined_more days numbers late k rows (record { day = (get_or read k z).day; number = n; value = (get_or read k z).value }) row all)

pub joined_all : (run : Run) (rows sorted : List Row) → AreJoined run.days.items run.numbers.items run.late.items (length run.days.items) rows → IsPermutation rows sorted → HasRows run sorted
joined_all run rows sorted all moved x = (
  (λ i. elim ((all x).0 (Contains-permutation sorted rows x (IsPermutation-sym rows sorted moved) i)) [
    | inl a ↦ inl (record { at = a.at; within = a.under; is = a.is })
    | inr late ↦ inr late
  ]),
  (λ h. elim h [
    | inl r ↦ Contains-permutation rows sorted x moved ((all x).1 (inl (record { at = r.at; under = r.within; is = r.is })))
    | inr late ↦ Contains-permutation rows sorted x moved ((all x).1 (inr late))
  ]),
)

-- all labels

abbrev pub IsLeastOf : List Run → Option Clash → Type 0
IsLeastOf runs None = (n e : ℕ) → ¬ (ClashesAt runs n e)
IsLeastOf runs (Some c) = ClashesAt runs c.number c.earlier × ((n e : ℕ) → ClashesAt runs n e → c.number ≤ n)

pub record SettlesFront (runs : List Run) (days : List (Vec FixedDay Global)) (least : Option Clash) : Type 0 where
  pub days_hold : least ≡ None → (length days ≡ length runs) × ((l : ℕ) → HoldsDays (RowAt runs l) (run_at days l))
  pub least_is : IsLeastOf runs least

run_left : (days : List (Vec FixedDay Global)) (day : Vec FixedDay Global) (l : ℕ) → l < length days → run_at (days ++ day ∷ []) l ≡ run_at days l
run_left [] day l h = absurd (omega (arith, h))
run_left (r ∷ days) day zero h = refl
run_left (r ∷ days) day (suc l) h = run_left days day l (omega arith)

run_last : (days : List (Vec FixedDay Global)) (day : Vec FixedDay Global) (l : ℕ) → l ≡ length days → run_at (days ++ day ∷ []) l ≡ day.items
run_last [] day zero h = refl
run_last [] day (suc l) h = absurd (omega (arith, h))
run_last (r ∷ days) day zero h = absurd (omega (arith, h))
run_last (r ∷ days) day (suc l) h = run_last days day l (omega (arith, h))

module _ (runs : List Run) (run : Run) where
  front_to : (l : ℕ) → l < length runs → (x : Row) → RowAt (runs ++ run ∷ []) l x → RowAt runs l x
  front_to l under x h = elim (row_cases runs run l x h) [ inl front ↦ front | inr last ↦ absurd (omega (arith, last.0)) ]

  last_to : (l : ℕ) → l ≡ length runs → (x : Row) → RowAt (runs ++ run ∷ []) l x → HasRow run x
  last_to l is x h = elim (row_cases runs run l x h) [ inl front ↦ absurd (omega (arith, is, row_within runs l x front)) | inr last ↦ last.1 ]

  last_from : (l : ℕ) → l ≡ length runs → (x : Row) → HasRow run x → RowAt (runs ++ run ∷ []) l x
  last_from l is x h = subst (λ (k : ℕ). RowAt (runs ++ run ∷ []) k x) (sym is) (row_last runs run x h)

  clash_front : (n e : ℕ) → ClashesAt runs n e → ClashesAt (runs ++ run ∷ []) n e
  clash_front n e c =
      let under = row_within runs c.label c.clash.row c.clash.has in
      record { label = c.label; clash = clash_moves (RowAt runs c.label) (RowAt (runs ++ run ∷ []) c.label) (λ x h. row_left runs run c.label x h) (front_to c.label under) n e c.clash }

  clash_last : (n e : ℕ) → Clashes (HasRow run) n e → ClashesAt (runs ++ run ∷ []) n e
  clash_last n e c = record { label = length runs; clash = clash_moves (HasRow run) (RowAt (runs ++ run ∷ []) (length runs)) (last_from (length runs) refl) (last_to (length runs) refl) n e c }

  clash_back : (n e : ℕ) → ClashesAt (runs ++ run ∷ []) n e → ClashesAt runs n e ⊎ Clashes (HasRow run) n e
  clash_back n e c = elim (row_cases runs run c.label c.clash.row c.clash.has) [
    | inl front ↦
        let under = row_within runs c.label c.clash.row front in
        inl (record { label = c.label; clash = clash_moves (RowAt (runs ++ run ∷ []) c.label) (RowAt runs c.label) (front_to c.label under) (λ x h. row_left runs run c.label x h) n e c.clash })
    | inr last ↦
        inr (clash_moves (RowAt (runs ++ run ∷ []) c.label) (HasRow run) (last_to c.label last.0) (last_from c.label last.0) n e c.clash)
  ]

  days_more : (days : List (Vec FixedDay Global)) (day : Vec FixedDay Global) → length days ≡ length runs → ((l : ℕ) → HoldsDays (RowAt runs l) (run_at days l)) → HoldsDays (HasRow run) day.items
      → (l : ℕ) → (l < length runs) ⊎ (length runs ≤ l) → HoldsDays (RowAt (runs ++ run ∷ []) l) (run_at (days ++ day ∷ []) l)
  days_more days day long all one l (inl under) =
      subst (λ (r : List FixedDay). HoldsDays (RowAt (runs ++ run ∷ []) l) r) (sym (run_left days day l (omega (arith, long))))
      (days_move (RowAt runs l) (RowAt (runs ++ run ∷ []) l) (λ x h. row_left runs run l x h) (front_to l under) (run_at days l) (all l))
  days_more days day long all one l (inr over) = elim (cases_lt (length runs) l) [
    | inl past ↦
        let none : run_at (days ++ day ∷ []) l ≡ [] = run_past (days ++ day ∷ []) l (omega (arith, length_push days day, long)) in
        subst (λ (r : List FixedDay). HoldsDays (RowAt (runs ++ run ∷ []) l) r) (sym none) (record {
          rising = λ i j lt within. absurd (omega (arith, within));
          holds = λ t v. (
            (λ i. absurd (omega (arith, i.1))),
            (λ p. absurd (omega (arith, past, row_within (runs ++ run ∷ []) l (record { day = t; number = p.0; value = v }) p.1, length_push runs run))),
          );
        })
    | inr here ↦
        let is : l ≡ length runs = omega arith in
        subst (λ (r : List FixedDay). HoldsDays (RowAt (runs ++ run ∷ []) l) r) (sym (run_last days day l (omega (arith, is, long))))
        (days_move (HasRow run) (RowAt (runs ++ run ∷ []) l) (last_from l is) (last_to l is) day.items one)
  ]

  least_front : (o : Option Clash) → IsLeastOf runs o → IsLeast (HasRow run) None → IsLeastOf (runs ++ run ∷ []) o
  least_front None none agree = λ n e c. elim (clash_back n e c) [ inl front ↦ none n e front | inr last ↦ agree n e last ]
  least_front (Some b) least agree =
      (clash_front b.number b.earlier least.0, λ n e c. elim (clash_back n e c) [ inl front ↦ least.1 n e front | inr last ↦ absurd (agree n e last) ])

  pub front_days : (days : List (Vec FixedDay Global)) (day : Vec FixedDay Global) (least : Option Clash) → SettlesFront runs days least → HoldsDays (HasRow run) day.items → IsLeast (HasRow run) None
      → SettlesFront (runs ++ run ∷ []) (days ++ day ∷ []) least
  front_days days day least front one agree = record {
    days_hold = λ e.
        let were = front.days_hold e in
        (omega (arith, were.0, length_push days day, length_push runs run), λ l. days_more days day were.0 were.1 one l (under_or l (length runs)));
    least_is = least_front least front.least_is agree;
  }
    where
      under_or : (l n : ℕ) → (l < n) ⊎ (n ≤ l)
      under_or l n = cases_lt l n

  pub front_clash : (days : List (Vec FixedDay Global)) (least : Option Clash) (c : Clash) → SettlesFront runs days least → IsLeast (HasRow run) (Some c) → SettlesFront (runs ++ run ∷ []) days (Some (lesser least c))
  front_clash days least c front one = record { days_hold = λ e. absurd (cc); least_is = least_last least c front.least_is one }
    where
      least_last : (o : Option Clash) (c : Clash) → IsLeastOf runs o → IsLeast (HasRow run) (Some c) → IsLeastOf (runs ++ run ∷ []) (Some (lesser o c))
      least_last None c none one =
          (clash_last c.number c.earlier one.0, λ n e h. elim (clash_back n e h) [ inl front ↦ absurd (none n e front) | inr last ↦ one.1 n e last ])
      least_last (Some b) c least one = elim (cases_Bool (nat_le b.number c.number)) [
        | inl under ↦
            let le : b.number ≤ c.number = grind (arith, nat_tests) in
            rw under (clash_front b.number b.earlier least.0, λ n e h. elim (clash_back n e h) [ inl front ↦ least.1 n e front | inr last ↦ omega (arith, le, one.1 n e last) ])
        | inr over ↦
            let lt : c.number < b.number = grind (arith, nat_tests) in
            rw over (clash_last c.number c.earlier one.0, λ n e h. elim (clash_back n e h) [ inl front ↦ omega (arith, lt, least.1 n e front) | inr last ↦ one.1 n e last ])
      ]

pub settled_runs : (runs : List Run) (days : Vec (Vec FixedDay Global) Global) → SettlesFront runs days.items None → SettlesAll runs (Runs days)
settled_runs runs days front = ((front.days_hold refl).1, front.least_is)

pub settled_clash : (runs : List Run) (days : List (Vec FixedDay Global)) (c : Clash) → SettlesFront runs days (Some c) → SettlesAll runs (AllClashing c)
settled_clash runs days c front = front.least_is
