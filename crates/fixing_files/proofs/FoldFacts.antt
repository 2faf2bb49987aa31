-- Rows of a label in order, folded one by one: what is known of those before the next row holds of those with it.
use Rattle.std.proofs.Common.{◌≡◌, ◌≢◌, ◌∙◌, ◌⊎◌, inl, inr, ℕ, zero, suc, ◌+◌, ◌<◌, ◌≤◌, ℤ, Bool, true, false, not, List, [], ◌∷◌, ◌++◌, length, get_or, take, Option, Some, None, refl, sym, ap, ap₂, subst, arith}
use Rattle.std.specs.Prelude.{◌<ℤ◌, ◌≤ℤ◌, Contains, nat_le}
use Rattle.std.proofs.lemmas.Bool.{cases_Bool, cases_lt}
use Rattle.std.proofs.lemmas.Bool.Decides.{Decides-int_eq, nat_tests}
use Rattle.std.specs.Ordering.{int_eq}
use Rattle.std.proofs.lemmas.Int.{ints}
use Rattle.std.proofs.lemmas.List.{get_or-take, get_or_append_left, get_or_push, length-take, length_push, take_more}
use Rattle.std.proofs.lemmas.List.Elements.{Contains-append_left, Contains-push, Contains-push_cases}
use Rattle.term_model.specs.declared.values.Value.{Value}
use Rattle.fixing_files.specs.Runs.{IsRising, day_at, no_day}
use Rattle.fixing_files.specs.Rows.{HasOwnNumbers, day_of_row, same_value}
use Rattle.fixing_files.specs.Folds.{Clashes, Comes, Folds, HeadIs, HoldsDays, IsBefore, IsFirstDay, IsFirstRow, IsHead, IsInOrder, IsKept, IsLeast, first_of_day, lesser}
use Rattle.fixing_files.specs.declared.runs.FixedDay.{FixedDay}
use Rattle.fixing_files.specs.declared.rows.Row.{Row}
use Rattle.fixing_files.specs.declared.folds.Clash.{Clash}
use Rattle.fixing_files.proofs.RunFacts.{same_read}
use Rattle.fixing_files.proofs.ValueFacts.{differ, same_from}

-- a day that is added behind the others
pub rising_on : (run : List FixedDay) (z : FixedDay) → IsRising run → ((k : ℕ) → k < length run → day_at run k <ℤ z.day) → IsRising (run ++ z ∷ [])
rising_on run z rising below i j lt within =
    let long = length_push run z in
    let key = λ (x : FixedDay). x.day in
    let first : day_at (run ++ z ∷ []) i ≡ day_at run i = ap key (get_or_append_left run (z ∷ []) no_day i (omega arith)) in
    elim (up_to (length run) j (omega arith)) [
      | inl inside ↦
          let other : day_at (run ++ z ∷ []) j ≡ day_at run j = ap key (get_or_append_left run (z ∷ []) no_day j inside) in
          omega (arith, ints, rising i j lt inside, first, other)
      | inr last ↦
          let other : day_at (run ++ z ∷ []) j ≡ z.day = ap key (get_or_push run z no_day j (sym last)) in
          omega (arith, ints, below i (omega arith), first, other)
    ]
  where
    up_to : (n j : ℕ) → j < n + 1 → (j < n) ⊎ (j ≡ n)
    up_to n j h = elim (cases_lt j n) [ inl under ↦ inl under | inr over ↦ inr (omega arith) ]

contained_day : (run : List FixedDay) (P : ℤ → Type 0) → ((z : FixedDay) → Contains run z → P z.day) → (k : ℕ) → k < length run → P (day_at run k)
contained_day run P all k within = all (get_or run k no_day) (k, within, same_read run k (get_or run k no_day) no_day within)

module _ (rows : List Row) (row : Row) where
  old_in : (x : Row) → Contains rows x → Contains (rows ++ row ∷ []) x
  old_in x i = Contains-append_left rows (row ∷ []) x i

  new_in : Contains (rows ++ row ∷ []) row
  new_in = Contains-push rows row

  cases_in : (x : Row) → Contains (rows ++ row ∷ []) x → Contains rows x ⊎ (row ≡ x)
  cases_in x i = Contains-push_cases rows row x i

  first_back : (y : Row) → Contains rows y → IsFirstRow (Contains (rows ++ row ∷ [])) y → IsFirstRow (Contains rows) y
  first_back y i f = record { has = i; first = λ z j e. f.first z (old_in z j) e }

  -- first rows stay first
  abbrev StayFirst : Type 0
  StayFirst = (y : Row) → IsFirstRow (Contains rows) y → IsFirstRow (Contains (rows ++ row ∷ [])) y

  clash_on : StayFirst → (n e : ℕ) → Clashes (Contains rows) n e → Clashes (Contains (rows ++ row ∷ [])) n e
  clash_on stay n e c =
      record { row = c.row; first = c.first; has = old_in c.row c.has; is_first = stay c.first c.is_first; same_day = c.same_day; another = c.another; number = c.number; earlier = c.earlier }

  kept_on : StayFirst → (days more : List FixedDay) (t : ℤ) → ((z : FixedDay) → Contains days z → Contains more z) → IsKept (Contains rows) days t → IsKept (Contains (rows ++ row ∷ [])) more t
  kept_on stay days more t on k = record { row = k.row; first = stay k.row k.first; day = k.day; kept = on (day_of_row k.row) k.kept }

  first_day_on : StayFirst → (z : FixedDay) → IsFirstDay (Contains rows) z → IsFirstDay (Contains (rows ++ row ∷ [])) z
  first_day_on stay z f = record { row = f.row; first = stay f.row f.first; is = f.is }

  number_of_new : (x : Row) → row ≡ x → row.number ≡ x.number
  number_of_new x e = ap (λ (r : Row). r.number) e

  day_of_new : (x : Row) → row ≡ x → row.day ≡ x.day
  day_of_new x e = ap (λ (r : Row). r.day) e

  -- a row of a new day

  module _ (fresh : (x : Row) → Contains rows x → x.day <ℤ row.day) where
    stay_first : StayFirst
    stay_first y f = record {
      has = old_in y f.has;
      first = λ z i e. elim (cases_in z i) [
        | inl old ↦ f.first z old e
        | inr new ↦ absurd (omega (arith, ints, fresh y f.has, day_of_new z new, e))
      ];
    }

    first_new : IsFirstRow (Contains (rows ++ row ∷ [])) row
    first_new = record {
      has = new_in;
      first = λ z i e. elim (cases_in z i) [
        | inl old ↦ absurd (omega (arith, ints, fresh z old, e))
        | inr new ↦ omega (arith, number_of_new z new)
      ];
    }

    no_new_clash : (n e : ℕ) → Clashes (Contains (rows ++ row ∷ [])) n e → Clashes (Contains rows) n e
    no_new_clash n e c = elim (cases_in c.row c.has) [
      | inl old ↦ elim (cases_in c.first c.is_first.has) [
        | inl first_old ↦ record { row = c.row; first = c.first; has = old; is_first = first_back c.first first_old c.is_first; same_day = c.same_day; another = c.another; number = c.number; earlier = c.earlier }
        | inr first_new ↦ absurd (omega (arith, ints, fresh c.row old, day_of_new c.first first_new, c.same_day))
      ]
      | inr new ↦ elim (cases_in c.first c.is_first.has) [
        | inl first_old ↦ absurd (omega (arith, ints, fresh c.first first_old, day_of_new c.row new, c.same_day))
        | inr first_new ↦ absurd (c.another (ap (λ (r : Row). r.value) (sym first_new ∙ new)))
      ]
    ]

    least_stays : (o : Option Clash) → IsLeast (Contains rows) o → IsLeast (Contains (rows ++ row ∷ [])) o
    least_stays None none = λ n e c. none n e (no_new_clash n e c)
    least_stays (Some b) least = (clash_on stay_first b.number b.earlier least.0, λ n e c. least.1 n e (no_new_clash n e c))

    pub folds_day : (days : List FixedDay) (head : Option Row) (least : Option Clash) → Folds rows days head least → Folds (rows ++ row ∷ []) (days ++ day_of_row row ∷ []) (Some row) least
    folds_day days head least f =
        let z = day_of_row row in
        let below : (y : FixedDay) → Contains days y → y.day <ℤ row.day = λ y i. let first = f.sound y i in subst (λ (t : ℤ). t <ℤ row.day) (ap (λ (x : FixedDay). x.day) first.is) (fresh first.row first.first.has) in
        record {
          rising = rising_on days z f.rising (contained_day days (λ t. t <ℤ row.day) below);
          kept = λ x i. elim (cases_in x i) [
            | inl old ↦ kept_on stay_first days (days ++ z ∷ []) x.day (λ y j. Contains-append_left days (z ∷ []) y j) (f.kept x old)
            | inr new ↦ record { row = row; first = first_new; day = day_of_new x new; kept = Contains-push days z }
          ];
          sound = λ y i. elim (Contains-push_cases days z y i) [
            | inl old ↦ first_day_on stay_first y (f.sound y old)
            | inr new ↦ record { row = row; first = first_new; is = new }
          ];
          head_is = record {
            first = first_new;
            last = λ x i. elim (cases_in x i) [
              | inl old ↦ omega (arith, ints, fresh x old)
              | inr new ↦ omega (arith, ints, day_of_new x new)
            ];
          };
          least_is = least_stays least f.least_is;
        }

  -- a row of the last day

  module _ (comes : Comes rows row) (h : Row) (head : IsHead (Contains rows) h) (same : h.day ≡ row.day) where
    not_above : h.number ≤ row.number
    not_above = (comes.behind h head.first.has).1 same

    stay_first_there : StayFirst
    stay_first_there y f = record {
      has = old_in y f.has;
      first = λ z i e. elim (cases_in z i) [
        | inl old ↦ f.first z old e
        | inr new ↦ omega (arith, not_above, number_of_new z new, f.first h head.first.has (same ∙ day_of_new z new ∙ e))
      ];
    }

    -- a clash that the row brings
    abbrev IsNew : ℕ → Type 0
    IsNew n = (n ≡ row.number) × (h.value ≢ row.value)

    new_clash_is : (n e : ℕ) → Clashes (Contains (rows ++ row ∷ [])) n e → Clashes (Contains rows) n e ⊎ IsNew n
    new_clash_is n e c = elim (cases_in c.row c.has) [
      | inl old ↦ elim (cases_in c.first c.is_first.has) [
        | inl first_old ↦ inl (record { row = c.row; first = c.first; has = old; is_first = first_back c.first first_old c.is_first; same_day = c.same_day; another = c.another; number = c.number; earlier = c.earlier })
        | inr first_new ↦
            let day : h.day ≡ c.first.day = same ∙ day_of_new c.first first_new in
            let under = c.is_first.first h (old_in h head.first.has) day in
            let number : h.number ≡ row.number = omega (arith, not_above, number_of_new c.first first_new, under) in
            let is : h ≡ c.first = comes.numbers h row (old_in h head.first.has) new_in number ∙ first_new in
            inl (record {
              row = c.row;
              first = h;
              has = old;
              is_first = head.first;
              same_day = day ∙ c.same_day;
              another = λ v. c.another (ap (λ (r : Row). r.value) (sym is) ∙ v);
              number = c.number;
              earlier = ap (λ (r : Row). r.number) is ∙ c.earlier;
            })
      ]
      | inr new ↦ elim (cases_in c.first c.is_first.has) [
        | inl first_old ↦
            let day : h.day ≡ c.first.day = same ∙ day_of_new c.row new ∙ sym c.same_day in
            let under = c.is_first.first h (old_in h head.first.has) day in
            let over = head.first.first c.first first_old (sym day) in
            let number : h.number ≡ c.first.number = omega (arith, under, over) in
            let is : h ≡ c.first = comes.numbers h c.first (old_in h head.first.has) c.is_first.has number in
            inr (sym c.number ∙ sym (number_of_new c.row new), λ v. c.another (ap (λ (r : Row). r.value) (sym is) ∙ v ∙ ap (λ (r : Row). r.value) new))
        | inr first_new ↦ absurd (c.another (ap (λ (r : Row). r.value) (sym first_new ∙ new)))
      ]
    ]

    agreed : h.value ≡ row.value → (o : Option Clash) → IsLeast (Contains rows) o → IsLeast (Contains (rows ++ row ∷ [])) o
    agreed v None none = λ n e c. elim (new_clash_is n e c) [ inl old ↦ none n e old | inr new ↦ new.1 v ]
    agreed v (Some b) least =
        (clash_on stay_first_there b.number b.earlier least.0, λ n e c. elim (new_clash_is n e c) [ inl old ↦ least.1 n e old | inr new ↦ absurd (new.1 v) ])

    the_new : Clash
    the_new = record { number = row.number; earlier = h.number }

    clash_here : h.value ≢ row.value → Clashes (Contains (rows ++ row ∷ [])) row.number h.number
    clash_here other =
        record { row = row; first = h; has = new_in; is_first = stay_first_there h head.first; same_day = same; another = other; number = refl; earlier = refl }

    differed : h.value ≢ row.value → (o : Option Clash) → IsLeast (Contains rows) o → IsLeast (Contains (rows ++ row ∷ [])) (Some (lesser o (record { number = row.number; earlier = h.number })))
    differed other None none = (clash_here other, λ n e c. elim (new_clash_is n e c) [ inl old ↦ absurd (none n e old) | inr new ↦ omega (arith, new.0) ])
    differed other (Some b) least = elim (cases_Bool (nat_le b.number row.number)) [
      | inl under ↦
          let le : b.number ≤ row.number = grind (arith, nat_tests) in
          rw under (clash_on stay_first_there b.number b.earlier least.0, λ n e c. elim (new_clash_is n e c) [ inl old ↦ least.1 n e old | inr new ↦ omega (arith, le, new.0) ])
      | inr over ↦
          let lt : row.number < b.number = grind (arith, nat_tests) in
          rw over (clash_here other, λ n e c. elim (new_clash_is n e c) [ inl old ↦ omega (arith, lt, least.1 n e old) | inr new ↦ omega (arith, new.0) ])
    ]

    folds_same : (days : List FixedDay) (least after : Option Clash) → Folds rows days (Some h) least → IsLeast (Contains (rows ++ row ∷ [])) after → Folds (rows ++ row ∷ []) days (Some h) after
    folds_same days least after f least_is = record {
      rising = f.rising;
      kept = λ x i. elim (cases_in x i) [
        | inl old ↦ kept_on stay_first_there days days x.day (λ y j. j) (f.kept x old)
        | inr new ↦ kept_on stay_first_there days days x.day (λ y j. j) (subst (λ (t : ℤ). IsKept (Contains rows) days t) (same ∙ day_of_new x new) (f.kept h head.first.has))
      ];
      sound = λ y i. first_day_on stay_first_there y (f.sound y i);
      head_is = record {
        first = stay_first_there h head.first;
        last = λ x i. elim (cases_in x i) [
          | inl old ↦ head.last x old
          | inr new ↦ omega (arith, ints, day_of_new x new, same)
        ];
      };
      least_is = least_is;
    }

    pub folds_agreed : (days : List FixedDay) (least : Option Clash) → h.value ≡ row.value → Folds rows days (Some h) least → Folds (rows ++ row ∷ []) days (Some h) least
    folds_agreed days least v f = folds_same days least least f (agreed v least f.least_is)

    pub folds_differed : (days : List FixedDay) (least : Option Clash) → h.value ≢ row.value → Folds rows days (Some h) least
        → Folds (rows ++ row ∷ []) days (Some h) (Some (lesser least (record { number = row.number; earlier = h.number })))
    folds_differed days least other f = folds_same days least (Some (lesser least (record { number = row.number; earlier = h.number }))) f (differed other least f.least_is)

-- the first row, and a row above the head

pub fresh_first : (rows : List Row) (row : Row) → HeadIs (Contains rows) None → (x : Row) → Contains rows x → x.day <ℤ row.day
fresh_first rows row none x i = absurd (none x i)

pub fresh_above : (rows : List Row) (row h : Row) → Comes rows row → IsHead (Contains rows) h → h.day ≢ row.day → (x : Row) → Contains rows x → x.day <ℤ row.day
fresh_above rows row h comes head other x i =
    let le : h.day ≤ℤ row.day = (comes.behind h head.first.has).0 in
    let lt : h.day <ℤ row.day = below h.day row.day le other in
    omega (arith, ints, lt, head.last x i)
  where
    below : (a b : ℤ) → a ≤ℤ b → a ≢ b → a <ℤ b
    below a b le other = first_of (omega (arith, ints), grind (arith, ints))

-- no rows are folded

pub folds_none : Folds [] [] None None
folds_none = record {
  rising = λ i j lt within. absurd (omega (arith, within));
  kept = λ x i. absurd (omega (arith, i.1));
  sound = λ z i. absurd (omega (arith, i.1));
  head_is = λ x i. absurd (omega (arith, i.1));
  least_is = λ n e c. omega (arith, c.has.1);
}

-- all rows are folded

module _ (rows : List Row) (days : List FixedDay) (head : Option Row) (f : Folds rows days head None) where
  row_behind : (t : ℤ) (v : Value) → Contains days (record { day = t; value = v }) → (n : ℕ) × Contains rows (record { day = t; number = n; value = v })
  row_behind t v i =
      let first = f.sound (record { day = t; value = v }) i in
      let x = first.row in
      let is : x ≡ record { day = t; number = x.number; value = v } = ap₂ (λ (s : ℤ) (w : Value). record { day = s; number = x.number; value = w }) (ap (λ (z : FixedDay). z.day) first.is) (ap (λ (z : FixedDay). z.value) first.is) in
      (x.number, subst (λ (r : Row). Contains rows r) is first.first.has)

  day_behind : (t : ℤ) (v : Value) (n : ℕ) → Contains rows (record { day = t; number = n; value = v }) → Contains days (record { day = t; value = v })
  day_behind t v n i =
      let x : Row = record { day = t; number = n; value = v } in
      let k = f.kept x i in
      let value : k.row.value ≡ v = elim (cases_Bool (same_value k.row.value v)) [
        | inl same ↦ same_from k.row.value v same
        | inr other ↦ absurd (f.least_is n k.row.number (record { row = x; first = k.row; has = i; is_first = k.first; same_day = k.day; another = differ k.row.value v other; number = refl; earlier = refl }))
      ] in
      subst (λ (z : FixedDay). Contains days z) (ap₂ (λ (s : ℤ) (w : Value). record { day = s; value = w }) k.day value) k.kept

  pub folded_holds : HoldsDays (Contains rows) days
  folded_holds = record { rising = f.rising; holds = λ t v. (row_behind t v, λ p. day_behind t v p.0 p.1) }

pub not_true : (b : Bool) → not b ≡ true → b ≡ false
not_true true h = absurd (cc)
not_true false h = refl

-- the next of rows in order

in_take : (n : ℕ) (rows : List Row) (x : Row) → Contains (take n rows) x → Contains rows x
in_take n rows x i =
    let few = length-take n rows in
    (i.0, omega (arith, i.1, few), sym (get_or-take n rows i.0 x (omega (arith, i.1, few))) ∙ i.2)

read_in : (rows : List Row) (k : ℕ) (d e : Row) → k < length rows → get_or rows k d ≡ get_or rows k e
read_in [] k d e h = absurd (omega (arith, h))
read_in (r ∷ rows) zero d e h = refl
read_in (r ∷ rows) (suc k) d e h = read_in rows k d e (omega arith)

pub comes_next : (rows : List Row) (i : ℕ) (d : Row) → IsInOrder rows → HasOwnNumbers (Contains rows) → i < length rows → Comes (take i rows) (get_or rows i d)
comes_next rows i d order own within = record {
  behind = λ x h.
      let few = length-take i rows in
      let under : h.0 < i = omega (arith, h.1, few) in
      let is : get_or rows h.0 d ≡ x = read_in rows h.0 d x (omega arith) ∙ sym (get_or-take i rows h.0 x under) ∙ h.2 in
      subst (λ (r : Row). IsBefore r (get_or rows i d)) is (order h.0 i d (omega arith) within);
  numbers = λ x y h g e.
      let more = take_more rows i d within in
      own x y
      (in_take (i + 1) rows x (subst (λ (l : List Row). Contains l x) (sym more) h))
      (in_take (i + 1) rows y (subst (λ (l : List Row). Contains l y) (sym more) g))
      e;
}

-- what the next row does

found_first : (o : Option Row) (row h : Row) → first_of_day o row ≡ Some h → (o ≡ Some h) × (h.day ≡ row.day)
found_first None row h e = absurd (cc)
found_first (Some g) row h e = elim (cases_Bool (int_eq g.day row.day)) [
  | inl here ↦
      let one : ◌≡◌ {A = Option Row} (Some g) (Some h) = rw here at e in
      let same : g ≡ h = cc in
      (one, subst (λ (x : Row). x.day ≡ row.day) same ((Decides-int_eq g.day row.day).0 here))
  | inr there ↦ let wrong : ◌≡◌ {A = Option Row} None (Some h) = rw there at e in absurd (cc)
]

pub folds_clash : (rows : List Row) (row h : Row) (days : List FixedDay) (head : Option Row) (least : Option Clash) → first_of_day head row ≡ Some h → same_value h.value row.value ≡ false
    → Comes rows row → Folds rows days head least → Folds (rows ++ row ∷ []) days head (Some (lesser least (record { number = row.number; earlier = h.number })))
folds_clash rows row h days head least found value comes f =
    let first = found_first head row h found in
    let g : Folds rows days (Some h) least = subst (λ (o : Option Row). Folds rows days o least) first.0 f in
    let after = folds_differed rows row comes h g.head_is first.1 days least (differ h.value row.value value) g in
    subst (λ (o : Option Row). Folds (rows ++ row ∷ []) days o (Some (lesser least (record { number = row.number; earlier = h.number })))) (sym first.0) after

pub folds_again : (rows : List Row) (row h : Row) (days : List FixedDay) (head : Option Row) (least : Option Clash) → first_of_day head row ≡ Some h → same_value h.value row.value ≡ true
    → Comes rows row → Folds rows days head least → Folds (rows ++ row ∷ []) days head least
folds_again rows row h days head least found value comes f =
    let first = found_first head row h found in
    let g : Folds rows days (Some h) least = subst (λ (o : Option Row). Folds rows days o least) first.0 f in
    let after = folds_agreed rows row comes h g.head_is first.1 days least (same_from h.value row.value value) g in
    subst (λ (o : Option Row). Folds (rows ++ row ∷ []) days o least) (sym first.0) after

fresh_from : (rows : List Row) (row : Row) (head : Option Row) → first_of_day head row ≡ None → Comes rows row → HeadIs (Contains rows) head → (x : Row) → Contains rows x → x.day <ℤ row.day
fresh_from rows row None other comes none = fresh_first rows row none
fresh_from rows row (Some h) other comes head = fresh_above rows row h comes head (λ e.
    let same : int_eq h.day row.day ≡ true = (Decides-int_eq h.day row.day).1 e in
    let wrong : ◌≡◌ {A = Option Row} (Some h) None = rw same at other in
    absurd (cc))

pub folds_next : (rows : List Row) (row : Row) (days after : List FixedDay) (head : Option Row) (least : Option Clash) → first_of_day head row ≡ None → after ≡ days ++ day_of_row row ∷ []
    → Comes rows row → Folds rows days head least → Folds (rows ++ row ∷ []) after (Some row) least
folds_next rows row days after head least other is comes f =
    subst (λ (ds : List FixedDay). Folds (rows ++ row ∷ []) ds (Some row) least) (sym is) (folds_day rows row (fresh_from rows row head other comes f.head_is) days head least f)
