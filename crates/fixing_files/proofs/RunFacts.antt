-- Runs of days, the days that they hold, and the map that they stand for.
use Rattle.std.proofs.Common.{◌≡◌, ◌≢◌, ◌∙◌, ◌⊎◌, inl, inr, ℕ, zero, suc, ◌+◌, ◌-◌, ◌<◌, ◌≤◌, ◌==◌, ℤ, true, false, if◌then◌else◌, List, [], ◌∷◌, ◌++◌, length, get_or, set, Option, Some, None, Result, Ok, Err, IfOk, IfErr, slice_get, refl, sym, ap, ap₂, subst, arith}
use Rattle.std.specs.Prelude.{◌<ℤ◌, Contains, OnErr, vec_len}
use Rattle.std.specs.List.{insert}
use Rattle.std.specs.List.Sorted.{IsSearchInRange, IsBinarySearchResult, IsNonDecreasingBy}
use Rattle.std.specs.Ordering.{int_cmp, int_eq, ordering_index}
use Rattle.std.specs.declared.vec.Vec.{Vec}
use Rattle.std.specs.declared.alloc.Global.{Global}
use Rattle.std.proofs.lemmas.Bool.{cases_Bool, cases_lt}
use Rattle.std.proofs.lemmas.Bool.Decides.{Decides-int_eq, nat_tests}
use Rattle.std.proofs.lemmas.Cmp.{int_ranked}
use Rattle.std.proofs.lemmas.Int.{ints}
use Rattle.std.proofs.lemmas.List.Edits.{length-insert, get_or-insert_below, get_or-insert_at, get_or-insert_above}
use Rattle.std.proofs.lemmas.List.Sorted.{IsNonDecreasingBy-from_default}
use Rattle.std.proofs.lemmas.Option.{slice_get_read}
use Rattle.term_model.specs.Environments.{Environment, Place, held}
use Rattle.term_model.specs.declared.values.Value.{Value}
use Rattle.fixing_files.specs.Runs.{AddsPair, AreRising, IsRising, LendsDays, day_at, no_day, placed_at, run_at, value_on, values_from, values_of}
use Rattle.fixing_files.specs.RunPlaces.{IsGapFor, IsOn}
use Rattle.fixing_files.specs.declared.runs.FixedDay.{FixedDay}

abbrev Run : Type 0
Run = List FixedDay

abbrev Runs : Type 0
Runs = List (Vec FixedDay Global)

abbrev fixed : ℤ → Value → FixedDay
fixed t v = record { day = t; value = v }

-- two options that hold the same
pub same_options : {A : Type 0} (o p : Option A) → ((v : A) → o ≡ Some v → p ≡ Some v) → ((v : A) → p ≡ Some v → o ≡ Some v) → o ≡ p
same_options None None f g = refl
same_options None (Some v) f g = g v refl
same_options (Some v) p f g = sym (f v refl)

same_day : (a b : ℤ) → int_eq a b ≡ true → a ≡ b
same_day a b h = (Decides-int_eq a b).0 h

day_itself : (a : ℤ) → int_eq a a ≡ true
day_itself a = (Decides-int_eq a a).1 refl

other_days : (a b : ℤ) → a ≢ b → int_eq a b ≡ false
other_days a b h = elim (cases_Bool (int_eq a b)) [ inl same ↦ absurd (h (same_day a b same)) | inr other ↦ other ]

-- a run that rises

rising_tail : (f : FixedDay) (run : Run) → IsRising (f ∷ run) → IsRising run
rising_tail f run h i j lt within = h (suc i) (suc j) (omega arith) (omega arith)

head_below : (f : FixedDay) (run : Run) → IsRising (f ∷ run) → (k : ℕ) → k < length run → f.day <ℤ day_at run k
head_below f run h k within = h 0 (suc k) (omega arith) (omega arith)

pub same_read : (run : Run) (k : ℕ) (d e : FixedDay) → k < length run → get_or run k d ≡ get_or run k e
same_read [] k d e h = absurd (omega (arith, h))
same_read (f ∷ run) zero d e h = refl
same_read (f ∷ run) (suc k) d e h = same_read run k d e (omega arith)

-- a day that a run holds is the value that is found
pub held_in : (run : Run) (t : ℤ) (v : Value) → value_on run t ≡ Some v → Contains run (fixed t v)
held_in [] t v h = absurd (cc)
held_in (f ∷ run) t v h = elim (cases_Bool (int_eq f.day t)) [
  | inl here ↦
      let one : ◌≡◌ {A = Option Value} (Some f.value) (Some v) = rw here at h in
      let value : f.value ≡ v = cc in
      let day = same_day f.day t here in
      (0, omega arith, ap₂ (λ (d : ℤ) (w : Value). fixed d w) day value)
  | inr other ↦
      let rest = held_in run t v (rw other at h) in
      (suc rest.0, omega (arith, rest.1), rest.2)
]

pub found_in : (run : Run) (t : ℤ) (v : Value) → IsRising run → Contains run (fixed t v) → value_on run t ≡ Some v
found_in [] t v rising c = absurd (omega (arith, c.1))
found_in (f ∷ run) t v rising (zero, within, is) =
    let day : f.day ≡ t = ap (λ (x : FixedDay). x.day) is in
    let value : f.value ≡ v = ap (λ (x : FixedDay). x.value) is in
    let here : int_eq f.day t ≡ true = rw day (day_itself t) in
    rw here (ap (λ (x : Value). Some x) value)
found_in (f ∷ run) t v rising (suc k, within, is) =
    let inside : k < length run = omega (arith, within) in
    let day : day_at run k ≡ t = ap (λ (x : FixedDay). x.day) (same_read run k no_day (fixed t v) inside ∙ is) in
    let below : f.day <ℤ t = subst (λ (x : ℤ). f.day <ℤ x) day (head_below f run rising k inside) in
    let apart : int_eq f.day t ≡ false = other_days f.day t (λ e. omega (arith, ints, below, e)) in
    rw apart (found_in run t v (rising_tail f run rising) (k, inside, is))

-- a day that stands in a run
pub value_at : (run : Run) (t : ℤ) (i : ℕ) (d : FixedDay) → IsRising run → IsOn run t i → value_on run t ≡ Some (get_or run i d).value
value_at run t i d rising on =
    let e = get_or run i d in
    let day : e.day ≡ t = ap (λ (x : FixedDay). x.day) (same_read run i d no_day on.within) ∙ on.day in
    let here : get_or run i (fixed t e.value) ≡ fixed t e.value = same_read run i (fixed t e.value) d on.within ∙ ap (λ (x : ℤ). fixed x e.value) day in
    found_in run t e.value rising (i, on.within, here)

none_unless : {A : Type 0} (o : Option A) → ((v : A) → o ≡ Some v → ⊥) → o ≡ None
none_unless None h = refl
none_unless (Some v) h = absurd (h v refl)

-- a day that has a gap
pub none_in_gap : (run : Run) (t : ℤ) (i : ℕ) → IsGapFor run t i → value_on run t ≡ None
none_in_gap run t i gap = none_unless (value_on run t) (λ v e.
    let c = held_in run t v e in
    let day : day_at run c.0 ≡ t = ap (λ (x : FixedDay). x.day) (same_read run c.0 no_day (fixed t v) c.1 ∙ c.2) in
    elim (cases_lt c.0 i) [
      | inl before ↦ omega (arith, ints, gap.before c.0 before, day)
      | inr behind ↦ omega (arith, ints, gap.behind c.0 behind c.1, day)
    ])

-- a search by halving

module _ (run : Run) (t : ℤ) (rising : IsRising run) where
  days_rise : (i j : ℕ) → i ≤ j → j < length run → (day_at run i <ℤ day_at run j) ⊎ (i ≡ j)
  days_rise i j le within = elim (cases_lt i j) [ inl lt ↦ inl (rising i j lt within) | inr ge ↦ inr (omega arith) ]

  compared_rise : IsNonDecreasingBy (λ (f : FixedDay). ordering_index (int_cmp f.day t)) run
  compared_rise = IsNonDecreasingBy-from_default (λ (f : FixedDay). ordering_index (int_cmp f.day t)) run no_day (λ i j le within.
      elim (days_rise i j le within) [
        | inl below ↦ grind (arith, ints)
        | inr same ↦ omega (arith, ap (λ (k : ℕ). ordering_index (int_cmp (day_at run k) t)) same)
      ])

  pub searched : (r : Result ℕ ℕ) → IsSearchInRange r (length run) → IsBinarySearchResult (λ (f : FixedDay). int_cmp f.day t) run r
      → IfOk r (λ i. IsOn run t i) × IfErr r (λ i. IsGapFor run t i)
  searched (Ok i) within equal = (record { within = within; day = int_ranked _ t _ (sym (equal no_day)) }, tt)
  searched (Err i) within parted = (
    tt,
    record {
      within = within;
      before = λ k lt. int_ranked _ t _ (sym ((parted compared_rise).0 k no_day (omega arith) lt));
      behind = λ k le lt. int_ranked _ t _ (sym ((parted compared_rise).1 k no_day le lt));
    },
  )

-- a day that is added in its gap

added_from : (run : Run) (t : ℤ) (v : Value) (i : ℕ) → ((j : ℕ) → j < i → day_at run j ≢ t) → (p : ℤ)
    → value_on (insert run i (fixed t v)) p ≡ (if int_eq t p then Some v else value_on run p)
added_from run t v zero other p = refl
added_from [] t v (suc i) other p = refl
added_from (f ∷ run) t v (suc i) other p =
    let rest = added_from run t v i (λ j lt. other (suc j) (omega arith)) p in
    elim (cases_Bool (int_eq f.day p)) [
      | inl here ↦
          let apart : int_eq t p ≡ false = other_days t p (λ e. other 0 (omega arith) (same_day f.day p here ∙ sym e)) in
          rw (here, apart) refl
      | inr there ↦ rw there rest
    ]

module _ (run : Run) (t : ℤ) (v : Value) (i : ℕ) (gap : IsGapFor run t i) where
  pub value_on-insert : (p : ℤ) → value_on (insert run i (fixed t v)) p ≡ (if int_eq t p then Some v else value_on run p)
  value_on-insert p = added_from run t v i (λ j lt e. omega (arith, ints, gap.before j lt, e)) p

  grown : Run
  grown = insert run i (fixed t v)

  pub rising-insert : IsRising run → IsRising (insert run i (fixed t v))
  rising-insert rising j k lt within =
      let new = insert run i (fixed t v) in
      let key = λ (x : FixedDay). x.day in
      let long = length-insert run i (fixed t v) gap.within in
      let below : (j : ℕ) → j < i → day_at new j ≡ day_at run j = λ j b. ap key (get_or-insert_below run i (fixed t v) no_day j b gap.within) in
      let here : (j : ℕ) → j ≡ i → day_at new j ≡ t = λ j h. rw h (ap key (get_or-insert_at run i (fixed t v) no_day gap.within)) in
      let above : (j : ℕ) → i < j → day_at new j ≡ day_at run (j - 1) = λ j a. subst (λ q. day_at new q ≡ day_at run (j - 1)) {x = j - 1 + 1} (omega arith) (ap key (get_or-insert_above run i (fixed t v) no_day (j - 1) (omega arith) gap.within)) in
      grind (arith, ints, below j, here j, above j, below k, here k, above k, rising j k, rising j (k - 1), rising (j - 1) (k - 1), gap.before j, gap.behind (k - 1))

-- the map that runs stand for

same_number : (a b : ℕ) → (a == b) ≡ true → a ≡ b
same_number a b h = grind (arith, nat_tests)

number_itself : (a : ℕ) → (a == a) ≡ true
number_itself a = grind (arith, nat_tests)

other_numbers : (a b : ℕ) → a ≢ b → (a == b) ≡ false
other_numbers a b h = elim (cases_Bool (a == b)) [ inl same ↦ absurd (h (same_number a b same)) | inr other ↦ other ]

held_placed : (l : ℕ) (run : Run) (rest : Environment) (q : Place) → q.label ≡ l → held rest q ≡ None → held (placed_at l run ++ rest) q ≡ value_on run q.day
held_placed l [] rest q is none = none
held_placed l (f ∷ run) rest q is none =
    let label : (l == q.label) ≡ true = rw is (number_itself l) in
    let more = held_placed l run rest q is none in
    elim (cases_Bool (int_eq f.day q.day)) [
      | inl here ↦ rw (label, here) refl
      | inr there ↦ rw (label, there) more
    ]

held_elsewhere : (l : ℕ) (run : Run) (rest : Environment) (q : Place) → l ≢ q.label → held (placed_at l run ++ rest) q ≡ held rest q
held_elsewhere l [] rest q other = refl
held_elsewhere l (f ∷ run) rest q other = rw (other_numbers l q.label other) (held_elsewhere l run rest q other)

held_below : (l : ℕ) (runs : Runs) (q : Place) → q.label < l → held (values_from l runs) q ≡ None
held_below l [] q below = refl
held_below l (run ∷ runs) q below =
    held_elsewhere l run.items (values_from (l + 1) runs) q (λ e. omega (arith, e, below)) ∙ held_below (l + 1) runs q (omega arith)

held_from : (l : ℕ) (runs : Runs) (i : ℕ) (q : Place) → q.label ≡ l + i → held (values_from l runs) q ≡ value_on (run_at runs i) q.day
held_from l [] i q is = refl
held_from l (run ∷ runs) zero q is =
    held_placed l run.items (values_from (l + 1) runs) q (omega (arith, is)) (held_below (l + 1) runs q (omega (arith, is)))
held_from l (run ∷ runs) (suc i) q is =
    held_elsewhere l run.items (values_from (l + 1) runs) q (λ e. omega (arith, e, is)) ∙ held_from (l + 1) runs i q (omega (arith, is))

-- what the map of runs holds at a place
pub held_values : (runs : Runs) (q : Place) → held (values_of runs) q ≡ value_on (run_at runs q.label) q.day
held_values runs q = held_from 0 runs q.label q (omega arith)

-- the run of a label lends its days
pub lends_run : (runs : Runs) (l : ℕ) → AreRising runs → LendsDays (values_of runs) l (run_at runs l)
lends_run runs l rising t v =
    let is = held_values runs (record { label = l; day = t }) in
    ((λ c. is ∙ found_in (run_at runs l) t v (rising l) c), (λ e. held_in (run_at runs l) t v (sym is ∙ e)))

-- the value of a day, where the run lends the map's days
pub lent_value : (env : Environment) (l : ℕ) (run : Run) (t : ℤ) → IsRising run → LendsDays env l run → value_on run t ≡ held env (record { label = l; day = t })
lent_value env l run t rising lends =
    same_options (value_on run t) (held env (record { label = l; day = t }))
    (λ v e. (lends t v).0 (held_in run t v e))
    (λ v e. found_in run t v rising ((lends t v).1 e))

pub run_of : (runs : Runs) (l : ℕ) (run : Vec FixedDay Global) → slice_get runs l ≡ Some run → run_at runs l ≡ run.items
run_of [] l run h = absurd (cc)
run_of (r ∷ runs) zero run h = let same : r ≡ run = cc in ap (λ (x : Vec FixedDay Global). x.items) same
run_of (r ∷ runs) (suc l) run h = run_of runs l run h

-- a label whose run is changed

same_suc : (l k : ℕ) → (suc l == suc k) ≡ (l == k)
same_suc l k = grind (arith, nat_tests)

pub run_set : (runs : Runs) (l : ℕ) (run : Vec FixedDay Global) (k : ℕ) → l < length runs → run_at (set runs l run) k ≡ (if l == k then run.items else run_at runs k)
run_set [] l run k h = absurd (omega (arith, h))
run_set (r ∷ runs) zero run zero h = refl
run_set (r ∷ runs) zero run (suc k) h = rw (other_numbers 0 (suc k) (λ e. omega (arith, e))) refl
run_set (r ∷ runs) (suc l) run zero h = rw (other_numbers (suc l) 0 (λ e. omega (arith, e))) refl
run_set (r ∷ runs) (suc l) run (suc k) h = rw (same_suc l k) (run_set runs l run k (omega arith))

-- runs without days are added behind the last

pub run_push : (runs : Runs) (run : Vec FixedDay Global) (k : ℕ) → run.items ≡ [] → run_at (runs ++ run ∷ []) k ≡ run_at runs k
run_push [] run zero none = none
run_push [] run (suc k) none = refl
run_push (r ∷ runs) run zero none = refl
run_push (r ∷ runs) run (suc k) none = run_push runs run k none

values_push : (l : ℕ) (runs : Runs) (run : Vec FixedDay Global) → run.items ≡ [] → values_from l (runs ++ run ∷ []) ≡ values_from l runs
values_push l [] run none = rw none refl
values_push l (r ∷ runs) run none = ap (λ (env : Environment). placed_at l r.items ++ env) (values_push (l + 1) runs run none)

pub values_of-push : (runs : Runs) (run : Vec FixedDay Global) → run.items ≡ [] → values_of (runs ++ run ∷ []) ≡ values_of runs
values_of-push runs run none = values_push 0 runs run none

pub rising-push : (runs : Runs) (run : Vec FixedDay Global) → run.items ≡ [] → AreRising runs → AreRising (runs ++ run ∷ [])
rising-push runs run none rising l = subst IsRising (sym (run_push runs run l none)) (rising l)

-- a run without days for a label that has none
pub grown_label : (runs : Runs) (l : ℕ) (run : Vec FixedDay Global) → l < length runs → IsRising run.items → AreRising runs → AreRising (set runs l run)
grown_label runs l run within rising all k = elim (cases_Bool (l == k)) [
  | inl here ↦ let is : run_at (set runs l run) k ≡ run.items = rw here at (run_set runs l run k within) in subst IsRising (sym is) rising
  | inr there ↦ let is : run_at (set runs l run) k ≡ run_at runs k = rw there at (run_set runs l run k within) in subst IsRising (sym is) (all k)
]

-- a day that is added to the run of a label is a pair that is added to the map
pub adds_pair : (runs : Runs) (l : ℕ) (run : Vec FixedDay Global) (t : ℤ) (v : Value) → l < length runs
    → ((p : ℤ) → value_on run.items p ≡ (if int_eq t p then Some v else value_on (run_at runs l) p))
    → AddsPair (values_of runs) (values_of (set runs l run)) (record { label = l; day = t }) v
adds_pair runs l run t v within added q =
    let after = held_values (set runs l run) q in
    let before = held_values runs q in
    elim (cases_Bool (l == q.label)) [
      | inl here ↦
          let same = same_number l q.label here in
          let is : run_at (set runs l run) q.label ≡ run.items = rw here at (run_set runs l run q.label within) in
          let now : held (values_of (set runs l run)) q ≡ (if int_eq t q.day then Some v else value_on (run_at runs l) q.day) = after ∙ ap (λ (r : Run). value_on r q.day) is ∙ added q.day in
          let was : value_on (run_at runs l) q.day ≡ held (values_of runs) q = ap (λ (k : ℕ). value_on (run_at runs k) q.day) same ∙ sym before in
          rw here (now ∙ ap (λ (o : Option Value). if int_eq t q.day then Some v else o) was)
      | inr there ↦
          let is : run_at (set runs l run) q.label ≡ run_at runs q.label = rw there at (run_set runs l run q.label within) in
          rw there (after ∙ ap (λ (r : Run). value_on r q.day) is ∙ sym before)
    ]

pub run_past : (runs : Runs) (l : ℕ) → length runs ≤ l → run_at runs l ≡ []
run_past [] l h = refl
run_past (r ∷ runs) zero h = absurd (omega (arith, h))
run_past (r ∷ runs) (suc l) h = run_past runs l (omega arith)

-- a run that was read at a label
pub run_read : (runs : Runs) (l : ℕ) (run : Vec FixedDay Global) → l < length runs → run ≡ get_or runs l run → run_at runs l ≡ run.items
run_read runs l run within is = run_of runs l run (slice_get_read runs (length runs) l run refl within is)

-- the value of a day in the run of a label is what the map holds
pub held_run : (runs : Runs) (env : Environment) (l : ℕ) (run : Run) → values_of runs ≡ env → run_at runs l ≡ run → (t : ℤ) → value_on run t ≡ held env (record { label = l; day = t })
held_run runs env l run view at t =
    ap (λ (r : Run). value_on r t) (sym at) ∙ sym (held_values runs (record { label = l; day = t })) ∙ ap (λ (e : Environment). held e (record { label = l; day = t })) view

pub not_on : (runs : Runs) (env : Environment) (l : ℕ) (run : Run) (t : ℤ) (i : ℕ) → values_of runs ≡ env → run_at runs l ≡ run → IsRising run → held env (record { label = l; day = t }) ≡ None → ¬ (IsOn run t i)
not_on runs env l run t i view at rising none on =
    let wrong : ◌≡◌ {A = Option Value} (Some (get_or run i no_day).value) None = sym (value_at run t i no_day rising on) ∙ held_run runs env l run view at t ∙ none in
    absurd (cc)

-- a run with the same days
values_kept : (k : ℕ) (runs : Runs) (l : ℕ) (run : Vec FixedDay Global) → l < length runs → run_at runs l ≡ run.items → values_from k (set runs l run) ≡ values_from k runs
values_kept k [] l run h is = absurd (omega (arith, h))
values_kept k (r ∷ runs) zero run h is = ap (λ (days : Run). placed_at k days ++ values_from (k + 1) runs) (sym is)
values_kept k (r ∷ runs) (suc l) run h is = ap (λ (env : Environment). placed_at k r.items ++ env) (values_kept (k + 1) runs l run (omega arith) is)

pub values_of-kept : (runs : Runs) (l : ℕ) (run : Vec FixedDay Global) → l < length runs → run_at runs l ≡ run.items → values_of (set runs l run) ≡ values_of runs
values_of-kept runs l run h is = values_kept 0 runs l run h is

pub on_err : {T E : Type 0} (P : Type 0) (r : Result T E) → P → OnErr r P
on_err P (Ok x) p = tt
on_err P (Err e) p = p

pub runs_long : (runs : Vec (Vec FixedDay Global) Global) → vec_len runs ≡ length runs.items
runs_long runs = runs.ok.0
