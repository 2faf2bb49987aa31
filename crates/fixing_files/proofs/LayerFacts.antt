-- Maps in the order of places, and maps laid over others.
use Rattle.std.proofs.Common.{◌≡◌, ◌∙◌, ℕ, zero, suc, ◌+◌, ◌-◌, ◌<◌, ◌≤◌, ◌==◌, Bool, true, false, cond, if◌then◌else◌, List, [], ◌∷◌, ◌++◌, length, get_or, map, Option, Some, None, Ok, Err, take, inl, inr, refl, sym, ap, subst, arith}
use Rattle.std.specs.Prelude.{is_some}
use Rattle.std.specs.BTreeMap.{BTreeMap, Updates, get, is_at}
use Rattle.std.specs.Cmp.{IsTotalOrder}
use Rattle.std.specs.Map.{lookup}
use Rattle.std.specs.List.Sorted.{IsBinarySearchResult, IsNonDecreasingBy, IsSearchInRange}
use Rattle.std.specs.Ordering.{int_cmp, int_eq, is_eq, is_lt, nat_cmp, ordering_index, ordering_reverse, ordering_then}
use Rattle.std.specs.declared.cmp.Ordering.{Ordering}
use Rattle.std.specs.declared.cmp.Ordering.TheVariants.{Equal, Less, Greater}
use Rattle.std.proofs.lemmas.Bool.{and_parts, cases_Bool, cases_lt}
use Rattle.std.proofs.lemmas.Bool.Decides.{Decides-int_eq, nat_tests}
use Rattle.std.proofs.lemmas.List.{get_or-take, get_or_append_left, get_or_push, length-take, length_push}
use Rattle.std.proofs.lemmas.List.Sorted.{searchable_from_sorted}
use Rattle.std.proofs.lemmas.Map.Lookups.{exact_signed, exact_unsigned}
use Rattle.term_model.specs.Environments.{Environment, Place, held, same_place, value_or}
use Rattle.term_model.specs.declared.values.Value.{Value}
use Rattle.fixing_files.specs.Layers.{AreInOrder, ComesBehind, HoldSame, entries_held, entry_held, no_entry, place_order, spot_at}
use Rattle.fixing_files.specs.Runs.{AddsPair, AddsUnlessHeld}
use Rattle.fixing_files.specs.Steps.{place_of}
use Rattle.fixing_files.specs.contracts.records.PlaceOrd.TheImpl.Laws as place_laws
use Rattle.fixing_files.specs.declared.records.Place.{Place as Spot}

-- ---- places

same_number : (a b : ℕ) → (a == b) ≡ true → a ≡ b
same_number a b h = grind (arith, nat_tests)

itself : (a : ℕ) → (a == a) ≡ true
itself a = grind (arith, nat_tests)

pub same_is : (p q : Place) → same_place p q ≡ true → p ≡ q
same_is p q h =
    let parts = and_parts (p.label == q.label) (int_eq p.day q.day) h in
    let label : p.label ≡ q.label = same_number p.label q.label parts.0 in
    let day : p.day ≡ q.day = (Decides-int_eq p.day q.day).0 parts.1 in
    λ i. record { label = label i; day = day i }

pub same_itself : (q : Place) → same_place q q ≡ true
same_itself q =
    let day : int_eq q.day q.day ≡ true = (Decides-int_eq q.day q.day).1 refl in
    rw (itself q.label, day) refl

-- ---- the order of places

pub places_total : IsTotalOrder place_order
places_total = place_laws.total-law

both_equal : (a b : Ordering) → ordering_then a b ≡ Equal → (a ≡ Equal) × (b ≡ Equal)
both_equal Less b e = absurd (cc)
both_equal Equal b e = (refl, e)
both_equal Greater b e = absurd (cc)

same_spot : (x y : Spot) → place_order x y ≡ Equal → x ≡ y
same_spot x y e =
    let two = both_equal (nat_cmp x.label y.label) (int_cmp x.day y.day) e in
    let label = exact_unsigned x.label y.label two.0 in
    let day = exact_signed x.day y.day two.1 in
    λ i. record { label = label i; day = day i }

order_itself : (a : Ordering) → a ≡ ordering_reverse a → a ≡ Equal
order_itself Less e = absurd (cc)
order_itself Equal e = refl
order_itself Greater e = absurd (cc)

equal_itself : (x : Spot) → place_order x x ≡ Equal
equal_itself x = order_itself (place_order x x) (places_total.antisymm x x)

is_equal : (o : Ordering) → is_eq o ≡ true → o ≡ Equal
is_equal Less e = absurd (cc)
is_equal Equal e = refl
is_equal Greater e = absurd (cc)

same_tests : (s t : Bool) → (s ≡ true → t ≡ true) → (t ≡ true → s ≡ true) → s ≡ t
same_tests true t f g = sym (f refl)
same_tests false true f g = g refl
same_tests false false f g = refl

-- the order tells the same places apart
order_is : (x y : Spot) → is_at (place_order x) y ≡ same_place (place_of x) (place_of y)
order_is x y = same_tests (is_eq (place_order x y)) (same_place (place_of x) (place_of y))
    (λ e. ap (λ (z : Spot). same_place (place_of z) (place_of y)) (same_spot x y (is_equal (place_order x y) e)) ∙ same_itself (place_of y))
    (λ e.
    let is : place_of x ≡ place_of y = same_is (place_of x) (place_of y) e in
    let spot : x ≡ y = λ i. record { label = (is i).label; day = (is i).day } in
    ap (λ (z : Spot). is_eq (place_order z y)) spot ∙ ap is_eq (equal_itself y))

turned : (p q : Place) → same_place p q ≡ true → same_place q p ≡ true
turned p q e = ap (λ (z : Place). same_place z p) (sym (same_is p q e)) ∙ same_itself p

order_back : (x y : Spot) → is_at (place_order x) y ≡ same_place (place_of y) (place_of x)
order_back x y = order_is x y ∙ same_tests (same_place (place_of x) (place_of y)) (same_place (place_of y) (place_of x))
    (turned (place_of x) (place_of y)) (turned (place_of y) (place_of x))

-- what is found at a place is what the map holds there
found_from : (es : List (Spot × Value)) (x : Spot) → held (map entry_held es) (place_of x) ≡ lookup (is_at (place_order x)) es
found_from [] x = refl
found_from (e ∷ es) x = rw (order_back x e.0) (ap (λ (o : Option Value). if same_place (place_of e.0) (place_of x) then Some e.1 else o) (found_from es x))

pub found_is : (m : BTreeMap Spot Value) (x : Spot) → held (entries_held m.entries) (place_of x) ≡ get place_order m x
found_is m x = found_from m.entries x

-- ---- a place more

abbrev spot_of : Place → Spot
spot_of q = record { label = q.label; day = q.day }

pub held_already : (e : Environment) (q : Place) (v : Value) → is_some (held e q) ≡ true → AddsUnlessHeld e e q v
held_already e q v there p = elim (cases_Bool (same_place q p)) [
  | inl here ↦ rw here (ap (held e) (sym (same_is q p here)) ∙ fixed (held e q) there)
  | inr other ↦ rw other refl
]
  where
    fixed : (o : Option Value) → is_some o ≡ true → o ≡ Some (value_or o v)
    fixed None h = absurd (cc)
    fixed (Some w) h = refl

pub none_unless : (o : Option Value) → is_some o ≡ false → o ≡ None
none_unless None h = refl
none_unless (Some w) h = absurd (cc)

pub none_in : (m : BTreeMap Spot Value) (x : Spot) → is_some (get place_order m x) ≡ false → held (entries_held m.entries) (place_of x) ≡ None
none_in m x absent = found_is m x ∙ none_unless (get place_order m x) absent

-- a place of a map that is set
pub held_set :
    (m n : BTreeMap Spot Value) (x : Spot) (v : Value) → Updates place_order m n x (Some v)
    → AddsPair (entries_held m.entries) (entries_held n.entries) (place_of x) v
held_set m n x v updates p =
    let after : held (entries_held n.entries) p ≡ cond (is_at (place_order x) (spot_of p)) (Some v) (get place_order m (spot_of p)) =
    found_is n (spot_of p) ∙ updates.0 (spot_of p) in
    after
    ∙ ap (λ (b : Bool). cond b (Some v) (get place_order m (spot_of p))) (order_is x (spot_of p))
    ∙ ap (λ (o : Option Value). if same_place (place_of x) p then Some v else o) (sym (found_is m (spot_of p)))

-- a pair that is added where its place is not held
pub adds_new : (before after : Environment) (q : Place) (v : Value) → held before q ≡ None → AddsPair before after q v → AddsUnlessHeld before after q v
adds_new before after q v none adds p = adds p ∙ ap (λ (o : Option Value). if same_place q p then Some (value_or o v) else held before p) (sym none)

-- ---- entries in the order of their places

abbrev Entries : Type 0
Entries = List (Spot × Value)

apart_after : (x y : Spot) → place_order x y ≡ Less → same_place (place_of x) (place_of y) ≡ false
apart_after x y h = sym (order_is x y) ∙ ap is_eq h

apart_before : (x y : Spot) → place_order x y ≡ Less → same_place (place_of y) (place_of x) ≡ false
apart_before x y h = sym (order_back x y) ∙ ap is_eq h

reversed : (x y : Spot) → place_order x y ≡ Less → place_order y x ≡ Greater
reversed x y h = places_total.antisymm y x ∙ ap ordering_reverse h

turned_back : (x y : Spot) → place_order x y ≡ Greater → place_order y x ≡ Less
turned_back x y h = places_total.antisymm y x ∙ ap ordering_reverse h

-- what an entry at a place says is what the map holds there
found_at : (es : Entries) (x : Spot) (i : ℕ) (d : Spot × Value) → AreInOrder es → i < length es → spot_at es i ≡ x → held (entries_held es) (place_of x) ≡ Some (get_or es i d).1
found_at [] x i d order within at = absurd (omega (arith, within))
found_at (e ∷ es) x zero d order within at =
    let here : same_place (place_of e.0) (place_of x) ≡ true = rw at (same_itself (place_of x)) in
    rw here refl
found_at (e ∷ es) x (suc i) d order within at =
    let before : place_order e.0 x ≡ Less = subst (λ (y : Spot). place_order e.0 y ≡ Less) at (order 0 (suc i) (omega arith) within) in
    rw (apart_after e.0 x before)
    (found_at es x i d (λ j k lt inside. order (suc j) (suc k) (omega arith) (omega arith)) (omega arith) at)

none_apart : (es : Entries) (x : Spot) → ((k : ℕ) → k < length es → same_place (place_of (spot_at es k)) (place_of x) ≡ false) → held (entries_held es) (place_of x) ≡ None
none_apart [] x h = refl
none_apart (e ∷ es) x h = rw (h 0 (omega arith)) (none_apart es x (λ k within. h (suc k) (omega arith)))

-- ---- a search by halving

pub same_entry : (es : Entries) (k : ℕ) (d e : Spot × Value) → k < length es → get_or es k d ≡ get_or es k e
same_entry [] k d e h = absurd (omega (arith, h))
same_entry (x ∷ es) zero d e h = refl
same_entry (x ∷ es) (suc k) d e h = same_entry es k d e (omega arith)

adjacent : (es : Entries) → AreInOrder es → (k : ℕ) (d : Spot × Value) → 0 ≤ k → k + 1 < length es → is_lt (place_order (get_or es (k + 1) d).0 (get_or es k d).0) ≡ false
adjacent es order k d least within =
    let same : (j : ℕ) → j < length es → (get_or es j d).0 ≡ spot_at es j = λ j lt. ap (λ (e : Spot × Value). e.0) (same_entry es j d no_entry lt) in
    let up = order k (k + 1) (omega arith) within in
    rw (same (k + 1) within, same k (omega arith)) (ap is_lt (reversed (spot_at es k) (spot_at es (k + 1)) up))

module _ (es : Entries) (x : Spot) (order : AreInOrder es) where
  compared_rise : IsNonDecreasingBy (λ (e : Spot × Value). ordering_index (place_order e.0 x)) es
  compared_rise = searchable_from_sorted places_total (λ (e : Spot × Value). e.0) es x (adjacent es order)

  pub searched_at : (i : ℕ) (d : Spot × Value) → IsSearchInRange (Ok i) (length es) → IsBinarySearchResult (λ (e : Spot × Value). place_order e.0 x) es (Ok i)
      → held (entries_held es) (place_of x) ≡ Some (get_or es i d).1
  searched_at i d within equal = found_at es x i d order within (same_spot (spot_at es i) x (equal no_entry))

  pub searched_none : (i : ℕ) → IsSearchInRange (Err i) (length es) → IsBinarySearchResult (λ (e : Spot × Value). place_order e.0 x) es (Err i)
      → held (entries_held es) (place_of x) ≡ None
  searched_none i within parted = none_apart es x (λ k inside. elim (cases_lt k i) [
    | inl before ↦ apart_after (spot_at es k) x ((parted compared_rise).0 k no_entry (omega arith) before)
    | inr behind ↦ apart_before x (spot_at es k) (turned_back (spot_at es k) x ((parted compared_rise).1 k no_entry behind inside))
  ])

  -- a place behind the last comes behind all
  comes_last : ComesBehind es x → (k : ℕ) → k < length es → place_order (spot_at es k) x ≡ Less
  comes_last behind k lt =
      let last = length es - 1 in
      let here = behind (omega (arith, lt)) in
      elim (cases_lt k last) [
        | inl front ↦ places_total.trans (spot_at es k) (spot_at es last) x (order k last front (omega (arith, lt))) here
        | inr at ↦ subst (λ (j : ℕ). place_order (spot_at es j) x ≡ Less) (omega (arith, lt, at)) here
      ]

  pub none_behind : ComesBehind es x → held (entries_held es) (place_of x) ≡ None
  none_behind behind = none_apart es x (λ k lt. apart_after (spot_at es k) x (comes_last behind k lt))

  pub one_more : (v : Value) → ComesBehind es x → AreInOrder (es ++ (x, v) ∷ [])
  one_more v behind i j lt within =
      let spot = λ (e : Spot × Value). e.0 in
      let more = es ++ (x, v) ∷ [] in
      let long = length_push es (x, v) in
      let front : (k : ℕ) → k < length es → spot_at more k ≡ spot_at es k = λ k inside. ap spot (get_or_append_left es ((x, v) ∷ []) no_entry k inside) in
      elim (cases_lt j (length es)) [
        | inl both ↦ rw (front i (omega (arith, lt, both)), front j both) (order i j lt both)
        | inr over ↦
            let last : j ≡ length es = omega (arith, long, over, within) in
            let at : spot_at more j ≡ x = ap spot (get_or_push es (x, v) no_entry j (sym last)) in
            rw (front i (omega (arith, lt, last)), at) (comes_last behind i (omega (arith, lt, last)))
      ]

-- ---- a pair at the end counts where its place is not held

pub held_after :
    (e : Environment) (q : Place) (v : Value) (p : Place)
    → held (e ++ (q, v) ∷ []) p ≡ (if same_place q p then Some (value_or (held e q) v) else held e p)
held_after [] q v p = refl
held_after (x ∷ rest) q v p = elim (cases_Bool (same_place q p)) [
  | inl here ↦
      let is : q ≡ p = same_is q p here in
      let more : held (rest ++ (q, v) ∷ []) p ≡ Some (value_or (held rest q) v) = held_after rest q v p ∙ rw here refl in
      let at : same_place x.0 q ≡ same_place x.0 p = ap (λ (z : Place). same_place x.0 z) is in
      elim (cases_Bool (same_place x.0 p)) [
        | inl found ↦ rw (here, at, found) refl
        | inr other ↦ rw (here, at, other) more
      ]
  | inr there ↦
      let more : held (rest ++ (q, v) ∷ []) p ≡ held rest p = held_after rest q v p ∙ rw there refl in
      rw there (ap (λ (o : Option Value). if same_place x.0 p then Some x.1 else o) more)
]

pub adds_last :
    (e now after : Environment) (q : Place) (v : Value) → HoldSame now e → AddsUnlessHeld now after q v
    → HoldSame after (e ++ (q, v) ∷ [])
adds_last e now after q v same adds p =
    adds p
    ∙ ap (λ (o : Option Value). if same_place q p then Some (value_or o v) else held now p) (same q)
    ∙ ap (λ (o : Option Value). if same_place q p then Some (value_or (held e q) v) else o) (same p)
    ∙ sym (held_after e q v p)

-- an entry more
entries_more : (es : List (Spot × Value)) (e : Spot × Value) → map entry_held (es ++ e ∷ []) ≡ map entry_held es ++ entry_held e ∷ []
entries_more [] e = refl
entries_more (x ∷ es) e = ap (λ (more : Environment). entry_held x ∷ more) (entries_more es e)

pub adds_entry :
    (es : List (Spot × Value)) (now after : Environment) (e : Spot × Value) → HoldSame now (map entry_held es)
    → AddsUnlessHeld now after (place_of e.0) e.1 → HoldSame after (map entry_held (es ++ e ∷ []))
adds_entry es now after e same adds p =
    adds_last (map entry_held es) now after (place_of e.0) e.1 same adds p
    ∙ ap (λ (more : Environment). held more p) (sym (entries_more es e))

-- ---- one map over another

pub held_above : (e more : Environment) (q : Place) (v : Value) → held e q ≡ Some v → held (e ++ more) q ≡ Some v
held_above [] more q v h = absurd (cc)
held_above (x ∷ e) more q v h = elim (cases_Bool (same_place x.0 q)) [
  | inl here ↦ rw here (rw here at h)
  | inr there ↦ rw there (held_above e more q v (rw there at h))
]

pub held_below : (e more : Environment) (q : Place) → held e q ≡ None → held (e ++ more) q ≡ held more q
held_below [] more q h = refl
held_below (x ∷ e) more q h = elim (cases_Bool (same_place x.0 q)) [
  | inl here ↦ let wrong : ◌≡◌ {A = Option Value} (Some x.1) None = rw here at h in absurd (cc)
  | inr there ↦ rw there (held_below e more q (rw there at h))
]

-- ---- a place more in one of two layers

held_front : (a b : Environment) (p : Place) (o : Option Value) → held a p ≡ o → held (a ++ b) p ≡ (elim o [ Some v ↦ Some v | None ↦ held b p ])
held_front a b p (Some v) h = held_above a b p v h
held_front a b p None h = held_below a b p h

pub held_in_back : (a b : Environment) (q : Place) → is_some (held b q) ≡ true → is_some (held (a ++ b) q) ≡ true
held_in_back a b q there = ap is_some (held_front a b q (held a q) refl) ∙ either (held a q)
  where
    either : (o : Option Value) → is_some (elim o [ Some v ↦ Some v | None ↦ held b q ]) ≡ true
    either (Some v) = refl
    either None = there

pub held_in_front : (a b : Environment) (q : Place) → is_some (held a q) ≡ true → is_some (held (a ++ b) q) ≡ true
held_in_front a b q there = ap is_some (held_front a b q (held a q) refl) ∙ first (held a q) there
  where
    first : (o : Option Value) → is_some o ≡ true → is_some (elim o [ Some v ↦ Some v | None ↦ held b q ]) ≡ true
    first (Some v) h = refl
    first None h = absurd (cc)

-- a pair that is added to what counts first, or to what counts then
pair_front : (a after b : Environment) (q : Place) (v : Value) → AddsPair a after q v → AddsPair (a ++ b) (after ++ b) q v
pair_front a after b q v adds p = elim (cases_Bool (same_place q p)) [
  | inl here ↦
      let is : held after p ≡ Some v = adds p ∙ rw here refl in
      rw here (held_above after b p v is)
  | inr there ↦
      let is : held after p ≡ held a p = adds p ∙ rw there refl in
      rw there (held_front after b p (held a p) is ∙ sym (held_front a b p (held a p) refl))
]

pub pair_back : (a b after : Environment) (q : Place) (v : Value) → held a q ≡ None → AddsPair b after q v → AddsPair (a ++ b) (a ++ after) q v
pair_back a b after q v none adds p = elim (cases_Bool (same_place q p)) [
  | inl here ↦
      let at : held a p ≡ None = ap (held a) (sym (same_is q p here)) ∙ none in
      let is : held after p ≡ Some v = adds p ∙ rw here refl in
      rw here (held_below a after p at ∙ is)
  | inr there ↦
      let is : held after p ≡ held b p = adds p ∙ rw there refl in
      rw there (held_front a after p (held a p) refl ∙ ap (λ (o : Option Value). elim (held a p) [ Some w ↦ Some w | None ↦ o ]) is ∙ sym (held_front a b p (held a p) refl))
]

-- a pair at the end, of a place that is not held before
pair_last : (e : Environment) (q : Place) (v : Value) → held e q ≡ None → AddsPair e (e ++ (q, v) ∷ []) q v
pair_last e q v none p = held_after e q v p ∙ ap (λ (o : Option Value). if same_place q p then Some (value_or o v) else held e p) none

pair_more : (es : Entries) (b : Environment) (x : Spot) (v : Value) → held (entries_held es) (place_of x) ≡ None
    → AddsPair (entries_held es ++ b) (entries_held (es ++ (x, v) ∷ []) ++ b) (place_of x) v
pair_more es b x v none =
    let q = place_of x in
    pair_front (entries_held es) (entries_held (es ++ (x, v) ∷ [])) b q v
    (subst (λ (e : Environment). AddsPair (entries_held es) e q v) (sym (entries_more es (x, v))) (pair_last (entries_held es) q v none))

-- a place behind the others, added at the end
pub adds_behind : (es : Entries) (b : Environment) (x : Spot) (v : Value) → AreInOrder es → ComesBehind es x → held b (place_of x) ≡ None
    → AddsUnlessHeld (entries_held es ++ b) (entries_held (es ++ (x, v) ∷ []) ++ b) (place_of x) v
adds_behind es b x v order behind below =
    let none = none_behind es x order behind in
    adds_new (entries_held es ++ b) _ (place_of x) v (held_below (entries_held es) b (place_of x) none ∙ below) (pair_more es b x v none)

-- an entry of places in their order is not held before it
none_yet : (es : Entries) (i : ℕ) (e : Spot × Value) → AreInOrder es → i < length es → spot_at es i ≡ e.0 → held (entries_held (take i es)) (place_of e.0) ≡ None
none_yet es i e order within at = none_apart (take i es) e.0 (λ k inside.
    let lt : k < i = omega (arith, length-take i es, inside, within) in
    let same : spot_at (take i es) k ≡ spot_at es k = ap (λ (y : Spot × Value). y.0) (get_or-take i es k no_entry lt) in
    rw same (apart_after (spot_at es k) e.0 (subst (λ (y : Spot). place_order (spot_at es k) y ≡ Less) at (order k i lt within))))

-- the entries up to one more, each set in a map
pub joins_more : (es : Entries) (i : ℕ) (e : Spot × Value) (b now after : Environment) → AreInOrder es → i < length es → spot_at es i ≡ e.0 → take (i + 1) es ≡ take i es ++ e ∷ []
    → HoldSame now (entries_held (take i es) ++ b) → AddsPair now after (place_of e.0) e.1 → HoldSame after (entries_held (take (i + 1) es) ++ b)
joins_more es i e b now after order within at more same adds p =
    adds p
    ∙ ap (λ (o : Option Value). if same_place (place_of e.0) p then Some e.1 else o) (same p)
    ∙ sym (pair_more (take i es) b e.0 e.1 (none_yet es i e order within at) p)
    ∙ ap (λ (l : Entries). held (entries_held l ++ b) p) (sym more)
