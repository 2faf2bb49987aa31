-- An accumulator that adds the same range on each day moves its end points by as much on each. So all days fit where the
-- last one does.
use Rattle.std.proofs.Common.{◌≡◌, ◌≢◌, ℕ, zero, suc, ◌+◌, ◌-◌, ◌*◌, ◌^◌, ◌≤◌, ◌<◌, ◌==◌, max, ℤ, pos, negsuc, ◌+ℤ◌, ◌-ℤ◌, ◌*ℤ◌, neg_ℤ, ◌≤ℤ◌, ◌⊎◌, inl, inr, Bool, true, false, ◌||◌, not, unsigned_abs, List, ◌∷◌, slice_get, Option, Some, None, Result, Ok, Err, refl, ap, ap₂, sym, subst, ◌∙◌, arith}
use Rattle.std.proofs.lemmas.Bool.{and_parts, cases_Bool, eq-eqb, eqb-true, not-true, or_cases, or_parts}
use Rattle.std.proofs.lemmas.Int.{ints}
use Rattle.std.proofs.lemmas.Nat.{mul-le}
use Rattle.std.proofs.Math.IntN.{*ℤ-zero}
use Rattle.decimal.specs.Rounding.{raised}
use Rattle.term_model.specs.Declarations.{Declarations}
use Rattle.term_model.specs.declared.values.Kind.{Kind}
use Rattle.term_model.specs.declared.values.Kind.TheVariants.{Number}
use Rattle.term_model.specs.declared.terms.NumOp.{NumOp}
use Rattle.term_model.specs.declared.terms.NumOp.TheVariants.{Plus, Minus, Times, Min, Max}
use Rattle.term_model.specs.Terms.{Expression, Lit, Yes, Var, Obs, Neg, Num, Cmp, Not, Logic, Cond, Widen, Round, Div, Acc}
use Rattle.term_model.specs.Kinds.{scale_of_kind}
use Rattle.term_model.specs.Sizes.{nodes}
use Rattle.term_model.specs.Bounds.{Interval, Range, fits, lifted, aligned, on_intervals}
use Rattle.term_model.proofs.Products.{mul_suc, neg-mul}
use Rattle.term_core.specs.Trying.{then_do, moved as later}
use Rattle.interval_check.specs.Intervals.{fitting, EndsFit}
use Rattle.interval_check.specs.Ranges.{IsFit, range}
use Rattle.interval_check.specs.RangeTrials.{Answer, Operands, Shared, aligned_both, both_fit, combined, compared, day_tried, days_tried, either, named, negated, operands, quotient, range_or_truth, range_tried, ranged, rounded, scale_in, truth, widened}
use Rattle.interval_check.specs.declared.ranges.Range.{Range as Found}
use Rattle.interval_check.specs.Steady.{IsAfterDays, TellsDays, adds_alike, is_added, is_own, moved, uses}
use Rattle.interval_check.proofs.Accumulation.{days_stop}
use Rattle.interval_check.proofs.IntervalFacts.{same_ends, both_small}
use Rattle.interval_check.proofs.TestFacts.{ends_fit}
use Rattle.std.specs.Prelude.{IfSome}

-- ---- what does not use a name is tried alike, whatever the name's range

-- all names but one have the same ranges
abbrev AgreeBut : ℕ → List Range → List Range → Type 0
AgreeBut k g h = (back : ℕ) → back ≢ k → slice_get g back ≡ slice_get h back

under : (k : ℕ) (r : Range) (g h : List Range) → AgreeBut k g h → AgreeBut (k + 1) (r ∷ g) (r ∷ h)
under k r g h same zero other = refl
under k r g h same (suc back) other = same back (λ e. other (ap suc e ∙ omega arith))

own_apart : (back k : ℕ) → (back == k) ≡ false → back ≢ k
own_apart back k h e = let same : (back == k) ≡ true = eq-eqb back k e in absurd (cc)

pair : (n : ℕ) (a a' b b' : Answer) → a ≡ a' → b ≡ b' → operands n a b ≡ operands n a' b'
pair n a a' b b' p q = ap₂ (λ (x y : Answer). operands n x y) p q

pub tried_alike : (d : Declarations) (e : Expression) (k : ℕ) (g h : List Range) → uses k e ≡ false → AgreeBut k g h → range_tried d e g ≡ range_tried d e h
tried_alike d (Lit m s) k g h free same = refl
tried_alike d (Yes b) k g h free same = refl
tried_alike d (Var back) k g h free same = ap (λ (o : Option Range). named (range_or_truth o)) (same back (own_apart back k free))
tried_alike d (Obs l t) k g h free same = refl
tried_alike d (Neg e) k g h free same = ap (λ (a : Answer). then_do (later 1 a) negated) (tried_alike d e k g h free same)
tried_alike d (Num op a b) k g h free same =
    let p = or_parts (uses k a) (uses k b) free in
    ap (λ (o : Result Operands ℕ). then_do o (λ p. combined op p.left p.right)) (pair (nodes a) _ _ _ _ (tried_alike d a k g h p.0 same) (tried_alike d b k g h p.1 same))
tried_alike d (Cmp op a b) k g h free same =
    let p = or_parts (uses k a) (uses k b) free in
    ap (λ (o : Result Operands ℕ). then_do o (λ p. compared p.left p.right)) (pair (nodes a) _ _ _ _ (tried_alike d a k g h p.0 same) (tried_alike d b k g h p.1 same))
tried_alike d (Not e) k g h free same = ap (λ (a : Answer). then_do (later 1 a) (λ _. Ok truth)) (tried_alike d e k g h free same)
tried_alike d (Logic op a b) k g h free same =
    let p = or_parts (uses k a) (uses k b) free in
    ap (λ (o : Result Operands ℕ). then_do o (λ _. Ok truth)) (pair (nodes a) _ _ _ _ (tried_alike d a k g h p.0 same) (tried_alike d b k g h p.1 same))
tried_alike d (Cond t a b) k g h free same =
    let p = or_parts (uses k t) (uses k a || uses k b) free in
    let q = or_parts (uses k a) (uses k b) p.1 in
    ap₂ (λ (x : Answer) (o : Result Operands ℕ). then_do (later 1 x) (λ _. then_do (later (nodes t) o) (λ p. either p.left p.right))) (tried_alike d t k g h p.0 same) (pair (nodes a) _ _ _ _ (tried_alike d a k g h q.0 same) (tried_alike d b k g h q.1 same))
tried_alike d (Widen s e) k g h free same = ap (λ (a : Answer). then_do (later 1 a) (widened (Number s))) (tried_alike d e k g h free same)
tried_alike d (Round mode s e) k g h free same = ap (λ (a : Answer). then_do (later 1 a) (rounded mode s)) (tried_alike d e k g h free same)
tried_alike d (Div mode s a b) k g h free same =
    let p = or_parts (uses k a) (uses k b) free in
    ap (λ (o : Result Operands ℕ). then_do o (λ p. quotient mode s p.left p.right)) (pair (nodes a) _ _ _ _ (tried_alike d a k g h p.0 same) (tried_alike d b k g h p.1 same))
tried_alike d (Acc body n first) k g h free same =
    let p = or_parts (uses (k + 1) body) (uses k first) free in
    ap₂ (λ (a : Answer) (step : Range → Answer). then_do (later (1 + nodes body) a) (λ r. days_tried n step r)) (tried_alike d first k g h p.1 same)
    (λ i r. then_do (later 1 (tried_alike d body (k + 1) (r ∷ g) (r ∷ h) p.0 (under k r g h same) i)) (widened r.kind))

but_first : (r q : Range) (g : List Range) → AgreeBut 0 (r ∷ g) (q ∷ g)
but_first r q g zero other = absurd (other refl)
but_first r q g (suc back) other = refl

-- ---- one day

-- an interval whose end points move
abbrev shifted : ℤ → ℤ → Interval → Interval
shifted low high i = record { low = i.low +ℤ low; high = i.high +ℤ high }

-- every day moves the end points alike, as long as they are mantissas
record MovesAlike (step : Range → Answer) (k : Kind) (low high : ℤ) : Type 0 where
  day : (r : Range) → r.kind ≡ k → IsFit r → EndsFit (shifted low high r.interval) → step r ≡ Ok (record { interval = shifted low high r.interval; kind = k })

unraised : (m : ℤ) (k : ℕ) → k ≡ 0 → raised m k ≡ m
unraised m k e = ap (λ (n : ℕ). raised m n) e ∙ omega (arith, ints)

stays_at : (n : ℕ) (i : Interval) → n ≡ 0 → unsigned_abs i.low ≤ 10 ^ 37 → unsigned_abs i.high ≤ 10 ^ 37 → fitting (lifted (λ m. raised m n) i) ≡ Some i
stays_at n i none low high = ap fitting (same_ends _ _ _ _ (unraised i.low n none) (unraised i.high n none)) ∙ both_small i low high

-- two intervals that were brought to one scale, and what was made of them
record Made (o u : Option Interval) (f : Interval → Interval → Interval) (k : Kind) (r : Range) : Type 0 where
  left : Interval
  right : Interval
  left_is : o ≡ Some left
  right_is : u ≡ Some right
  interval : f left right ≡ r.interval
  kind : k ≡ r.kind

ranged_is : (i : Interval) (k : Kind) (r : Range) → ranged (fitting i) k ≡ Ok r → (i ≡ r.interval) × (k ≡ r.kind)
ranged_is i k r h = elim (cases_Bool (fits i)) [
  | inl fit ↦
      let one : ◌≡◌ {A = Answer} (Ok (record { interval = i; kind = k })) (Ok r) = rw fit at h in
      let same : ◌≡◌ {A = Range} (record { interval = i; kind = k }) r = cc in
      (ap (λ (x : Range). x.interval) same, ap (λ (x : Range). x.kind) same)
  | inr other ↦ let wrong : ◌≡◌ {A = Answer} (Err 0) (Ok r) = rw other at h in absurd (cc)
]

made_of : (o u : Option Interval) (f : Interval → Interval → Interval) (k : Kind) (r : Range) → then_do (both_fit o u) (λ p. ranged (fitting (f p.left p.right)) k) ≡ Ok r → Made o u f k r
made_of None u f k r h = absurd (cc)
made_of (Some i) None f k r h = absurd (cc)
made_of (Some i) (Some j) f k r h =
    let is = ranged_is (f i j) k r h in
    record { left = i; right = j; left_is = refl; right_is = refl; interval = is.0; kind = is.1 }

-- the same operator on another range of the same kind
abbrev brought : (Interval → Interval → Interval) → Range → Range → Kind → Answer
brought f r t k = then_do (aligned_both r t) (λ p. ranged (fitting (f p.left p.right)) k)

fitting_is : (i : Interval) → EndsFit i → fitting i ≡ Some i
fitting_is i h = both_small i h.low h.high

-- an operator that moves the end points of its first operand
abbrev Moves : (Interval → Interval → Interval) → Type 0
Moves f = (i j k : Interval) → f k j ≡ shifted ((f i j).low -ℤ i.low) ((f i j).high -ℤ i.high) k

module _ (f : Interval → Interval → Interval) (moves : Moves f) (start t next : Range) (k : Kind) (fit : IsFit start)
    (scale : scale_of_kind k ≡ max (scale_in start) (scale_in t)) (is : brought f start t k ≡ Ok next) (same : next.kind ≡ start.kind) where
  made : Made (fitting (aligned (scale_in start) (scale_in t) start.interval)) (fitting (aligned (scale_in t) (scale_in start) t.interval)) f k next
  made = made_of (fitting (aligned (scale_in start) (scale_in t) start.interval)) (fitting (aligned (scale_in t) (scale_in start) t.interval)) f k next is

  kinds : k ≡ start.kind
  kinds = made.kind ∙ same

  greatest : max (scale_in start) (scale_in t) ≡ scale_in start
  greatest = sym scale ∙ ap (λ (j : Kind). scale_of_kind j) kinds

  none : max (scale_in start) (scale_in t) - scale_in start ≡ 0
  none = let e = greatest in omega arith

  own : made.left ≡ start.interval
  own = let e : ◌≡◌ {A = Option Interval} (Some made.left) (Some start.interval) = sym made.left_is ∙ stays_at (max (scale_in start) (scale_in t) - scale_in start) start.interval none fit.low fit.high in cc

  moved_by : (r : Range) → f r.interval made.right ≡ shifted (next.interval.low -ℤ start.interval.low) (next.interval.high -ℤ start.interval.high) r.interval
  moved_by r =
      let e : f start.interval made.right ≡ next.interval = ap (λ (i : Interval). f i made.right) (sym own) ∙ made.interval in
      moves start.interval made.right r.interval
      ∙ ap (λ (i : Interval). shifted (i.low -ℤ start.interval.low) (i.high -ℤ start.interval.high) r.interval) e

  brought_alike : (r : Range) → r.kind ≡ start.kind → IsFit r → EndsFit (shifted (next.interval.low -ℤ start.interval.low) (next.interval.high -ℤ start.interval.high) r.interval)
      → brought f r t k ≡ Ok (record { interval = shifted (next.interval.low -ℤ start.interval.low) (next.interval.high -ℤ start.interval.high) r.interval; kind = start.kind })
  brought_alike r kind small ends =
      let to = shifted (next.interval.low -ℤ start.interval.low) (next.interval.high -ℤ start.interval.high) r.interval in
      let scales : scale_in r ≡ scale_in start = ap (λ (j : Kind). scale_of_kind j) kind in
      let left : fitting (aligned (scale_in r) (scale_in t) r.interval) ≡ Some r.interval = stays_at (max (scale_in r) (scale_in t) - scale_in r) r.interval (ap (λ (n : ℕ). max n (scale_in t) - n) scales ∙ none) small.low small.high in
      let right : fitting (aligned (scale_in t) (scale_in r) t.interval) ≡ Some made.right = ap (λ (n : ℕ). fitting (aligned (scale_in t) n t.interval)) scales ∙ made.right_is in
      let both : aligned_both r t ≡ Ok (record { left = r.interval; right = made.right }) = ap₂ both_fit left right in
      ap (λ (o : Result Shared ℕ). then_do o (λ p. ranged (fitting (f p.left p.right)) k)) both
      ∙ ap (λ (i : Interval). ranged (fitting i) k) (moved_by r)
      ∙ ap (λ (o : Option Interval). ranged o k) (fitting_is to ends)
      ∙ ap (λ (j : Kind). Ok (record { interval = to; kind = j })) kinds

-- an operator that brings its operands to one scale moves the first of them

plus_moves : Moves (on_intervals Plus)
plus_moves i j k = same_ends _ _ _ _ (omega (arith, ints)) (omega (arith, ints))

minus_moves : Moves (on_intervals Minus)
minus_moves i j k = same_ends _ _ _ _ (omega (arith, ints)) (omega (arith, ints))

-- what a body is tried as, among names, where its accumulator's name has a range and the rest answers alike
record AddsOne (d : Declarations) (body : Expression) (g : List Range) : Type 0 where
  on : Interval → Interval → Interval
  moves : Moves on
  place : ℕ
  rest : Answer
  tried : (r : Range) → IsFit r → range_tried d body (r ∷ g) ≡ then_do (later place rest) (λ t. brought on r t (Number (max (scale_in r) (scale_in t))))

named_is : (r : Range) → IsFit r → named r ≡ Ok r
named_is r fit = ap (λ (o : Option Interval). ranged o r.kind) (both_small r.interval fit.low fit.high)

own_first : (n : ℕ) (go : Range → Range → Answer) (r : Range) (a : Answer) → then_do (operands n (Ok r) a) (λ p. go p.left p.right) ≡ then_do (later (1 + n) a) (λ t. go r t)
own_first n go r (Ok t) = refl
own_first n go r (Err j) = refl

own_second : (n : ℕ) (go : Range → Range → Answer) (r : Range) (a : Answer) → then_do (operands n a (Ok r)) (λ p. go p.left p.right) ≡ then_do (later 1 a) (λ t. go t r)
own_second n go r (Ok t) = refl
own_second n go r (Err j) = refl

left_adds : (d : Declarations) (op : NumOp) (on : Interval → Interval → Interval) (a b : Expression) (g : List Range) (q : Range) → ((r t : Range) → combined op r t ≡ brought on r t (Number (max (scale_in r) (scale_in t))))
    → Moves on → a ≡ Var 0 → uses 0 b ≡ false → AddsOne d (Num op a b) g
left_adds d op on a b g q form moves own free =
    record {
      on = on;
      moves = moves;
      place = 1 + nodes (Var 0);
      rest = range_tried d b (q ∷ g);
      tried = λ r fit.
          ap (λ (e : Expression). range_tried d (Num op e b) (r ∷ g)) own
          ∙ ap₂ (λ (x y : Answer). then_do (operands (nodes (Var 0)) x y) (λ p. combined op p.left p.right)) (named_is r fit) (tried_alike d b 0 (r ∷ g) (q ∷ g) free (but_first r q g))
          ∙ own_first (nodes (Var 0)) (combined op) r (range_tried d b (q ∷ g))
          ∙ ap (λ (go : Range → Answer). then_do (later (1 + nodes (Var 0)) (range_tried d b (q ∷ g))) go) (λ i t. form r t i);
    }

turned : (o u : Option Interval) (k : Kind) → then_do (both_fit o u) (λ p. ranged (fitting (on_intervals Plus p.left p.right)) k) ≡ then_do (both_fit u o) (λ p. ranged (fitting (on_intervals Plus p.left p.right)) k)
turned None None k = refl
turned None (Some j) k = refl
turned (Some i) None k = refl
turned (Some i) (Some j) k = ap (λ (x : Interval). ranged (fitting x) k) (same_ends (i.low +ℤ j.low) (i.high +ℤ j.high) (j.low +ℤ i.low) (j.high +ℤ i.high) (omega (arith, ints)) (omega (arith, ints)))

plus_turned : (r t : Range) → combined Plus t r ≡ brought (on_intervals Plus) r t (Number (max (scale_in r) (scale_in t)))
plus_turned r t =
    let scales : max (scale_in t) (scale_in r) ≡ max (scale_in r) (scale_in t) = omega arith in
    turned (fitting (aligned (scale_in t) (scale_in r) t.interval)) (fitting (aligned (scale_in r) (scale_in t) r.interval)) (Number (max (scale_in t) (scale_in r))) ∙ ap (λ (n : ℕ). brought (on_intervals Plus) r t (Number n)) scales

right_adds : (d : Declarations) (a b : Expression) (g : List Range) (q : Range) → b ≡ Var 0 → uses 0 a ≡ false → AddsOne d (Num Plus a b) g
right_adds d a b g q own free =
    record {
      on = on_intervals Plus;
      moves = plus_moves;
      place = 1;
      rest = range_tried d a (q ∷ g);
      tried = λ r fit.
          ap (λ (e : Expression). range_tried d (Num Plus a e) (r ∷ g)) own
          ∙ ap₂ (λ (x y : Answer). then_do (operands (nodes a) x y) (λ p. combined Plus p.left p.right)) (tried_alike d a 0 (r ∷ g) (q ∷ g) free (but_first r q g)) (named_is r fit)
          ∙ own_second (nodes a) (combined Plus) r (range_tried d a (q ∷ g))
          ∙ ap (λ (go : Range → Answer). then_do (later 1 (range_tried d a (q ∷ g))) go) (λ i t. plus_turned r t i);
    }

own_is : (e : Expression) → is_own e ≡ true → e ≡ Var 0
own_is (Var back) h = ap (λ (n : ℕ). Var n) (eqb-true back 0 h)
own_is (Lit m s) h = absurd (cc)
own_is (Yes b) h = absurd (cc)
own_is (Obs l t) h = absurd (cc)
own_is (Neg e) h = absurd (cc)
own_is (Num op a b) h = absurd (cc)
own_is (Cmp op a b) h = absurd (cc)
own_is (Not e) h = absurd (cc)
own_is (Logic op a b) h = absurd (cc)
own_is (Cond t a b) h = absurd (cc)
own_is (Widen s e) h = absurd (cc)
own_is (Round mode s e) h = absurd (cc)
own_is (Div mode s a b) h = absurd (cc)
own_is (Acc body n first) h = absurd (cc)

added_is : (own other : Expression) → is_added own other ≡ true → (own ≡ Var 0) × (uses 0 other ≡ false)
added_is own other h =
    let p = and_parts (is_own own) (not (uses 0 other)) h in
    (own_is own p.0, not-true (uses 0 other) p.1)

adds_one : (d : Declarations) (body : Expression) (g : List Range) (q : Range) → adds_alike body ≡ true → AddsOne d body g
adds_one d (Num Plus a b) g q h = elim (or_cases (is_added a b) (is_added b a) h) [
  | inl left ↦ let p = added_is a b left in left_adds d Plus (on_intervals Plus) a b g q (λ r t. refl) plus_moves p.0 p.1
  | inr right ↦ let p = added_is b a right in right_adds d a b g q p.0 p.1
]
adds_one d (Num Minus a b) g q h = let p = added_is a b h in left_adds d Minus (on_intervals Minus) a b g q (λ r t. refl) minus_moves p.0 p.1
adds_one d (Num Times a b) g q h = absurd (cc)
adds_one d (Num Min a b) g q h = absurd (cc)
adds_one d (Num Max a b) g q h = absurd (cc)
adds_one d (Lit m s) g q h = absurd (cc)
adds_one d (Yes b) g q h = absurd (cc)
adds_one d (Var back) g q h = absurd (cc)
adds_one d (Obs l t) g q h = absurd (cc)
adds_one d (Neg e) g q h = absurd (cc)
adds_one d (Cmp op a b) g q h = absurd (cc)
adds_one d (Not e) g q h = absurd (cc)
adds_one d (Logic op a b) g q h = absurd (cc)
adds_one d (Cond t a b) g q h = absurd (cc)
adds_one d (Widen s e) g q h = absurd (cc)
adds_one d (Round mode s e) g q h = absurd (cc)
adds_one d (Div mode s a b) g q h = absurd (cc)
adds_one d (Acc body n first) g q h = absurd (cc)

later_ok : (n : ℕ) (a : Answer) (r : Range) → later n a ≡ Ok r → a ≡ Ok r
later_ok n (Ok x) r h = h
later_ok n (Err j) r h = absurd (cc)

abbrev day_of : Declarations → Expression → List Range → Range → Answer
day_of d body g = day_tried (λ h. range_tried d body h) g

widens : (r x : Range) → x.kind ≡ r.kind → EndsFit x.interval → widened r.kind x ≡ Ok (record { interval = x.interval; kind = r.kind })
widens r x kind ends =
    let none : scale_of_kind r.kind - scale_in x ≡ 0 = (let e = ap (λ (k : Kind). scale_of_kind k) kind in omega arith) in
    ap (λ (o : Option Interval). ranged o r.kind) (stays_at (scale_of_kind r.kind - scale_in x) x.interval none ends.low ends.high)

moves_alike : (d : Declarations) (body : Expression) (g : List Range) (start next : Range) (is : AddsOne d body g) (rest : Answer) → is.rest ≡ rest → IsFit start → range_tried d body (start ∷ g) ≡ Ok next → next.kind ≡ start.kind
    → MovesAlike (day_of d body g) start.kind (next.interval.low -ℤ start.interval.low) (next.interval.high -ℤ start.interval.high)
moves_alike d body g start next is (Err j) answers fit first same =
    let go : Range → Answer = λ t. brought is.on start t (Number (max (scale_in start) (scale_in t))) in
    let wrong : ◌≡◌ {A = Answer} (Err (is.place + j)) (Ok next) = ap (λ (a : Answer). then_do (later is.place a) go) (sym answers) ∙ sym (is.tried start fit) ∙ first in
    absurd (cc)
moves_alike d body g start next is (Ok t) answers fit first same =
    let k = Number (max (scale_in start) (scale_in t)) in
    let low = next.interval.low -ℤ start.interval.low in
    let high = next.interval.high -ℤ start.interval.high in
    let here : brought is.on start t k ≡ Ok next =
    ap (λ (a : Answer). then_do (later is.place a) (λ u. brought is.on start u (Number (max (scale_in start) (scale_in u))))) (sym answers) ∙ sym (is.tried start fit) ∙ first in
    record {
      day = λ r kind small ends.
          let scales : scale_in r ≡ scale_in start = ap (λ (j : Kind). scale_of_kind j) kind in
          let x : Range = record { interval = shifted low high r.interval; kind = start.kind } in
          let tried : range_tried d body (r ∷ g) ≡ Ok x =
          is.tried r small
          ∙ ap (λ (a : Answer). then_do (later is.place a) (λ u. brought is.on r u (Number (max (scale_in r) (scale_in u))))) answers
          ∙ ap (λ (n : ℕ). brought is.on r t (Number (max n (scale_in t)))) scales
          ∙ brought_alike is.on is.moves start t next k fit refl here same r kind small ends in
          ap (λ (a : Answer). then_do (later 1 a) (widened r.kind)) tried
          ∙ widens r x (sym kind) ends
          ∙ ap (λ (j : Kind). Ok (record { interval = shifted low high r.interval; kind = j })) kind;
    }

-- ---- all days

grows : (m : ℤ) (i n : ℕ) → i ≤ n → ((pos 0 ≤ℤ (m *ℤ pos i)) × ((m *ℤ pos i) ≤ℤ (m *ℤ pos n))) ⊎ (((m *ℤ pos n) ≤ℤ (m *ℤ pos i)) × ((m *ℤ pos i) ≤ℤ pos 0))
grows (pos a) i n h =
    let le : a * i ≤ a * n = mul-le a i a n (omega arith) h in
    inl (omega (arith, ints), omega (arith, ints))
grows (negsuc a) i n h =
    let le : suc a * i ≤ suc a * n = mul-le (suc a) i (suc a) n (omega arith) h in
    let x : negsuc a *ℤ pos i ≡ neg_ℤ (pos (suc a * i)) = neg-mul (pos (suc a)) (pos i) in
    let y : negsuc a *ℤ pos n ≡ neg_ℤ (pos (suc a * n)) = neg-mul (pos (suc a)) (pos n) in
    inr (omega (arith, ints), omega (arith, ints))

small_up : (s x y : ℤ) (most : ℕ) → pos 0 ≤ℤ x → x ≤ℤ y → unsigned_abs s ≤ most → unsigned_abs (s +ℤ y) ≤ most → unsigned_abs (s +ℤ x) ≤ most
small_up s x y most above below first last = omega (arith, ints)

small_down : (s x y : ℤ) (most : ℕ) → y ≤ℤ x → x ≤ℤ pos 0 → unsigned_abs s ≤ most → unsigned_abs (s +ℤ y) ≤ most → unsigned_abs (s +ℤ x) ≤ most
small_down s x y most above below first last = omega (arith, ints)

small_on_the_way : (s m : ℤ) (i n most : ℕ) → i ≤ n → unsigned_abs s ≤ most → unsigned_abs (s +ℤ m *ℤ pos n) ≤ most → unsigned_abs (s +ℤ m *ℤ pos i) ≤ most
small_on_the_way s m i n most h first last = elim (grows m i n h) [
  | inl up ↦ small_up s (m *ℤ pos i) (m *ℤ pos n) most up.0 up.1 first last
  | inr down ↦ small_down s (m *ℤ pos i) (m *ℤ pos n) most down.0 down.1 first last
]

-- the end points after n days
abbrev after : ℤ → ℤ → Interval → ℕ → Interval
after low high i n = record { low = i.low +ℤ low *ℤ pos n; high = i.high +ℤ high *ℤ pos n }

same_range : (i j : Interval) (k l : Kind) → i ≡ j → k ≡ l → ◌≡◌ {A = Range} (record { interval = i; kind = k }) (record { interval = j; kind = l })
same_range i j k l p q = ap₂ (λ (x : Interval) (y : Kind). record { interval = x; kind = y }) p q

none_yet : (s m : ℤ) → s ≡ s +ℤ m *ℤ pos 0
none_yet s m = let e = *ℤ-zero m in omega (arith, ints)

one_more : (s m : ℤ) (i : ℕ) → s +ℤ m *ℤ pos i +ℤ m ≡ s +ℤ m *ℤ pos (suc i)
one_more s m i = let e = mul_suc m i in omega (arith, ints)

all_days : (step : Range → Answer) (k : Kind) (low high : ℤ) (start : Range) (n i : ℕ) → MovesAlike step k low high → start.kind ≡ k → IsFit start → EndsFit (after low high start.interval n) → i ≤ n
    → days_tried i step start ≡ Ok (record { interval = after low high start.interval i; kind = k })
all_days step k low high start n zero moves kind fit ends h =
    ap (λ (r : Range). Ok r) (same_range _ _ _ _ (same_ends _ _ _ _ (none_yet start.interval.low low) (none_yet start.interval.high high)) kind)
all_days step k low high start n (suc i) moves kind fit ends h =
    let here = after low high start.interval i in
    let next = after low high start.interval (suc i) in
    let fits_here : EndsFit here = record {
      low = small_on_the_way start.interval.low low i n (10 ^ 37) (omega arith) fit.low ends.low;
      high = small_on_the_way start.interval.high high i n (10 ^ 37) (omega arith) fit.high ends.high;
    } in
    let fits_next : EndsFit next = record {
      low = small_on_the_way start.interval.low low (suc i) n (10 ^ 37) h fit.low ends.low;
      high = small_on_the_way start.interval.high high (suc i) n (10 ^ 37) h fit.high ends.high;
    } in
    let same : shifted low high here ≡ next = same_ends _ _ _ _ (one_more start.interval.low low i) (one_more start.interval.high high i) in
    ap (λ (a : Answer). then_do a step) (all_days step k low high start n i moves kind fit ends (omega arith))
    ∙ moves.day (record { interval = here; kind = k }) refl (record { low = fits_here.low; high = fits_here.high; scale = subst (λ (j : Kind). scale_of_kind j ≤ 27) kind fit.scale }) (subst EndsFit (sym same) fits_next)
    ∙ ap (λ (x : Interval). Ok (record { interval = x; kind = k })) same

pub days_alike : (d : Declarations) (body : Expression) (g : List Range) (start next r : Range) (n : ℕ) → adds_alike body ≡ true → IsFit start → later 1 (range_tried d body (start ∷ g)) ≡ Ok next
    → IsAfterDays start next n r → days_tried n (day_of d body g) start ≡ Ok r
days_alike d body g start next r n adds fit first is =
    let one = adds_one d body g start adds in
    let low = next.interval.low -ℤ start.interval.low in
    let high = next.interval.high -ℤ start.interval.high in
    let moves = moves_alike d body g start next one one.rest refl fit (later_ok 1 (range_tried d body (start ∷ g)) next first) is.same_kind in
    let ends : EndsFit (after low high start.interval n) = record {
      low = subst (λ (m : ℤ). unsigned_abs m ≤ 10 ^ 37) is.low is.fit.low;
      high = subst (λ (m : ℤ). unsigned_abs m ≤ 10 ^ 37) is.high is.fit.high;
    } in
    all_days (day_of d body g) start.kind low high start n n moves refl fit ends (omega arith)
    ∙ ap (λ (x : Range). Ok x) (same_range _ _ _ _ (same_ends _ _ _ _ (sym is.low) (sym is.high)) (sym is.kind))

-- what the first day tells of all

pub first_stops : (d : Declarations) (body : Expression) (g : List Range) (start : Range) (n j : ℕ) → 0 < n → later 1 (range_tried d body (start ∷ g)) ≡ Err j → days_tried n (day_of d body g) start ≡ Err j
first_stops d body g start n j some fault =
    days_stop n 0 (day_of d body g) start start j some refl (ap (λ (a : Answer). then_do a (widened start.kind)) fault)

pub told_days : (d : Declarations) (body : Expression) (g : List Range) (start next : Range) (n : ℕ) (o : Option Found) → adds_alike body ≡ true → IsFit start → later 1 (range_tried d body (start ∷ g)) ≡ Ok next
    → IfSome o (λ r. IsAfterDays start next n (range r)) → TellsDays (Ok o) (days_tried n (day_of d body g) start)
told_days d body g start next n None adds fit first is = tt
told_days d body g start next n (Some r) adds fit first is = (sym (days_alike d body g start next (range r) n adds fit first is), is.fit)

pub after_is : (start next r : Range) (n : ℕ) → next.kind ≡ start.kind → r.kind ≡ start.kind → r.interval.low ≡ moved start.interval.low next.interval.low n → r.interval.high ≡ moved start.interval.high next.interval.high n
    → fits r.interval ≡ true → IsFit start → IsAfterDays start next n r
after_is start next r n same kind low high fit of_start =
    let ends = ends_fit r.interval fit in
    record {
      same_kind = same;
      kind = kind;
      low = low;
      high = high;
      fit = record { low = ends.low; high = ends.high; scale = subst (λ (k : Kind). scale_of_kind k ≤ 27) (sym kind) of_start.scale };
    }
