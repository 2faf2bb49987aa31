-- The rule on bounds by structure: intervals that are made one after another, up to the first node at fault, as code
-- makes them, find the fault that the order of trial names, and else the interval of the model.
use Rattle.std.proofs.Common.{◌≡◌, ℕ, zero, suc, pos, ◌+◌, ◌-◌, Bool, true, false, ◌&&◌, if◌then◌else◌, List, [], ◌∷◌, ◌++◌, Option, Some, None, Result, Ok, Err, neg_ℤ, slice_get, refl, ap, sym, ◌∙◌, append_assoc, append-nil}
use Rattle.decimal.specs.Rounding.{raised, at_scale, divided}
use Rattle.term_model.specs.Declarations.{Declarations}
use Rattle.term_model.specs.Terms.{Expression, Lit, Yes, Var, Obs, Neg, Num, Cmp, Not, Logic, Cond, Widen, Round, Div, Acc}
use Rattle.term_model.specs.Environments.{label_of}
use Rattle.term_model.specs.Kinds.{kind_of, scale_of, scale_of_kind}
use Rattle.term_model.specs.Values.{kind_or}
use Rattle.term_model.specs.Sizes.{nodes}
use Rattle.term_model.specs.Sites.{Layer, Counting, Earlier, EachDay, Site, sites_of, days_tried, expression_at}
use Rattle.term_model.specs.Bounds.{Interval, Range, range_kinds, single, lifted, swapped, hull, corners, aligned, of_op, interval_of_label, interval_of_range, interval_of, stepped, ranges_round, fits, fit_aligned, fit_operands, fit_divided, is_bounded}
use Rattle.term_model.proofs.Trials.{or_else, first_failing, first_failing-append}

-- an interval, or the node at fault
abbrev pub Tried : Type 0
Tried = Result Interval ℕ

abbrev pub then_try : Tried → (Interval → Tried) → Tried
then_try (Ok i) go = go i
then_try (Err k) go = Err k

-- at node k
abbrev pub checked : Bool → ℕ → Interval → Tried
checked b k i = if b then Ok i else Err k

-- a step for each day
abbrev pub each_day : ℕ → (Interval → Tried) → Tried → Tried
each_day zero step i = i
each_day (suc n) step i = then_try (each_day n step i) step

abbrev pub tried : Declarations → Expression → List Range → ℕ → Tried
tried d (Lit m s) g k = checked (fits (single m)) k (single m)
tried d (Yes b) g k = Ok (single (pos 0))
tried d (Var back) g k = checked (fits (interval_of_range (slice_get g back))) k (interval_of_range (slice_get g back))
tried d (Obs l t) g k = checked (fits (interval_of_label (label_of d l))) k (interval_of_label (label_of d l))
tried d (Neg e) g k = then_try (tried d e g (k + 1)) (λ i. checked (fits (lifted neg_ℤ (swapped i))) k (lifted neg_ℤ (swapped i)))
tried d (Num op a b) g k =
    then_try (tried d a g (k + 1)) (λ i. then_try (tried d b g (k + 1 + nodes a)) (λ j. checked (fit_operands op (scale_of d a (range_kinds g)) i (scale_of d b (range_kinds g)) j && fits (of_op op (scale_of d a (range_kinds g)) i (scale_of d b (range_kinds g)) j)) k (of_op op (scale_of d a (range_kinds g)) i (scale_of d b (range_kinds g)) j)))
tried d (Cmp op a b) g k =
    then_try (tried d a g (k + 1)) (λ i. then_try (tried d b g (k + 1 + nodes a)) (λ j. checked (fit_aligned (scale_of d a (range_kinds g)) i (scale_of d b (range_kinds g)) j) k (single (pos 0))))
tried d (Not e) g k = then_try (tried d e g (k + 1)) (λ i. Ok (single (pos 0)))
tried d (Logic op a b) g k = then_try (tried d a g (k + 1)) (λ i. then_try (tried d b g (k + 1 + nodes a)) (λ j. Ok (single (pos 0))))
tried d (Cond t a b) g k =
    let s = scale_of d a (range_kinds g) in
    let u = scale_of d b (range_kinds g) in
    then_try (tried d t g (k + 1)) (λ _. then_try (tried d a g (k + 1 + nodes t)) (λ i. then_try (tried d b g (k + 1 + nodes t + nodes a)) (λ j. checked (fit_aligned s i u j && fits (hull (aligned s u i) (aligned u s j))) k (hull (aligned s u i) (aligned u s j)))))
tried d (Widen s e) g k =
    then_try (tried d e g (k + 1)) (λ i. checked (fits (lifted (λ m. raised m (s - scale_of d e (range_kinds g))) i)) k (lifted (λ m. raised m (s - scale_of d e (range_kinds g))) i))
tried d (Round mode s e) g k =
    then_try (tried d e g (k + 1)) (λ i. checked (fits (lifted (λ m. at_scale mode m (scale_of d e (range_kinds g)) s) i)) k (lifted (λ m. at_scale mode m (scale_of d e (range_kinds g)) s) i))
tried d (Div mode s a b) g k =
    let u = scale_of d a (range_kinds g) in
    let v = scale_of d b (range_kinds g) in
    then_try (tried d a g (k + 1)) (λ i. then_try (tried d b g (k + 1 + nodes a)) (λ j. checked (fit_divided u i v j s && fits (corners (λ x y. divided mode x u y v s) i j)) k (corners (λ x y. divided mode x u y v s) i j)))
tried d (Acc body n first) g k =
    let kind = kind_or (kind_of d first (range_kinds g)) in
    let up : Interval → Interval = λ j. lifted (λ m. raised m (scale_of_kind kind - scale_of d body (kind ∷ range_kinds g))) j in
    each_day n (λ i. then_try (tried d body (record { interval = i; kind = kind } ∷ g) (k + 1)) (λ j. checked (fits (up j)) k (up j))) (tried d first g (k + 1 + nodes body))

-- what the order of trial finds
abbrev pub outcome : Option ℕ → Interval → Tried
outcome None i = Ok i
outcome (Some k) i = Err k

join : (o p : Option ℕ) (i j : Interval) (go : Interval → Tried) → go i ≡ outcome p j → then_try (outcome o i) go ≡ outcome (or_else o p) j
join None p i j go h = h
join (Some k) p i j go h = refl

node : (b : Bool) (k : ℕ) (i : Interval) → checked b k i ≡ outcome (if b then None else Some k) i
node true k i = refl
node false k i = refl

-- one part, and then the rest
part : (p : Site → Bool) (xs ys : List Site) (t : Tried) (i j : Interval) (go : Interval → Tried) → t ≡ outcome (first_failing p xs) i → go i ≡ outcome (first_failing p ys) j → then_try t go ≡ outcome (first_failing p (xs ++ ys)) j
part p xs ys t i j go h g =
    ap (λ (u : Tried). then_try u go) h
    ∙ join (first_failing p xs) (first_failing p ys) i j go g
    ∙ ap (λ (o : Option ℕ). outcome o j) (sym (first_failing-append p xs ys))

days : (p : Site → Bool) (n : ℕ) (xs : List Site) (day : ℕ → List Site) (t : Tried) (i : Interval) (step : Interval → Tried) (plain : Interval → Interval) → t ≡ outcome (first_failing p xs) i → ((m : ℕ) → step (stepped m plain i) ≡ outcome (first_failing p (day m)) (stepped (suc m) plain i)) → each_day n step t ≡ outcome (first_failing p (xs ++ days_tried n day)) (stepped n plain i)
days p zero xs day t i step plain h each = h ∙ ap (λ (ys : List Site). outcome (first_failing p ys) i) (sym (append-nil xs))
days p (suc n) xs day t i step plain h each =
    part p (xs ++ days_tried n day) (day n) (each_day n step t) (stepped n plain i) (stepped (suc n) plain i) step (days p n xs day t i step plain h each) (each n)
    ∙ ap (λ (ys : List Site). outcome (first_failing p ys) (stepped (suc n) plain i)) (append_assoc xs (days_tried n day) (day n))

abbrev pub TriedInOrder : Declarations → Expression → Type 0
TriedInOrder d e =
    (r : List Layer) (k : ℕ) → tried d e (ranges_round d r) k ≡ outcome (first_failing (is_bounded d) (sites_of EachDay e r k)) (interval_of d e (ranges_round d r))

-- a node over one part, over two and over three
one : (p : Site → Bool) (s : Site) (xs : List Site) (t : Tried) (i : Interval) (b : Interval → Bool) (f : Interval → Interval) → t ≡ outcome (first_failing p xs) i → b i ≡ p s → then_try t (λ x. checked (b x) s.number (f x)) ≡ outcome (first_failing p (xs ++ s ∷ [])) (f i)
one p s xs t i b f h test =
    part p xs (s ∷ []) t i (f i) (λ x. checked (b x) s.number (f x)) h
    (node (b i) s.number (f i) ∙ ap (λ (c : Bool). outcome (if c then None else Some s.number) (f i)) test)

two : (p : Site → Bool) (s : Site) (xs ys : List Site) (t u : Tried) (i j : Interval) (b : Interval → Interval → Bool) (f : Interval → Interval → Interval) → t ≡ outcome (first_failing p xs) i → u ≡ outcome (first_failing p ys) j → b i j ≡ p s → then_try t (λ x. then_try u (λ y. checked (b x y) s.number (f x y))) ≡ outcome (first_failing p (xs ++ (ys ++ s ∷ []))) (f i j)
two p s xs ys t u i j b f h g test =
    part p xs (ys ++ s ∷ []) t i (f i j) (λ x. then_try u (λ y. checked (b x y) s.number (f x y))) h (one p s ys u j (b i) (f i) g test)

three : (p : Site → Bool) (s : Site) (ws xs ys : List Site) (r t u : Tried) (h i j : Interval) (b : Interval → Interval → Bool) (f : Interval → Interval → Interval) → r ≡ outcome (first_failing p ws) h → t ≡ outcome (first_failing p xs) i → u ≡ outcome (first_failing p ys) j → b i j ≡ p s → then_try r (λ _. then_try t (λ x. then_try u (λ y. checked (b x y) s.number (f x y)))) ≡ outcome (first_failing p (ws ++ (xs ++ (ys ++ s ∷ [])))) (f i j)
three p s ws xs ys r t u h i j b f e g k test =
    part p ws (xs ++ (ys ++ s ∷ [])) r h (f i j) (λ _. then_try t (λ x. then_try u (λ y. checked (b x y) s.number (f x y)))) e (two p s xs ys t u i j b f g k test)

and_true : (b : Bool) → b ≡ (b && true)
and_true true = refl
and_true false = refl

pub tried_in_order : (d : Declarations) (e : Expression) → TriedInOrder d e
tried_in_order d (Lit m s) r k = node (fits (single m)) k (single m)
tried_in_order d (Yes b) r k = refl
tried_in_order d (Var back) r k =
    node (fits (interval_of_range (slice_get (ranges_round d r) back))) k (interval_of_range (slice_get (ranges_round d r) back))
tried_in_order d (Obs l t) r k = node (fits (interval_of_label (label_of d l))) k (interval_of_label (label_of d l))
tried_in_order d (Neg e) r k =
    one (is_bounded d) (expression_at k r (Neg e)) (sites_of EachDay e r (k + 1)) _ _ (λ i. fits (lifted neg_ℤ (swapped i))) (λ i. lifted neg_ℤ (swapped i)) (tried_in_order d e r (k + 1)) refl
tried_in_order d (Num op a b) r k =
    let s = scale_of d a (range_kinds (ranges_round d r)) in
    let u = scale_of d b (range_kinds (ranges_round d r)) in
    two (is_bounded d) (expression_at k r (Num op a b)) (sites_of EachDay a r (k + 1)) (sites_of EachDay b r (k + 1 + nodes a)) _ _ _ _ (λ i j. fit_operands op s i u j && fits (of_op op s i u j)) (λ i j. of_op op s i u j) (tried_in_order d a r (k + 1)) (tried_in_order d b r (k + 1 + nodes a)) refl
tried_in_order d (Cmp op a b) r k =
    let s = scale_of d a (range_kinds (ranges_round d r)) in
    let u = scale_of d b (range_kinds (ranges_round d r)) in
    two (is_bounded d) (expression_at k r (Cmp op a b)) (sites_of EachDay a r (k + 1)) (sites_of EachDay b r (k + 1 + nodes a)) _ _ _ _ (λ i j. fit_aligned s i u j) (λ i j. single (pos 0)) (tried_in_order d a r (k + 1)) (tried_in_order d b r (k + 1 + nodes a)) (and_true _)
tried_in_order d (Not e) r k =
    one (is_bounded d) (expression_at k r (Not e)) (sites_of EachDay e r (k + 1)) _ _ (λ i. true) (λ i. single (pos 0)) (tried_in_order d e r (k + 1)) refl
tried_in_order d (Logic op a b) r k =
    two (is_bounded d) (expression_at k r (Logic op a b)) (sites_of EachDay a r (k + 1)) (sites_of EachDay b r (k + 1 + nodes a)) _ _ _ _ (λ i j. true) (λ i j. single (pos 0)) (tried_in_order d a r (k + 1)) (tried_in_order d b r (k + 1 + nodes a)) refl
tried_in_order d (Cond t a b) r k =
    let s = scale_of d a (range_kinds (ranges_round d r)) in
    let u = scale_of d b (range_kinds (ranges_round d r)) in
    three (is_bounded d) (expression_at k r (Cond t a b)) (sites_of EachDay t r (k + 1)) (sites_of EachDay a r (k + 1 + nodes t)) (sites_of EachDay b r (k + 1 + nodes t + nodes a)) _ _ _ _ _ _ (λ i j. fit_aligned s i u j && fits (hull (aligned s u i) (aligned u s j))) (λ i j. hull (aligned s u i) (aligned u s j)) (tried_in_order d t r (k + 1)) (tried_in_order d a r (k + 1 + nodes t)) (tried_in_order d b r (k + 1 + nodes t + nodes a)) refl
tried_in_order d (Widen s e) r k =
    let f : Interval → Interval = λ i. lifted (λ m. raised m (s - scale_of d e (range_kinds (ranges_round d r)))) i in
    one (is_bounded d) (expression_at k r (Widen s e)) (sites_of EachDay e r (k + 1)) _ _ (λ i. fits (f i)) f (tried_in_order d e r (k + 1)) refl
tried_in_order d (Round mode s e) r k =
    let f : Interval → Interval = λ i. lifted (λ m. at_scale mode m (scale_of d e (range_kinds (ranges_round d r))) s) i in
    one (is_bounded d) (expression_at k r (Round mode s e)) (sites_of EachDay e r (k + 1)) _ _ (λ i. fits (f i)) f (tried_in_order d e r (k + 1)) refl
tried_in_order d (Div mode s a b) r k =
    let u = scale_of d a (range_kinds (ranges_round d r)) in
    let v = scale_of d b (range_kinds (ranges_round d r)) in
    two (is_bounded d) (expression_at k r (Div mode s a b)) (sites_of EachDay a r (k + 1)) (sites_of EachDay b r (k + 1 + nodes a)) _ _ _ _ (λ i j. fit_divided u i v j s && fits (corners (λ x y. divided mode x u y v s) i j)) (λ i j. corners (λ x y. divided mode x u y v s) i j) (tried_in_order d a r (k + 1)) (tried_in_order d b r (k + 1 + nodes a)) refl
tried_in_order d (Acc body n first) r k =
    let g = ranges_round d r in
    let kind = kind_or (kind_of d first (range_kinds g)) in
    let up : Interval → Interval = λ j. lifted (λ m. raised m (scale_of_kind kind - scale_of d body (kind ∷ range_kinds g))) j in
    days (is_bounded d) n (sites_of EachDay first (Earlier n ∷ r) (k + 1 + nodes body)) (λ i. sites_of EachDay body (Counting body i first ∷ r) (k + 1) ++ expression_at k r (Acc body (suc i) first) ∷ []) (tried d first g (k + 1 + nodes body)) (interval_of d first g)
    (λ i. then_try (tried d body (record { interval = i; kind = kind } ∷ g) (k + 1)) (λ j. checked (fits (up j)) k (up j)))
    (λ i. up (interval_of d body (record { interval = i; kind = kind } ∷ g)))
    (tried_in_order d first (Earlier n ∷ r) (k + 1 + nodes body))
    (λ m. one (is_bounded d) (expression_at k r (Acc body (suc m) first)) (sites_of EachDay body (Counting body m first ∷ r) (k + 1)) _ _ (λ j. fits (up j)) up (tried_in_order d body (Counting body m first ∷ r) (k + 1)) refl)
