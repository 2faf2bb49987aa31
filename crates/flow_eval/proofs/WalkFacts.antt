-- The walk over a contract answers the first of its reads that is not fixed, exactly where there is one, and else its
-- payments over the fixings.
use Rattle.std.proofs.Common.{◌≡◌, ℕ, zero, suc, ℤ, pos, ◌+ℤ◌, ◌-ℤ◌, ◌≤ℤ◌, ◌≤◌, ◌<◌, ◌-◌, min, Bool, true, false, int_lt, if◌then◌else◌, List, [], ◌∷◌, ◌++◌, Option, Some, None, Ok, Err, refl, ap, sym, ◌∙◌, subst, inl, inr, arith, unsigned_abs}
use Rattle.std.proofs.lemmas.Int.{ints}
use Rattle.std.proofs.lemmas.Bool.{cases_lt}
use Rattle.term_model.specs.Declarations.{Declarations}
use Rattle.term_model.specs.declared.values.Value.{Value}
use Rattle.term_model.specs.Terms.{Contract, Zero, Pay, Both, Scale, After, Let, Within}
use Rattle.term_model.specs.Environments.{Environment, Place}
use Rattle.term_model.specs.Kinds.{kind_of, scale_of}
use Rattle.term_model.specs.Values.{Entry, kinds, num, truth, kind_or, value_of, first_of, first_true}
use Rattle.term_model.specs.Flows.{count_of}
use Rattle.term_model.specs.Reads.{first_unfixed, is_fixed, live, reads_of, reads_of_contract, steps_before, tested, upto}
use Rattle.flow_eval.specs.declared.payments.Payment.{Payment}
use Rattle.flow_eval.specs.Payments.{multiplied, payments_of, some_paid}
use Rattle.expr_eval.specs.Trials.{DayOrMissing, ValueOrMissing, answer_of, first_tried, missing_at, or_next, value_unless}
use Rattle.flow_eval.specs.Walks.{PaymentsOrMissing, days_to_try, payments_unless, then_branch, then_factor, then_others, walk_of}
use Rattle.flow_eval.proofs.PaymentFacts.{after_last, payments_live, payments_none, shorter, lower}
use Rattle.term_model.proofs.FirstFacts.{or_last}

-- ---- the first place that is not fixed

abbrev pub or_else : Option Place → Option Place → Option Place
or_else (Some q) o = Some q
or_else None o = o

first-by : (F : Environment) (fixed : Bool) (q : Place) (o u w : Option Place) → o ≡ or_else u w → (if fixed then o else Some q) ≡ or_else (if fixed then u else Some q) w
first-by F true q o u w h = h
first-by F false q o u w h = refl

pub first-append : (F : Environment) (ps qs : List Place) → first_unfixed F (ps ++ qs) ≡ or_else (first_unfixed F ps) (first_unfixed F qs)
first-append F [] qs = refl
first-append F (q ∷ ps) qs = first-by F (is_fixed F q) q (first_unfixed F (ps ++ qs)) (first_unfixed F ps) (first_unfixed F qs) (first-append F ps qs)

-- ---- one step after another

others_unless : (o u : Option Place) (ps qs : List Payment) → then_others (payments_unless o ps) (payments_unless u qs) ≡ payments_unless (or_else o u) (ps ++ qs)
others_unless (Some q) u ps qs = refl
others_unless None (Some q) ps qs = refl
others_unless None None ps qs = refl

factor_unless : (F : Environment) (o : Option Place) (rs : List Place) (alive : Bool) (ps : List Payment) (v : Value) → some_paid ps ≡ alive
    → then_factor (payments_unless o ps) (value_unless (first_unfixed F rs) v) ≡ payments_unless (or_else o (first_unfixed F (if alive then rs else []))) (multiplied (num v) ps)
factor_unless F (Some q) rs alive ps v h = refl
factor_unless F None rs true [] v h = absurd (cc)
factor_unless F None rs false [] v h = refl
factor_unless F None rs false (p ∷ ps) v h = absurd (cc)
factor_unless F None rs true (p ∷ ps) v h = by_factor (first_unfixed F rs) p ps v
  where
    by_factor : (u : Option Place) (p : Payment) (ps : List Payment) (v : Value) → then_factor (Ok (p ∷ ps)) (value_unless u v) ≡ payments_unless u (multiplied (num v) (p ∷ ps))
    by_factor (Some q) p ps v = refl
    by_factor None p ps v = refl

-- ---- the days of a test

abbrev day_unless : Option Place → Option ℕ → DayOrMissing
day_unless (Some q) o = Err (missing_at q)
day_unless None o = Ok o

-- the first of the days below n
abbrev first_below : ℕ → (ℕ → Bool) → Option ℕ
first_below zero p = None
first_below (suc n) p = elim (first_below n p) [ Some i ↦ Some i | None ↦ if p n then Some n else None ]

-- how many days are tried
abbrev tries : Option ℕ → ℕ → ℕ
tries (Some k) n = suc k
tries None n = n

all_tried : (n : ℕ) (b : Bool) → tries (if b then Some n else None) (suc n) ≡ suc n
all_tried n true = refl
all_tried n false = refl

next_day : (F : Environment) (r : ℕ → List Place) (n : ℕ) (o : Option ℕ) (v : Value)
    → or_next (day_unless (first_unfixed F (steps_before (tries o n) r)) o) n (value_unless (first_unfixed F (r n)) v)
    ≡ day_unless (first_unfixed F (steps_before (tries (elim o [ Some i ↦ Some i | None ↦ if truth v then Some n else None ]) (suc n)) r)) (elim o [ Some i ↦ Some i | None ↦ if truth v then Some n else None ])
next_day F r n (Some k) v = stays (first_unfixed F (steps_before (suc k) r)) k n (value_unless (first_unfixed F (r n)) v)
  where
    stays : (u : Option Place) (k n : ℕ) (a : ValueOrMissing) → or_next (day_unless u (Some k)) n a ≡ day_unless u (Some k)
    stays (Some q) k n a = refl
    stays None k n a = refl
next_day F r n None v =
    goes_on (first_unfixed F (steps_before n r)) (first_unfixed F (r n)) n v ∙ ap (λ (u : Option Place). day_unless u (if truth v then Some n else None)) (sym (first-append F (steps_before n r) (r n)) ∙ ap (λ (m : ℕ). first_unfixed F (steps_before m r)) (sym (all_tried n (truth v))))
  where
    goes_on : (o u : Option Place) (n : ℕ) (v : Value) → or_next (day_unless o None) n (value_unless u v) ≡ day_unless (or_else o u) (if truth v then Some n else None)
    goes_on (Some q) u n v = refl
    goes_on None (Some q) n v = refl
    goes_on None None n v = refl

-- the days are tried up to the first that passes, or that reads what is not fixed
tried_is : (F : Environment) (r : ℕ → List Place) (v : ℕ → Value) (n : ℕ)
    → first_tried n (λ i. value_unless (first_unfixed F (r i)) (v i)) ≡ day_unless (first_unfixed F (steps_before (tries (first_below n (λ i. truth (v i))) n) r)) (first_below n (λ i. truth (v i)))
tried_is F r v zero = refl
tried_is F r v (suc n) =
    ap (λ (a : DayOrMissing). or_next a n (value_unless (first_unfixed F (r n)) (v n))) (tried_is F r v n) ∙ next_day F r n (first_below n (λ i. truth (v i))) (v n)

below_is : (n : ℕ) (p : ℕ → Bool) → first_below (suc n) p ≡ first_of n p
below_is zero p = refl
below_is (suc n) p = ap (λ (o : Option ℕ). elim o [ Some i ↦ Some i | None ↦ if p (suc n) then Some (suc n) else None ]) (below_is n p)

-- among fewer days, the first may be gone
abbrev IsCut : ℕ → Option ℕ → Option ℕ → Type 0
IsCut m (Some k) (Some i) = (i ≡ k) × (k ≤ m)
IsCut m (Some k) None = m < k
IsCut m None (Some i) = ⊥
IsCut m None None = Unit {0}

cut_more : (m n : ℕ) (o u : Option ℕ) (b : Bool) → m < n → IsCut m o u → IsCut m (or_last o n b) u
cut_more m n (Some k) u b h is = is
cut_more m n None (Some i) b h is = absurd is
cut_more m n None None true h is = h
cut_more m n None None false h is = tt

most_of : (n : ℕ) (o : Option ℕ) (b : Bool) (m : ℕ) → n < m → IsCut n o o → IsCut m (or_last o m b) (or_last o m b)
most_of n (Some k) b m h is = (refl, omega (arith, is.1))
most_of n None true m h is = (refl, omega arith)
most_of n None false m h is = tt

cut_zero : (b : Bool) → IsCut zero (if b then Some zero else None) (if b then Some zero else None)
cut_zero true = (refl, omega arith)
cut_zero false = tt

cut_same : (n : ℕ) (p : ℕ → Bool) → IsCut n (first_of n p) (first_of n p)
cut_same zero p = cut_zero (p zero)
cut_same (suc n) p = most_of n (first_of n p) (p (suc n)) (suc n) (omega arith) (cut_same n p)

is_cut : (n m : ℕ) (p : ℕ → Bool) → m ≤ n → IsCut m (first_of n p) (first_of m p)
is_cut zero m p h =
    let e : zero ≡ m = omega arith in
    subst (λ (i : ℕ). IsCut i (first_of zero p) (first_of i p)) e (cut_same zero p)
is_cut (suc n) m p h =
    elim (cases_lt n m) [
      | inl l ↦ (let e : suc n ≡ m = omega arith in subst (λ (i : ℕ). IsCut i (first_of (suc n) p) (first_of i p)) e (cut_same (suc n) p))
      | inr l ↦ cut_more m (suc n) (first_of n p) (first_of m p) (p (suc n)) (omega arith) (is_cut n m p l)
    ]

-- ---- the branch that is entered

entered : (o u : Option Place) (i : ℕ) (last f : ℤ) (n : ℕ) (one : ℕ → PaymentsOrMissing) (other : PaymentsOrMissing) (ps : List Payment) → one i ≡ payments_unless u ps
    → then_branch (day_unless o (Some i)) last f n one other ≡ payments_unless (or_else o u) ps
entered (Some q) u i last f n one other ps h = refl
entered None u i last f n one other ps h = h

by_lateness : (F : Environment) (late : Bool) (miss : List Place) (qs : List Payment) (other : PaymentsOrMissing) → other ≡ payments_unless (first_unfixed F miss) qs → (late ≡ true → qs ≡ [])
    → ◌≡◌ {A = PaymentsOrMissing} (if late then Ok [] else other) (payments_unless (first_unfixed F (if late then [] else miss)) qs)
by_lateness F true miss qs other h none = ap (λ (x : List Payment). Ok x) (sym (none refl))
by_lateness F false miss qs other h none = h

none_entered : (F : Environment) (o : Option Place) (last f : ℤ) (n : ℕ) (one : ℕ → PaymentsOrMissing) (other : PaymentsOrMissing) (late : Bool) (miss : List Place) (qs : List Payment) → int_lt last (f +ℤ pos n) ≡ late
    → other ≡ payments_unless (first_unfixed F miss) qs → (late ≡ true → qs ≡ [])
    → then_branch (day_unless o None) last f n one other ≡ payments_unless (or_else o (first_unfixed F (if late then [] else miss))) qs
none_entered F (Some q) last f n one other late miss qs e h none = refl
none_entered F None last f n one other late miss qs e h none = ap (λ (b : Bool). if b then Ok [] else other) e ∙ by_lateness F late miss qs other h none

never_entered : (o : Option Place) (last f : ℤ) (n : ℕ) (one : ℕ → PaymentsOrMissing) (other : PaymentsOrMissing) → int_lt last (f +ℤ pos n) ≡ true
    → then_branch (day_unless o None) last f n one other ≡ payments_unless (or_else o None) []
never_entered (Some q) last f n one other late = refl
never_entered None last f n one other late = ap (λ (b : Bool). if b then Ok [] else other) late

-- after the tests, what is read in the branch
with_tests : (F : Environment) (m k : ℕ) (rs : ℕ → List Place) (xs : List Place) (ps : List Payment) → m ≡ suc k
    → payments_unless (or_else (first_unfixed F (steps_before m rs)) (first_unfixed F xs)) ps ≡ payments_unless (first_unfixed F (upto k rs ++ xs)) ps
with_tests F m k rs xs ps h =
    ap (λ (i : ℕ). payments_unless (or_else (first_unfixed F (steps_before i rs)) (first_unfixed F xs)) ps) h ∙ ap (λ (o : Option Place). payments_unless o ps) (sym (first-append F (upto k rs) xs))

reached : (last f b : ℤ) (n k : ℕ) → b ≡ last -ℤ f → int_lt last f ≡ false → k ≤ min n (unsigned_abs b) → int_lt b (pos k) ≡ false
reached last f b n k e h le = grind (arith, ints)

not_reached : (last f b : ℤ) (n k : ℕ) → b ≡ last -ℤ f → int_lt last f ≡ false → k ≤ n → min n (unsigned_abs b) < k → int_lt b (pos k) ≡ true
not_reached last f b n k e h le lt = grind (arith, ints)

later_day : (last f b : ℤ) (k : ℕ) → b ≡ last -ℤ f → int_lt last (f +ℤ pos k) ≡ int_lt b (pos k)
later_day last f b k e = grind (arith, ints)

still_late : (last f : ℤ) (k n : ℕ) → k ≤ n → int_lt last (f +ℤ pos k) ≡ true → int_lt last (f +ℤ pos n) ≡ true
still_late last f k n le h = grind (arith, ints)

tested_found : (n k i : ℕ) (b : ℤ) → i ≡ k → k ≤ min n (unsigned_abs b) → suc i ≡ suc (min k (unsigned_abs b))
tested_found n k i b e h = omega arith

tested_all : (n k : ℕ) (b : ℤ) → k ≤ n → min n (unsigned_abs b) < k → suc (min n (unsigned_abs b)) ≡ suc (min k (unsigned_abs b))
tested_all n k b h l = omega arith

branch_unless : (F : Environment) (last f b : ℤ) (n : ℕ) (o u : Option ℕ) (rs : ℕ → List Place) (hit : ℕ → List Place) (miss : List Place) (ps : ℕ → List Payment) (qs : List Payment) (one : ℕ → PaymentsOrMissing) (other : PaymentsOrMissing)
    → b ≡ last -ℤ f → int_lt last f ≡ false → IsCut (min n (unsigned_abs b)) o u → IsCut n o o
    → ((k : ℕ) → one k ≡ payments_unless (first_unfixed F (hit k)) (ps k)) → other ≡ payments_unless (first_unfixed F miss) qs
    → ((k : ℕ) → int_lt last (f +ℤ pos k) ≡ true → ps k ≡ []) → (int_lt last (f +ℤ pos n) ≡ true → qs ≡ [])
    → then_branch (day_unless (first_unfixed F (steps_before (tries u (suc (min n (unsigned_abs b)))) rs)) u) last f n one other
    ≡ payments_unless (first_unfixed F (upto (tested o n b) rs ++ (elim o [ Some k ↦ if int_lt b (pos k) then [] else hit k | None ↦ if int_lt b (pos n) then [] else miss ]))) (elim o [ Some k ↦ ps k | None ↦ qs ])
branch_unless F last f b n (Some k) (Some i) rs hit miss ps qs one other e h cut low x y none none' =
    let here : one i ≡ payments_unless (first_unfixed F (hit k)) (ps k) = ap one cut.0 ∙ x k in
    let in_time = reached last f b n k e h cut.1 in
    entered (first_unfixed F (steps_before (suc i) rs)) (first_unfixed F (hit k)) i last f n one other (ps k) here
    ∙ ap (λ (t : Bool). payments_unless (or_else (first_unfixed F (steps_before (suc i) rs)) (first_unfixed F (if t then [] else hit k))) (ps k)) (sym in_time)
    ∙ with_tests F (suc i) (tested (Some k) n b) rs (if int_lt b (pos k) then [] else hit k) (ps k) (tested_found n k i b cut.0 cut.1)
branch_unless F last f b n (Some k) None rs hit miss ps qs one other e h cut low x y none none' =
    let late : int_lt b (pos k) ≡ true = not_reached last f b n k e h low.1 cut in
    let after : int_lt last (f +ℤ pos k) ≡ true = later_day last f b k e ∙ late in
    never_entered (first_unfixed F (steps_before (suc (min n (unsigned_abs b))) rs)) last f n one other (still_late last f k n low.1 after)
    ∙ ap (λ (zs : List Payment). payments_unless (or_else (first_unfixed F (steps_before (suc (min n (unsigned_abs b))) rs)) None) zs) (sym (none k after))
    ∙ ap (λ (t : Bool). payments_unless (or_else (first_unfixed F (steps_before (suc (min n (unsigned_abs b))) rs)) (first_unfixed F (if t then [] else hit k))) (ps k)) (sym late)
    ∙ with_tests F (suc (min n (unsigned_abs b))) (tested (Some k) n b) rs (if int_lt b (pos k) then [] else hit k) (ps k) (tested_all n k b low.1 cut)
branch_unless F last f b n None (Some i) rs hit miss ps qs one other e h cut low x y none none' = absurd cut
branch_unless F last f b n None None rs hit miss ps qs one other e h cut low x y none none' =
    none_entered F (first_unfixed F (steps_before (suc (min n (unsigned_abs b))) rs)) last f n one other (int_lt b (pos n)) miss qs (later_day last f b n e) y (λ late. none' (later_day last f b n e ∙ late))
    ∙ with_tests F (suc (min n (unsigned_abs b))) (tested None n b) rs (if int_lt b (pos n) then [] else miss) qs refl

-- ---- the walk

-- none of it has come by the last day
within_unless : (F : Environment) (last f b : ℤ) (late : Bool) (walk : PaymentsOrMissing) (rs : List Place) (ps : List Payment) → int_lt last f ≡ late → b ≡ last -ℤ f
    → (late ≡ false → walk ≡ payments_unless (first_unfixed F rs) ps) → (late ≡ true → ps ≡ [])
    → ◌≡◌ {A = PaymentsOrMissing} (if int_lt last f then Ok [] else walk) (payments_unless (first_unfixed F (if int_lt b (pos 0) then [] else rs)) ps)
within_unless F last f b true walk rs ps e is h none =
    ap (λ (t : Bool). if t then Ok [] else walk) e ∙ ap (λ (x : List Payment). Ok x) (sym (none refl)) ∙ ap (λ (t : Bool). payments_unless (first_unfixed F (if t then [] else rs)) ps) (sym (sym (after_last last f b is) ∙ e))
within_unless F last f b false walk rs ps e is h none =
    ap (λ (t : Bool). if t then Ok [] else walk) e ∙ h refl ∙ ap (λ (t : Bool). payments_unless (first_unfixed F (if t then [] else rs)) ps) (sym (sym (after_last last f b is) ∙ e))

-- the walk of a contract on frame f, for its own days a to b
abbrev pub WalkIs : Declarations → Environment → ℤ → Contract → Type 0
WalkIs d F last c =
    (g : List Entry) (bs : List (List Place)) (decimals : ℕ) (f a b : ℤ) → a ≤ℤ pos 0 → b ≡ last -ℤ f
    → walk_of d decimals c g bs F f last ≡ payments_unless (first_unfixed F (reads_of_contract d c g bs F f a b)) (payments_of d decimals c g F f last)

pub walk_is : (d : Declarations) (F : Environment) (last : ℤ) (c : Contract) → WalkIs d F last c
walk_is d F last Zero g bs decimals f a b h e = refl
walk_is d F last (Pay x p q) g bs decimals f a b h e = refl
walk_is d F last (Both x y) g bs decimals f a b h e =
    ap (λ (w : PaymentsOrMissing). then_others w (walk_of d decimals y g bs F f last)) (walk_is d F last x g bs decimals f a b h e)
    ∙ ap (then_others (payments_unless (first_unfixed F (reads_of_contract d x g bs F f a b)) (payments_of d decimals x g F f last))) (walk_is d F last y g bs decimals f a b h e)
    ∙ others_unless (first_unfixed F (reads_of_contract d x g bs F f a b)) (first_unfixed F (reads_of_contract d y g bs F f a b)) (payments_of d decimals x g F f last) (payments_of d decimals y g F f last)
    ∙ ap (λ (o : Option Place). payments_unless o (payments_of d decimals (Both x y) g F f last)) (sym (first-append F (reads_of_contract d x g bs F f a b) (reads_of_contract d y g bs F f a b)))
walk_is d F last (Scale x c) g bs decimals f a b h e =
    let left = decimals - scale_of d x (kinds g) in
    let ps = payments_of d left c g F f last in
    let rs = reads_of_contract d c g bs F f a b in
    ap (λ (w : PaymentsOrMissing). then_factor w (answer_of d x g bs F f)) (walk_is d F last c g bs left f a b h e)
    ∙ factor_unless F (first_unfixed F rs) (reads_of d x g bs F f) (live d c g F f a b) ps (value_of d x g F f) (payments_live d F last c g left f a b h e)
    ∙ ap (λ (o : Option Place). payments_unless o (multiplied (num (value_of d x g F f)) ps)) (sym (first-append F rs (if live d c g F f a b then reads_of d x g bs F f else [])))
walk_is d F last (After n c) g bs decimals f a b h e =
    walk_is d F last c g bs decimals (f +ℤ pos (count_of n)) (a -ℤ pos (count_of n)) (b -ℤ pos (count_of n)) (lower a (count_of n) h) (shorter last f b (count_of n) e)
walk_is d F last (Let x c) g bs decimals f a b h e =
    walk_is d F last c (record { value = value_of d x g F f; kind = kind_or (kind_of d x (kinds g)) } ∷ g) (reads_of d x g bs F f ∷ bs) decimals f a b h e
walk_is d F last (Within x n one other) g bs decimals f a b h e =
    let m = count_of n in
    let o = first_true d x g F f m in
    let days = min m (unsigned_abs b) in
    let p : ℕ → Bool = λ i. truth (value_of d x g F (f +ℤ pos i)) in
    let hit : ℕ → List Place = λ k. reads_of_contract d one g bs F (f +ℤ pos k) (a -ℤ pos k) (b -ℤ pos k) in
    let miss = reads_of_contract d other g bs F (f +ℤ pos m) (a -ℤ pos m) (b -ℤ pos m) in
    let ps : ℕ → List Payment = λ k. payments_of d decimals one g F (f +ℤ pos k) last in
    let qs = payments_of d decimals other g F (f +ℤ pos m) last in
    let enter : ℕ → PaymentsOrMissing = λ k. walk_of d decimals one g bs F (f +ℤ pos k) last in
    let leave = walk_of d decimals other g bs F (f +ℤ pos m) last in
    let tests : ℕ → List Place = λ i. reads_of d x g bs F (f +ℤ pos i) in
    let answers : ℕ → ValueOrMissing = λ i. answer_of d x g bs F (f +ℤ pos i) in
    within_unless F last f b (int_lt last f) (then_branch (first_tried (days_to_try last f m) answers) last f m enter leave) (upto (tested o m b) tests ++ (elim o [ Some k ↦ if int_lt b (pos k) then [] else hit k | None ↦ if int_lt b (pos m) then [] else miss ])) (elim o [ Some k ↦ ps k | None ↦ qs ]) refl e
    (λ in_time.
    ap (λ (i : ℤ). then_branch (first_tried (suc (min m (unsigned_abs i))) answers) last f m enter leave) (sym e)
    ∙ ap (λ (t : DayOrMissing). then_branch t last f m enter leave) (tried_is F tests (λ i. value_of d x g F (f +ℤ pos i)) (suc days) ∙ ap (λ (u : Option ℕ). day_unless (first_unfixed F (steps_before (tries u (suc days)) tests)) u) (below_is days p))
    ∙ branch_unless F last f b m o (first_of days p) tests hit miss ps qs enter leave e in_time (is_cut m days p (omega arith)) (cut_same m p)
    (λ k. walk_is d F last one g bs decimals (f +ℤ pos k) (a -ℤ pos k) (b -ℤ pos k) (lower a k h) (shorter last f b k e))
    (walk_is d F last other g bs decimals (f +ℤ pos m) (a -ℤ pos m) (b -ℤ pos m) (lower a m h) (shorter last f b m e))
    (λ k. payments_none d F last one g decimals (f +ℤ pos k)) (payments_none d F last other g decimals (f +ℤ pos m)))
    (λ late. payments_none d F last (Within x n one other) g decimals f late)
