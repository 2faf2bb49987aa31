-- What compiled code reads its contract reads too, from some own day on: from the current day where payments gone by are
-- cut, and from the first where they are not.
use Rattle.std.proofs.Common.{◌≡◌, ℕ, ℤ, pos, negsuc, ◌+ℤ◌, ◌-ℤ◌, ◌<ℤ◌, ◌≤ℤ◌, ◌≤◌, min, Bool, true, false, ◌&&◌, ◌||◌, not, ◌==◌, if◌then◌else◌, int_lt, List, [], ◌∷◌, ◌++◌, Option, Some, None, refl, ap, ap₂, subst, sym, ◌∙◌, inl, inr, arith}
use Rattle.std.specs.Prelude.{Contains}
use Rattle.std.proofs.lemmas.Int.{ints, by_lt_z}
use Rattle.std.proofs.lemmas.List.Elements.{Contains-append_left, Contains-append_right, Contains-append_cases}
use Rattle.term_model.specs.Declarations.{Declarations}
use Rattle.term_model.specs.Terms.{Expression, Contract, Zero, Pay, Both, Scale, After, Let, Within}
use Rattle.term_model.specs.Environments.{Environment, Place}
use Rattle.term_model.specs.Kinds.{kind_of}
use Rattle.term_model.specs.Values.{Entry, kinds, kind_or, value_of, first_true}
use Rattle.term_model.specs.Flows.{count_of}
use Rattle.term_model.specs.Reads.{reads_of, reads_of_contract, live, upto, tested}
use Rattle.term_model.specs.Instances.{with_number, instance}
use Rattle.term_model.specs.Sizes.{reach}
use Rattle.term_model.proofs.FlowFacts.{first_within}
use Rattle.payoff_terms.specs.TemplateDates.{Date, day_of, plus, date_of_days}
use Rattle.payoff_terms.specs.Code.{PayoffCode, Nothing, PayOn, Add, ScaleBy, LetBe, Loop, Cut}
use Rattle.payoff_terms.specs.CodeValues.{Asked}
use Rattle.payoff_terms.specs.CodeReads.{value_reads, concerns, reaches_payment, upto_first, reads_of_code}
use Rattle.payoff_terms.specs.Compiled.{compiled, compiled_value, cut_code}
use Rattle.payoff_terms.specs.Meaning.{Counting, Remaining, Everything}
use Rattle.payoff_terms.proofs.DateFacts.{day_plus, day_of_count}
use Rattle.payoff_terms.proofs.DatingFacts.{dated_shifted, entry_compiled}
use Rattle.term_model.proofs.ReadShiftFacts.{reads-shifted}
use Rattle.payoff_terms.proofs.CutFacts.{not_below}
use Rattle.payoff_terms.proofs.ValueFacts.{first_compiled}
use Rattle.payoff_terms.proofs.CodeAlikeFacts.{either}

-- the reads of a compiled expression at a base are those of the expression on the frame
pub reads_compiled : (d : Declarations) (x : Date) (e : Expression) (g : List Entry) (bs : List (List Place)) (env : Environment) (xs : List ℕ) (b f : ℤ) → f ≡ b +ℤ day_of xs x → value_reads d (compiled_value x e) g bs env xs b ≡ reads_of d e g bs env f
reads_compiled d x e g bs env xs b f h =
    ap (λ (u : Expression). reads_of d u g bs env b) (dated_shifted xs x e) ∙ reads-shifted d e (day_of xs x) g bs env b ∙ ap (reads_of d e g bs env) (sym h)

-- code with its payments cut, or as it is
abbrev pub counted : Counting → PayoffCode → PayoffCode
counted v Nothing = Nothing
counted Remaining (PayOn x a p q) = Cut x (PayOn x a p q)
counted Everything (PayOn x a p q) = PayOn x a p q
counted v (Add k l) = Add (counted v k) (counted v l)
counted v (ScaleBy e k) = ScaleBy e (counted v k)
counted v (LetBe e k) = LetBe e (counted v k)
counted v (Loop e x k l) = Loop e x (counted v k) (counted v l)
counted v (Cut x k) = Cut x (counted v k)

pub counted_cut : (k : PayoffCode) → counted Remaining k ≡ cut_code k
counted_cut Nothing = refl
counted_cut (PayOn x a p q) = refl
counted_cut (Add k l) = ap₂ Add (counted_cut k) (counted_cut l)
counted_cut (ScaleBy e k) = ap (ScaleBy e) (counted_cut k)
counted_cut (LetBe e k) = ap (LetBe e) (counted_cut k)
counted_cut (Loop e x k l) = ap₂ (Loop e x) (counted_cut k) (counted_cut l)
counted_cut (Cut x k) = ap (Cut x) (counted_cut k)

pub counted_all : (k : PayoffCode) → counted Everything k ≡ k
counted_all Nothing = refl
counted_all (PayOn x a p q) = refl
counted_all (Add k l) = ap₂ Add (counted_all k) (counted_all l)
counted_all (ScaleBy e k) = ap (ScaleBy e) (counted_all k)
counted_all (LetBe e k) = ap (LetBe e) (counted_all k)
counted_all (Loop e x k l) = ap₂ (Loop e x) (counted_all k) (counted_all l)
counted_all (Cut x k) = ap (Cut x) (counted_all k)

-- the first own day on frame f whose reads count
abbrev pub Begins : Counting → ℤ → ℤ → ℤ → Type 0
Begins Remaining now f low = low ≡ now -ℤ f
Begins Everything now f low = low ≤ℤ pos 0

begins_later : (v : Counting) (now f low : ℤ) (m : ℕ) → Begins v now f low → Begins v now (f +ℤ pos m) (low -ℤ pos m)
begins_later Remaining now f low m h = omega (arith, ints)
begins_later Everything now f low m h = omega (arith, ints)

apart_of : (a s r : Bool) → (a && not s && r) ≡ true → not s ≡ true
apart_of true true r h = absurd (cc)
apart_of true false r h = refl
apart_of false s r h = absurd (cc)

live_pay : (s : Bool) (low high : ℤ) → not s ≡ true → low ≤ℤ pos 0 → pos 0 ≤ℤ high → (not s && not (int_lt (pos 0) low) && not (int_lt high (pos 0))) ≡ true
live_pay s low high h le ge = rw (h, not_below (pos 0) low le, not_below high (pos 0) ge) refl

pay_live : (v : Counting) (s p q : ℕ) (x : Date) (xs : List ℕ) (d : Declarations) (g : List Entry) (env : Environment) (a : Asked) (b f low high : ℤ) → f ≡ b +ℤ day_of xs x → Begins v a.now f low → pos 0 ≤ℤ high → reaches_payment d (counted v (PayOn x s p q)) g env xs a b ≡ true → (not (p == q) && not (int_lt (pos 0) low) && not (int_lt high (pos 0))) ≡ true
pay_live Everything s p q x xs d g env a b f low high e h ge r =
    live_pay (p == q) low high (apart_of (s == a.flow.asset) (p == q) _ r) h ge
pay_live Remaining s p q x xs d g env a b f low high e h ge r =
    by_lt_z (b +ℤ day_of xs x) a.now (λ lt. absurd (gone lt r)) (λ le. live_pay (p == q) low high (apart_of (s == a.flow.asset) (p == q) _ (kept le r)) (omega (arith, ints)) ge)
  where
    gone : (b +ℤ day_of xs x) <ℤ a.now → (if int_lt (b +ℤ day_of xs x) a.now then false else concerns s p q a.flow) ≡ true → ⊥
    gone lt h = grind (arith, ints)

    kept : a.now ≤ℤ (b +ℤ day_of xs x) → (if int_lt (b +ℤ day_of xs x) a.now then false else concerns s p q a.flow) ≡ true → concerns s p q a.flow ≡ true
    kept le h = rw (not_below (b +ℤ day_of xs x) a.now le) at h

or_both : (r s l m : Bool) → (r ≡ true → l ≡ true) → (s ≡ true → m ≡ true) → (r || s) ≡ true → (l || m) ≡ true
or_both true s l m h k e = rw (h refl) refl
or_both false s true m h k e = refl
or_both false s false m h k e = k e

branch_live : (o : Option ℕ) (r : ℕ → Bool) (s : Bool) (l : ℕ → Bool) (m : Bool) → ((k : ℕ) → o ≡ Some k → r k ≡ true → l k ≡ true) → (s ≡ true → m ≡ true) → either o r s ≡ true → either o l m ≡ true
branch_live (Some k) r s l m h i e = h k refl e
branch_live None r s l m h i e = i e

abbrev pub LiveMatch : Declarations → Environment → List ℕ → Asked → Counting → Contract → Type 0
LiveMatch d env xs a v c =
    (x : Date) (g : List Entry) (b f low high : ℤ)
    → f ≡ b +ℤ day_of xs x → Begins v a.now f low → pos (reach (instance xs c)) ≤ℤ high
    → reaches_payment d (counted v (compiled x c)) g env xs a b ≡ true → live d (instance xs c) g env f low high ≡ true

-- where code reaches a payment that counts, its contract transfers something on the days from the first that counts
pub live_match : (d : Declarations) (env : Environment) (xs : List ℕ) (a : Asked) (v : Counting) (c : Contract) → LiveMatch d env xs a v c
live_match d env xs a v Zero x g b f low high e h far r = r
live_match d env xs a v (Pay s p q) x g b f low high e h far r = pay_live v s p q x xs d g env a b f low high e h far r
live_match d env xs a v (Both c k) x g b f low high e h far r =
    or_both (reaches_payment d (counted v (compiled x c)) g env xs a b) (reaches_payment d (counted v (compiled x k)) g env xs a b) (live d (instance xs c) g env f low high) (live d (instance xs k) g env f low high)
    (live_match d env xs a v c x g b f low high e h (omega (arith, ints))) (live_match d env xs a v k x g b f low high e h (omega (arith, ints))) r
live_match d env xs a v (Scale s c) x g b f low high e h far r = live_match d env xs a v c x g b f low high e h far r
live_match d env xs a v (After m c) x g b f low high e h far r =
    let t = count_of (with_number xs m) in
    live_match d env xs a v c (plus x (date_of_days m)) g b (f +ℤ pos t) (low -ℤ pos t) (high -ℤ pos t) (omega (arith, ints, day_plus xs x (date_of_days m), day_of_count xs m)) (begins_later v a.now f low t h) (omega (arith, ints)) r
live_match d env xs a v (Let s c) x g b f low high e h far r =
    let new : Entry = record { value = value_of d s g env f; kind = kind_or (kind_of d s (kinds g)) } in
    live_match d env xs a v c x (new ∷ g) b f low high e h far (subst (λ (y : Entry). reaches_payment d (counted v (compiled x c)) (y ∷ g) env xs a b ≡ true) (entry_compiled d x s g env xs b f e) r)
live_match d env xs a v (Within s m c k) x g b f low high e h far r =
    let t = count_of (with_number xs m) in
    let y = plus x (date_of_days m) in
    let o = first_true d s g env f t in
    branch_live o (λ n. reaches_payment d (counted v (compiled x c)) g env xs a (b +ℤ pos n)) (reaches_payment d (counted v (compiled y k)) g env xs a b) (λ n. live d (instance xs c) g env (f +ℤ pos n) (low -ℤ pos n) (high -ℤ pos n)) (live d (instance xs k) g env (f +ℤ pos t) (low -ℤ pos t) (high -ℤ pos t))
    (λ n some. live_match d env xs a v c x g (b +ℤ pos n) (f +ℤ pos n) (low -ℤ pos n) (high -ℤ pos n) (omega (arith, ints)) (begins_later v a.now f low n h) (omega (arith, ints, first_within t _ n some)))
    (live_match d env xs a v k y g b (f +ℤ pos t) (low -ℤ pos t) (high -ℤ pos t) (omega (arith, ints, day_plus xs x (date_of_days m), day_of_count xs m)) (begins_later v a.now f low t h) (omega (arith, ints)))
    (subst (λ (u : Option ℕ). either u (λ n. reaches_payment d (counted v (compiled x c)) g env xs a (b +ℤ pos n)) (reaches_payment d (counted v (compiled y k)) g env xs a b) ≡ true) (first_compiled d x s m g env xs b f e) r)

no_more : (xs : List Place) (q : Place) → Contains (xs ++ []) q → Contains xs q
no_more xs q h = elim (Contains-append_cases xs [] q h) [ inl i ↦ i | inr none ↦ absurd (omega (arith, none.1)) ]

both_lists : (xs ys us vs : List Place) (q : Place) → (Contains xs q → Contains us q) → (Contains ys q → Contains vs q) → Contains (xs ++ ys) q → Contains (us ++ vs) q
both_lists xs ys us vs q h k i =
    elim (Contains-append_cases xs ys q i) [ inl j ↦ Contains-append_left us vs q (h j) | inr j ↦ Contains-append_right us vs q (k j) ]

factor_lists : (r l : Bool) (xs us ys : List Place) (q : Place) → (r ≡ true → l ≡ true) → (Contains xs q → Contains us q) → Contains (xs ++ (if r then ys else [])) q → Contains (us ++ (if l then ys else [])) q
factor_lists true true xs us ys q h k i = both_lists xs ys us ys q k (λ j. j) i
factor_lists true false xs us ys q h k i = absurd (cc (h refl))
factor_lists false l xs us ys q h k i = Contains-append_left us (if l then ys else []) q (k (no_more xs q i))

-- of an `if .. within` all tests up to the first true day, or to the last, are read where the days that count reach so far
within_lists : (o : Option ℕ) (n h : ℕ) (tests hit hit' : ℕ → List Place) (miss miss' : List Place) (q : Place) → n ≤ h → ((k : ℕ) → o ≡ Some k → k ≤ n) → ((k : ℕ) → o ≡ Some k → Contains (hit k) q → Contains (hit' k) q) → (Contains miss q → Contains miss' q) → Contains (upto_first o (pos n) tests ++ either o hit miss) q → Contains (if int_lt (pos h) (pos 0) then [] else (upto (tested o n (pos h)) tests ++ (elim o [ Some k ↦ if int_lt (pos h) (pos k) then [] else hit' k | None ↦ if int_lt (pos h) (pos n) then [] else miss' ]))) q
within_lists (Some k) n h tests hit hit' miss miss' q le low some none i =
    let few : k ≤ n = low k refl in
    let last : min k h ≡ k = omega arith in
    rw (not_below (pos h) (pos 0) (omega (arith, ints)), not_below (pos h) (pos k) (omega (arith, ints)))
    (subst (λ (j : ℕ). Contains (upto j tests ++ hit' k) q) (sym last) (both_lists (upto k tests) (hit k) (upto k tests) (hit' k) q (λ j. j) (some k refl) i))
within_lists None n h tests hit hit' miss miss' q le low some none i =
    let last : min n h ≡ n = omega arith in
    rw (not_below (pos h) (pos 0) (omega (arith, ints)), not_below (pos h) (pos n) (omega (arith, ints)))
    (subst (λ (j : ℕ). Contains (upto j tests ++ miss') q) (sym last) (both_lists (upto n tests) miss (upto n tests) miss' q (λ j. j) none i))

abbrev pub ReadsMatch : Declarations → Environment → List ℕ → Asked → Counting → Contract → Type 0
ReadsMatch d env xs a v c =
    (x : Date) (g : List Entry) (bs : List (List Place)) (b f low high : ℤ) (q : Place)
    → f ≡ b +ℤ day_of xs x → Begins v a.now f low → pos (reach (instance xs c)) ≤ℤ high
    → Contains (reads_of_code d (counted v (compiled x c)) g bs env xs a b) q → Contains (reads_of_contract d (instance xs c) g bs env f low high) q

-- what code reads its contract reads too
pub reads_match : (d : Declarations) (env : Environment) (xs : List ℕ) (a : Asked) (v : Counting) (c : Contract) → ReadsMatch d env xs a v c
reads_match d env xs a v Zero x g bs b f low high q e h far i = i
reads_match d env xs a Everything (Pay s p r) x g bs b f low high q e h far i = i
reads_match d env xs a Remaining (Pay s p r) x g bs b f low high q e h far i =
    none (int_lt (b +ℤ day_of xs x) a.now) i
  where
    none : (t : Bool) → Contains (if t then [] else []) q → Contains [] q
    none true j = j
    none false j = j
reads_match d env xs a v (Both c k) x g bs b f low high q e h far i =
    both_lists (reads_of_code d (counted v (compiled x c)) g bs env xs a b) (reads_of_code d (counted v (compiled x k)) g bs env xs a b) (reads_of_contract d (instance xs c) g bs env f low high) (reads_of_contract d (instance xs k) g bs env f low high) q
    (reads_match d env xs a v c x g bs b f low high q e h (omega (arith, ints))) (reads_match d env xs a v k x g bs b f low high q e h (omega (arith, ints))) i
reads_match d env xs a v (Scale s c) x g bs b f low high q e h far i =
    let k = counted v (compiled x c) in
    factor_lists (reaches_payment d k g env xs a b) (live d (instance xs c) g env f low high) (reads_of_code d k g bs env xs a b) (reads_of_contract d (instance xs c) g bs env f low high) (reads_of d s g bs env f) q
    (live_match d env xs a v c x g b f low high e h far) (reads_match d env xs a v c x g bs b f low high q e h far)
    (subst (λ (us : List Place). Contains (reads_of_code d k g bs env xs a b ++ (if reaches_payment d k g env xs a b then us else [])) q) (reads_compiled d x s g bs env xs b f e) i)
reads_match d env xs a v (After m c) x g bs b f low high q e h far i =
    let t = count_of (with_number xs m) in
    reads_match d env xs a v c (plus x (date_of_days m)) g bs b (f +ℤ pos t) (low -ℤ pos t) (high -ℤ pos t) q (omega (arith, ints, day_plus xs x (date_of_days m), day_of_count xs m)) (begins_later v a.now f low t h) (omega (arith, ints)) i
reads_match d env xs a v (Let s c) x g bs b f low high q e h far i =
    let new : Entry = record { value = value_of d s g env f; kind = kind_or (kind_of d s (kinds g)) } in
    let k = counted v (compiled x c) in
    reads_match d env xs a v c x (new ∷ g) (reads_of d s g bs env f ∷ bs) b f low high q e h far
    (subst (λ (us : List Place). Contains (reads_of_code d k (new ∷ g) (us ∷ bs) env xs a b) q) (reads_compiled d x s g bs env xs b f e)
    (subst (λ (y : Entry). Contains (reads_of_code d k (y ∷ g) (value_reads d (compiled_value x s) g bs env xs b ∷ bs) env xs a b) q) (entry_compiled d x s g env xs b f e) i))
reads_match d env xs a v (Within s m c k) x g bs b f low (negsuc high) q e h far i = absurd (omega (arith, ints))
reads_match d env xs a v (Within s m c k) x g bs b f low (pos high) q e h far i =
    let t = count_of (with_number xs m) in
    let y = plus x (date_of_days m) in
    let o = first_true d s g env f t in
    let hit : ℕ → List Place = λ n. reads_of_code d (counted v (compiled x c)) g bs env xs a (b +ℤ pos n) in
    let miss = reads_of_code d (counted v (compiled y k)) g bs env xs a b in
    let tests : ℕ → List Place = λ n. reads_of d s g bs env (f +ℤ pos n) in
    let tests' : ℕ → List Place = λ n. value_reads d (compiled_value x s) g bs env xs (b +ℤ pos n) in
    let same : tests' ≡ tests = λ j n. reads_compiled d x s g bs env xs (b +ℤ pos n) (f +ℤ pos n) (omega (arith, ints)) j in
    let there : Contains (upto_first o (pos t) tests ++ either o hit miss) q =
    subst (λ (r : ℕ → List Place). Contains (upto_first o (pos t) r ++ either o hit miss) q) same
    (subst (λ (n : ℤ). Contains (upto_first o n tests' ++ either o hit miss) q) (day_of_count xs m)
    (subst (λ (u : Option ℕ). Contains (upto_first u (day_of xs (date_of_days m)) tests' ++ either u hit miss) q) (first_compiled d x s m g env xs b f e) i)) in
    within_lists o t high tests hit (λ n. reads_of_contract d (instance xs c) g bs env (f +ℤ pos n) (low -ℤ pos n) (pos high -ℤ pos n)) miss (reads_of_contract d (instance xs k) g bs env (f +ℤ pos t) (low -ℤ pos t) (pos high -ℤ pos t)) q (omega (arith, ints)) (first_within t _)
    (λ n some. reads_match d env xs a v c x g bs (b +ℤ pos n) (f +ℤ pos n) (low -ℤ pos n) (pos high -ℤ pos n) q (omega (arith, ints)) (begins_later v a.now f low n h) (omega (arith, ints, first_within t _ n some)))
    (reads_match d env xs a v k y g bs b (f +ℤ pos t) (low -ℤ pos t) (pos high -ℤ pos t) q (omega (arith, ints, day_plus xs x (date_of_days m), day_of_count xs m)) (begins_later v a.now f low t h) (omega (arith, ints)))
    there
