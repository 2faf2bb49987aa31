-- What the days of a test tell: the first true one in every environment, or a place that is read and not fixed.
use Rattle.std.proofs.Common.{◌≡◌, ◌≤◌, ◌<◌, ℕ, zero, suc, ℤ, pos, ◌+ℤ◌, Bool, true, false, if◌then◌else◌, Option, Some, None, Ok, Err, List, [], ◌∷◌, Contains, refl, ap, sym, subst, ◌∙◌, inl, inr, arith, eq-or-lt_of_le}
use Rattle.std.proofs.lemmas.List.Elements.{Contains-append_left, Contains-append_right, Contains-push}
use Rattle.term_model.specs.Declarations.{Declarations}
use Rattle.term_model.specs.declared.values.Value.{Value}
use Rattle.term_model.specs.declared.values.Missing.{Missing}
use Rattle.term_model.specs.Terms.{Expression}
use Rattle.term_model.specs.Environments.{Environment, Place, Extends}
use Rattle.term_model.specs.Values.{Entry, truth, value_of, first_of, first_true}
use Rattle.term_model.specs.Reads.{reads_of, first_unfixed, is_fixed, steps_before, tested}
use Rattle.term_model.proofs.AlikeFacts.{same_alike}
use Rattle.term_model.proofs.ReadFacts.{SameNames, reads_alike}
use Rattle.term_model.proofs.ReadLawFacts.{all_fixed, extension_reads}
use Rattle.expr_eval.specs.Standing.{place_of}
use Rattle.expr_eval.specs.Trials.{DayOrMissing, ValueOrMissing, answer_of, first_tried, missing_at, or_next, tried_on, value_unless}
use Rattle.term_model.proofs.FirstFacts.{or_last}

-- ---- the first true day

one_found : (r : ValueOrMissing) (n : ℕ) (b : Bool) (o : Option ℕ) → ((v : Value) → r ≡ Ok v → b ≡ truth v) → tried_on n r ≡ Ok o → (if b then Some n else None) ≡ o
one_found (Err m) n b o h e = absurd (cc)
one_found (Ok v) n b o h e =
    let same : (if truth v then Some n else None) ≡ o = cc in
    ap (λ (x : Bool). if x then Some n else None) (h v refl) ∙ same

next_found : (t : DayOrMissing) (u : Option ℕ) (r : ValueOrMissing) (n : ℕ) (b : Bool) (o : Option ℕ) → ((x : Option ℕ) → t ≡ Ok x → u ≡ x) → ((v : Value) → r ≡ Ok v → b ≡ truth v) → or_next t n r ≡ Ok o → or_last u n b ≡ o
next_found (Err m) u r n b o h k e = absurd (cc)
next_found (Ok (Some i)) u r n b o h k e =
    let found : u ≡ Some i = h (Some i) refl in
    let same : Some i ≡ o = cc in
    ap (λ (x : Option ℕ). or_last x n b) found ∙ same
next_found (Ok None) u r n b o h k e = ap (λ (x : Option ℕ). or_last x n b) (h None refl) ∙ one_found r n b o k e

pub first_found : (n : ℕ) (a : ℕ → ValueOrMissing) (p : ℕ → Bool) (o : Option ℕ) → ((i : ℕ) (v : Value) → a i ≡ Ok v → p i ≡ truth v) → first_tried (suc n) a ≡ Ok o → first_of n p ≡ o
first_found zero a p o h e = one_found (a zero) zero (p zero) o (h zero) e
first_found (suc n) a p o h e =
    next_found (first_tried (suc n) a) (first_of n p) (a (suc n)) (suc n) (p (suc n)) o (λ x s. first_found n a p x h s) (h (suc n)) e

-- an answer over the fixings is the value in every environment that extends them
value_answered : (q : Option Place) (v w : Value) → value_unless q v ≡ Ok w → (q ≡ None) × (v ≡ w)
value_answered (Some q) v w e = absurd (cc)
value_answered None v w e = (refl, cc)

same_names : (F : Environment) (g : List Entry) (ps : List (List Place)) → SameNames (is_fixed F) g ps g ps
same_names F g ps = record { same_kinds = refl; alike = λ k. same_alike _ _ }

pub answer_holds : (d : Declarations) (e : Expression) (g : List Entry) (ps : List (List Place)) (F env : Environment) (f : ℤ) (v : Value) → Extends F env → answer_of d e g ps F f ≡ Ok v → value_of d e g env f ≡ v
answer_holds d e g ps F env f v ext is =
    let known = value_answered (first_unfixed F (reads_of d e g ps F f)) (value_of d e g F f) v is in
    let alike = reads_alike d (is_fixed F) F env (λ q fixed. sym (extension_reads d F env ext q fixed)) e g g ps ps (same_names F g ps) f in
    sym (alike.values (all_fixed F (reads_of d e g ps F f) known.0)) ∙ known.1

-- the days that are tried up to day n tell the first true one of them
pub first_is : (d : Declarations) (e : Expression) (g : List Entry) (ps : List (List Place)) (F env : Environment) (f : ℤ) (n : ℕ) (o : Option ℕ) → Extends F env
    → first_tried (suc n) (λ i. answer_of d e g ps F (f +ℤ pos i)) ≡ Ok o → first_true d e g env f n ≡ o
first_is d e g ps F env f n o ext h =
    first_found n (λ i. answer_of d e g ps F (f +ℤ pos i)) (λ i. truth (value_of d e g env (f +ℤ pos i))) o (λ i v is. ap truth (answer_holds d e g ps F env (f +ℤ pos i) v ext is)) h

-- ---- a day that lacks a place

pub record LacksOn (n : ℕ) (a : ℕ → ValueOrMissing) (m : Missing) : Type 0 where
  pub day : ℕ
  pub below : day < n
  pub lacks : a day ≡ Err m
  pub before : first_tried day a ≡ Ok None

last_lacks : (r : ValueOrMissing) (n : ℕ) (m : Missing) → tried_on n r ≡ Err m → r ≡ Err m
last_lacks (Err x) n m e = cc
last_lacks (Ok v) n m e = absurd (cc)

next_lacks : (t : DayOrMissing) (n : ℕ) (a : ℕ → ValueOrMissing) (m : Missing) → first_tried n a ≡ t → ((t ≡ Err m) → LacksOn n a m) → or_next t n (a n) ≡ Err m → LacksOn (suc n) a m
next_lacks (Err x) n a m is h e =
    let l = h cc in
    record { day = l.day; below = let b = l.below in omega arith; lacks = l.lacks; before = l.before }
next_lacks (Ok (Some k)) n a m is h e = absurd (cc)
next_lacks (Ok None) n a m is h e = record { day = n; below = omega arith; lacks = last_lacks (a n) n m e; before = is }

pub first_lacks : (n : ℕ) (a : ℕ → ValueOrMissing) (m : Missing) → first_tried n a ≡ Err m → LacksOn n a m
first_lacks zero a m e = absurd (cc)
first_lacks (suc n) a m e =
    next_lacks (first_tried n a) n a m refl (λ t. first_lacks n a m t) e

-- a place that an answer lacks is read and not fixed
unfixed_step : (F : Environment) (x : Place) (xs : List Place) (q : Place) (b : Bool) → is_fixed F x ≡ b → (first_unfixed F xs ≡ Some q → Contains xs q × (is_fixed F q ≡ false)) → (if b then first_unfixed F xs else Some x) ≡ Some q → Contains (x ∷ xs) q × (is_fixed F q ≡ false)
unfixed_step F x xs q true is h e =
    let rest = h e in
    (Contains-append_right (x ∷ []) xs q rest.0, rest.1)
unfixed_step F x xs q false is h e =
    let same : x ≡ q = cc in
    (subst (λ (y : Place). Contains (x ∷ xs) y) same (Contains-append_left (x ∷ []) xs x (Contains-push [] x)), subst (λ (y : Place). is_fixed F y ≡ false) same is)

unfixed_in : (F : Environment) (xs : List Place) (q : Place) → first_unfixed F xs ≡ Some q → Contains xs q × (is_fixed F q ≡ false)
unfixed_in F [] q e = absurd (cc)
unfixed_in F (x ∷ xs) q e = unfixed_step F x xs q (is_fixed F x) refl (λ h. unfixed_in F xs q h) e

lacked_answer : (o : Option Place) (v : Value) (m : Missing) → value_unless o v ≡ Err m → o ≡ Some (place_of m)
lacked_answer (Some q) v m e =
    let same : missing_at q ≡ m = cc in
    ap (λ (x : Missing). Some (place_of x)) same
lacked_answer None v m e = absurd (cc)

pub lacked_is_read : (d : Declarations) (e : Expression) (g : List Entry) (ps : List (List Place)) (F : Environment) (f : ℤ) (m : Missing) → answer_of d e g ps F f ≡ Err m
    → Contains (reads_of d e g ps F f) (place_of m) × (is_fixed F (place_of m) ≡ false)
lacked_is_read d e g ps F f m h = unfixed_in F (reads_of d e g ps F f) (place_of m) (lacked_answer (first_unfixed F (reads_of d e g ps F f)) (value_of d e g F f) m h)

-- ---- such a day is tested

last_of : (o : Option ℕ) (n i k : ℕ) (b : Bool) → i ≤ n → (o ≡ Some k → i < k) → or_last o (suc n) b ≡ Some k → i < k
last_of (Some j) n i k b le h e = h e
last_of None n i k true le h e =
    let same : suc n ≡ k = cc in
    omega (arith, same, le)
last_of None n i k false le h e = absurd (cc)

pub not_before : (n i k : ℕ) (p : ℕ → Bool) → i ≤ n → first_of i p ≡ None → first_of n p ≡ Some k → i < k
not_before zero i k p le none h =
    let z : i ≡ zero = omega arith in
    absurd (cc (subst (λ (j : ℕ). first_of j p ≡ None) z none, h))
not_before (suc n) i k p le none h =
    elim (eq-or-lt_of_le le) [
      | inl e ↦ absurd (cc (subst (λ (j : ℕ). first_of j p ≡ None) e none, h))
      | inr lt ↦ last_of (first_of n p) n i k (p (suc n)) (omega arith) (λ x. not_before n i k p (omega arith) none x) h
    ]

up_to : (o : Option ℕ) (n i j : ℕ) → i ≤ n → i ≤ j → ((k : ℕ) → o ≡ Some k → i ≤ k) → i ≤ tested o n (pos j)
up_to None n i j le low h = omega arith
up_to (Some k) n i j le low h = let u = h k refl in omega (arith, u, low)

none_yet : (i n : ℕ) (a : ℕ → ValueOrMissing) (p : ℕ → Bool) → i ≤ n → ((i : ℕ) (v : Value) → a i ≡ Ok v → p i ≡ truth v) → first_tried i a ≡ Ok None → (k : ℕ) → first_of n p ≡ Some k → i ≤ k
none_yet zero n a p le h e k x = omega arith
none_yet (suc i) n a p le h e k x =
    let lt = not_before n i k p (omega arith) (first_found i a p None h e) x in
    omega (arith, lt)

pub is_tested : (d : Declarations) (e : Expression) (g : List Entry) (ps : List (List Place)) (F : Environment) (f : ℤ) (i n j : ℕ) → i ≤ n → i ≤ j → first_tried i (λ k. answer_of d e g ps F (f +ℤ pos k)) ≡ Ok None → i ≤ tested (first_true d e g F f n) n (pos j)
is_tested d e g ps F f i n j le low h =
    up_to (first_true d e g F f n) n i j le low
    (none_yet i n (λ k. answer_of d e g ps F (f +ℤ pos k)) (λ k. truth (value_of d e g F (f +ℤ pos k))) le (λ k v is. ap truth (answer_holds d e g ps F F (f +ℤ pos k) v (λ q w x. x) is)) h)

pub steps_hold : (n i : ℕ) (f : ℕ → List Place) (q : Place) → i < n → Contains (f i) q → Contains (steps_before n f) q
steps_hold zero i f q lt c = absurd (omega (arith, lt))
steps_hold (suc n) i f q lt c =
    elim (eq-or-lt_of_le (at_most i n lt)) [
      | inl e ↦ Contains-append_right (steps_before n f) (f n) q (subst (λ (j : ℕ). Contains (f j) q) e c)
      | inr less ↦ Contains-append_left (steps_before n f) (f n) q (steps_hold n i f q less c)
    ]
  where
    at_most : (i n : ℕ) → i < suc n → i ≤ n
    at_most i n lt = omega arith
