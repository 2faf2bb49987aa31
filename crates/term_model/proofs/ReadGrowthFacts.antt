-- Over more days a contract transfers and reads no less.
use Rattle.std.proofs.Common.{◌≡◌, ℕ, zero, suc, ℤ, pos, ◌+ℤ◌, ◌-ℤ◌, ◌≤ℤ◌, ◌<ℤ◌, ◌≤◌, Bool, true, false, ◌&&◌, ◌||◌, not, ◌==◌, if◌then◌else◌, int_lt, Option, Some, None, List, [], ◌∷◌, ◌++◌, refl, ap, subst, sym, inl, inr, arith, eq-or-lt_of_le}
use Rattle.std.proofs.lemmas.Int.{ints, by_lt_z}
use Rattle.term_model.specs.Declarations.{Declarations}
use Rattle.term_model.specs.Terms.{Contract, Zero, Pay, Both, Scale, After, Let, Within}
use Rattle.term_model.specs.Environments.{Environment, Place}
use Rattle.term_model.specs.Values.{Entry, entry_of, first_true}
use Rattle.term_model.specs.Flows.{count_of}
use Rattle.term_model.specs.Reads.{reads_of, reads_of_contract, live, steps_before, upto, tested}
use Rattle.term_model.specs.Sublists.{IsSublist}
use Rattle.term_model.specs.LawsReads.{ReadsGrow}

none_in : (ys : List Place) → IsSublist [] ys
none_in [] = refl
none_in (y ∷ ys) = inl (none_in ys)

pub itself_in : (xs : List Place) → IsSublist xs xs
itself_in [] = refl
itself_in (x ∷ xs) = inr (xs, refl, itself_in xs)

pub both_in : (xs us ys vs : List Place) → IsSublist xs us → IsSublist ys vs → IsSublist (xs ++ ys) (us ++ vs)
both_in xs [] ys vs h k = subst (λ (zs : List Place). IsSublist (zs ++ ys) vs) (sym h) k
both_in xs (u ∷ us) ys vs (inl h) k = inl (both_in xs us ys vs h k)
both_in xs (u ∷ us) ys vs (inr h) k = inr (h.0 ++ ys, ap (λ (zs : List Place). zs ++ ys) h.1, both_in h.0 us ys vs h.2 k)

-- a list is within itself with more behind
before_more : (xs us zs : List Place) → IsSublist xs us → IsSublist xs (us ++ zs)
before_more [] us zs h = none_in (us ++ zs)
before_more (x ∷ xs) [] zs h = absurd (cc)
before_more (x ∷ xs) (u ∷ us) zs (inl h) = inl (before_more (x ∷ xs) us zs h)
before_more (x ∷ xs) (u ∷ us) zs (inr h) = inr (h.0, h.1, before_more h.0 us zs h.2)

-- the steps before m are among those before n, for n at least m
steps_in : (m n : ℕ) (f : ℕ → List Place) → m ≤ n → IsSublist (steps_before m f) (steps_before n f)
steps_in m zero f le =
    let e : zero ≡ m = omega arith in
    subst (λ (k : ℕ). IsSublist (steps_before k f) []) e refl
steps_in m (suc n) f le =
    elim (eq-or-lt_of_le le) [
      | inl e ↦ subst (λ (k : ℕ). IsSublist (steps_before m f) (steps_before k f)) e (itself_in (steps_before m f))
      | inr lt ↦ before_more (steps_before m f) (steps_before n f) (f n) (steps_in m n f (omega arith))
    ]

abbrev OnlyIf : Bool → Bool → Type 0
OnlyIf a b = a ≡ true → b ≡ true

is_below : (a b : ℤ) → a <ℤ b → int_lt a b ≡ true
is_below a b h = grind (arith, ints)

not_below : (a b : ℤ) → b ≤ℤ a → int_lt a b ≡ false
not_below a b h = grind (arith, ints)

-- a day that is not before one is not before an earlier one
later_still : (x y z : ℤ) → x ≤ℤ y → int_lt y z ≡ true → int_lt x z ≡ true
later_still x y z le h =
    elim (by_lt_z y z (λ p. inl p) (λ p. inr p)) [
      | inl lt ↦ is_below x z (omega (arith, ints))
      | inr ge ↦ absurd (cc (not_below y z ge))
    ]

above_still : (x y z : ℤ) → y ≤ℤ z → int_lt x y ≡ true → int_lt x z ≡ true
above_still x y z le h =
    elim (by_lt_z x y (λ p. inl p) (λ p. inr p)) [
      | inl lt ↦ is_below x z (omega (arith, ints))
      | inr ge ↦ absurd (cc (not_below x y ge))
    ]

-- whether one pays another, where the days lie on neither side
apart_and_due : (p s t u v : Bool) → OnlyIf t s → OnlyIf v u → OnlyIf (p && not s && not u) (p && not t && not v)
apart_and_due false s t u v h k e = absurd (cc)
apart_and_due true true t u v h k e = absurd (cc)
apart_and_due true false true u v h k e = absurd (cc (h refl))
apart_and_due true false false true v h k e = absurd (cc)
apart_and_due true false false false true h k e = absurd (cc (k refl))
apart_and_due true false false false false h k e = refl

either : (a b c d : Bool) → OnlyIf a c → OnlyIf b d → OnlyIf (a || b) (c || d)
either a b true d h k e = refl
either true b false d h k e = absurd (cc (h refl))
either false b false d h k e = k e

branch_only : (o : Option ℕ) (x y : ℕ → Bool) (u v : Bool) → ((k : ℕ) → OnlyIf (x k) (y k)) → OnlyIf u v → OnlyIf (elim o [ Some k ↦ x k | None ↦ u ]) (elim o [ Some k ↦ y k | None ↦ v ])
branch_only (Some k) x y u v h e = h k
branch_only None x y u v h e = e

live_grows : (d : Declarations) (c : Contract) (g : List Entry) (env : Environment) (f a b s t : ℤ) → s ≤ℤ a → b ≤ℤ t → OnlyIf (live d c g env f a b) (live d c g env f s t)
live_grows d Zero g env f a b s t le le' = λ e. e
live_grows d (Pay x p q) g env f a b s t le le' =
    apart_and_due (not (p == q)) (int_lt (pos 0) a) (int_lt (pos 0) s) (int_lt b (pos 0)) (int_lt t (pos 0)) (above_still (pos 0) s a le) (later_still b t (pos 0) le')
live_grows d (Both x y) g env f a b s t le le' =
    either (live d x g env f a b) (live d y g env f a b) (live d x g env f s t) (live d y g env f s t) (live_grows d x g env f a b s t le le') (live_grows d y g env f a b s t le le')
live_grows d (Scale e c) g env f a b s t le le' = live_grows d c g env f a b s t le le'
live_grows d (After m c) g env f a b s t le le' =
    live_grows d c g env (f +ℤ pos (count_of m)) (a -ℤ pos (count_of m)) (b -ℤ pos (count_of m)) (s -ℤ pos (count_of m)) (t -ℤ pos (count_of m)) (omega (arith, ints)) (omega (arith, ints))
live_grows d (Let e c) g env f a b s t le le' = live_grows d c (entry_of d e g env f ∷ g) env f a b s t le le'
live_grows d (Within e m x y) g env f a b s t le le' =
    branch_only (first_true d e g env f (count_of m)) (λ k. live d x g env (f +ℤ pos k) (a -ℤ pos k) (b -ℤ pos k)) (λ k. live d x g env (f +ℤ pos k) (s -ℤ pos k) (t -ℤ pos k)) _ _
    (λ k. live_grows d x g env (f +ℤ pos k) (a -ℤ pos k) (b -ℤ pos k) (s -ℤ pos k) (t -ℤ pos k) (omega (arith, ints)) (omega (arith, ints)))
    (live_grows d y g env (f +ℤ pos (count_of m)) (a -ℤ pos (count_of m)) (b -ℤ pos (count_of m)) (s -ℤ pos (count_of m)) (t -ℤ pos (count_of m)) (omega (arith, ints)) (omega (arith, ints)))

-- what is read where a test holds, and where another does that follows
where_more : (b c : Bool) (xs : List Place) → OnlyIf b c → IsSublist (if b then xs else []) (if c then xs else [])
where_more false c xs h = none_in (if c then xs else [])
where_more true true xs h = itself_in xs
where_more true false xs h = absurd (cc (h refl))

-- what is read but where a test holds, and but where another does from which it follows
unless_more : (b c : Bool) (xs ys : List Place) → OnlyIf c b → (b ≡ false → IsSublist xs ys) → IsSublist (if b then [] else xs) (if c then [] else ys)
unless_more true c xs ys h k = none_in (if c then [] else ys)
unless_more false true xs ys h k = absurd (cc (h refl))
unless_more false false xs ys h k = k refl

abbrev branch_reads : Option ℕ → ℕ → ℤ → (ℕ → List Place) → List Place → List Place
branch_reads o n b x u = elim o [ Some k ↦ if int_lt b (pos k) then [] else x k | None ↦ if int_lt b (pos n) then [] else u ]

branch_grows : (o : Option ℕ) (n : ℕ) (b t : ℤ) (x y : ℕ → List Place) (u v : List Place) → b ≤ℤ t → ((k : ℕ) → IsSublist (x k) (y k)) → IsSublist u v → IsSublist (branch_reads o n b x u) (branch_reads o n t y v)
branch_grows (Some k) n b t x y u v le h e = unless_more (int_lt b (pos k)) (int_lt t (pos k)) (x k) (y k) (later_still b t (pos k) le) (λ _. h k)
branch_grows None n b t x y u v le h e = unless_more (int_lt b (pos n)) (int_lt t (pos n)) u v (later_still b t (pos n) le) (λ _. e)

-- more days are tried up to a later day
more_tested : (o : Option ℕ) (n : ℕ) (b t : ℤ) → pos 0 ≤ℤ b → b ≤ℤ t → tested o n b ≤ tested o n t
more_tested (Some k) n b t z le = omega (arith, ints)
more_tested None n b t z le = omega (arith, ints)

not_negative : (b : ℤ) → int_lt b (pos 0) ≡ false → pos 0 ≤ℤ b
not_negative b h =
    elim (by_lt_z b (pos 0) (λ p. inl p) (λ p. inr p)) [
      | inl lt ↦ absurd (cc (is_below b (pos 0) lt))
      | inr ge ↦ ge
    ]

pub reads_grow : ReadsGrow
reads_grow d Zero g bs env f a b s t le le' = refl
reads_grow d (Pay x p q) g bs env f a b s t le le' = refl
reads_grow d (Both x y) g bs env f a b s t le le' =
    both_in (reads_of_contract d x g bs env f a b) (reads_of_contract d x g bs env f s t) _ _ (reads_grow d x g bs env f a b s t le le') (reads_grow d y g bs env f a b s t le le')
reads_grow d (Scale e c) g bs env f a b s t le le' =
    both_in (reads_of_contract d c g bs env f a b) (reads_of_contract d c g bs env f s t) _ _ (reads_grow d c g bs env f a b s t le le')
    (where_more (live d c g env f a b) (live d c g env f s t) (reads_of d e g bs env f) (live_grows d c g env f a b s t le le'))
reads_grow d (After m c) g bs env f a b s t le le' =
    reads_grow d c g bs env (f +ℤ pos (count_of m)) (a -ℤ pos (count_of m)) (b -ℤ pos (count_of m)) (s -ℤ pos (count_of m)) (t -ℤ pos (count_of m)) (omega (arith, ints)) (omega (arith, ints))
reads_grow d (Let e c) g bs env f a b s t le le' = reads_grow d c (entry_of d e g env f ∷ g) (reads_of d e g bs env f ∷ bs) env f a b s t le le'
reads_grow d (Within e m x y) g bs env f a b s t le le' =
    let n = count_of m in
    let first = first_true d e g env f n in
    let test : ℕ → List Place = λ i. reads_of d e g bs env (f +ℤ pos i) in
    unless_more (int_lt b (pos 0)) (int_lt t (pos 0)) _ _ (later_still b t (pos 0) le') (λ some.
    both_in (upto (tested first n b) test) (upto (tested first n t) test) _ _
    (steps_in (suc (tested first n b)) (suc (tested first n t)) test (omega (arith, more_tested first n b t (not_negative b some) le')))
    (branch_grows first n b t _ _ _ _ le'
    (λ k. reads_grow d x g bs env (f +ℤ pos k) (a -ℤ pos k) (b -ℤ pos k) (s -ℤ pos k) (t -ℤ pos k) (omega (arith, ints)) (omega (arith, ints)))
    (reads_grow d y g bs env (f +ℤ pos n) (a -ℤ pos n) (b -ℤ pos n) (s -ℤ pos n) (t -ℤ pos n) (omega (arith, ints)) (omega (arith, ints)))))
