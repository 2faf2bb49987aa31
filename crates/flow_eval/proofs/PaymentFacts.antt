-- The payments of a contract fall on the days from its own to the last, between two parties in order, and are no more
-- than its nodes; there are some exactly where something is transferred.
use Rattle.std.proofs.Common.{◌≡◌, ℕ, ℤ, pos, ◌+ℤ◌, ◌-ℤ◌, ◌≤ℤ◌, ◌≤◌, ◌<◌, ◌+◌, ◌-◌, min, max, Bool, true, false, ◌&&◌, ◌||◌, not, ◌==◌, int_lt, if◌then◌else◌, List, [], ◌∷◌, ◌++◌, length, length-append, Option, Some, None, refl, ap, ◌∙◌, arith}
use Rattle.std.specs.List.{All}
use Rattle.std.proofs.lemmas.Int.{ints}
use Rattle.std.proofs.lemmas.Bool.Decides.{nat_tests}
use Rattle.std.proofs.lemmas.List.{length-map}
use Rattle.std.proofs.lemmas.List.Elements.{All-append, All-nil, All-cons, All-map}
use Rattle.decimal.specs.Rounding.{raised}
use Rattle.term_model.specs.Declarations.{Declarations}
use Rattle.term_model.specs.Terms.{Contract, Zero, Pay, Both, Scale, After, Let, Within}
use Rattle.term_model.specs.Environments.{Environment}
use Rattle.term_model.specs.Kinds.{kind_of, scale_of}
use Rattle.term_model.specs.Values.{Entry, kinds, num, kind_or, value_of, first_true}
use Rattle.term_model.specs.Flows.{count_of}
use Rattle.term_model.specs.Reads.{live}
use Rattle.term_model.specs.Sizes.{nodes, nodes_of_contract}
use Rattle.flow_eval.specs.declared.flow_table.Slot.{Slot}
use Rattle.flow_eval.specs.declared.payments.Payment.{Payment}
use Rattle.flow_eval.specs.Payments.{multiplied, payment_on, payments_of, some_paid, times}

-- ---- where they stand

-- a slot on a day from the first to the last, of two parties in order
abbrev pub Counts : ℤ → ℤ → Slot → Type 0
Counts first last s = (first ≤ℤ s.day) × (s.day ≤ℤ last) × (s.lower < s.higher)

abbrev AllCount : ℤ → ℤ → List Payment → Type 0
AllCount first last ps = All (λ (p : Payment). Counts first last p.slot) ps

apart : (p q : ℕ) → (p == q) ≡ false → min p q < max p q
apart p q h = grind (arith, nat_tests)

not_after : (last day : ℤ) → int_lt last day ≡ false → day ≤ℤ last
not_after last day h = grind (arith, ints)

paid_counts : (late same : Bool) (first last : ℤ) (p : Payment) → (late ≡ false → same ≡ false → Counts first last p.slot) → AllCount first last (if late || same then [] else p ∷ [])
paid_counts true same first last p h = All-nil (λ (p : Payment). Counts first last p.slot)
paid_counts false true first last p h = All-nil (λ (p : Payment). Counts first last p.slot)
paid_counts false false first last p h = All-cons (λ (p : Payment). Counts first last p.slot) p [] (h refl refl) (All-nil (λ (p : Payment). Counts first last p.slot))

branch_counts : (o : Option ℕ) (first last : ℤ) (hit : ℕ → List Payment) (miss : List Payment) → ((k : ℕ) → AllCount first last (hit k)) → AllCount first last miss
    → AllCount first last (elim o [ Some k ↦ hit k | None ↦ miss ])
branch_counts (Some k) first last hit miss one other = one k
branch_counts None first last hit miss one other = other

sooner : (first f : ℤ) (n : ℕ) → first ≤ℤ f → first ≤ℤ (f +ℤ pos n)
sooner first f n h = omega (arith, ints)

pub payments_count : (d : Declarations) (env : Environment) (first last : ℤ) (c : Contract) (g : List Entry) (decimals : ℕ) (f : ℤ) → first ≤ℤ f → AllCount first last (payments_of d decimals c g env f last)
payments_count d env first last Zero g decimals f from = All-nil (λ (p : Payment). Counts first last p.slot)
payments_count d env first last (Pay a p q) g decimals f from =
    paid_counts (int_lt last f) (p == q) first last (payment_on f (record { asset = a; from = p; to = q }) (raised (pos 1) decimals)) (λ early different. (from, not_after last f early, apart p q different))
payments_count d env first last (Both one other) g decimals f from =
    All-append (λ (p : Payment). Counts first last p.slot) (payments_of d decimals one g env f last) (payments_of d decimals other g env f last) (payments_count d env first last one g decimals f from) (payments_count d env first last other g decimals f from)
payments_count d env first last (Scale e c) g decimals f from =
    All-map (λ (p : Payment). Counts first last p.slot) (times (num (value_of d e g env f))) (payments_of d (decimals - scale_of d e (kinds g)) c g env f last) (payments_count d env first last c g (decimals - scale_of d e (kinds g)) f from)
payments_count d env first last (After n c) g decimals f from = payments_count d env first last c g decimals (f +ℤ pos (count_of n)) (sooner first f (count_of n) from)
payments_count d env first last (Let e c) g decimals f from =
    payments_count d env first last c (record { value = value_of d e g env f; kind = kind_or (kind_of d e (kinds g)) } ∷ g) decimals f from
payments_count d env first last (Within e n one other) g decimals f from =
    branch_counts (first_true d e g env f (count_of n)) first last (λ k. payments_of d decimals one g env (f +ℤ pos k) last) (payments_of d decimals other g env (f +ℤ pos (count_of n)) last)
    (λ k. payments_count d env first last one g decimals (f +ℤ pos k) (sooner first f k from)) (payments_count d env first last other g decimals (f +ℤ pos (count_of n)) (sooner first f (count_of n) from))

-- ---- how many they are

one_at_most : (t : Bool) (p : Payment) → length (if t then [] else p ∷ []) ≤ 1
one_at_most true p = omega arith
one_at_most false p = omega arith

branch_few : (o : Option ℕ) (hit : ℕ → List Payment) (miss : List Payment) (most : ℕ) → ((k : ℕ) → length (hit k) ≤ most) → length miss ≤ most → length {A = Payment} (elim o [ Some k ↦ hit k | None ↦ miss ]) ≤ most
branch_few (Some k) hit miss most one other = one k
branch_few None hit miss most one other = other

fewer : (n a b : ℕ) → n ≤ a → a ≤ b → n ≤ b
fewer n a b h k = omega arith

pub payments_few : (d : Declarations) (env : Environment) (last : ℤ) (c : Contract) (g : List Entry) (decimals : ℕ) (f : ℤ) → length (payments_of d decimals c g env f last) ≤ nodes_of_contract c
payments_few d env last Zero g decimals f = omega arith
payments_few d env last (Pay a p q) g decimals f = one_at_most (int_lt last f || (p == q)) (payment_on f (record { asset = a; from = p; to = q }) (raised (pos 1) decimals))
payments_few d env last (Both one other) g decimals f =
    omega (arith, length-append (payments_of d decimals one g env f last) (payments_of d decimals other g env f last), payments_few d env last one g decimals f, payments_few d env last other g decimals f)
payments_few d env last (Scale e c) g decimals f =
    omega (arith, length-map (payments_of d (decimals - scale_of d e (kinds g)) c g env f last) (times (num (value_of d e g env f))), payments_few d env last c g (decimals - scale_of d e (kinds g)) f)
payments_few d env last (After n c) g decimals f = fewer _ (nodes_of_contract c) _ (payments_few d env last c g decimals (f +ℤ pos (count_of n))) (omega arith)
payments_few d env last (Let e c) g decimals f =
    fewer _ (nodes_of_contract c) _ (payments_few d env last c (record { value = value_of d e g env f; kind = kind_or (kind_of d e (kinds g)) } ∷ g) decimals f) (omega arith)
payments_few d env last (Within e n one other) g decimals f =
    branch_few (first_true d e g env f (count_of n)) (λ k. payments_of d decimals one g env (f +ℤ pos k) last) (payments_of d decimals other g env (f +ℤ pos (count_of n)) last) (nodes e + nodes_of_contract one + nodes_of_contract other + 1)
    (λ k. fewer _ (nodes_of_contract one) _ (payments_few d env last one g decimals (f +ℤ pos k)) (omega arith)) (fewer _ (nodes_of_contract other) _ (payments_few d env last other g decimals (f +ℤ pos (count_of n))) (omega arith))

-- ---- where there are some

some-append : (ps qs : List Payment) → some_paid (ps ++ qs) ≡ (some_paid ps || some_paid qs)
some-append [] qs = refl
some-append (p ∷ ps) qs = refl

some-multiplied : (v : ℤ) (ps : List Payment) → some_paid (multiplied v ps) ≡ some_paid ps
some-multiplied v [] = refl
some-multiplied v (p ∷ ps) = refl

some-either : (a b x y : Bool) → a ≡ x → b ≡ y → (a || b) ≡ (x || y)
some-either a b x y h k = ap (λ (z : Bool). z || b) h ∙ ap (λ (z : Bool). x || z) k

paid_live : (late late' early same : Bool) (p : Payment) → late ≡ late' → early ≡ false → some_paid (if late || same then [] else p ∷ []) ≡ (not same && not early && not late')
paid_live true true false true p h k = refl
paid_live true true false false p h k = refl
paid_live false false false true p h k = refl
paid_live false false false false p h k = refl
paid_live true false early same p h k = absurd (cc)
paid_live false true early same p h k = absurd (cc)
paid_live late late' true same p h k = absurd (cc)

branch_live : (o : Option ℕ) (hit : ℕ → List Payment) (miss : List Payment) (x : ℕ → Bool) (y : Bool) → ((k : ℕ) → some_paid (hit k) ≡ x k) → some_paid miss ≡ y
    → some_paid (elim o [ Some k ↦ hit k | None ↦ miss ]) ≡ elim o [ Some k ↦ x k | None ↦ y ]
branch_live (Some k) hit miss x y one other = one k
branch_live None hit miss x y one other = other

pub after_last : (last f b : ℤ) → b ≡ last -ℤ f → int_lt last f ≡ int_lt b (pos 0)
after_last last f b h = grind (arith, ints)

not_before : (a : ℤ) → a ≤ℤ pos 0 → int_lt (pos 0) a ≡ false
not_before a h = grind (arith, ints)

pub lower : (a : ℤ) (n : ℕ) → a ≤ℤ pos 0 → (a -ℤ pos n) ≤ℤ pos 0
lower a n h = omega (arith, ints)

pub shorter : (last f b : ℤ) (n : ℕ) → b ≡ last -ℤ f → b -ℤ pos n ≡ last -ℤ (f +ℤ pos n)
shorter last f b n h = omega (arith, ints)

-- there are payments exactly where something is transferred on the path taken
pub payments_live : (d : Declarations) (env : Environment) (last : ℤ) (c : Contract) (g : List Entry) (decimals : ℕ) (f a b : ℤ) → a ≤ℤ pos 0 → b ≡ last -ℤ f
    → some_paid (payments_of d decimals c g env f last) ≡ live d c g env f a b
payments_live d env last Zero g decimals f a b h e = refl
payments_live d env last (Pay x p q) g decimals f a b h e =
    paid_live (int_lt last f) (int_lt b (pos 0)) (int_lt (pos 0) a) (p == q) (payment_on f (record { asset = x; from = p; to = q }) (raised (pos 1) decimals)) (after_last last f b e) (not_before a h)
payments_live d env last (Both one other) g decimals f a b h e =
    some-append (payments_of d decimals one g env f last) (payments_of d decimals other g env f last) ∙ some-either _ _ _ _ (payments_live d env last one g decimals f a b h e) (payments_live d env last other g decimals f a b h e)
payments_live d env last (Scale e c) g decimals f a b h i =
    some-multiplied (num (value_of d e g env f)) (payments_of d (decimals - scale_of d e (kinds g)) c g env f last) ∙ payments_live d env last c g (decimals - scale_of d e (kinds g)) f a b h i
payments_live d env last (After n c) g decimals f a b h e =
    payments_live d env last c g decimals (f +ℤ pos (count_of n)) (a -ℤ pos (count_of n)) (b -ℤ pos (count_of n)) (lower a (count_of n) h) (shorter last f b (count_of n) e)
payments_live d env last (Let e c) g decimals f a b h i =
    payments_live d env last c (record { value = value_of d e g env f; kind = kind_or (kind_of d e (kinds g)) } ∷ g) decimals f a b h i
payments_live d env last (Within e n one other) g decimals f a b h i =
    branch_live (first_true d e g env f (count_of n)) (λ k. payments_of d decimals one g env (f +ℤ pos k) last) (payments_of d decimals other g env (f +ℤ pos (count_of n)) last) (λ k. live d one g env (f +ℤ pos k) (a -ℤ pos k) (b -ℤ pos k)) (live d other g env (f +ℤ pos (count_of n)) (a -ℤ pos (count_of n)) (b -ℤ pos (count_of n)))
    (λ k. payments_live d env last one g decimals (f +ℤ pos k) (a -ℤ pos k) (b -ℤ pos k) (lower a k h) (shorter last f b k i))
    (payments_live d env last other g decimals (f +ℤ pos (count_of n)) (a -ℤ pos (count_of n)) (b -ℤ pos (count_of n)) (lower a (count_of n) h) (shorter last f b (count_of n) i))

-- there are none after the last day
branch_none : (o : Option ℕ) (hit : ℕ → List Payment) (miss : List Payment) → ((k : ℕ) → hit k ≡ []) → miss ≡ [] → ◌≡◌ {A = List Payment} (elim o [ Some k ↦ hit k | None ↦ miss ]) []
branch_none (Some k) hit miss one other = one k
branch_none None hit miss one other = other

pub still_after : (last f : ℤ) (n : ℕ) → int_lt last f ≡ true → int_lt last (f +ℤ pos n) ≡ true
still_after last f n h = grind (arith, ints)

paid_late : (late same : Bool) (p : Payment) → late ≡ true → (if late || same then [] else p ∷ []) ≡ []
paid_late true same p h = refl
paid_late false same p h = absurd (cc)

none-append : (ps qs : List Payment) → ps ≡ [] → qs ≡ [] → ps ++ qs ≡ []
none-append ps qs h k = ap (λ (x : List Payment). x ++ qs) h ∙ k

pub payments_none : (d : Declarations) (env : Environment) (last : ℤ) (c : Contract) (g : List Entry) (decimals : ℕ) (f : ℤ) → int_lt last f ≡ true → payments_of d decimals c g env f last ≡ []
payments_none d env last Zero g decimals f h = refl
payments_none d env last (Pay a p q) g decimals f h = paid_late (int_lt last f) (p == q) (payment_on f (record { asset = a; from = p; to = q }) (raised (pos 1) decimals)) h
payments_none d env last (Both one other) g decimals f h = none-append _ _ (payments_none d env last one g decimals f h) (payments_none d env last other g decimals f h)
payments_none d env last (Scale e c) g decimals f h = ap (multiplied (num (value_of d e g env f))) (payments_none d env last c g (decimals - scale_of d e (kinds g)) f h)
payments_none d env last (After n c) g decimals f h = payments_none d env last c g decimals (f +ℤ pos (count_of n)) (still_after last f (count_of n) h)
payments_none d env last (Let e c) g decimals f h = payments_none d env last c (record { value = value_of d e g env f; kind = kind_or (kind_of d e (kinds g)) } ∷ g) decimals f h
payments_none d env last (Within e n one other) g decimals f h =
    branch_none (first_true d e g env f (count_of n)) (λ k. payments_of d decimals one g env (f +ℤ pos k) last) (payments_of d decimals other g env (f +ℤ pos (count_of n)) last)
    (λ k. payments_none d env last one g decimals (f +ℤ pos k) (still_after last f k h)) (payments_none d env last other g decimals (f +ℤ pos (count_of n)) (still_after last f (count_of n) h))
