-- The volume of a contract is at most its total, and at least the sum of the sizes of its flows over all days, pairs of
-- parties and assets.
use Rattle.std.proofs.Common.{◌≡◌, ℕ, ◌+◌, ◌-◌, ◌*◌, ◌^◌, max, ◌≤◌, ℤ, pos, neg_ℤ, ◌+ℤ◌, ◌-ℤ◌, ◌*ℤ◌, unsigned_abs, Bool, true, false, ◌&&◌, ◌||◌, not, ◌==◌, int_eq, inl, inr, ◌⊎◌, if◌then◌else◌, List, [], ◌∷◌, Option, Some, None, refl, ap, sym, ◌∙◌, subst, arith}
use Rattle.std.specs.List.{All, sum_by}
use Rattle.std.proofs.Math.Nat.{mul-le-mul_right, add-mul}
use Rattle.std.proofs.lemmas.Int.{ints, unsigned_abs-mul}
use Rattle.std.proofs.lemmas.Bool.Decides.{nat_tests}
use Rattle.std.proofs.lemmas.List.Elements.{All-head, All-tail}
use Rattle.std.proofs.lemmas.List.Sums.{sum_by-cons}
use Rattle.decimal.specs.Rounding.{raised}
use Rattle.term_model.specs.Declarations.{Declarations}
use Rattle.term_model.specs.declared.values.Kind.{Kind}
use Rattle.term_model.specs.Terms.{Contract, Zero, Pay, Both, Scale, After, Let, Within}
use Rattle.term_model.specs.Environments.{Environment, IsAdmitted}
use Rattle.term_model.specs.Values.{Entry, kinds, num, value_of, first_true, entry_of}
use Rattle.term_model.specs.Flows.{count_of, scale_of_contract, unit_flow, on_day_zero, flow_of}
use Rattle.term_model.specs.Bounds.{Range, range_kinds, interval_of, greatest_size, total_of}
use Rattle.interval_check.specs.Nodes.{IsBoundedContract, range_of}
use Rattle.interval_check.specs.Within.{KeepsLimits}
use Rattle.interval_check.specs.Volumes.{Occasion, IsApart, AreApart, volume_of, AllFlowsAddUpToTotal, AllAmountsAddUpToTotal}
use Rattle.interval_check.proofs.MultipleFacts.{times-size}
use Rattle.interval_check.proofs.RuleFacts.{bounds_hold}
use Rattle.interval_check.proofs.ValueFacts.{AreInside, inside_from, same_kinds, values_lie}
use Rattle.interval_check.proofs.TurnoverFacts.{size_in, inside_let, both_at_most, product_at_most, branch_at_most}

-- ---- at most the total

abbrev VolumeIsAtMost : Declarations → Contract → Type 0
VolumeIsAtMost d c =
    (g : List Range) (es : List Entry) (env : Environment) (f : ℤ) → IsBoundedContract d c g → AreInside g es → IsAdmitted d env → volume_of d c es env f ≤ total_of d c g

one_at_most : (same : Bool) → (if same then 0 else 1) ≤ 1
one_at_most true = omega arith
one_at_most false = omega arith

pub volume_at_most : (d : Declarations) → KeepsLimits d → (c : Contract) → VolumeIsAtMost d c
volume_at_most d limits Zero g es env f h inside admitted = omega arith
volume_at_most d limits (Pay a p q) g es env f h inside admitted = one_at_most (p == q)
volume_at_most d limits (Both a b) g es env f h inside admitted =
    subst (λ (ks : List Kind). volume_of d a es env f * 10 ^ (max (scale_of_contract d a ks) (scale_of_contract d b ks) - scale_of_contract d a ks) + volume_of d b es env f * 10 ^ (max (scale_of_contract d a ks) (scale_of_contract d b ks) - scale_of_contract d b ks) ≤ total_of d (Both a b) g) (same_kinds g es inside)
    (both_at_most (volume_of d a es env f) (volume_of d b es env f) (total_of d a g) (total_of d b g) (10 ^ (max (scale_of_contract d a (range_kinds g)) (scale_of_contract d b (range_kinds g)) - scale_of_contract d a (range_kinds g))) (10 ^ (max (scale_of_contract d a (range_kinds g)) (scale_of_contract d b (range_kinds g)) - scale_of_contract d b (range_kinds g))) (volume_at_most d limits a g es env f h.0 inside admitted) (volume_at_most d limits b g es env f h.1 inside admitted))
volume_at_most d limits (Scale e c) g es env f h inside admitted =
    product_at_most (volume_of d c es env f) (unsigned_abs (num (value_of d e es env f))) (total_of d c g) (greatest_size (interval_of d e g)) (volume_at_most d limits c g es env f h.1 inside admitted) (size_in (interval_of d e g) (num (value_of d e es env f)) (values_lie d limits e g es env f h.0 inside admitted))
volume_at_most d limits (After n c) g es env f h inside admitted =
    volume_at_most d limits c g es env (f +ℤ pos (count_of n)) h.0 inside admitted
volume_at_most d limits (Let e c) g es env f h inside admitted =
    volume_at_most d limits c (range_of d e g ∷ g) (entry_of d e es env f ∷ es) env f h.1 (inside_let d e g es env f inside (values_lie d limits e g es env f h.0 inside admitted)) admitted
volume_at_most d limits (Within e n a b) g es env f h inside admitted =
    let i = scale_of_contract d a (range_kinds g) in
    let j = scale_of_contract d b (range_kinds g) in
    subst (λ (ks : List Kind). elim (first_true d e es env f (count_of n)) [ Some k ↦ volume_of d a es env (f +ℤ pos k) * 10 ^ (max (scale_of_contract d a ks) (scale_of_contract d b ks) - scale_of_contract d a ks) | None ↦ volume_of d b es env (f +ℤ pos (count_of n)) * 10 ^ (max (scale_of_contract d a ks) (scale_of_contract d b ks) - scale_of_contract d b ks) ] ≤ total_of d (Within e n a b) g) (same_kinds g es inside)
    (branch_at_most (first_true d e es env f (count_of n)) (λ k. volume_of d a es env (f +ℤ pos k)) (volume_of d b es env (f +ℤ pos (count_of n))) (total_of d a g) (total_of d b g) (10 ^ (max i j - i)) (10 ^ (max i j - j)) (λ k. volume_at_most d limits a g es env (f +ℤ pos k) h.1 inside admitted) (volume_at_most d limits b g es env (f +ℤ pos (count_of n)) h.2 inside admitted))

-- ---- sums of sizes over a list

abbrev sizes : {X : Type 0} → (X → ℤ) → List X → ℕ
sizes x xs = sum_by (λ y. unsigned_abs (x y)) xs

none_in : {X : Type 0} (xs : List X) → sizes (λ y. pos 0) xs ≡ 0
none_in [] = refl
none_in (y ∷ xs) = omega (arith, sum_by-cons (λ _. 0) y xs, none_in xs)

size_plus : (x y : ℤ) → unsigned_abs (x +ℤ y) ≤ unsigned_abs x + unsigned_abs y
size_plus x y = omega (arith, ints)

sum_raised : {X : Type 0} (x : X → ℤ) (k : ℕ) (xs : List X) → sizes (λ y. raised (x y) k) xs ≡ sizes x xs * 10 ^ k
sum_raised x k [] = omega arith
sum_raised x k (y ∷ xs) =
    let here : unsigned_abs (raised (x y) k) ≡ unsigned_abs (x y) * 10 ^ k = times-size (x y) (10 ^ k) in
    let one = sum_by-cons (λ z. unsigned_abs (raised (x z) k)) y xs in
    let two = sum_by-cons (λ z. unsigned_abs (x z)) y xs in
    let all : sizes x (y ∷ xs) * 10 ^ k ≡ (unsigned_abs (x y) + sizes x xs) * 10 ^ k = ap (λ (n : ℕ). n * 10 ^ k) two in
    omega (arith, sum_raised x k xs, add-mul (unsigned_abs (x y)) (sizes x xs) (10 ^ k))

sum_plus : {X : Type 0} (x y : X → ℤ) (xs : List X) → sizes (λ z. x z +ℤ y z) xs ≤ sizes x xs + sizes y xs
sum_plus x y [] = omega arith
sum_plus x y (z ∷ xs) =
    let all = sum_by-cons (λ w. unsigned_abs (x w +ℤ y w)) z xs in
    let one = sum_by-cons (λ w. unsigned_abs (x w)) z xs in
    let two = sum_by-cons (λ w. unsigned_abs (y w)) z xs in
    omega (arith, sum_plus x y xs, size_plus (x z) (y z))

sum_times : {X : Type 0} (v : ℤ) (x : X → ℤ) (xs : List X) → sizes (λ y. v *ℤ x y) xs ≡ sizes x xs * unsigned_abs v
sum_times v x [] = omega arith
sum_times v x (y ∷ xs) =
    let one = sum_by-cons (λ z. unsigned_abs (v *ℤ x z)) y xs in
    let two = sum_by-cons (λ z. unsigned_abs (x z)) y xs in
    let all : sizes x (y ∷ xs) * unsigned_abs v ≡ (unsigned_abs (x y) + sizes x xs) * unsigned_abs v = ap (λ (n : ℕ). n * unsigned_abs v) two in
    omega (arith, sum_times v x xs, unsigned_abs-mul v (x y), add-mul (unsigned_abs (x y)) (sizes x xs) (unsigned_abs v))

raised_sum : {X : Type 0} (x : X → ℤ) (k most : ℕ) (xs : List X) → sizes x xs ≤ most → sizes (λ y. raised (x y) k) xs ≤ most * 10 ^ k
raised_sum x k most xs h = omega (arith, sum_raised x k xs, mul-le-mul_right (10 ^ k) h)

sum_of_both : {X : Type 0} (x y : X → ℤ) (p q a b : ℕ) (xs : List X) → sizes x xs ≤ a → sizes y xs ≤ b → sizes (λ z. raised (x z) p +ℤ raised (y z) q) xs ≤ a * 10 ^ p + b * 10 ^ q
sum_of_both x y p q a b xs h g =
    let left = raised_sum x p a xs h in
    let right = raised_sum y q b xs g in
    let parts = sum_plus (λ z. raised (x z) p) (λ z. raised (y z) q) xs in
    omega arith

sum_of_product : {X : Type 0} (v : ℤ) (x : X → ℤ) (most : ℕ) (xs : List X) → sizes x xs ≤ most → sizes (λ y. v *ℤ x y) xs ≤ most * unsigned_abs v
sum_of_product v x most xs h = omega (arith, sum_times v x xs, mul-le-mul_right (unsigned_abs v) h)

sum_of_branch : {X : Type 0} (o : Option ℕ) (x : ℕ → X → ℤ) (y : X → ℤ) (a : ℕ → ℕ) (b p q : ℕ) (xs : List X) → ((k : ℕ) → sizes (x k) xs ≤ a k) → sizes y xs ≤ b → sizes (λ z. elim o [ Some k ↦ raised (x k z) p | None ↦ raised (y z) q ]) xs ≤ elim o [ Some k ↦ a k * 10 ^ p | None ↦ b * 10 ^ q ]
sum_of_branch (Some k) x y a b p q xs h g = raised_sum (x k) p (a k) xs (h k)
sum_of_branch None x y a b p q xs h g = raised_sum y q b xs g

-- ---- one payment is due on one occasion at most

abbrev one_if : Bool → ℕ
one_if true = 1
one_if false = 0

abbrev due : ℤ → ℕ → ℕ → ℕ → Occasion → Bool
due m a p q x =
    int_eq (x.day -ℤ m) (pos 0) && ((a == x.flow.asset) && (not (p == q) && (((p == x.flow.from) && (q == x.flow.to)) || ((p == x.flow.to) && (q == x.flow.from)))))

unit_size : (now asset same there back : Bool) → unsigned_abs (if now then (if asset && not same then (if there then pos 1 else (if back then neg_ℤ (pos 1) else pos 0)) else pos 0) else pos 0) ≡ one_if (now && (asset && (not same && (there || back))))
unit_size false asset same there back = refl
unit_size true false same there back = refl
unit_size true true true there back = refl
unit_size true true false true back = refl
unit_size true true false false true = refl
unit_size true true false false false = refl

size_of_due : (m : ℤ) (a p q : ℕ) (x : Occasion) → unsigned_abs (on_day_zero (x.day -ℤ m) (unit_flow a p q x.flow)) ≡ one_if (due m a p q x)
size_of_due m a p q x =
    unit_size (int_eq (x.day -ℤ m) (pos 0)) (a == x.flow.asset) (p == q) ((p == x.flow.from) && (q == x.flow.to)) ((p == x.flow.to) && (q == x.flow.from))

-- what a payment that is due on an occasion says of it
record IsDue (m : ℤ) (a p q : ℕ) (x : Occasion) : Type 0 where
  day : x.day ≡ m
  asset : a ≡ x.flow.asset
  parties : ((p ≡ x.flow.from) × (q ≡ x.flow.to)) ⊎ ((p ≡ x.flow.to) × (q ≡ x.flow.from))

due_by_parts : (m : ℤ) (a p q : ℕ) (x : Occasion) → due m a p q x ≡ true → IsDue m a p q x
due_by_parts m a p q x h =
    record {
      day = grind (arith, ints, nat_tests);
      asset = grind (arith, ints, nat_tests);
      parties = grind (arith, ints, nat_tests);
    }

turned : (p q a b c e : ℕ) → ((p ≡ a) × (q ≡ b)) ⊎ ((p ≡ b) × (q ≡ a)) → ((p ≡ c) × (q ≡ e)) ⊎ ((p ≡ e) × (q ≡ c)) → ((a ≡ c) × (b ≡ e)) ⊎ ((a ≡ e) × (b ≡ c))
turned p q a b c e (inl h) (inl k) = inl (sym h.0 ∙ k.0, sym h.1 ∙ k.1)
turned p q a b c e (inl h) (inr k) = inr (sym h.0 ∙ k.0, sym h.1 ∙ k.1)
turned p q a b c e (inr h) (inl k) = inr (sym h.1 ∙ k.1, sym h.0 ∙ k.0)
turned p q a b c e (inr h) (inr k) = inl (sym h.1 ∙ k.1, sym h.0 ∙ k.0)

not_twice : (m : ℤ) (a p q : ℕ) (x y : Occasion) → IsDue m a p q x → IsDue m a p q y → IsApart x y → ⊥
not_twice m a p q x y h k apart =
    apart (h.day ∙ sym k.day) (record { asset = sym h.asset ∙ k.asset; parties = turned p q x.flow.from x.flow.to y.flow.from y.flow.to h.parties k.parties })

-- where one occasion has it, those apart from it do not
none_after : (m : ℤ) (a p q : ℕ) (x : Occasion) (xs : List Occasion) → IsDue m a p q x → All (λ y. IsApart x y) xs → sum_by (λ y. one_if (due m a p q y)) xs ≡ 0
none_after m a p q x [] h apart = refl
none_after m a p q x (y ∷ xs) h apart =
    let rest = none_after m a p q x xs h (All-tail (λ z. IsApart x z) y xs apart) in
    let all = sum_by-cons (λ z. one_if (due m a p q z)) y xs in
    omega (arith, here (due m a p q y) refl)
  where
    here : (b : Bool) → due m a p q y ≡ b → one_if (due m a p q y) ≡ 0
    here true e = absurd (not_twice m a p q x y h (due_by_parts m a p q y e) (All-head (λ z. IsApart x z) y xs apart))
    here false e = ap one_if e

at_most_one : (m : ℤ) (a p q : ℕ) (xs : List Occasion) → AreApart xs → sum_by (λ y. one_if (due m a p q y)) xs ≤ 1
at_most_one m a p q [] apart = omega arith
at_most_one m a p q (x ∷ xs) apart = by (due m a p q x) refl (at_most_one m a p q xs apart.1)
  where
    by : (b : Bool) → due m a p q x ≡ b → sum_by (λ y. one_if (due m a p q y)) xs ≤ 1 → sum_by (λ y. one_if (due m a p q y)) (x ∷ xs) ≤ 1
    by true e rest =
        let all = sum_by-cons (λ z. one_if (due m a p q z)) x xs in
        let here : one_if (due m a p q x) ≡ 1 = ap one_if e in
        omega (arith, none_after m a p q x xs (due_by_parts m a p q x e) apart.0)
    by false e rest =
        let all = sum_by-cons (λ z. one_if (due m a p q z)) x xs in
        let here : one_if (due m a p q x) ≡ 0 = ap one_if e in
        omega arith

never_to_itself : (m : ℤ) (a p q : ℕ) (x : Occasion) → (p == q) ≡ true → due m a p q x ≡ false
never_to_itself m a p q x h = rw h (grind (arith, nat_tests))

none_to_itself : (m : ℤ) (a p q : ℕ) (xs : List Occasion) → (p == q) ≡ true → sum_by (λ y. one_if (due m a p q y)) xs ≡ 0
none_to_itself m a p q [] h = refl
none_to_itself m a p q (x ∷ xs) h =
    let all = sum_by-cons (λ z. one_if (due m a p q z)) x xs in
    let here : one_if (due m a p q x) ≡ 0 = ap one_if (never_to_itself m a p q x h) in
    omega (arith, none_to_itself m a p q xs h)

abbrev none_if : Bool → ℕ
none_if b = if b then 0 else 1

paid_once : (m : ℤ) (a p q : ℕ) (xs : List Occasion) → AreApart xs → sizes (λ (x : Occasion). on_day_zero (x.day -ℤ m) (unit_flow a p q x.flow)) xs ≤ none_if (p == q)
paid_once m a p q xs apart =
    let same : sizes (λ (x : Occasion). on_day_zero (x.day -ℤ m) (unit_flow a p q x.flow)) xs ≡ sum_by (λ y. one_if (due m a p q y)) xs = ap (λ (h : Occasion → ℕ). sum_by h xs) (λ i x. size_of_due m a p q x i) in
    by (p == q) refl same
  where
    by : (b : Bool) → (p == q) ≡ b → sizes (λ (x : Occasion). on_day_zero (x.day -ℤ m) (unit_flow a p q x.flow)) xs ≡ sum_by (λ y. one_if (due m a p q y)) xs → sizes (λ (x : Occasion). on_day_zero (x.day -ℤ m) (unit_flow a p q x.flow)) xs ≤ none_if (p == q)
    by true e same =
        let here : none_if (p == q) ≡ 0 = ap none_if e in
        omega (arith, none_to_itself m a p q xs e)
    by false e same =
        let here : none_if (p == q) ≡ 1 = ap none_if e in
        omega (arith, at_most_one m a p q xs apart)

-- ---- at least the flows

-- on frame f, with the occasions counted m days earlier
abbrev summed : Declarations → Contract → List Entry → Environment → ℤ → ℤ → List Occasion → ℕ
summed d c es env f m xs = sizes (λ (x : Occasion). flow_of d c es env f (x.day -ℤ m) x.flow) xs

moved : (d : Declarations) (c : Contract) (es : List Entry) (env : Environment) (f m : ℤ) (k : ℕ) (xs : List Occasion) → sizes (λ (x : Occasion). flow_of d c es env f (x.day -ℤ m -ℤ pos k) x.flow) xs ≡ summed d c es env f (m +ℤ pos k) xs
moved d c es env f m k xs =
    ap (λ (h : Occasion → ℕ). sum_by h xs) (λ i x. unsigned_abs (flow_of d c es env f (same x i) x.flow))
  where
    same : (x : Occasion) → x.day -ℤ m -ℤ pos k ≡ x.day -ℤ (m +ℤ pos k)
    same x = omega (arith, ints)

pub within_volume : (d : Declarations) (c : Contract) (es : List Entry) (env : Environment) (f m : ℤ) (xs : List Occasion) → AreApart xs → summed d c es env f m xs ≤ volume_of d c es env f
within_volume d Zero es env f m xs apart = omega (arith, none_in xs)
within_volume d (Pay a p q) es env f m xs apart = paid_once m a p q xs apart
within_volume d (Both a b) es env f m xs apart =
    let i = scale_of_contract d a (kinds es) in
    let j = scale_of_contract d b (kinds es) in
    sum_of_both (λ (x : Occasion). flow_of d a es env f (x.day -ℤ m) x.flow) (λ (x : Occasion). flow_of d b es env f (x.day -ℤ m) x.flow) (max i j - i) (max i j - j) (volume_of d a es env f) (volume_of d b es env f) xs (within_volume d a es env f m xs apart) (within_volume d b es env f m xs apart)
within_volume d (Scale e c) es env f m xs apart =
    sum_of_product (num (value_of d e es env f)) (λ (x : Occasion). flow_of d c es env f (x.day -ℤ m) x.flow) (volume_of d c es env f) xs (within_volume d c es env f m xs apart)
within_volume d (After k c) es env f m xs apart =
    subst (λ (s : ℕ). s ≤ volume_of d c es env (f +ℤ pos (count_of k))) (sym (moved d c es env (f +ℤ pos (count_of k)) m (count_of k) xs)) (within_volume d c es env (f +ℤ pos (count_of k)) (m +ℤ pos (count_of k)) xs apart)
within_volume d (Let e c) es env f m xs apart = within_volume d c (entry_of d e es env f ∷ es) env f m xs apart
within_volume d (Within e k a b) es env f m xs apart =
    let i = scale_of_contract d a (kinds es) in
    let j = scale_of_contract d b (kinds es) in
    let day = f +ℤ pos (count_of k) in
    sum_of_branch (first_true d e es env f (count_of k)) (λ l (x : Occasion). flow_of d a es env (f +ℤ pos l) (x.day -ℤ m -ℤ pos l) x.flow) (λ (x : Occasion). flow_of d b es env day (x.day -ℤ m -ℤ pos (count_of k)) x.flow) (λ l. volume_of d a es env (f +ℤ pos l)) (volume_of d b es env day) (max i j - i) (max i j - j) xs
    (λ l. subst (λ (s : ℕ). s ≤ volume_of d a es env (f +ℤ pos l)) (sym (moved d a es env (f +ℤ pos l) m l xs)) (within_volume d a es env (f +ℤ pos l) (m +ℤ pos l) xs apart))
    (subst (λ (s : ℕ). s ≤ volume_of d b es env day) (sym (moved d b es env day m (count_of k) xs)) (within_volume d b es env day (m +ℤ pos (count_of k)) xs apart))

-- ---- the laws

on_day : (d : Declarations) (c : Contract) (es : List Entry) (env : Environment) (f : ℤ) (xs : List Occasion) → sizes (λ (x : Occasion). flow_of d c es env f x.day x.flow) xs ≡ summed d c es env f (pos 0) xs
on_day d c es env f xs =
    ap (λ (h : Occasion → ℕ). sum_by h xs) (λ i x. unsigned_abs (flow_of d c es env f (same x i) x.flow))
  where
    same : (x : Occasion) → x.day ≡ x.day -ℤ pos 0
    same x = omega (arith, ints)

pub all_flows_add_up_to_total : AllFlowsAddUpToTotal
all_flows_add_up_to_total d c g es env f xs limits h within admitted apart =
    let flows = within_volume d c es env f (pos 0) xs apart in
    let same = on_day d c es env f xs in
    (omega arith, volume_at_most d limits c g es env f h (inside_from g es within) admitted)

pub all_amounts_add_up_to_total : AllAmountsAddUpToTotal
all_amounts_add_up_to_total d c env f xs limits h admitted apart =
    let known = all_flows_add_up_to_total d c [] [] env f xs limits (bounds_hold d c h) tt admitted apart in
    let k = d.amounts - scale_of_contract d c [] in
    let flows = known.0 in
    let volume = known.1 in
    let raised = sum_raised (λ (x : Occasion). flow_of d c [] env f x.day x.flow) k xs in
    let most = mul-le-mul_right (10 ^ k) flows in
    let total = mul-le-mul_right (10 ^ k) volume in
    (omega arith, omega arith)
