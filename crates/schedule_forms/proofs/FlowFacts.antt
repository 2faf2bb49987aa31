-- What the expansion of a leg pays, and of two legs.
use Rattle.std.proofs.Common.{◌≡◌, ℕ, zero, suc, ℤ, pos, ◌+ℤ◌, ◌-ℤ◌, ◌*ℤ◌, ◌+◌, ◌-◌, ◌<◌, max, Bool, true, false, ◌||◌, if◌then◌else◌, List, [], ◌∷◌, ◌++◌, length, map, Option, Some, refl, ap, sym, ◌∙◌, int_eq, arith, inl, inr, mul-lt-mul_of_pos_right}
use Rattle.std.specs.List.{list_any, range_with_len}
use Rattle.std.proofs.Math.IntN.{+ℤ_assoc, +ℤ_idl, *ℤ-zero}
use Rattle.std.proofs.lemmas.Bool.{cases_Bool}
use Rattle.std.proofs.lemmas.Int.{ints}
use Rattle.std.proofs.lemmas.List.FromFn.{length-map-range_with_len}
use Rattle.decimal.specs.Rounding.{raised}
use Rattle.decimal.proofs.RoundedFacts.{raised_none}
use Rattle.term_model.specs.Declarations.{Declarations}
use Rattle.term_model.specs.DayCounts.{Num as Count}
use Rattle.term_model.specs.declared.values.Kind.{Kind}
use Rattle.term_model.specs.declared.values.Kind.TheVariants.{Number}
use Rattle.term_model.specs.Terms.{Contract, After}
use Rattle.term_model.specs.Environments.{Environment}
use Rattle.term_model.specs.Kinds.{kind_of, scale_or_zero}
use Rattle.term_model.specs.Flows.{Flow, flow_of, scale_of_contract, unit_flow, on_day_zero}
use Rattle.schedule_forms.specs.declared.plans.Size.{Size}
use Rattle.schedule_forms.specs.declared.plans.Leg.{Leg}
use Rattle.schedule_forms.specs.PaymentSizes.{expression_of_size, scale_of_size, size_on}
use Rattle.schedule_forms.specs.PaymentDays.{payment_day}
use Rattle.schedule_forms.specs.PlanFlows.{leg_flow}
use Rattle.schedule_forms.specs.Expansions.{payment, payments, balanced}
use Rattle.schedule_forms.proofs.DayFacts.{same_day, day_same, other_day, any_none}
use Rattle.schedule_forms.proofs.TreeFacts.{Each, each_left, each_right, tree_by}

-- a size is a number of its own scale
abbrev pub IsSized : Declarations → Size → Type 0
IsSized d size = kind_of d (expression_of_size size) [] ≡ Some (Number (scale_of_size size))

-- an amount on one day alone
abbrev pub on_day : ℤ → ℕ → ℤ → ℤ
on_day n m x = if int_eq n (pos m) then x else pos 0

pub day_met : (n x : ℤ) (m : ℕ) → n ≡ pos m → on_day n m x ≡ x
day_met n x m e = ap (λ (b : Bool). if b then x else pos 0) (day_same n (pos m) e)

pub day_missed : (n x : ℤ) (m : ℕ) → (n ≡ pos m → ⊥) → on_day n m x ≡ pos 0
day_missed n x m h = ap (λ (b : Bool). if b then x else pos 0) (other_day n (pos m) h)

pub once : (y u n : ℤ) (m : ℕ) → y *ℤ on_day_zero (n -ℤ pos m) u ≡ on_day n m (y *ℤ u)
once y u n m =
    elim (cases_Bool (int_eq n (pos m))) [
      | inl e ↦
          let same : n ≡ pos m = same_day n (pos m) e in
          let here : n -ℤ pos m ≡ pos 0 = omega (arith, ints) in
          ap (λ (b : Bool). y *ℤ (if b then u else pos 0)) (day_same (n -ℤ pos m) (pos 0) here) ∙ sym (day_met n (y *ℤ u) m same)
      | inr e ↦
          let apart : n ≡ pos m → ⊥ = λ k. absurd (cc (e, day_same n (pos m) k)) in
          let away : n -ℤ pos m ≡ pos 0 → ⊥ = λ k. apart (omega (arith, ints, k)) in
          ap (λ (b : Bool). y *ℤ (if b then u else pos 0)) (other_day (n -ℤ pos m) (pos 0) away)
          ∙ *ℤ-zero y
          ∙ sym (day_missed n (y *ℤ u) m apart)
    ]

-- what is paid on the day itself
pub moved : (x : ℤ → ℤ) (f n : ℤ) (m : ℕ) → on_day n m (x (f +ℤ pos m)) ≡ on_day n m (x (f +ℤ n))
moved x f n m =
    elim (cases_Bool (int_eq n (pos m))) [
      | inl e ↦ ap (λ (k : ℤ). on_day n m (x (f +ℤ k))) (sym (same_day n (pos m) e))
      | inr e ↦ ap (λ (b : Bool). if b then x (f +ℤ pos m) else pos 0) e ∙ sym (ap (λ (b : Bool). if b then x (f +ℤ n) else pos 0) e)
    ]

-- the amount of a leg's payment on a day
abbrev pub amount_on : Declarations → Leg → Environment → Flow → ℤ → ℤ
amount_on d leg env w day = size_on d leg.size env day *ℤ unit_flow leg.asset leg.from leg.to w

-- a payment some days from here
pub payment_later : (d : Declarations) (leg : Leg) (env : Environment) (f n : ℤ) (w : Flow) (m : ℕ) → flow_of d (payment leg) [] env (f +ℤ pos m) (n -ℤ pos m) w ≡ on_day n m (amount_on d leg env w (f +ℤ n))
payment_later d leg env f n w m =
    once (size_on d leg.size env (f +ℤ pos m)) (unit_flow leg.asset leg.from leg.to w) n m ∙ moved (amount_on d leg env w) f n m

pub payment_scale : (d : Declarations) (leg : Leg) → IsSized d leg.size → scale_of_contract d (payment leg) [] ≡ scale_of_size leg.size
payment_scale d leg h =
    let known : scale_or_zero (kind_of d (expression_of_size leg.size) []) ≡ scale_of_size leg.size = ap (λ (k : Option Kind). scale_or_zero k) h in
    omega (arith, known)

-- the flows of several contracts
abbrev pub flows_of : Declarations → List Contract → Environment → ℤ → ℤ → Flow → ℤ
flows_of d [] env f n w = pos 0
flows_of d (c ∷ cs) env f n w = flow_of d c [] env f n w +ℤ flows_of d cs env f n w

flows_append : (d : Declarations) (xs ys : List Contract) (env : Environment) (f n : ℤ) (w : Flow) → flows_of d (xs ++ ys) env f n w ≡ flows_of d xs env f n w +ℤ flows_of d ys env f n w
flows_append d [] ys env f n w = sym (+ℤ_idl (flows_of d ys env f n w))
flows_append d (x ∷ xs) ys env f n w =
    ap (λ (z : ℤ). flow_of d x [] env f n w +ℤ z) (flows_append d xs ys env f n w)
    ∙ sym (+ℤ_assoc (flow_of d x [] env f n w) (flows_of d xs env f n w) (flows_of d ys env f n w))

both_same : (i j s : ℕ) (x y : ℤ) → i ≡ s → j ≡ s → raised x (max i j - i) +ℤ raised y (max i j - j) ≡ x +ℤ y
both_same i j s x y h k =
    ap (λ (z : ℤ). z +ℤ raised y (max i j - j)) (raised_none x (max i j - i) (omega arith))
    ∙ ap (λ (z : ℤ). x +ℤ z) (raised_none y (max i j - j) (omega arith))

-- the scale of contracts is s
abbrev pub HasScale : Declarations → ℕ → Contract → Type 0
HasScale d s c = scale_of_contract d c [] ≡ s

-- contracts of one scale have it together, and pay together what they pay
pub tree_scale : (d : Declarations) (s : ℕ) (cs : List Contract) → 0 < length cs → Each (HasScale d s) cs → scale_of_contract d (balanced cs) [] ≡ s
tree_scale d s cs some h =
    tree_by (λ cs c. Each (HasScale d s) cs → HasScale d s c) (λ c h. h.0)
    (λ xs ys a b even p q h. same_scale _ _ s (p (each_left (HasScale d s) xs ys h)) (q (each_right (HasScale d s) xs ys h))) cs some h
  where
    same_scale : (i j s : ℕ) → i ≡ s → j ≡ s → max i j ≡ s
    same_scale i j s h k = omega arith

pub tree_flow : (d : Declarations) (s : ℕ) (env : Environment) (f n : ℤ) (w : Flow) (cs : List Contract) → 0 < length cs → Each (HasScale d s) cs → flow_of d (balanced cs) [] env f n w ≡ flows_of d cs env f n w
tree_flow d s env f n w cs some h =
    (tree_by (λ cs c. Each (HasScale d s) cs → HasScale d s c × (flow_of d c [] env f n w ≡ flows_of d cs env f n w)) (λ c h. (h.0, alone (flow_of d c [] env f n w)))
    (λ xs ys a b even p q h.
    let left = p (each_left (HasScale d s) xs ys h) in
    let right = q (each_right (HasScale d s) xs ys h) in (
      same_scale _ _ s left.0 right.0,
      both_same _ _ s (flow_of d a [] env f n w) (flow_of d b [] env f n w) left.0 right.0
          ∙ ap (λ (z : ℤ). z +ℤ flow_of d b [] env f n w) left.1
          ∙ ap (λ (z : ℤ). flows_of d xs env f n w +ℤ z) right.1
          ∙ sym (flows_append d xs ys env f n w),
    )) cs some h).1
  where
    alone : (x : ℤ) → x ≡ x +ℤ pos 0
    alone x = omega (arith, ints)

    same_scale : (i j s : ℕ) → i ≡ s → j ≡ s → max i j ≡ s
    same_scale i j s h k = omega arith

-- an amount on the days of either of two tests, which never hold on one day
pub joined : (b c : Bool) (x : ℤ) → (b ≡ true → c ≡ false) → (if b then x else pos 0) +ℤ (if c then x else pos 0) ≡ (if b || c then x else pos 0)
joined false c x h = +ℤ_idl (if c then x else pos 0)
joined true false x h = omega (arith, ints)
joined true true x h = absurd (cc (h refl))

-- no two payments of a leg fall on one day
later_day : (leg : Leg) (i j : ℕ) → 0 < leg.every → i < j → payment_day leg i < payment_day leg j
later_day leg i j every lt = omega (arith, mul-lt-mul_of_pos_right lt every)

pub apart : (leg : Leg) (n : ℤ) (a m : ℕ) → 0 < leg.every → int_eq n (pos (payment_day leg a)) ≡ true → list_any (λ i. int_eq n (pos (payment_day leg i))) (range_with_len (a + 1) m) ≡ false
apart leg n a m every e =
    any_none (λ i. int_eq n (pos (payment_day leg i))) (a + 1) m
    (λ i low.
    other_day n (pos (payment_day leg i))
    (λ k.
    let same : pos (payment_day leg i) ≡ pos (payment_day leg a) = sym k ∙ same_day n (pos (payment_day leg a)) e in
    let past = later_day leg a i every (omega arith) in
    absurd (omega (arith, ints, past))))

sum_days : (d : Declarations) (leg : Leg) (env : Environment) (f n : ℤ) (w : Flow) (a m : ℕ) → 0 < leg.every → flows_of d (map (λ i. After (Count (payment_day leg i)) (payment leg)) (range_with_len a m)) env f n w ≡ (if list_any (λ i. int_eq n (pos (payment_day leg i))) (range_with_len a m) then amount_on d leg env w (f +ℤ n) else pos 0)
sum_days d leg env f n w a zero every = refl
sum_days d leg env f n w a (suc m) every =
    let rest = flows_of d (map (λ i. After (Count (payment_day leg i)) (payment leg)) (range_with_len (a + 1) m)) env f n w in
    ap (λ (z : ℤ). z +ℤ rest) (payment_later d leg env f n w (payment_day leg a))
    ∙ ap (λ (z : ℤ). on_day n (payment_day leg a) (amount_on d leg env w (f +ℤ n)) +ℤ z) (sum_days d leg env f n w (a + 1) m every)
    ∙ joined (int_eq n (pos (payment_day leg a))) (list_any (λ i. int_eq n (pos (payment_day leg i))) (range_with_len (a + 1) m)) (amount_on d leg env w (f +ℤ n)) (apart leg n a m every)

each_payment : (d : Declarations) (leg : Leg) (a m : ℕ) → IsSized d leg.size → Each (HasScale d (scale_of_size leg.size)) (map (λ i. After (Count (payment_day leg i)) (payment leg)) (range_with_len a m))
each_payment d leg a zero h = tt
each_payment d leg a (suc m) h = (payment_scale d leg h, each_payment d leg (a + 1) m h)

some_payment : (leg : Leg) → 0 < leg.times → 0 < length (payments leg)
some_payment leg some = omega (arith, length-map-range_with_len (λ i. After (Count (payment_day leg i)) (payment leg)) 0 leg.times)

-- the payments of a leg have the scale of its size together, and pay what the leg pays
pub leg_scale : (d : Declarations) (leg : Leg) → 0 < leg.times → IsSized d leg.size → scale_of_contract d (balanced (payments leg)) [] ≡ scale_of_size leg.size
leg_scale d leg some h = tree_scale d (scale_of_size leg.size) (payments leg) (some_payment leg some) (each_payment d leg 0 leg.times h)

pub leg_flows : (d : Declarations) (leg : Leg) (env : Environment) (f n : ℤ) (w : Flow) → 0 < leg.times → 0 < leg.every → IsSized d leg.size → flow_of d (balanced (payments leg)) [] env f n w ≡ leg_flow d leg env f n w
leg_flows d leg env f n w some every h =
    tree_flow d (scale_of_size leg.size) env f n w (payments leg) (some_payment leg some) (each_payment d leg 0 leg.times h)
    ∙ sum_days d leg env f n w 0 leg.times every
