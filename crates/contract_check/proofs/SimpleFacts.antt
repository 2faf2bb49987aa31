-- What is measured of a simple contract, from its parts.
use Rattle.std.proofs.Common.{◌≡◌, ℕ, ℤ, pos, negsuc, ◌-ℤ◌, ◌≤ℤ◌, ◌+◌, ◌-◌, ◌*◌, ◌^◌, ◌≤◌, max, le-leb, true, [], Option, Some, None, refl, ap, ap₂, sym, subst, ◌∙◌, arith}
use Rattle.std.specs.Prelude.{option_map, IfSome}
use Rattle.std.proofs.Math.Nat.{mul_right_comm}
use Rattle.std.proofs.lemmas.Bool.{and_from}
use Rattle.std.proofs.lemmas.Int.{ints}
use Rattle.decimal.proofs.PowerFacts.{ten_most}
use Rattle.term_model.specs.Declarations.{Declarations, decimals_of}
use Rattle.term_model.specs.DayCounts.{Days}
use Rattle.term_model.specs.Terms.{Expression, Contract, Zero, Pay, Both, Scale, After}
use Rattle.term_model.specs.Flows.{count_of, scale_of_contract}
use Rattle.term_model.specs.Horizons as horizons
use Rattle.term_model.specs.Horizons.{horizon_of}
use Rattle.term_model.specs.AssetScales.{payments_fit}
use Rattle.term_model.specs.Kinds.{scale_of, scale_or_zero}
use Rattle.term_model.specs.Sites.{kinds_round}
use Rattle.term_model.specs.Sorts.{is_number}
use Rattle.term_model.specs.Times.{IsStart, Typed, TypedContract}
use Rattle.term_model.specs.Bounds.{greatest_size, interval_of, total_of}
use Rattle.interval_check.proofs.AlignedFacts.{sum_raised_twice}
use Rattle.contract_check.specs.SimpleFactors.{IsFactor}
use Rattle.contract_check.specs.declared.simple_factors.Factor.{Factor}
use Rattle.contract_check.specs.declared.simple_contracts.Measure.{Measure}
use Rattle.contract_check.specs.SimpleContracts.{nothing, payment, sooner, joined, multiplied, delayed, IsWithin, IsEarly, IsBy, StartsOn, IsMeasure, IsMeasured}
use Rattle.contract_check.proofs.SimpleRules.{SortsAreRight, by_zero, passes_here, leaf_rules, both_rules, scaled_rules, delayed_rules}

-- ---- what pays nothing, and a transfer

nothing_measure : (d : Declarations) (above : ℕ) → above ≤ d.amounts → IsMeasure d above Zero nothing
nothing_measure d above le =
    record {
      within = record { height = omega arith; nodes = omega arith; reach = omega arith; total = omega arith };
      height = refl;
      nodes = refl;
      reach = refl;
      past = omega arith;
      work = omega arith;
      start = λ t. ((λ p. tt), (λ q. tt));
      early = tt;
      horizon = refl;
      scale = refl;
      decimals = omega arith;
      payments = refl;
      total = omega arith;
    }

pub nothing_measured : (d : Declarations) (above : ℕ) → above ≤ 9 → above ≤ d.amounts → IsMeasured d above Zero nothing
nothing_measured d above few le =
    let m = nothing_measure d above le in
    (leaf_rules d Zero (λ w r k. refl) (passes_here d above Zero nothing few (λ r k. refl) m), m)

one_total : (k : ℕ) → 10 ^ k ≡ 1 * 10 ^ (k - 0)
one_total k =
    let same : k - 0 ≡ k = omega arith in
    sym (ap (λ (j : ℕ). 1 * 10 ^ j) same ∙ omega arith)

payment_measure : (d : Declarations) (above a p q : ℕ) → above ≤ d.amounts → d.amounts ≤ 12 → above ≤ decimals_of d a → IsMeasure d above (Pay a p q) (payment (d.amounts - above))
payment_measure d above a p q le few fits =
    record {
      within = record { height = omega arith; nodes = omega arith; reach = omega arith; total = ten_most (d.amounts - above) 18 (omega (arith, few)) };
      height = refl;
      nodes = refl;
      reach = refl;
      past = omega arith;
      work = omega arith;
      start = λ t. ((λ h. h), (λ h. h));
      early = omega arith;
      horizon = refl;
      scale = refl;
      decimals = omega arith;
      payments = le-leb above (decimals_of d a) fits;
      total = one_total (d.amounts - above);
    }

pub payment_measured : (d : Declarations) (above a p q : ℕ) → above ≤ 9 → above ≤ d.amounts → d.amounts ≤ 12 → above ≤ decimals_of d a → IsMeasured d above (Pay a p q) (payment (d.amounts - above))
payment_measured d above a p q few le most fits =
    let m = payment_measure d above a p q le most fits in
    (leaf_rules d (Pay a p q) (λ w r k. refl) (passes_here d above (Pay a p q) (payment (d.amounts - above)) few (λ r k. refl) m), m)

-- ---- two parts together

by_left : (t : ℤ) (a b : Option ℕ) → IsBy t (sooner a b) → IsBy t a
by_left t None b h = tt
by_left t (Some x) None h = h
by_left t (Some x) (Some y) h = omega (arith, ints, h)

by_right : (t : ℤ) (a b : Option ℕ) → IsBy t (sooner a b) → IsBy t b
by_right t None b h = h
by_right t (Some x) None h = tt
by_right t (Some x) (Some y) h = omega (arith, ints, h)

by_both : (t : ℤ) (a b : Option ℕ) → IsBy t a → IsBy t b → IsBy t (sooner a b)
by_both t None b h g = g
by_both t (Some x) None h g = h
by_both t (Some x) (Some y) h g = omega (arith, ints, h, g)

early_both : (i j : ℕ) (a b : Option ℕ) → IsEarly i a → IsEarly j b → IsEarly (max i j) (sooner a b)
early_both i j None None h g = tt
early_both i j None (Some y) h g = omega (arith, g)
early_both i j (Some x) None h g = omega (arith, h)
early_both i j (Some x) (Some y) h g = omega (arith, h, g)

both_measure : (d : Declarations) (above : ℕ) (a b : Contract) (x y : Measure) → IsMeasure d above a x → IsMeasure d above b y → IsWithin (joined x y) → IsMeasure d above (Both a b) (joined x y)
both_measure d above a b x y h g within =
    record {
      within = within;
      height = ap₂ (λ (i j : ℕ). max i j + 1) h.height g.height;
      nodes = ap₂ (λ (i j : ℕ). i + j + 1) h.nodes g.nodes;
      reach = ap₂ (λ (i j : ℕ). max i j) h.reach g.reach;
      past = omega (arith, h.past, g.past);
      work = omega (arith, h.work, g.work);
      start = λ t. ((λ p. by_both t x.start y.start ((h.start t).0 p.0) ((g.start t).0 p.1)), (λ q. ((h.start t).1 (by_left t x.start y.start q), (g.start t).1 (by_right t x.start y.start q))));
      early = early_both x.reach y.reach x.start y.start h.early g.early;
      horizon = ap₂ (λ (i j : ℕ). max i j) h.horizon g.horizon;
      scale = ap₂ (λ (i j : ℕ). max i j) h.scale g.scale;
      decimals = omega (arith, h.decimals, g.decimals);
      payments = and_from _ _ h.payments g.payments;
      total =
          ap₂ (λ (i j : ℕ). i + j) h.total g.total
          ∙ sym (sum_raised_twice (total_of d a []) (total_of d b []) (scale_of_contract d a []) (scale_of_contract d b []) (d.amounts - above) (omega (arith, h.decimals)) (omega (arith, g.decimals)));
    }

pub both_measured : (d : Declarations) (above : ℕ) (a b : Contract) (x y : Measure) → above ≤ 9 → IsMeasured d above a x → IsMeasured d above b y → IsWithin (joined x y) → IsMeasured d above (Both a b) (joined x y)
both_measured d above a b x y few h g within =
    let m = both_measure d above a b x y h.1 g.1 within in
    (both_rules d a b h.0 g.0 (passes_here d above (Both a b) (joined x y) few (λ r k. refl) m), m)

-- ---- under a factor

by_sooner : (t s : ℤ) (start : Option ℕ) → t ≤ℤ s → IsBy s start → IsBy t start
by_sooner t s None le h = tt
by_sooner t s (Some day) le h = omega (arith, ints, le, h)

-- a factor that is known from day 0 on puts off no start
at_start : (d : Declarations) (e : Expression) (c : Contract) (start : Option ℕ) → ((t : ℤ) → pos 0 ≤ℤ t → Typed [] e t) → StartsOn c start → (t : ℤ) → IsBy t start → TypedContract [] (Scale e c) t
at_start d e c start known h (pos n) by = (pos n, omega (arith, ints), known (pos n) (omega (arith, ints)), (h (pos n)).1 by)
at_start d e c start known h (negsuc n) by = (pos 0, omega (arith, ints), known (pos 0) (omega (arith, ints)), (h (pos 0)).1 (by_zero start))

scaled_total : (t p q size k above s i : ℕ) → p ≡ t * 10 ^ (k - (above + s) - i) → size ≡ q → p * size ≡ t * q * 10 ^ (k - above - (s + i))
scaled_total t p q size k above s i e f =
    let exponent : k - (above + s) - i ≡ k - above - (s + i) = omega arith in
    ap₂ (λ (x y : ℕ). x * y) (e ∙ ap (λ (j : ℕ). t * 10 ^ j) exponent) f ∙ mul_right_comm t (10 ^ (k - above - (s + i))) q

scaled_measure : (d : Declarations) (above : ℕ) (e : Expression) (f : Factor) (c : Contract) (x : Measure) → IsFactor d e f → IsMeasure d (above + f.scale) c x → IsWithin (multiplied f x) → IsMeasure d above (Scale e c) (multiplied f x)
scaled_measure d above e f c x factor h within =
    let s : scale_of d e [] ≡ f.scale = ap scale_or_zero (factor.number []) in
    record {
      within = within;
      height = ap₂ (λ (i j : ℕ). max i j + 1) factor.right_height h.height;
      nodes = ap₂ (λ (i j : ℕ). i + j + 1) factor.right_nodes h.nodes;
      reach = h.reach;
      past = omega (arith, h.past, factor.recent);
      work = omega (arith, h.work, factor.little);
      start = λ t. ((λ p. by_sooner t p.0 x.start p.1 ((h.start p.0).0 p.3)), at_start d e c x.start factor.known h.start t);
      early = h.early;
      horizon = h.horizon;
      scale = ap₂ (λ (i j : ℕ). i + j) (sym s) h.scale;
      decimals = omega (arith, h.decimals, s);
      payments = subst (λ (i : ℕ). payments_fit d c [] (above + i) ≡ true) (sym s) h.payments;
      total =
          subst (λ (i : ℕ). x.total * f.size ≡ total_of d c [] * greatest_size (interval_of d e []) * 10 ^ (d.amounts - above - (i + scale_of_contract d c []))) (sym s)
          (scaled_total (total_of d c []) x.total (greatest_size (interval_of d e [])) f.size d.amounts above f.scale (scale_of_contract d c []) h.total factor.right_size);
    }

scaled_sorts : (d : Declarations) (e : Expression) (f : Factor) (c : Contract) → IsFactor d e f → SortsAreRight d (Scale e c)
scaled_sorts d e f c factor r k = ap is_number (factor.number (kinds_round d r))

pub scaled_measured : (d : Declarations) (above : ℕ) (e : Expression) (f : Factor) (c : Contract) (x : Measure) → above + f.scale ≤ 9 → IsFactor d e f → IsMeasured d (above + f.scale) c x → IsWithin (multiplied f x) → IsMeasured d above (Scale e c) (multiplied f x)
scaled_measured d above e f c x few factor h within =
    let m = scaled_measure d above e f c x factor h.1 within in
    (scaled_rules d e c factor.met h.0 (passes_here d above (Scale e c) (multiplied f x) (omega (arith, few)) (scaled_sorts d e f c factor) m), m)

-- ---- later

by_later : (t : ℤ) (n : ℕ) (start : Option ℕ) → IsBy (t -ℤ pos n) start → IsBy t (option_map (λ day. n + day) start)
by_later t n None h = tt
by_later t n (Some day) h = omega (arith, ints, h)

later_by : (t : ℤ) (n : ℕ) (start : Option ℕ) → IsBy t (option_map (λ day. n + day) start) → IsBy (t -ℤ pos n) start
later_by t n None h = tt
later_by t n (Some day) h = omega (arith, ints, h)

early_later : (n last : ℕ) (start : Option ℕ) → IsEarly last start → IsEarly (n + last) (option_map (λ day. n + day) start)
early_later n last None h = tt
early_later n last (Some day) h = omega (arith, h)

delayed_measure : (d : Declarations) (above : ℕ) (n : Days) (c : Contract) (x : Measure) → IsMeasure d above c x → IsWithin (delayed (count_of n) x) → IsMeasure d above (After n c) (delayed (count_of n) x)
delayed_measure d above n c x h within =
    let days : ℕ = count_of n in
    record {
      within = within;
      height = ap (λ (i : ℕ). i + 1) h.height;
      nodes = ap (λ (i : ℕ). i + 1) h.nodes;
      reach = ap (λ (i : ℕ). days + i) h.reach;
      past = h.past;
      work = omega (arith, h.work);
      start = λ t. ((λ p. by_later t days x.start ((h.start (t -ℤ pos days)).0 p)), (λ q. (h.start (t -ℤ pos days)).1 (later_by t days x.start q)));
      early = early_later days x.reach x.start h.early;
      horizon = ap (λ (i : ℕ). horizons.delayed days i) h.horizon;
      scale = h.scale;
      decimals = h.decimals;
      payments = h.payments;
      total = h.total;
    }

pub delayed_measured : (d : Declarations) (above : ℕ) (n : Days) (c : Contract) (x : Measure) → above ≤ 9 → IsMeasured d above c x → IsWithin (delayed (count_of n) x) → IsMeasured d above (After n c) (delayed (count_of n) x)
delayed_measured d above n c x few h within =
    let m = delayed_measure d above n c x h.1 within in
    (delayed_rules d n c h.0 (passes_here d above (After n c) (delayed (count_of n) x) few (λ r k. refl) m), m)

-- ---- what is answered

-- a measure that was kept
pub measured_kept : (P : Measure → Type 0) (f m : Measure) (answer : Option Measure) → m ≡ f → IfSome answer (λ k. k ≡ m) → IfSome answer (λ k. IsWithin k) → (IsWithin f → P f) → IfSome answer P
measured_kept P f m None e same within h = tt
measured_kept P f m (Some k) e same within h = subst P (sym (same ∙ e)) (h (subst IsWithin (same ∙ e) within))

-- a measure under a condition
pub measured_if : (P : Measure → Type 0) (S : Type 0) (m : Measure) (answer : Option Measure) → IfSome answer (λ k. k ≡ m) → IfSome answer (λ _. S) → (S → P m) → IfSome answer P
measured_if P S m None same given h = tt
measured_if P S m (Some k) same given h = subst P (sym same) (h given)

pub is_start : (c : Contract) (start : Option ℕ) → StartsOn c start → IsStart c (option_map (λ day. pos day) start)
is_start c None h = λ t. (h t).1 tt
is_start c (Some day) h = ((h (pos day)).1 (omega (arith, ints)), λ u p. (h u).0 p)
