-- What acceptance says of each node of code and of each of its value expressions, by structure.
use Rattle.std.proofs.Common.{◌≡◌, ℕ, zero, suc, ℤ, pos, ◌+◌, ◌*◌, ◌^◌, ◌≤ℤ◌, ◌≤◌, ◌<◌, unsigned_abs, Bool, ◌&&◌, nat_le, IsTrue, List, [], ◌∷◌, length, slice_index_or, subst, sym, arith}
use Rattle.std.proofs.lemmas.Int.{ints}
use Rattle.std.proofs.lemmas.Bool.{and_parts, leb-true}
use Rattle.std.proofs.lemmas.Bool.Decides.{nat_tests}
use Rattle.term_model.specs.Declarations.{Declarations}
use Rattle.term_model.specs.declared.values.Kind.{Kind}
use Rattle.term_model.specs.Terms.{Expression}
use Rattle.term_model.specs.Limits.{greatest_mantissa}
use Rattle.term_model.specs.Sizes.{nodes, height, work}
use Rattle.term_model.specs.Smallness.{days_of}
use Rattle.term_model.specs.Bounds.{Range, range_kinds, ranges_round}
use Rattle.term_model.specs.Sites.{Trial, Once, EachDay, OfExpression, Layer, Naming, sites_of, AllPass}
use Rattle.interval_check.specs.Nodes.{EachNode, range_after}
use Rattle.interval_check.proofs.NodeFacts.{nodes_hold}
use Rattle.interval_check.proofs.NodeTests.{at_root}
use Rattle.interval_check.proofs.RuleFacts.{kinds_of_ranges}
use Rattle.expr_eval.proofs.SpanFacts.{span}
use Rattle.payoff_terms.specs.TemplateDates.{Date, day_of}
use Rattle.payoff_terms.specs.Dating.{dated_by, at_setting, undated}
use Rattle.payoff_terms.specs.Code.{ValueExpression, Lit, Yes, Var, Model, Neg, Num, Cmp, Not, Logic, Cond, Widen, Round, Div, Acc, PayoffCode, Nothing, PayOn, Add, ScaleBy, LetBe, Loop, Cut}
use Rattle.payoff_terms.specs.CodeValues.{scale_of_code}
use Rattle.payoff_terms.specs.CodeSizes.{nodes_of_code, height_of_code, work_of_code, loop_days}
use Rattle.payoff_terms.specs.CodeTotals.{range_at, total_of_code, aligned_code_total}
use Rattle.payoff_terms.specs.CodeSites.{CodeSite, InValue, AtCode, value_sites, sites_of_code, AllPassInCode}
use Rattle.payoff_terms.specs.CodeAcceptance.{IsAcceptedCode, code_is_scaled, code_is_small, code_is_bounded, value_is_small, within_code_limits, date_in_range, dates_in_range, is_date, is_upto}
use Rattle.payoff_terms.specs.WellFormedCode.{AreTemplates, IsWellFormedValue}
use Rattle.payoff_eval.specs.DatesFit.{DateFits, DatesFit}
use Rattle.payoff_eval.proofs.RuleFacts.{code-left, code-right, from_map}

-- ---- from sites to structure

-- each node of code has one property, and each of its value expressions another, among names of known ranges
abbrev pub EachPart : Declarations → (List Range → PayoffCode → Type 0) → (List Range → ValueExpression → Type 0) → PayoffCode → List Range → Type 0
EachPart d P R Nothing g = P g Nothing
EachPart d P R (PayOn x u p q) g = P g (PayOn x u p q)
EachPart d P R (Add k l) g = EachPart d P R k g × EachPart d P R l g × P g (Add k l)
EachPart d P R (ScaleBy v k) g = R g v × EachPart d P R k g × P g (ScaleBy v k)
EachPart d P R (LetBe v k) g = R g v × EachPart d P R k (range_at d v g ∷ g) × P g (LetBe v k)
EachPart d P R (Loop v x k l) g = R g v × EachPart d P R k g × EachPart d P R l g × P g (Loop v x k l)
EachPart d P R (Cut x k) g = EachPart d P R k g × P g (Cut x k)

pub part_at_root : (d : Declarations) (P : List Range → PayoffCode → Type 0) (R : List Range → ValueExpression → Type 0) (k : PayoffCode) (g : List Range) → EachPart d P R k g → P g k
part_at_root d P R Nothing g h = h
part_at_root d P R (PayOn x u p q) g h = h
part_at_root d P R (Add k l) g h = h.2
part_at_root d P R (ScaleBy v k) g h = h.2
part_at_root d P R (LetBe v k) g h = h.2
part_at_root d P R (Loop v x k l) g h = h.3
part_at_root d P R (Cut x k) g h = h.1

each_part : (d : Declarations) (Q : CodeSite → Type 0) (w : Trial) (day : Date → ℤ) (P : List Range → PayoffCode → Type 0) (R : List Range → ValueExpression → Type 0) → ((r : List Layer) (k : PayoffCode) (n : ℕ) → Q (AtCode n k r) → P (ranges_round d r) k) → ((r : List Layer) (v : ValueExpression) (n : ℕ) → AllPass (λ s. Q (InValue s)) (sites_of w (dated_by day v) r n) → R (ranges_round d r) v) → (k : PayoffCode) (r : List Layer) (n : ℕ) → AllPassInCode Q (sites_of_code w day k r n) → EachPart d P R k (ranges_round d r)
each_part d Q w day P R here value Nothing r n h = here r Nothing n h.0
each_part d Q w day P R here value (PayOn x u p q) r n h = here r (PayOn x u p q) n h.0
each_part d Q w day P R here value (Add k l) r n h =
    let first = sites_of_code w day k r (n + 1) in
    let second = sites_of_code w day l r (n + 1 + nodes_of_code k) in
    let rest = code-right Q first _ h in (
      each_part d Q w day P R here value k r (n + 1) (code-left Q first _ h),
      each_part d Q w day P R here value l r (n + 1 + nodes_of_code k) (code-left Q second _ rest),
      here r (Add k l) n (code-right Q second _ rest).0,
    )
each_part d Q w day P R here value (ScaleBy v k) r n h =
    let first = value_sites w r (n + 1) (dated_by day v) in
    let second = sites_of_code w day k r (n + 1 + nodes (undated v)) in
    let rest = code-right Q first _ h in (
      value r v (n + 1) (from_map Q (sites_of w (dated_by day v) r (n + 1)) (code-left Q first _ h)),
      each_part d Q w day P R here value k r (n + 1 + nodes (undated v)) (code-left Q second _ rest),
      here r (ScaleBy v k) n (code-right Q second _ rest).0,
    )
each_part d Q w day P R here value (LetBe v k) r n h =
    let first = value_sites w r (n + 1) (dated_by day v) in
    let second = sites_of_code w day k (Naming (undated v) ∷ r) (n + 1 + nodes (undated v)) in
    let rest = code-right Q first _ h in (
      value r v (n + 1) (from_map Q (sites_of w (dated_by day v) r (n + 1)) (code-left Q first _ h)),
      each_part d Q w day P R here value k (Naming (undated v) ∷ r) (n + 1 + nodes (undated v)) (code-left Q second _ rest),
      here r (LetBe v k) n (code-right Q second _ rest).0,
    )
each_part d Q w day P R here value (Loop v x k l) r n h =
    let first = value_sites w r (n + 1) (dated_by day v) in
    let second = sites_of_code w day k r (n + 1 + nodes (undated v)) in
    let third = sites_of_code w day l r (n + 1 + nodes (undated v) + nodes_of_code k) in
    let rest = code-right Q first _ h in
    let last = code-right Q second _ rest in (
      value r v (n + 1) (from_map Q (sites_of w (dated_by day v) r (n + 1)) (code-left Q first _ h)),
      each_part d Q w day P R here value k r (n + 1 + nodes (undated v)) (code-left Q second _ rest),
      each_part d Q w day P R here value l r (n + 1 + nodes (undated v) + nodes_of_code k) (code-left Q third _ last),
      here r (Loop v x k l) n (code-right Q third _ last).0,
    )
each_part d Q w day P R here value (Cut x k) r n h =
    let first = sites_of_code w day k r (n + 1) in
    (each_part d Q w day P R here value k r (n + 1) (code-left Q first _ h), here r (Cut x k) n (code-right Q first _ h).0)

-- ---- the rules, at each node

abbrev pub IsSizedCode : List ℕ → PayoffCode → Type 0
IsSizedCode xs k = IsTrue (within_code_limits (height_of_code k) (nodes_of_code k) (work_of_code xs k) && (nat_le (loop_days xs k) 100_000 && dates_in_range xs k))

abbrev pub IsSizedValue : Declarations → List ℕ → List Range → ValueExpression → Type 0
IsSizedValue d xs g v = EachNode (λ h part. IsTrue (value_is_small part)) Once d (at_setting xs v) g

abbrev pub IsSized : Declarations → List ℕ → PayoffCode → List Range → Type 0
IsSized d xs k g = EachPart d (λ h l. IsSizedCode xs l) (IsSizedValue d xs) k g

abbrev pub HasSmallTotal : Declarations → List Range → PayoffCode → Type 0
HasSmallTotal d g k = IsTrue (nat_le (total_of_code d k g) greatest_mantissa && nat_le (aligned_code_total d k g) greatest_mantissa)

abbrev pub IsBoundedCode : Declarations → PayoffCode → List Range → Type 0
IsBoundedCode d k g = EachPart d (HasSmallTotal d) (λ h v. Unit {0}) k g

abbrev HasScale : Declarations → List Range → PayoffCode → Type 0
HasScale d g k = IsTrue (nat_le (scale_of_code d k (range_kinds g)) (d.amounts + 9))

pub sizes_hold : (d : Declarations) (xs : List ℕ) (k : PayoffCode) → IsAcceptedCode d xs k → IsSized d xs k []
sizes_hold d xs k h =
    each_part d (λ s. IsTrue (code_is_small xs s)) Once (day_of xs) (λ g l. IsSizedCode xs l) (IsSizedValue d xs) (λ r l n q. q)
    (λ r v n a. nodes_hold d (λ s. IsTrue (value_is_small s.part)) (λ g part. IsTrue (value_is_small part)) (λ j l part p. p) Once (at_setting xs v) r n a) k [] 0 h.sizes

pub bounds_hold : (d : Declarations) (xs : List ℕ) (k : PayoffCode) → IsAcceptedCode d xs k → IsBoundedCode d k []
bounds_hold d xs k h =
    each_part d (λ s. IsTrue (code_is_bounded d s)) EachDay (λ _. pos 0) (HasSmallTotal d) (λ g v. Unit {0}) (λ r l n q. q) (λ r v n a. tt) k [] 0 h.bounds

scales_hold : (d : Declarations) (xs : List ℕ) (k : PayoffCode) → IsAcceptedCode d xs k → EachPart d (HasScale d) (λ g v. Unit {0}) k []
scales_hold d xs k h =
    each_part d (λ s. IsTrue (code_is_scaled d s)) Once (λ _. pos 0) (HasScale d) (λ g v. Unit {0})
    (λ r l n q. subst (λ (ks : List Kind). IsTrue (nat_le (scale_of_code d l ks) (d.amounts + 9))) (kinds_of_ranges d r) q)
    (λ r v n a. tt) k [] 0 h.scales

-- ---- the whole

pub scale_of_accepted : (d : Declarations) (xs : List ℕ) (k : PayoffCode) → IsAcceptedCode d xs k → scale_of_code d k [] ≤ d.amounts + 9
scale_of_accepted d xs k h =
    leb-true (scale_of_code d k []) (d.amounts + 9) (part_at_root d (HasScale d) (λ g v. Unit {0}) k [] (scales_hold d xs k h))

height_test : (h n steps days : ℕ) (dates : Bool) → IsTrue (within_code_limits h n steps && (nat_le days 100_000 && dates)) → h ≤ 400
height_test h n steps days dates t =
    leb-true h 400 (and_parts (nat_le h 400) (nat_le n 200_000 && nat_le steps 10_000_000) (and_parts (within_code_limits h n steps) (nat_le days 100_000 && dates) t).0).0

dates_test : (limits few dates : Bool) → IsTrue (limits && (few && dates)) → IsTrue dates
dates_test limits few dates t = (and_parts few dates (and_parts limits (few && dates) t).1).1

pub height_of_accepted : (d : Declarations) (xs : List ℕ) (k : PayoffCode) → IsAcceptedCode d xs k → height_of_code k ≤ 400
height_of_accepted d xs k h =
    height_test (height_of_code k) (nodes_of_code k) (work_of_code xs k) (loop_days xs k) (dates_in_range xs k) (part_at_root d (λ g l. IsSizedCode xs l) (IsSizedValue d xs) k [] (sizes_hold d xs k h))

-- the total at nine more decimals than the portfolio's
pub aligned_is_small : (d : Declarations) (k : PayoffCode) (g : List Range) → HasSmallTotal d g k → aligned_code_total d k g ≤ 10 ^ 37
aligned_is_small d k g h =
    leb-true (aligned_code_total d k g) greatest_mantissa (and_parts (nat_le (total_of_code d k g) greatest_mantissa) (nat_le (aligned_code_total d k g) greatest_mantissa) h).1

pub total_at_root : (d : Declarations) (k : PayoffCode) (g : List Range) → IsBoundedCode d k g → aligned_code_total d k g ≤ 10 ^ 37
total_at_root d k g h = aligned_is_small d k g (part_at_root d (HasSmallTotal d) (λ h v. Unit {0}) k g h)

-- ---- dates

near_date : (t : ℤ) → IsTrue (is_date t) → unsigned_abs t ≤ 2_000_000
near_date t h = grind (arith, ints, nat_tests)

template_has : (d : Declarations) (xs : List ℕ) → length xs ≡ length d.templates → (ts : List ℕ) → AreTemplates d ts → (k y : ℕ) → k < length ts → slice_index_or ts k y < length xs
template_has d xs e [] h k y l = omega arith
template_has d xs e (t ∷ ts) h zero y l = subst (λ (n : ℕ). t < n) (sym e) h.0
template_has d xs e (t ∷ ts) h (suc k) y l = template_has d xs e ts h.1 k y (omega arith)

date_fits : (d : Declarations) (xs : List ℕ) (x : Date) → length xs ≡ length d.templates → AreTemplates d x.names → IsTrue (is_date (day_of xs x)) → DateFits xs x
date_fits d xs x e h t = record { declared = template_has d xs e x.names h; near = near_date (day_of xs x) t }

pub dates_of : (d : Declarations) (xs : List ℕ) (k : PayoffCode) (g : List Range) → IsSized d xs k g → IsTrue (dates_in_range xs k)
dates_of d xs k g h =
    dates_test (within_code_limits (height_of_code k) (nodes_of_code k) (work_of_code xs k)) (nat_le (loop_days xs k) 100_000) (dates_in_range xs k) (part_at_root d (λ g l. IsSizedCode xs l) (IsSizedValue d xs) k g h)

pub pay_date : (d : Declarations) (xs : List ℕ) (x : Date) (u p q : ℕ) (g : List Range) → length xs ≡ length d.templates → AreTemplates d x.names → IsSized d xs (PayOn x u p q) g → DateFits xs x
pay_date d xs x u p q g e t h = date_fits d xs x e t (dates_of d xs (PayOn x u p q) g h)

pub cut_date : (d : Declarations) (xs : List ℕ) (x : Date) (k : PayoffCode) (g : List Range) → length xs ≡ length d.templates → AreTemplates d x.names → IsSized d xs (Cut x k) g → DateFits xs x
cut_date d xs x k g e t h = date_fits d xs x e t (dates_of d xs (Cut x k) g h)

-- the days of a loop
pub record LoopFits (xs : List ℕ) (x : Date) : Type 0 where
  pub date : DateFits xs x
  pub low : pos 0 ≤ℤ day_of xs x
  pub high : day_of xs x ≤ℤ pos 100_000

upto_low : (t : ℤ) → IsTrue (is_upto t) → pos 0 ≤ℤ t
upto_low t h = grind (arith, ints, nat_tests)

upto_high : (t : ℤ) → IsTrue (is_upto t) → t ≤ℤ pos 100_000
upto_high t h = grind (arith, ints, nat_tests)

upto_near : (t : ℤ) → pos 0 ≤ℤ t → t ≤ℤ pos 100_000 → unsigned_abs t ≤ 2_000_000
upto_near t h k = omega (arith, ints)

pub loop_date : (d : Declarations) (xs : List ℕ) (v : ValueExpression) (x : Date) (k l : PayoffCode) (g : List Range) → length xs ≡ length d.templates → AreTemplates d x.names → IsSized d xs (Loop v x k l) g → LoopFits xs x
loop_date d xs v x k l g e t h =
    let test = dates_of d xs (Loop v x k l) g h in
    let low = upto_low (day_of xs x) test in
    let high = upto_high (day_of xs x) test in
    record { date = record { declared = template_has d xs e x.names t; near = upto_near (day_of xs x) low high }; low = low; high = high }

-- ---- value expressions

record SizeTests (e : Expression) : Type 0 where
  high : height e ≤ 400
  few : days_of e ≤ 100_000
  dated : IsTrue (date_in_range e)

size_tests : (e : Expression) → IsTrue (value_is_small (OfExpression e)) → SizeTests e
size_tests e h =
    let limits = within_code_limits (height e) (nodes e) (work e) in
    let both = and_parts limits (nat_le (days_of e) 100_000 && date_in_range e) h in
    let last = and_parts (nat_le (days_of e) 100_000) (date_in_range e) both.1 in
    record {
      high = leb-true (height e) 400 (and_parts (nat_le (height e) 400) (nat_le (nodes e) 200_000 && nat_le (work e) 10_000_000) both.0).0;
      few = leb-true (days_of e) 100_000 last.0;
      dated = last.1;
    }

pub dates_fit : (d : Declarations) (xs : List ℕ) → length xs ≡ length d.templates → (v : ValueExpression) (n : ℕ) (g : List Range) → IsWellFormedValue d n v → IsSizedValue d xs g v → DatesFit xs v
dates_fit d xs e (Lit m s) n g w h = tt
dates_fit d xs e (Yes b) n g w h = tt
dates_fit d xs e (Var back) n g w h = tt
dates_fit d xs e (Model l x) n g w h = date_fits d xs x e w.1.0 (size_tests (at_setting xs (Model l x)) h).dated
dates_fit d xs e (Neg a) n g w h = dates_fit d xs e a n g w h.0
dates_fit d xs e (Num op a b) n g w h = (dates_fit d xs e a n g w.0 h.0, dates_fit d xs e b n g w.1 h.1)
dates_fit d xs e (Cmp op a b) n g w h = (dates_fit d xs e a n g w.0 h.0, dates_fit d xs e b n g w.1 h.1)
dates_fit d xs e (Not a) n g w h = dates_fit d xs e a n g w h.0
dates_fit d xs e (Logic op a b) n g w h = (dates_fit d xs e a n g w.0 h.0, dates_fit d xs e b n g w.1 h.1)
dates_fit d xs e (Cond t a b) n g w h =
    (dates_fit d xs e t n g w.0 h.0, dates_fit d xs e a n g w.1 h.1, dates_fit d xs e b n g w.2 h.2)
dates_fit d xs e (Widen s a) n g w h = dates_fit d xs e a n g w h.0
dates_fit d xs e (Round mode s a) n g w h = dates_fit d xs e a n g w h.0
dates_fit d xs e (Div mode s a b) n g w h = (dates_fit d xs e a n g w.0 h.0, dates_fit d xs e b n g w.1 h.1)
dates_fit d xs e (Acc body days first) n g w h =
    (dates_fit d xs e body (n + 1) (range_after d (at_setting xs body) 0 (at_setting xs first) g ∷ g) w.0 h.1.0, dates_fit d xs e first n g w.1 h.0)

-- an accumulator goes back at most 100,000 days, and lies in no more others than the expression is high
span_at_most : (d : Declarations) (xs : List ℕ) (v : ValueExpression) (g : List Range) → IsSizedValue d xs g v → span (at_setting xs v) ≤ 100_000 * height (at_setting xs v)
span_at_most d xs (Lit m s) g h = omega arith
span_at_most d xs (Yes b) g h = omega arith
span_at_most d xs (Var back) g h = omega arith
span_at_most d xs (Model l x) g h = omega arith
span_at_most d xs (Neg a) g h = let p = span_at_most d xs a g h.0 in omega arith
span_at_most d xs (Num op a b) g h = let p = span_at_most d xs a g h.0 in let q = span_at_most d xs b g h.1 in omega arith
span_at_most d xs (Cmp op a b) g h = let p = span_at_most d xs a g h.0 in let q = span_at_most d xs b g h.1 in omega arith
span_at_most d xs (Not a) g h = let p = span_at_most d xs a g h.0 in omega arith
span_at_most d xs (Logic op a b) g h = let p = span_at_most d xs a g h.0 in let q = span_at_most d xs b g h.1 in omega arith
span_at_most d xs (Cond t a b) g h =
    let o = span_at_most d xs t g h.0 in
    let p = span_at_most d xs a g h.1 in
    let q = span_at_most d xs b g h.2 in
    omega arith
span_at_most d xs (Widen s a) g h = let p = span_at_most d xs a g h.0 in omega arith
span_at_most d xs (Round mode s a) g h = let p = span_at_most d xs a g h.0 in omega arith
span_at_most d xs (Div mode s a b) g h = let p = span_at_most d xs a g h.0 in let q = span_at_most d xs b g h.1 in omega arith
span_at_most d xs (Acc body n first) g h =
    let p = span_at_most d xs body (range_after d (at_setting xs body) 0 (at_setting xs first) g ∷ g) h.1.0 in
    let q = span_at_most d xs first g h.0 in
    let few : n ≤ 100_000 = (size_tests (at_setting xs (Acc body n first)) h.1.1).few in
    omega arith

pub span_is_small : (d : Declarations) (xs : List ℕ) (v : ValueExpression) (g : List Range) → IsSizedValue d xs g v → span (at_setting xs v) ≤ 40_000_000
span_is_small d xs v g h =
    let most = span_at_most d xs v g h in
    let high = (size_tests (at_setting xs v) (at_root (λ g part. IsTrue (value_is_small part)) d (at_setting xs v) g h)).high in
    omega arith
