-- What code is worth is at most its total in size.
use Rattle.std.proofs.Common.{◌≡◌, ℕ, ℤ, pos, negsuc, ◌+ℤ◌, ◌-ℤ◌, ◌*ℤ◌, ◌≤◌, ◌+◌, ◌-◌, ◌*◌, ◌^◌, max, unsigned_abs, Bool, true, false, if◌then◌else◌, ◌&&◌, not, ◌==◌, int_lt, List, ◌∷◌, Option, Some, None, ap, ap₂, subst, sym, arith}
use Rattle.std.proofs.lemmas.Int.{ints, unsigned_abs-mul}
use Rattle.decimal.specs.Rounding.{raised}
use Rattle.term_model.specs.Declarations.{Declarations}
use Rattle.term_model.specs.declared.values.Kind.{Kind}
use Rattle.term_model.specs.Environments.{Environment}
use Rattle.term_model.specs.Kinds.{kind_of, scale_of}
use Rattle.term_model.specs.Values.{Entry, kinds, num, kind_or, value_of}
use Rattle.term_model.specs.Flows.{Flow, unit_flow}
use Rattle.term_model.specs.Factors.{IsFactor, IsCurve}
use Rattle.term_model.proofs.FactorFacts.{answers_factor}
use Rattle.term_model.specs.Bounds.{Interval, Range, range_kinds, interval_of, greatest_size}
use Rattle.interval_check.specs.Nodes.{MeetsRules, range_of}
use Rattle.interval_check.proofs.AlignedFacts.{sum_raised_twice, max_raised_twice}
use Rattle.interval_check.proofs.TurnoverFacts.{product_at_most, size_in}
use Rattle.interval_check.proofs.MultipleFacts.{times-size}
use Rattle.interval_check.proofs.ValueFacts.{same_kinds, values_lie}
use Rattle.interval_check.proofs.SafeFacts.{Suits}
use Rattle.interval_check.proofs.ContractSafeFacts.{let_suits}
use Rattle.payoff_terms.specs.TemplateDates.{day_of}
use Rattle.payoff_terms.specs.Dating.{at_setting, undated}
use Rattle.payoff_terms.specs.Code.{ValueExpression, PayoffCode, Nothing, PayOn, Add, ScaleBy, LetBe, Loop, Cut}
use Rattle.payoff_terms.specs.CodeValues.{Asked, factor_on, value_at, entry_at, first_true_at, code_value, scale_of_code}
use Rattle.payoff_terms.specs.CodeTotals.{range_at, total_of_code}
use Rattle.payoff_terms.specs.Meaning.{face_value}
use Rattle.term_model.proofs.Products.{mul-assoc, parts_raised}
use Rattle.payoff_terms.proofs.DateFreeFacts.{kind_any, interval_any}
use Rattle.payoff_eval.specs.CodeRules.{CodeMeetsRules, FactorsFit}
use Rattle.payoff_terms.proofs.ValueFacts.{raised_up}

pub size_plus : (x y : ℤ) → unsigned_abs (x +ℤ y) ≤ unsigned_abs x + unsigned_abs y
size_plus (pos a) (pos b) = omega (arith, ints)
size_plus (pos a) (negsuc b) = grind (arith, ints)
size_plus (negsuc a) (pos b) = grind (arith, ints)
size_plus (negsuc a) (negsuc b) = omega (arith, ints)

unit_most : (on same ours theirs : Bool) → unsigned_abs (if on && not same then (if ours then pos 1 else (if theirs then negsuc 0 else pos 0)) else pos 0) ≤ 1
unit_most false same ours theirs = omega arith
unit_most true true ours theirs = omega arith
unit_most true false true theirs = omega arith
unit_most true false false true = omega arith
unit_most true false false false = omega arith

paid_within : (f : ℤ) (u p q n : ℕ) (w : Flow) → unsigned_abs f ≤ 10 ^ 10 → unsigned_abs (raised (f *ℤ unit_flow u p q w) n) ≤ 10 ^ 10 * 10 ^ n
paid_within f u p q n w h =
    let unit : unsigned_abs (unit_flow u p q w) ≤ 1 = unit_most (u == w.asset) (p == q) ((p == w.from) && (q == w.to)) ((p == w.to) && (q == w.from)) in
    let size = times-size (f *ℤ unit_flow u p q w) (10 ^ n) in
    let product : unsigned_abs (f *ℤ unit_flow u p q w) ≤ 10 ^ 10 = subst (λ (m : ℕ). m ≤ 10 ^ 10) (sym (unsigned_abs-mul f (unit_flow u p q w))) (subst (λ (m : ℕ). unsigned_abs f * unsigned_abs (unit_flow u p q w) ≤ m) (omega arith) (product_at_most (unsigned_abs f) (unsigned_abs (unit_flow u p q w)) (10 ^ 10) 1 h unit)) in
    subst (λ (m : ℕ). m ≤ 10 ^ 10 * 10 ^ n) (sym size) (product_at_most (unsigned_abs (f *ℤ unit_flow u p q w)) (10 ^ n) (10 ^ 10) (10 ^ n) product (omega arith))

sum_within : (v w : ℤ) (t u i j n : ℕ) → i ≤ n → j ≤ n → unsigned_abs (raised v (n - i)) ≤ t * 10 ^ (n - i) → unsigned_abs (raised w (n - j)) ≤ u * 10 ^ (n - j) → unsigned_abs (raised (raised v (max i j - i) +ℤ raised w (max i j - j)) (n - max i j)) ≤ (t * 10 ^ (max i j - i) + u * 10 ^ (max i j - j)) * 10 ^ (n - max i j)
sum_within v w t u i j n hi hj hv hw =
    let whole = sum_raised_twice t u i j n hi hj in
    let most = size_plus (raised v (n - i)) (raised w (n - j)) in
    subst (λ (z : ℤ). unsigned_abs z ≤ (t * 10 ^ (max i j - i) + u * 10 ^ (max i j - j)) * 10 ^ (n - max i j)) (parts_raised v w n i j hi hj) (omega arith)

abbrev either : Option ℕ → (ℕ → ℤ) → ℤ → ℤ
either o x y = elim o [ Some k ↦ x k | None ↦ y ]

branch_within : (o : Option ℕ) (v : ℕ → ℤ) (w : ℤ) (t u i j n : ℕ) → i ≤ n → j ≤ n → ((m : ℕ) → unsigned_abs (raised (v m) (n - i)) ≤ t * 10 ^ (n - i)) → unsigned_abs (raised w (n - j)) ≤ u * 10 ^ (n - j) → unsigned_abs (raised (either o (λ m. raised (v m) (max i j - i)) (raised w (max i j - j))) (n - max i j)) ≤ max (t * 10 ^ (max i j - i)) (u * 10 ^ (max i j - j)) * 10 ^ (n - max i j)
branch_within (Some m) v w t u i j n hi hj hv hw =
    let whole = max_raised_twice t u i j n hi hj in
    let one = hv m in
    subst (λ (z : ℤ). unsigned_abs z ≤ max (t * 10 ^ (max i j - i)) (u * 10 ^ (max i j - j)) * 10 ^ (n - max i j)) (sym (raised_up (v m) i (max i j) n (omega arith) (omega arith))) (omega arith)
branch_within None v w t u i j n hi hj hv hw =
    let whole = max_raised_twice t u i j n hi hj in
    subst (λ (z : ℤ). unsigned_abs z ≤ max (t * 10 ^ (max i j - i)) (u * 10 ^ (max i j - j)) * 10 ^ (n - max i j)) (sym (raised_up w j (max i j) n (omega arith) (omega arith))) (omega arith)

pub scale_within : (m v : ℤ) (t most s i n : ℕ) → s + i ≤ n → unsigned_abs m ≤ most → unsigned_abs (raised v (n - s - i)) ≤ t * 10 ^ (n - s - i) → unsigned_abs (raised (m *ℤ v) (n - (s + i))) ≤ t * most * 10 ^ (n - (s + i))
scale_within m v t most s i n le hm hv =
    let same : n - s - i ≡ n - (s + i) = omega arith in
    let body : unsigned_abs (raised v (n - (s + i))) ≤ t * 10 ^ (n - (s + i)) = subst (λ (e : ℕ). unsigned_abs (raised v e) ≤ t * 10 ^ e) same hv in
    let size = unsigned_abs-mul m (raised v (n - (s + i))) in
    let product = product_at_most (unsigned_abs m) (unsigned_abs (raised v (n - (s + i)))) most (t * 10 ^ (n - (s + i))) hm body in
    let turn : most * (t * 10 ^ (n - (s + i))) ≡ t * most * 10 ^ (n - (s + i)) = turned most t (10 ^ (n - (s + i))) in
    subst (λ (z : ℤ). unsigned_abs z ≤ t * most * 10 ^ (n - (s + i))) (sym (mul-assoc m v (pos (10 ^ (n - (s + i))))))
    (subst (λ (k : ℕ). k ≤ t * most * 10 ^ (n - (s + i))) (sym size) (subst (λ (k : ℕ). unsigned_abs m * unsigned_abs (raised v (n - (s + i))) ≤ k) turn product))
  where
    turned : (a b c : ℕ) → a * (b * c) ≡ b * a * c
    turned a b c = omega arith

cut_within : (b : Bool) (v : ℤ) (t n : ℕ) → unsigned_abs (raised v n) ≤ t → unsigned_abs (raised (if b then pos 0 else v) n) ≤ t
cut_within true v t n h =
    let size = times-size (pos 0) (10 ^ n) in
    omega (arith, size)
cut_within false v t n h = h

range_any : (d : Declarations) (xs : List ℕ) (v : ValueExpression) (g : List Range) → range_of d (at_setting xs v) g ≡ range_at d v g
range_any d xs v g =
    ap₂ (λ (i : Interval) (k : Kind). record { interval = i; kind = k }) (interval_any d (day_of xs) (λ _. pos 0) v g) (ap kind_or (kind_any d (day_of xs) (λ _. pos 0) v (range_kinds g)))

entry_any : (d : Declarations) (xs : List ℕ) (v : ValueExpression) (es : List Entry) (env : Environment) (b : ℤ) → (let e : Entry = record { value = value_of d (at_setting xs v) es env b; kind = kind_or (kind_of d (at_setting xs v) (kinds es)) } in e) ≡ entry_at d v es env xs b
entry_any d xs v es env b =
    ap (λ (k : Kind). record { value = value_of d (at_setting xs v) es env b; kind = k }) (ap kind_or (kind_any d (day_of xs) (λ _. pos 0) v (kinds es)))

-- the names in the body of a `let`
pub bound_suits : (d : Declarations) (xs : List ℕ) (v : ValueExpression) (g : List Range) (es : List Entry) (env : Environment) (b : ℤ) → MeetsRules d (at_setting xs v) g → Suits d g es env → Suits d (range_at d v g ∷ g) (entry_at d v es env xs b ∷ es) env
bound_suits d xs v g es env b h s =
    subst (λ (r : Range). Suits d (r ∷ g) (entry_at d v es env xs b ∷ es) env) (range_any d xs v g)
    (subst (λ (e : Entry). Suits d (range_of d (at_setting xs v) g ∷ g) (e ∷ es) env) (entry_any d xs v es env b) (let_suits d (at_setting xs v) g es env b h s))

abbrev pub Within : Declarations → List ℕ → Asked → PayoffCode → Type 0
Within d xs a k =
    (g : List Range) (es : List Entry) (env : Environment) (b : ℤ) (n : ℕ) → CodeMeetsRules d xs k g → Suits d g es env → scale_of_code d k (kinds es) ≤ n
    → unsigned_abs (raised (code_value d k es env xs a b) (n - scale_of_code d k (kinds es))) ≤ total_of_code d k g * 10 ^ (n - scale_of_code d k (kinds es))

zero_within : (t n : ℕ) → unsigned_abs (raised (pos 0) n) ≤ t
zero_within t n =
    let size = times-size (pos 0) (10 ^ n) in
    omega (arith, size)

-- totals with the scales of the entries
two_scales : (F : ℕ → ℕ → ℕ) (d : Declarations) (k l : PayoffCode) (g : List Range) (es : List Entry) → range_kinds g ≡ kinds es → F (scale_of_code d k (kinds es)) (scale_of_code d l (kinds es)) ≡ F (scale_of_code d k (range_kinds g)) (scale_of_code d l (range_kinds g))
two_scales F d k l g es h = ap (λ (ks : List Kind). F (scale_of_code d k ks) (scale_of_code d l ks)) (sym h)

pub code_within : (d : Declarations) (xs : List ℕ) (a : Asked) → FactorsFit a → (k : PayoffCode) → Within d xs a k
code_within d xs a fit Nothing g es env b n h s le = zero_within (0 * 10 ^ (n - 0)) (n - 0)
code_within d xs a fit (PayOn x u p q) g es env b n h s le = paid_within (factor_on a (b +ℤ day_of xs x)) u p q (n - 9) a.flow (fit (b +ℤ day_of xs x))
code_within d xs a fit (Add k l) g es env b n h s le =
    let i = scale_of_code d k (kinds es) in
    let j = scale_of_code d l (kinds es) in
    let t = total_of_code d k g in
    let u = total_of_code d l g in
    subst (λ (z : ℕ). unsigned_abs (raised (code_value d (Add k l) es env xs a b) (n - max i j)) ≤ z * 10 ^ (n - max i j)) (two_scales (λ i j. t * 10 ^ (max i j - i) + u * 10 ^ (max i j - j)) d k l g es (same_kinds g es s.inside))
    (sum_within (code_value d k es env xs a b) (code_value d l es env xs a b) t u i j n (omega arith) (omega arith) (code_within d xs a fit k g es env b n h.0 s (omega arith)) (code_within d xs a fit l g es env b n h.1 s (omega arith)))
code_within d xs a fit (ScaleBy v k) g es env b n h s le =
    let i = scale_of_code d k (kinds es) in
    let lies = values_lie d s.limits (at_setting xs v) g es env b h.0.bounds s.inside s.admitted in
    let most : unsigned_abs (num (value_at d v es env xs b)) ≤ greatest_size (interval_of d (undated v) g) = subst (λ (r : Interval). unsigned_abs (num (value_at d v es env xs b)) ≤ greatest_size r) (interval_any d (day_of xs) (λ _. pos 0) v g) (size_in (interval_of d (at_setting xs v) g) (num (value_at d v es env xs b)) lies) in
    scale_within (num (value_at d v es env xs b)) (code_value d k es env xs a b) (total_of_code d k g) (greatest_size (interval_of d (undated v) g)) (scale_of d (undated v) (kinds es)) i n le most (code_within d xs a fit k g es env b (n - scale_of d (undated v) (kinds es)) h.1 s (omega arith))
code_within d xs a fit (LetBe v k) g es env b n h s le =
    code_within d xs a fit k (range_at d v g ∷ g) (entry_at d v es env xs b ∷ es) env b n h.1 (bound_suits d xs v g es env b h.0 s) le
code_within d xs a fit (Loop v x k l) g es env b n h s le =
    let i = scale_of_code d k (kinds es) in
    let j = scale_of_code d l (kinds es) in
    let t = total_of_code d k g in
    let u = total_of_code d l g in
    subst (λ (z : ℕ). unsigned_abs (raised (code_value d (Loop v x k l) es env xs a b) (n - max i j)) ≤ z * 10 ^ (n - max i j)) (two_scales (λ i j. max (t * 10 ^ (max i j - i)) (u * 10 ^ (max i j - j))) d k l g es (same_kinds g es s.inside))
    (branch_within (first_true_at d v es env xs b (day_of xs x)) (λ m. code_value d k es env xs a (b +ℤ pos m)) (code_value d l es env xs a b) t u i j n (omega arith) (omega arith) (λ m. code_within d xs a fit k g es env (b +ℤ pos m) n h.1 s (omega arith)) (code_within d xs a fit l g es env b n h.2 s (omega arith)))
code_within d xs a fit (Cut x k) g es env b n h s le =
    cut_within (int_lt (b +ℤ day_of xs x) a.now) (code_value d k es env xs a b) (total_of_code d k g * 10 ^ (n - scale_of_code d k (kinds es))) (n - scale_of_code d k (kinds es)) (code_within d xs a fit k g es env b n h s le)

-- the factors of a curve are at most ten
size_of_factor : (v : ℤ) → IsFactor v → unsigned_abs v ≤ 10 ^ 10
size_of_factor v h = let low = h.0 in let high = h.1 in omega (arith, ints)

pub curve_fits : (a : Asked) → IsCurve a.curve → IsFactor a.gone → FactorsFit a
curve_fits a h k day = size_of_factor (factor_on a day) (answers_factor a.curve a.gone (day -ℤ a.now) h k)

pub face_is_factor : IsFactor face_value
face_is_factor = (omega (arith, ints), omega (arith, ints))
