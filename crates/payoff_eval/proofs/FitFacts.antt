-- Accepted code fits: wherever the walk goes, the value expressions can be evaluated, the dates have days, and the amounts
-- are small.
use Rattle.std.proofs.Common.{◌≡◌, ℕ, ℤ, pos, ◌+ℤ◌, ◌*ℤ◌, ◌+◌, ◌-◌, ◌*◌, ◌^◌, ◌≤◌, unsigned_abs, List, [], ◌∷◌, length, Option, Some, None, Result, ap, subst, sym, ◌∙◌, arith}
use Rattle.std.proofs.lemmas.Int.{ints}
use Rattle.decimal.specs.Rounding.{raised}
use Rattle.decimal.proofs.PowerFacts.{ten_most}
use Rattle.term_model.specs.Declarations.{Declarations}
use Rattle.term_model.specs.declared.values.Kind.{Kind}
use Rattle.term_model.specs.declared.values.Value.{Value}
use Rattle.term_model.specs.declared.values.Missing.{Missing}
use Rattle.term_model.specs.Environments.{Environment, Place, IsAdmitted}
use Rattle.term_model.specs.Kinds.{kind_of, scale_of}
use Rattle.term_model.specs.Values.{Entry, kinds, num}
use Rattle.term_model.specs.Reads.{first_unfixed}
use Rattle.term_model.specs.Bounds.{Range}
use Rattle.interval_check.specs.Nodes.{MeetsRules}
use Rattle.interval_check.specs.Safety.{IsSmall, ScalesFit}
use Rattle.interval_check.specs.Within.{KeepsLimits}
use Rattle.interval_check.proofs.TurnoverFacts.{product_at_most}
use Rattle.interval_check.proofs.ValueFacts.{same_kinds}
use Rattle.interval_check.proofs.SafeFacts.{Suits, expression_is_safe}
use Rattle.expr_eval.specs.declared.scratch.Binding.{Binding}
use Rattle.expr_eval.specs.Rooms.{kinds_of}
use Rattle.expr_eval.specs.Standing.{StandFor}
use Rattle.expr_eval.proofs.RunValues.{same_kinds as entry_kinds}
use Rattle.expr_eval.proofs.RunReads.{have_values}
use Rattle.expr_eval.proofs.FitFacts.{InDays, kind_fits, run_fits}
use Rattle.expr_eval.proofs.SpanFacts.{span}
use Rattle.payoff_terms.specs.Dating.{at_setting, undated}
use Rattle.payoff_terms.specs.Code.{ValueExpression, PayoffCode, Nothing, PayOn, Add, ScaleBy, LetBe, Loop, Cut}
use Rattle.payoff_terms.specs.CodeValues.{Asked, value_at, entry_at, code_value, scale_of_code}
use Rattle.payoff_terms.specs.CodeReads.{value_reads, reaches_payment, reads_of_code}
use Rattle.payoff_terms.specs.CodeSizes.{height_of_code}
use Rattle.payoff_terms.specs.CodeTotals.{range_at, total_of_code}
use Rattle.payoff_terms.specs.CodeAcceptance.{IsAcceptedCode}
use Rattle.payoff_terms.specs.WellFormedCode.{IsWellFormedValue, IsWellFormedCode, IsClosedCode}
use Rattle.term_model.proofs.Products.{mul-assoc}
use Rattle.payoff_eval.specs.declared.walk.Worth.{Worth}
use Rattle.payoff_eval.specs.Walks.{unless}
use Rattle.payoff_eval.specs.CodeRules.{CodeMeetsRules, FactorsFit}
use Rattle.payoff_eval.specs.CodeRuns.{CodeFits, OnFactor, OnWorth, ValueFits, answer_of, bound_for, run_code, scale_found}
use Rattle.payoff_eval.proofs.NodeFacts.{HasSmallTotal, IsBoundedCode, IsSized, IsSizedValue, aligned_is_small, bounds_hold, cut_date, dates_fit, height_of_accepted, loop_date, part_at_root, pay_date, scale_of_accepted, sizes_hold, span_is_small}
use Rattle.payoff_eval.proofs.RuleFacts.{accepted_code_meets}
use Rattle.payoff_eval.proofs.RunFacts.{HasSome, Kinded, kinded, known, runs, some_of}
use Rattle.payoff_eval.proofs.SizeFacts.{bound_suits, code_within, size_plus}
use Rattle.payoff_eval.proofs.WalkFacts.{walk_is, worth}

-- what acceptance says of code under n binders, among names of known ranges
record Holds (d : Declarations) (xs : List ℕ) (n : ℕ) (k : PayoffCode) (g : List Range) : Type 0 where
  rules : CodeMeetsRules d xs k g
  sizes : IsSized d xs k g
  bounds : IsBoundedCode d k g
  formed : IsWellFormedCode d n k

-- the names have values within their ranges, and entries that stand for these
record Stand (d : Declarations) (F : Environment) (g : List Range) (bs : List Binding) (es : List Entry) (ps : List (List Place)) : Type 0 where
  suits : Suits d g es F
  entries : StandFor F bs es ps

-- ---- value expressions

has_some : (d : Declarations) (xs : List ℕ) (F : Environment) (v : ValueExpression) (g : List Range) (bs : List Binding) (es : List Entry) (ps : List (List Place)) → MeetsRules d (at_setting xs v) g → Stand d F g bs es ps → HasSome d xs v (kinds es)
has_some d xs F v g bs es ps rules s = subst (λ (ks : List Kind). HasSome d xs v ks) (same_kinds g es s.suits.inside) (some_of d xs v g rules)

-- in the body of a `let`
stand_in_let : (d : Declarations) (xs : List ℕ) (F : Environment) (v : ValueExpression) (g : List Range) (bs : List Binding) (es : List Entry) (ps : List (List Place)) (b : ℤ) → MeetsRules d (at_setting xs v) g → Stand d F g bs es ps → Stand d F (range_at d v g ∷ g) (bound_for d v bs F xs b ∷ bs) (entry_at d v es F xs b ∷ es) (value_reads d v es ps F xs b ∷ ps)
stand_in_let d xs F v g bs es ps b rules s = record {
  suits = bound_suits d xs v g es F b rules s.suits;
  entries = (known d xs v bs F b es ps (has_some d xs F v g bs es ps rules s) s.entries).stands;
}

in_days : (n : ℕ) (b : ℤ) → n ≤ 40_000_000 → unsigned_abs b ≤ 10 ^ 12 → InDays n b
in_days n b h k = record { low = omega (arith, ints); high = omega (arith, ints) }

value_fits : (d : Declarations) (xs : List ℕ) (F : Environment) (v : ValueExpression) (n : ℕ) (g : List Range) (bs : List Binding) (es : List Entry) (ps : List (List Place)) (b : ℤ) → length xs ≡ length d.templates → MeetsRules d (at_setting xs v) g → IsSizedValue d xs g v → IsWellFormedValue d n v → Stand d F g bs es ps → unsigned_abs b ≤ 10 ^ 12 → ValueFits d v bs F xs b
value_fits d xs F v n g bs es ps b numbers rules sized formed s near =
    let e = at_setting xs v in
    let values = have_values F bs es ps s.entries in
    let same : kinds_of bs ≡ kinds es = entry_kinds bs es values in
    let some = has_some d xs F v g bs es ps rules s in
    let can = expression_is_safe d e g es F b rules s.suits in
    record {
      dates = dates_fit d xs numbers v n g formed sized;
      fits = run_fits d e bs es values F b (in_days (span e) b (span_is_small d xs v g sized) near) some.0 some.1 can.scales can.safe.1;
      kind = kind_fits d e (kinds_of bs) some.0 (subst (λ (ks : List Kind). kind_of d e ks ≡ Some some.0) (sym same) some.1) (subst (λ (ks : List Kind). ScalesFit d e ks) (sym same) can.scales);
      day = omega arith;
    }

-- ---- amounts

-- at no more decimals than nine beyond the portfolio's
amount_at_most : (d : Declarations) (xs : List ℕ) (F : Environment) (a : Asked) → FactorsFit a → (k : PayoffCode) (decimals : ℕ) (g : List Range) (es : List Entry) (b : ℤ) → CodeMeetsRules d xs k g → HasSmallTotal d g k → Suits d g es F → scale_of_code d k (kinds es) ≤ decimals → decimals ≤ d.amounts + 9 → unsigned_abs (raised (code_value d k es F xs a b) (decimals - scale_of_code d k (kinds es))) ≤ 10 ^ 37
amount_at_most d xs F a fit k decimals g es b rules small s low high =
    let i = scale_of_code d k (kinds es) in
    let total = total_of_code d k g in
    let here = code_within d xs a fit k g es F b decimals rules s low in
    let power = ten_most (decimals - i) (d.amounts + 9 - i) (omega arith) in
    let more = product_at_most total (10 ^ (decimals - i)) total (10 ^ (d.amounts + 9 - i)) (omega arith) power in
    let most : total * 10 ^ (d.amounts + 9 - i) ≤ 10 ^ 37 = subst (λ (ks : List Kind). total * 10 ^ (d.amounts + 9 - scale_of_code d k ks) ≤ 10 ^ 37) (same_kinds g es s.inside) (aligned_is_small d k g small) in
    omega arith

on_worth : (o : Option Place) (w : Worth) (P : Worth → Type 0) → P w → OnWorth (unless o w) P
on_worth (Some q) w P h = tt
on_worth None w P h = h

on_factor : (o : Option Place) (v : Value) (P : ℤ → Type 0) → P (num v) → OnFactor (unless o v) P
on_factor (Some q) v P h = tt
on_factor None v P h = h

-- what the evaluator answers, by the model
run_is : (d : Declarations) (xs : List ℕ) (F : Environment) (a : Asked) (k : PayoffCode) (decimals : ℕ) (g : List Range) (bs : List Binding) (es : List Entry) (ps : List (List Place)) (b : ℤ) → CodeMeetsRules d xs k g → Stand d F g bs es ps → scale_of_code d k (kinds es) ≤ decimals → run_code d decimals k bs F xs a b ≡ unless (first_unfixed F (reads_of_code d k es ps F xs a b)) (worth (raised (code_value d k es F xs a b) (decimals - scale_of_code d k (kinds es))) (reaches_payment d k es F xs a b))
run_is d xs F a k decimals g bs es ps b rules s low =
    runs d xs F a k decimals bs es ps b (subst (λ (ks : List Kind). Kinded d xs k ks) (same_kinds g es s.suits.inside) (kinded d xs k g rules)) s.entries
    ∙ walk_is d k decimals es ps F xs a b low

root_total : (d : Declarations) (k : PayoffCode) (g : List Range) → IsBoundedCode d k g → HasSmallTotal d g k
root_total d k g h = part_at_root d (HasSmallTotal d) (λ h v. Unit {0}) k g h

amount_small : (d : Declarations) (xs : List ℕ) (F : Environment) (a : Asked) → FactorsFit a → (k : PayoffCode) (decimals n : ℕ) (g : List Range) (bs : List Binding) (es : List Entry) (ps : List (List Place)) (b : ℤ) → Holds d xs n k g → Stand d F g bs es ps → scale_of_code d k (kinds es) ≤ decimals → decimals ≤ d.amounts + 9 → OnWorth (run_code d decimals k bs F xs a b) (λ w. IsSmall w.amount)
amount_small d xs F a fit k decimals n g bs es ps b h s low high =
    subst (λ (r : Result Worth Missing). OnWorth r (λ w. IsSmall w.amount)) (sym (run_is d xs F a k decimals g bs es ps b h.rules s low))
    (on_worth (first_unfixed F (reads_of_code d k es ps F xs a b)) _ (λ w. IsSmall w.amount) (amount_at_most d xs F a fit k decimals g es b h.rules (root_total d k g h.bounds) s.suits low high))

-- an amount times its factor
product_small : (d : Declarations) (xs : List ℕ) (F : Environment) (a : Asked) → FactorsFit a → (v : ValueExpression) (k : PayoffCode) (decimals n : ℕ) (g : List Range) (bs : List Binding) (es : List Entry) (ps : List (List Place)) (b : ℤ) → Holds d xs n (ScaleBy v k) g → Stand d F g bs es ps → scale_of_code d (ScaleBy v k) (kinds es) ≤ decimals → decimals ≤ d.amounts + 9 → OnWorth (run_code d (decimals - scale_found d v bs xs) k bs F xs a b) (λ w. OnFactor (answer_of d v bs F xs b) (λ m. IsSmall (m *ℤ w.amount)))
product_small d xs F a fit v k decimals n g bs es ps b h s low high =
    let x = num (value_at d v es F xs b) in
    let c = code_value d k es F xs a b in
    let j = scale_of d (undated v) (kinds es) in
    let i = scale_of_code d k (kinds es) in
    let facts = known d xs v bs F b es ps (has_some d xs F v g bs es ps h.rules.0 s) s.entries in
    let same : decimals - (j + i) ≡ decimals - j - i = omega arith in
    let whole : unsigned_abs (raised (x *ℤ c) (decimals - (j + i))) ≤ 10 ^ 37 = amount_at_most d xs F a fit (ScaleBy v k) decimals g es b h.rules (root_total d (ScaleBy v k) g h.bounds) s.suits low high in
    let apart : unsigned_abs (x *ℤ raised c (decimals - (j + i))) ≤ 10 ^ 37 = subst (λ (z : ℤ). unsigned_abs z ≤ 10 ^ 37) (mul-assoc x c (pos (10 ^ (decimals - (j + i))))) whole in
    let small : unsigned_abs (x *ℤ raised c (decimals - j - i)) ≤ 10 ^ 37 = subst (λ (e : ℕ). unsigned_abs (x *ℤ raised c e) ≤ 10 ^ 37) same apart in
    let body : run_code d (decimals - scale_found d v bs xs) k bs F xs a b ≡ unless (first_unfixed F (reads_of_code d k es ps F xs a b)) (worth (raised c (decimals - j - i)) (reaches_payment d k es F xs a b)) =
    ap (λ (e : ℕ). run_code d (decimals - e) k bs F xs a b) facts.scale ∙ run_is d xs F a k (decimals - j) g bs es ps b h.rules.1 s (omega arith) in
    subst (λ (r : Result Worth Missing). OnWorth r (λ w. OnFactor (answer_of d v bs F xs b) (λ m. IsSmall (m *ℤ w.amount)))) (sym body)
    (on_worth (first_unfixed F (reads_of_code d k es ps F xs a b)) _ (λ w. OnFactor (answer_of d v bs F xs b) (λ m. IsSmall (m *ℤ w.amount)))
    (subst (λ (r : Result Value Missing). OnFactor r (λ m. IsSmall (m *ℤ raised c (decimals - j - i)))) (sym facts.answer)
    (on_factor (first_unfixed F (value_reads d v es ps F xs b)) (value_at d v es F xs b) (λ m. IsSmall (m *ℤ raised c (decimals - j - i))) small)))

-- ---- the whole

later_near : (b : ℤ) (i n : ℕ) → i ≤ 100_000 → unsigned_abs b + (100_000 + n) ≤ 10 ^ 12 → unsigned_abs (b +ℤ pos i) + n ≤ 10 ^ 12
later_near b i n h k = let most = size_plus b (pos i) in omega (arith, ints)

abbrev FitsAt : Declarations → List ℕ → Environment → Asked → PayoffCode → Type 0
FitsAt d xs F a k =
    (decimals n : ℕ) (g : List Range) (bs : List Binding) (es : List Entry) (ps : List (List Place)) (b : ℤ) → Holds d xs n k g → Stand d F g bs es ps
    → scale_of_code d k (kinds es) ≤ decimals → decimals ≤ d.amounts + 9 → unsigned_abs b + 100_000 * height_of_code k ≤ 10 ^ 12 → CodeFits d decimals k bs F xs a b

code_fits : (d : Declarations) (xs : List ℕ) (F : Environment) (a : Asked) → FactorsFit a → length xs ≡ length d.templates → d.amounts ≤ 12 → (k : PayoffCode) → FitsAt d xs F a k
code_fits d xs F a fit numbers few Nothing decimals n g bs es ps b h s low high near = tt
code_fits d xs F a fit numbers few (PayOn x u p q) decimals n g bs es ps b h s low high near =
    (record { date = pay_date d xs x u p q g numbers h.formed.0.0 h.sizes; base = omega arith }, low, omega arith)
code_fits d xs F a fit numbers few (Add k l) decimals n g bs es ps b h s low high near =
    let hk : Holds d xs n k g = record { rules = h.rules.0; sizes = h.sizes.0; bounds = h.bounds.0; formed = h.formed.0 } in
    let hl : Holds d xs n l g = record { rules = h.rules.1; sizes = h.sizes.1; bounds = h.bounds.1; formed = h.formed.1 } in (
      code_fits d xs F a fit numbers few k decimals n g bs es ps b hk s (omega arith) high (omega arith),
      code_fits d xs F a fit numbers few l decimals n g bs es ps b hl s (omega arith) high (omega arith),
      amount_small d xs F a fit k decimals n g bs es ps b hk s (omega arith) high,
      amount_small d xs F a fit l decimals n g bs es ps b hl s (omega arith) high,
    )
code_fits d xs F a fit numbers few (ScaleBy v k) decimals n g bs es ps b h s low high near =
    let hk : Holds d xs n k g = record { rules = h.rules.1; sizes = h.sizes.1; bounds = h.bounds.1; formed = h.formed.1 } in
    let same : scale_found d v bs xs ≡ scale_of d (undated v) (kinds es) = (known d xs v bs F b es ps (has_some d xs F v g bs es ps h.rules.0 s) s.entries).scale in (
      value_fits d xs F v n g bs es ps b numbers h.rules.0 h.sizes.0 h.formed.0 s (omega arith),
      omega arith,
      code_fits d xs F a fit numbers few k (decimals - scale_found d v bs xs) n g bs es ps b hk s (omega arith) (omega arith) (omega arith),
      product_small d xs F a fit v k decimals n g bs es ps b h s low high,
    )
code_fits d xs F a fit numbers few (LetBe v k) decimals n g bs es ps b h s low high near =
    let hk : Holds d xs (n + 1) k (range_at d v g ∷ g) = record { rules = h.rules.1; sizes = h.sizes.1; bounds = h.bounds.1; formed = h.formed.1 } in (
      value_fits d xs F v n g bs es ps b numbers h.rules.0 h.sizes.0 h.formed.0 s (omega arith),
      code_fits d xs F a fit numbers few k decimals (n + 1) (range_at d v g ∷ g) (bound_for d v bs F xs b ∷ bs) (entry_at d v es F xs b ∷ es) (value_reads d v es ps F xs b ∷ ps) b hk (stand_in_let d xs F v g bs es ps b h.rules.0 s) low high (omega arith),
    )
code_fits d xs F a fit numbers few (Loop v x k l) decimals n g bs es ps b h s low high near =
    let hk : Holds d xs n k g = record { rules = h.rules.1; sizes = h.sizes.1; bounds = h.bounds.1; formed = h.formed.2 } in
    let hl : Holds d xs n l g = record { rules = h.rules.2; sizes = h.sizes.2; bounds = h.bounds.2; formed = h.formed.3 } in
    let days = loop_date d xs v x k l g numbers h.formed.1.0 h.sizes in
    let later : (i : ℕ) → i ≤ 100_000 → unsigned_abs (b +ℤ pos i) + 100_000 * height_of_code k ≤ 10 ^ 12 = λ i m. later_near b i (100_000 * height_of_code k) m (omega arith) in (
      record { date = days.date; base = omega arith },
      days.low,
      days.high,
      λ i m. (let near_i = later i m in value_fits d xs F v n g bs es ps (b +ℤ pos i) numbers h.rules.0 h.sizes.0 h.formed.0 s (omega arith)),
      λ i m. code_fits d xs F a fit numbers few k decimals n g bs es ps (b +ℤ pos i) hk s (omega arith) high (later i m),
      code_fits d xs F a fit numbers few l decimals n g bs es ps b hl s (omega arith) high (omega arith),
    )
code_fits d xs F a fit numbers few (Cut x k) decimals n g bs es ps b h s low high near =
    let hk : Holds d xs n k g = record { rules = h.rules; sizes = h.sizes.0; bounds = h.bounds.0; formed = h.formed.1 } in (
      record { date = cut_date d xs x k g numbers h.formed.0.0 h.sizes; base = omega arith },
      code_fits d xs F a fit numbers few k decimals n g bs es ps b hk s low high (omega arith),
    )

pub accepted_code_fits : (d : Declarations) (xs : List ℕ) (F : Environment) (k : PayoffCode) (a : Asked) (b : ℤ) → KeepsLimits d → d.amounts ≤ 12 → length xs ≡ length d.templates → IsClosedCode d k → IsAcceptedCode d xs k → IsAdmitted d F → FactorsFit a → unsigned_abs b ≤ 1_000_000 → CodeFits d (d.amounts + 9) k [] F xs a b
accepted_code_fits d xs F k a b limits few numbers formed accepted admitted fit near =
    let high = height_of_accepted d xs k accepted in
    code_fits d xs F a fit numbers few k (d.amounts + 9) 0 [] [] [] [] b
    (record { rules = accepted_code_meets d xs k accepted; sizes = sizes_hold d xs k accepted; bounds = bounds_hold d xs k accepted; formed = formed })
    (record { suits = record { limits = limits; inside = tt; of_kinds = tt; admitted = admitted }; entries = tt })
    (scale_of_accepted d xs k accepted) (omega arith) (omega arith)
