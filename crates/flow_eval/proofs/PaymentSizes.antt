-- Each payment of a contract is at most what the contract turns over between its parties, and so at most its total.
use Rattle.std.proofs.Common.{◌≡◌, ℕ, ℤ, pos, neg_ℤ, ◌+ℤ◌, ◌≤◌, ◌<◌, ◌+◌, ◌-◌, ◌*◌, ◌^◌, min, max, Bool, true, false, ◌||◌, ◌==◌, nat_lt, int_lt, if◌then◌else◌, List, [], ◌∷◌, Option, Some, None, refl, ap, sym, ◌∙◌, arith, unsigned_abs, inl, inr, mul_assoc, subst}
use Rattle.std.specs.List.{All}
use Rattle.std.proofs.lemmas.Int.{ints, unsigned_abs-mul}
use Rattle.std.proofs.lemmas.Nat.{mul-le, pow-add}
use Rattle.std.proofs.Math.Nat.{pow-le-pow_right}
use Rattle.std.proofs.lemmas.Bool.{cases_lt}
use Rattle.std.proofs.lemmas.Bool.Decides.{nat_tests}
use Rattle.std.proofs.lemmas.List.Elements.{All-append, All-nil, All-cons, All-map, All-weaker}
use Rattle.decimal.specs.Rounding.{raised}
use Rattle.term_model.specs.Declarations.{Declarations}
use Rattle.term_model.specs.Terms.{Contract, Zero, Pay, Both, Scale, After, Let, Within}
use Rattle.term_model.specs.Environments.{Environment}
use Rattle.term_model.specs.Kinds.{kind_of, scale_of}
use Rattle.term_model.specs.Values.{Entry, kinds, num, kind_or, value_of, first_true}
use Rattle.term_model.specs.Flows.{Flow, count_of, scale_of_contract, unit_flow}
use Rattle.interval_check.specs.Sums.{turnover_of}
use Rattle.flow_eval.specs.declared.payments.Payment.{Payment}
use Rattle.flow_eval.specs.Payments.{payment_on, payments_of, times}
use Rattle.flow_eval.proofs.PaidFacts.{flow_at}

-- a payment of at most so much between its parties
abbrev IsUnder : (Flow → ℕ) → ℕ → Payment → Type 0
IsUnder most k p = unsigned_abs p.amount ≤ most (flow_at p.slot) * 10 ^ k

abbrev AreUnder : (Flow → ℕ) → ℕ → List Payment → Type 0
AreUnder most k ps = All (λ (p : Payment). IsUnder most k p) ps

signed : (up : Bool) (m : ℤ) → unsigned_abs (if up then m else neg_ℤ m) ≡ unsigned_abs m
signed true m = refl
signed false m = omega (arith, ints)

unit_up : (a p q : ℕ) → p < q → unsigned_abs (unit_flow a p q (record { from = min p q; to = max p q; asset = a })) ≡ 1
unit_up a p q h = grind (arith, nat_tests)

unit_down : (a p q : ℕ) → q < p → unsigned_abs (unit_flow a p q (record { from = min p q; to = max p q; asset = a })) ≡ 1
unit_down a p q h = grind (arith, nat_tests)

above : (p q : ℕ) → (p == q) ≡ false → q ≤ p → q < p
above p q apart h = grind (arith, nat_tests)

unit_size : (a p q : ℕ) → (p == q) ≡ false → unsigned_abs (unit_flow a p q (record { from = min p q; to = max p q; asset = a })) ≡ 1
unit_size a p q apart = elim (cases_lt p q) [ inl h ↦ unit_up a p q h | inr h ↦ unit_down a p q (above p q apart h) ]

raised_one : (decimals : ℕ) → unsigned_abs (raised (pos 1) decimals) ≡ 1 * 10 ^ (decimals - 0)
raised_one decimals =
    let all : decimals ≡ decimals - 0 = omega arith in
    unsigned_abs-mul (pos 1) (pos (10 ^ decimals)) ∙ ap (λ (n : ℕ). 1 * 10 ^ n) all

at_most : (a b : ℕ) → a ≡ b → a ≤ b
at_most a b h = omega arith

one_under : (most : Flow → ℕ) (late same : Bool) (k : ℕ) (p : Payment) → (same ≡ false → IsUnder most k p) → AreUnder most k (if late || same then [] else p ∷ [])
one_under most true same k p h = All-nil (λ (p : Payment). IsUnder most k p)
one_under most false true k p h = All-nil (λ (p : Payment). IsUnder most k p)
one_under most false false k p h = All-cons (λ (p : Payment). IsUnder most k p) p [] (h refl) (All-nil (λ (p : Payment). IsUnder most k p))

pay_under : (a p q decimals : ℕ) (f : ℤ) → (p == q) ≡ false → IsUnder (λ w. unsigned_abs (unit_flow a p q w)) (decimals - 0) (payment_on f (record { asset = a; from = p; to = q }) (raised (pos 1) decimals))
pay_under a p q decimals f apart =
    at_most _ _ (signed (nat_lt p q) (raised (pos 1) decimals) ∙ raised_one decimals ∙ ap (λ (n : ℕ). n * 10 ^ (decimals - 0)) (sym (unit_size a p q apart)))

-- ---- more of it

split_power : (t decimals i j : ℕ) → i ≤ j → j ≤ decimals → t * 10 ^ (decimals - i) ≡ (t * 10 ^ (j - i)) * 10 ^ (decimals - j)
split_power t decimals i j h k =
    let all : decimals - i ≡ (j - i) + (decimals - j) = omega arith in
    ap (λ (n : ℕ). t * 10 ^ n) all ∙ ap (λ (n : ℕ). t * n) (pow-add 10 (j - i) (decimals - j)) ∙ sym (mul_assoc t (10 ^ (j - i)) (10 ^ (decimals - j)))

no_more : (x y k : ℕ) → x ≤ y → x * k ≤ y * k
no_more x y k h = mul-le x k y k h (omega arith)

raise_to : (t more decimals i j : ℕ) → i ≤ j → j ≤ decimals → t * 10 ^ (j - i) ≤ more → t * 10 ^ (decimals - i) ≤ more * 10 ^ (decimals - j)
raise_to t more decimals i j h k most =
    subst (λ (n : ℕ). n ≤ more * 10 ^ (decimals - j)) (sym (split_power t decimals i j h k)) (no_more (t * 10 ^ (j - i)) more (10 ^ (decimals - j)) most)

least_of : (a b c : ℕ) → a ≤ b → b ≤ c → a ≤ c
least_of a b c h k = omega arith

under_more : (less more : Flow → ℕ) (decimals i j : ℕ) (ps : List Payment) → i ≤ j → j ≤ decimals → ((w : Flow) → less w * 10 ^ (j - i) ≤ more w) → AreUnder less (decimals - i) ps → AreUnder more (decimals - j) ps
under_more less more decimals i j ps h k most all =
    All-weaker (λ (p : Payment). IsUnder less (decimals - i) p) (λ (p : Payment). IsUnder more (decimals - j) p) (λ p is. least_of (unsigned_abs p.amount) _ _ is (raise_to (less (flow_at p.slot)) (more (flow_at p.slot)) decimals i j h k (most (flow_at p.slot)))) ps all

reordered : (t p v : ℕ) → (t * p) * v ≡ (t * v) * p
reordered t p v = omega (arith, mul_assoc)

times_under : (most : Flow → ℕ) (decimals i j : ℕ) (v : ℤ) (p : Payment) → IsUnder most (decimals - i - j) p → IsUnder (λ w. most w * unsigned_abs v) (decimals - (i + j)) (times v p)
times_under most decimals i j v p is =
    let same : decimals - i - j ≡ decimals - (i + j) = omega arith in
    least_of _ _ _ (at_most _ _ (unsigned_abs-mul p.amount v)) (least_of _ _ _ (no_more (unsigned_abs p.amount) (most (flow_at p.slot) * 10 ^ (decimals - i - j)) (unsigned_abs v) is) (at_most _ _ (reordered (most (flow_at p.slot)) (10 ^ (decimals - i - j)) (unsigned_abs v) ∙ ap (λ (n : ℕ). (most (flow_at p.slot) * unsigned_abs v) * 10 ^ n) same)))

branch_under : (o : Option ℕ) (hit : ℕ → List Payment) (miss : List Payment) (x : ℕ → Flow → ℕ) (y : Flow → ℕ) (decimals i j : ℕ) → max i j ≤ decimals
    → ((k : ℕ) → AreUnder (x k) (decimals - i) (hit k)) → AreUnder y (decimals - j) miss
    → AreUnder (λ w. elim o [ Some k ↦ x k w * 10 ^ (max i j - i) | None ↦ y w * 10 ^ (max i j - j) ]) (decimals - max i j) (elim o [ Some k ↦ hit k | None ↦ miss ])
branch_under (Some k) hit miss x y decimals i j h one other = under_more (x k) (λ w. x k w * 10 ^ (max i j - i)) decimals i (max i j) (hit k) (omega arith) h (λ w. omega arith) (one k)
branch_under None hit miss x y decimals i j h one other = under_more y (λ w. y w * 10 ^ (max i j - j)) decimals j (max i j) miss (omega arith) h (λ w. omega arith) other

-- each payment is at most the turnover between its parties, at the decimals that are left for the contract
pub payments_under : (d : Declarations) (env : Environment) (last : ℤ) (c : Contract) (g : List Entry) (decimals : ℕ) (f : ℤ) → scale_of_contract d c (kinds g) ≤ decimals
    → AreUnder (turnover_of d c g env f) (decimals - scale_of_contract d c (kinds g)) (payments_of d decimals c g env f last)
payments_under d env last Zero g decimals f fits = All-nil (λ (p : Payment). IsUnder (turnover_of d Zero g env f) (decimals - 0) p)
payments_under d env last (Pay a p q) g decimals f fits =
    one_under (turnover_of d (Pay a p q) g env f) (int_lt last f) (p == q) (decimals - 0) (payment_on f (record { asset = a; from = p; to = q }) (raised (pos 1) decimals)) (pay_under a p q decimals f)
payments_under d env last (Both one other) g decimals f fits =
    let i = scale_of_contract d one (kinds g) in
    let j = scale_of_contract d other (kinds g) in
    let l : i ≤ decimals = omega arith in
    let r : j ≤ decimals = omega arith in
    All-append (λ (p : Payment). IsUnder (turnover_of d (Both one other) g env f) (decimals - max i j) p) (payments_of d decimals one g env f last) (payments_of d decimals other g env f last)
    (under_more (turnover_of d one g env f) (turnover_of d (Both one other) g env f) decimals i (max i j) (payments_of d decimals one g env f last) (omega arith) fits (λ w. omega arith) (payments_under d env last one g decimals f l))
    (under_more (turnover_of d other g env f) (turnover_of d (Both one other) g env f) decimals j (max i j) (payments_of d decimals other g env f last) (omega arith) fits (λ w. omega arith) (payments_under d env last other g decimals f r))
payments_under d env last (Scale e c) g decimals f fits =
    let i = scale_of d e (kinds g) in
    let j = scale_of_contract d c (kinds g) in
    let v = num (value_of d e g env f) in
    let l : j ≤ decimals - i = omega arith in
    All-map (λ (p : Payment). IsUnder (turnover_of d (Scale e c) g env f) (decimals - (i + j)) p) (times v) (payments_of d (decimals - i) c g env f last)
    (All-weaker (λ (p : Payment). IsUnder (turnover_of d c g env f) (decimals - i - j) p) (λ (p : Payment). IsUnder (turnover_of d (Scale e c) g env f) (decimals - (i + j)) (times v p)) (λ p is. times_under (turnover_of d c g env f) decimals i j v p is) (payments_of d (decimals - i) c g env f last)
    (payments_under d env last c g (decimals - i) f l))
payments_under d env last (After n c) g decimals f fits = payments_under d env last c g decimals (f +ℤ pos (count_of n)) fits
payments_under d env last (Let e c) g decimals f fits = payments_under d env last c (record { value = value_of d e g env f; kind = kind_or (kind_of d e (kinds g)) } ∷ g) decimals f fits
payments_under d env last (Within e n one other) g decimals f fits =
    let i = scale_of_contract d one (kinds g) in
    let j = scale_of_contract d other (kinds g) in
    let l : i ≤ decimals = omega arith in
    let r : j ≤ decimals = omega arith in
    branch_under (first_true d e g env f (count_of n)) (λ k. payments_of d decimals one g env (f +ℤ pos k) last) (payments_of d decimals other g env (f +ℤ pos (count_of n)) last) (λ k. turnover_of d one g env (f +ℤ pos k)) (turnover_of d other g env (f +ℤ pos (count_of n))) decimals i j fits
    (λ k. payments_under d env last one g decimals (f +ℤ pos k) l) (payments_under d env last other g decimals (f +ℤ pos (count_of n)) r)

-- so where the turnover at the portfolio's decimals is small, each payment is, at no more decimals
under_total : (t decimals all i most : ℕ) → decimals ≤ all → i ≤ decimals → t * 10 ^ (all - i) ≤ most → t * 10 ^ (decimals - i) ≤ most
under_total t decimals all i most h k total =
    least_of _ (t * 10 ^ (all - i)) _ (mul-le t (10 ^ (decimals - i)) t (10 ^ (all - i)) (omega arith) (powers (decimals - i) (all - i) (omega arith))) total
  where
    powers : (a b : ℕ) → a ≤ b → 10 ^ a ≤ 10 ^ b
    powers a b h = pow-le-pow_right (omega arith) h

pub payments_small : (d : Declarations) (env : Environment) (last : ℤ) (c : Contract) (g : List Entry) (decimals most : ℕ) (f : ℤ) → scale_of_contract d c (kinds g) ≤ decimals → decimals ≤ d.amounts
    → ((w : Flow) → turnover_of d c g env f w * 10 ^ (d.amounts - scale_of_contract d c (kinds g)) ≤ most)
    → All (λ (p : Payment). unsigned_abs p.amount ≤ most) (payments_of d decimals c g env f last)
payments_small d env last c g decimals most f fits h total =
    All-weaker (λ (p : Payment). IsUnder (turnover_of d c g env f) (decimals - scale_of_contract d c (kinds g)) p) (λ (p : Payment). unsigned_abs p.amount ≤ most)
    (λ p is. least_of _ _ _ is (under_total (turnover_of d c g env f (flow_at p.slot)) decimals d.amounts (scale_of_contract d c (kinds g)) most h fits (total (flow_at p.slot)))) (payments_of d decimals c g env f last) (payments_under d env last c g decimals f fits)
