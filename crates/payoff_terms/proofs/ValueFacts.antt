-- Compiled code at a base, and its contract on the frame that is as many days later as the date says: the code's value is
-- what the contract pays over its own days, each day with its factor. Both stand here at any n decimals from the
-- contract's scale on, and over any h days from its horizon on, so that each part has just what its whole asks of it.
use Rattle.std.proofs.Common.{◌≡◌, ℕ, zero, suc, ℤ, pos, ◌+ℤ◌, ◌-ℤ◌, ◌*ℤ◌, ◌+◌, ◌-◌, ◌^◌, ◌≤◌, max, Bool, List, ◌∷◌, Option, Some, None, refl, ap, ap₂, subst, sym, ◌∙◌, inl, inr, arith}
use Rattle.std.proofs.lemmas.Int.{ints}
use Rattle.decimal.specs.Rounding.{raised}
use Rattle.term_model.specs.Declarations.{Declarations}
use Rattle.term_model.specs.DayCounts.{Days}
use Rattle.term_model.specs.declared.values.Kind.{Kind}
use Rattle.term_model.specs.Terms.{Expression, Contract, Zero, Pay, Both, Scale, After, Let, Within}
use Rattle.term_model.specs.Environments.{Environment}
use Rattle.term_model.specs.Kinds.{kind_of, scale_of}
use Rattle.term_model.specs.Values.{Entry, kinds, num, truth, kind_or, value_of, first_of, first_true}
use Rattle.term_model.specs.Flows.{Flow, flow_of, count_of, unit_flow, on_day_zero, scale_of_contract}
use Rattle.term_model.specs.Horizons.{delayed, horizon_of}
use Rattle.term_model.specs.Instances.{with_number, instance}
use Rattle.term_model.proofs.FlowFacts.{flow_idle, differs, one_zero, raised-zero, first_within}
use Rattle.payoff_terms.specs.TemplateDates.{Date, day_of, plus, date_of_days}
use Rattle.payoff_terms.specs.CodeValues.{Asked, factor_on, value_at, scale_of_code, first_upto, first_true_at, code_value}
use Rattle.payoff_terms.specs.Compiled.{compiled, compiled_value}
use Rattle.term_model.proofs.Products.{mul-assoc, raised-raised, parts_raised}
use Rattle.payoff_terms.proofs.DateFacts.{day_plus, day_of_count}
use Rattle.payoff_terms.proofs.DatingFacts.{scale_compiled, kind_compiled, value_compiled, entry_compiled}
use Rattle.payoff_terms.proofs.SumFacts.{weighted, weighted_same, weighted_zero, weighted_sum, weighted_times, weighted_first, weighted_moved}

-- the scale of code is at most nine more than that of its contract
pub code_scale : (d : Declarations) (xs : List ℕ) (c : Contract) (x : Date) (ks : List Kind) → scale_of_code d (compiled x c) ks ≤ scale_of_contract d (instance xs c) ks + 9
code_scale d xs Zero x ks = omega arith
code_scale d xs (Pay a p q) x ks = omega arith
code_scale d xs (Both a b) x ks = omega (arith, code_scale d xs a x ks, code_scale d xs b x ks)
code_scale d xs (Scale e c) x ks = omega (arith, scale_compiled d x e ks, code_scale d xs c x ks)
code_scale d xs (After m c) x ks = code_scale d xs c (plus x (date_of_days m)) ks
code_scale d xs (Let e c) x ks =
    subst (λ (k : Kind). scale_of_code d (compiled x c) (k ∷ ks) ≤ scale_of_contract d (instance xs c) (kind_or (kind_of d e ks) ∷ ks) + 9) (sym (kind_compiled d x e ks)) (code_scale d xs c x (kind_or (kind_of d e ks) ∷ ks))
code_scale d xs (Within e m a b) x ks =
    omega (arith, code_scale d xs a x ks, code_scale d xs b (plus x (date_of_days m)) ks)

same_test : (p q : ℕ → Bool) → ((i : ℕ) → p i ≡ q i) → p ≡ q
same_test p q h = λ i k. h k i

pub first_compiled : (d : Declarations) (x : Date) (e : Expression) (m : Days) (g : List Entry) (env : Environment) (xs : List ℕ) (b f : ℤ) → f ≡ b +ℤ day_of xs x → first_true_at d (compiled_value x e) g env xs b (day_of xs (date_of_days m)) ≡ first_true d e g env f (count_of (with_number xs m))
first_compiled d x e m g env xs b f h =
    let p : ℕ → Bool = λ i. truth (value_at d (compiled_value x e) g env xs (b +ℤ pos i)) in
    let q : ℕ → Bool = λ i. truth (value_of d e g env (f +ℤ pos i)) in
    ap (λ (n : ℤ). first_upto n p) (day_of_count xs m)
    ∙ ap (λ (r : ℕ → Bool). first_of (count_of (with_number xs m)) r) (same_test p q (λ i. ap truth (value_compiled d x e g env xs (b +ℤ pos i) (f +ℤ pos i) (omega (arith, ints)))))

abbrev pub AmountsMatch : Declarations → Environment → List ℕ → Asked → Contract → Type 0
AmountsMatch d env xs a c =
    (x : Date) (g : List Entry) (b f : ℤ) (n h : ℕ)
    → f ≡ b +ℤ day_of xs x
    → scale_of_contract d (instance xs c) (kinds g) ≤ n
    → horizon_of (instance xs c) ≤ h
    → raised (code_value d (compiled x c) g env xs a b) (n + 9 - scale_of_code d (compiled x c) (kinds g)) ≡ weighted (factor_on a) f h (λ i. raised (flow_of d (instance xs c) g env f i a.flow) (n - scale_of_contract d (instance xs c) (kinds g)))

pay_match : (u : ℤ → ℤ) (v b f : ℤ) (n h : ℕ) → f ≡ b → raised (u b *ℤ v) (n + 9 - 9) ≡ weighted u f (suc h) (λ i. raised (on_day_zero i v) (n - 0))
pay_match u v b f n h e =
    let later : (i : ℕ) → raised (on_day_zero (pos (suc i)) v) (n - 0) ≡ pos 0 = λ i. rw (differs (suc i) (omega arith)) (raised-zero (n - 0)) in
    let day : b ≡ f +ℤ pos 0 = omega (arith, ints) in
    let same : n + 9 - 9 ≡ n - 0 = omega arith in
    mul-assoc (u b) v (pos (10 ^ (n + 9 - 9))) ∙ ap₂ (λ (t : ℤ) (k : ℕ). u t *ℤ raised v k) day same ∙ sym (weighted_first u f h (λ i. raised (on_day_zero i v) (n - 0)) later)

both_match : (u : ℤ → ℤ) (f : ℤ) (h n : ℕ) (v w : ℤ) (x y : ℤ → ℤ) (i j k l : ℕ) → i ≤ k + 9 → j ≤ l + 9 → k ≤ n → l ≤ n → raised v (n + 9 - i) ≡ weighted u f h (λ t. raised (x t) (n - k)) → raised w (n + 9 - j) ≡ weighted u f h (λ t. raised (y t) (n - l)) → raised (raised v (max i j - i) +ℤ raised w (max i j - j)) (n + 9 - max i j) ≡ weighted u f h (λ t. raised (raised (x t) (max k l - k) +ℤ raised (y t) (max k l - l)) (n - max k l))
both_match u f h n v w x y i j k l hi hj hk hl hv hw =
    sym (parts_raised v w (n + 9) i j (omega arith) (omega arith))
    ∙ ap₂ (λ (s t : ℤ). s +ℤ t) hv hw
    ∙ sym (weighted_sum u f h (λ t. raised (x t) (n - k)) (λ t. raised (y t) (n - l)))
    ∙ weighted_same u f h (λ t. raised (x t) (n - k) +ℤ raised (y t) (n - l)) (λ t. raised (raised (x t) (max k l - k) +ℤ raised (y t) (max k l - l)) (n - max k l)) (λ t. parts_raised (x t) (y t) n k l hk hl)

scale_match : (u : ℤ → ℤ) (f : ℤ) (h n : ℕ) (m m' v : ℤ) (x : ℤ → ℤ) (s s' i k : ℕ) → m ≡ m' → s ≡ s' → s' + k ≤ n → i ≤ k + 9 → raised v (n - s' + 9 - i) ≡ weighted u f h (λ t. raised (x t) (n - s' - k)) → raised (m *ℤ v) (n + 9 - (s + i)) ≡ weighted u f h (λ t. raised (m' *ℤ x t) (n - (s' + k)))
scale_match u f h n m m' v x s s' i k em es le li hv =
    let up : n + 9 - (s + i) ≡ n - s' + 9 - i = omega arith in
    let down : n - s' - k ≡ n - (s' + k) = omega arith in
    ap₂ (λ (z : ℤ) (e : ℕ). raised (z *ℤ v) e) em up
    ∙ mul-assoc m' v (pos (10 ^ (n - s' + 9 - i)))
    ∙ ap (λ (z : ℤ). m' *ℤ z) hv
    ∙ sym (weighted_times u f h m' (λ t. raised (x t) (n - s' - k)))
    ∙ weighted_same u f h (λ t. m' *ℤ raised (x t) (n - s' - k)) (λ t. raised (m' *ℤ x t) (n - (s' + k))) (λ t. sym (mul-assoc m' (x t) (pos (10 ^ (n - s' - k)))) ∙ ap (λ (e : ℕ). raised (m' *ℤ x t) e) down)

pub raised_up : (v : ℤ) (i m n : ℕ) → i ≤ m → m ≤ n → raised (raised v (m - i)) (n - m) ≡ raised v (n - i)
raised_up v i m n le lt =
    let steps : (m - i) + (n - m) ≡ n - i = omega arith in
    raised-raised v (m - i) (n - m) ∙ ap (λ (e : ℕ). raised v e) steps

one_branch : (u : ℤ → ℤ) (f : ℤ) (h n : ℕ) (v : ℤ) (x : ℤ → ℤ) (i m k r : ℕ) → i ≤ m → m ≤ n + 9 → k ≤ r → r ≤ n → raised v (n + 9 - i) ≡ weighted u f h (λ t. raised (x t) (n - k)) → raised (raised v (m - i)) (n + 9 - m) ≡ weighted u f h (λ t. raised (raised (x t) (r - k)) (n - r))
one_branch u f h n v x i m k r hi hm hk hr hv =
    raised_up v i m (n + 9) hi hm ∙ hv
    ∙ weighted_same u f h (λ t. raised (x t) (n - k)) (λ t. raised (raised (x t) (r - k)) (n - r)) (λ t. sym (raised_up (x t) k r n hk hr))

branch_match : (u : ℤ → ℤ) (f : ℤ) (h n : ℕ) (o : Option ℕ) (v : ℕ → ℤ) (w : ℤ) (x : ℕ → ℤ → ℤ) (y : ℤ → ℤ) (i j k l : ℕ) → i ≤ k + 9 → j ≤ l + 9 → k ≤ n → l ≤ n → ((t : ℕ) → o ≡ Some t → raised (v t) (n + 9 - i) ≡ weighted u f h (λ z. raised (x t z) (n - k))) → raised w (n + 9 - j) ≡ weighted u f h (λ z. raised (y z) (n - l)) → raised (elim o [ Some t ↦ raised (v t) (max i j - i) | None ↦ raised w (max i j - j) ]) (n + 9 - max i j) ≡ weighted u f h (λ z. raised (elim o [ Some t ↦ raised (x t z) (max k l - k) | None ↦ raised (y z) (max k l - l) ]) (n - max k l))
branch_match u f h n (Some t) v w x y i j k l hi hj hk hl hv hw =
    one_branch u f h n (v t) (x t) i (max i j) k (max k l) (omega arith) (omega arith) (omega arith) (omega arith) (hv t refl)
branch_match u f h n None v w x y i j k l hi hj hk hl hv hw =
    one_branch u f h n w y j (max i j) l (max k l) (omega arith) (omega arith) (omega arith) (omega arith) hw

delayed_less : (k m a b h : ℕ) → k ≤ m → a ≤ b → delayed m b ≤ h → delayed k a ≤ h
delayed_less k m zero b h le lt hd = omega arith
delayed_less k m (suc a) zero h le lt hd = absurd (omega arith)
delayed_less k m (suc a) (suc b) h le lt hd = omega arith

-- what is paid from a later frame on
later_match : (d : Declarations) (c : Contract) (g : List Entry) (env : Environment) (u : ℤ → ℤ) (f : ℤ) (m h k : ℕ) (w : Flow) → delayed m (horizon_of c) ≤ h → (weighted u f h (λ n. raised (flow_of d c g env (f +ℤ pos m) (n -ℤ pos m) w) k) ≡ weighted u (f +ℤ pos m) (h - m) (λ n. raised (flow_of d c g env (f +ℤ pos m) n w) k)) × (horizon_of c ≤ h - m)
later_match d c g env u f m h k w le =
    weighted_moved u f m h (horizon_of c) (λ n. raised (flow_of d c g env (f +ℤ pos m) n w) k) le
    (λ n lt. one_zero (flow_of d c g env (f +ℤ pos m) n w) k (flow_idle d c g env (f +ℤ pos m) n w (inl lt)))
    (λ n ge. one_zero (flow_of d c g env (f +ℤ pos m) n w) k (flow_idle d c g env (f +ℤ pos m) n w (inr ge)))

pub amounts_match : (d : Declarations) (env : Environment) (xs : List ℕ) (a : Asked) (c : Contract) → AmountsMatch d env xs a c
amounts_match d env xs a Zero x g b f n h e le far =
    raised-zero (n + 9 - 0) ∙ sym (weighted_zero (factor_on a) f h (λ i. raised (pos 0) (n - 0)) (λ i l. raised-zero (n - 0)))
amounts_match d env xs a (Pay s p q) x g b f n zero e le far = absurd (omega arith)
amounts_match d env xs a (Pay s p q) x g b f n (suc h) e le far =
    pay_match (factor_on a) (unit_flow s p q a.flow) (b +ℤ day_of xs x) f n h e
amounts_match d env xs a (Both c k) x g b f n h e le far =
    let ks = kinds g in
    both_match (factor_on a) f h n (code_value d (compiled x c) g env xs a b) (code_value d (compiled x k) g env xs a b) (λ i. flow_of d (instance xs c) g env f i a.flow) (λ i. flow_of d (instance xs k) g env f i a.flow)
    (scale_of_code d (compiled x c) ks) (scale_of_code d (compiled x k) ks) (scale_of_contract d (instance xs c) ks) (scale_of_contract d (instance xs k) ks)
    (code_scale d xs c x ks) (code_scale d xs k x ks) (omega arith) (omega arith)
    (amounts_match d env xs a c x g b f n h e (omega arith) (omega arith)) (amounts_match d env xs a k x g b f n h e (omega arith) (omega arith))
amounts_match d env xs a (Scale v c) x g b f n h e le far =
    let ks = kinds g in
    scale_match (factor_on a) f h n (num (value_at d (compiled_value x v) g env xs b)) (num (value_of d v g env f)) (code_value d (compiled x c) g env xs a b) (λ i. flow_of d (instance xs c) g env f i a.flow) _ (scale_of d v ks) (scale_of_code d (compiled x c) ks) (scale_of_contract d (instance xs c) ks)
    (ap num (value_compiled d x v g env xs b f e)) (scale_compiled d x v ks) le (code_scale d xs c x ks)
    (amounts_match d env xs a c x g b f (n - scale_of d v ks) h e (omega arith) far)
amounts_match d env xs a (After m c) x g b f n h e le far =
    let t = count_of (with_number xs m) in
    let later = later_match d (instance xs c) g env (factor_on a) f t h (n - scale_of_contract d (instance xs c) (kinds g)) a.flow far in
    amounts_match d env xs a c (plus x (date_of_days m)) g b (f +ℤ pos t) n (h - t) (omega (arith, ints, day_plus xs x (date_of_days m), day_of_count xs m)) le later.1 ∙ sym later.0
amounts_match d env xs a (Let v c) x g b f n h e le far =
    let new : Entry = record { value = value_of d v g env f; kind = kind_or (kind_of d v (kinds g)) } in
    subst (λ (y : Entry). raised (code_value d (compiled x c) (y ∷ g) env xs a b) (n + 9 - scale_of_code d (compiled x c) (y.kind ∷ kinds g)) ≡ weighted (factor_on a) f h (λ i. raised (flow_of d (instance xs c) (new ∷ g) env f i a.flow) (n - scale_of_contract d (instance xs c) (kinds (new ∷ g))))) (sym (entry_compiled d x v g env xs b f e))
    (amounts_match d env xs a c x (new ∷ g) b f n h e le far)
amounts_match d env xs a (Within v m c k) x g b f n h e le far =
    let ks = kinds g in
    let t = count_of (with_number xs m) in
    let y = plus x (date_of_days m) in
    let i = scale_of_code d (compiled x c) ks in
    let j = scale_of_code d (compiled y k) ks in
    let o = first_true d v g env f t in
    let miss = later_match d (instance xs k) g env (factor_on a) f t h (n - scale_of_contract d (instance xs k) ks) a.flow (delayed_less t t (horizon_of (instance xs k)) (max (horizon_of (instance xs c)) (horizon_of (instance xs k))) h (omega arith) (omega arith) far) in
    let hit : (r : ℕ) → o ≡ Some r → (weighted (factor_on a) f h (λ z. raised (flow_of d (instance xs c) g env (f +ℤ pos r) (z -ℤ pos r) a.flow) (n - scale_of_contract d (instance xs c) ks)) ≡ weighted (factor_on a) (f +ℤ pos r) (h - r) (λ z. raised (flow_of d (instance xs c) g env (f +ℤ pos r) z a.flow) (n - scale_of_contract d (instance xs c) ks))) × (horizon_of (instance xs c) ≤ h - r) =
    λ r q. later_match d (instance xs c) g env (factor_on a) f r h (n - scale_of_contract d (instance xs c) ks) a.flow (delayed_less r t (horizon_of (instance xs c)) (max (horizon_of (instance xs c)) (horizon_of (instance xs k))) h (first_within t _ r q) (omega arith) far) in
    ap (λ (u : Option ℕ). raised (elim u [ Some r ↦ raised (code_value d (compiled x c) g env xs a (b +ℤ pos r)) (max i j - i) | None ↦ raised (code_value d (compiled y k) g env xs a b) (max i j - j) ]) (n + 9 - max i j)) (first_compiled d x v m g env xs b f e)
    ∙ branch_match (factor_on a) f h n o (λ r. code_value d (compiled x c) g env xs a (b +ℤ pos r)) (code_value d (compiled y k) g env xs a b) (λ r z. flow_of d (instance xs c) g env (f +ℤ pos r) (z -ℤ pos r) a.flow) (λ z. flow_of d (instance xs k) g env (f +ℤ pos t) (z -ℤ pos t) a.flow)
    i j (scale_of_contract d (instance xs c) ks) (scale_of_contract d (instance xs k) ks)
    (code_scale d xs c x ks) (code_scale d xs k y ks) (omega arith) (omega arith)
    (λ r q. amounts_match d env xs a c x g (b +ℤ pos r) (f +ℤ pos r) n (h - r) (omega (arith, ints)) (omega arith) (hit r q).1 ∙ sym (hit r q).0)
    (amounts_match d env xs a k y g b (f +ℤ pos t) n (h - t) (omega (arith, ints, day_plus xs x (date_of_days m), day_of_count xs m)) (omega arith) miss.1 ∙ sym miss.0)
