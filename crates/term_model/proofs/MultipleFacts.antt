-- What an accepted contract pays in an asset is a whole number at the asset's decimals.
use Rattle.std.proofs.Common.{◌≡◌, ℕ, ℤ, pos, negsuc, nat_le, ◌+ℤ◌, ◌-ℤ◌, ◌*ℤ◌, ◌≤◌, ◌+◌, ◌-◌, ◌^◌, ◌==◌, max, ◌&&◌, not, Bool, true, false, if◌then◌else◌, List, [], ◌∷◌, Option, Some, None, inl, inr, ap, ap₂, sym, subst, ◌∙◌, leb-true, arith}
use Rattle.std.specs.Ordering.{int_eq}
use Rattle.std.proofs.lemmas.Bool.{cases_Bool, and_parts}
use Rattle.std.proofs.lemmas.Bool.Decides.{nat_tests}
use Rattle.decimal.specs.Rounding.{raised}
use Rattle.decimal.proofs.RoundedFacts.{raised_none}
use Rattle.term_model.specs.Declarations.{Declarations, decimals_of}
use Rattle.term_model.specs.declared.rules.Rule.TheVariants.{Scale as ScaleRule}
use Rattle.term_model.specs.Terms.{Contract, Zero, Pay, Both, Scale, After, Let, Within}
use Rattle.term_model.specs.Environments.{Environment}
use Rattle.term_model.specs.Kinds.{scale_of}
use Rattle.term_model.specs.Values.{Entry, kinds, num, value_of, entry_of, first_true}
use Rattle.term_model.specs.Flows.{Flow, flow_of, count_of, scale_of_contract, unit_flow, on_day_zero}
use Rattle.term_model.specs.Sizes.{nodes, nodes_of_contract}
use Rattle.term_model.specs.AssetScales.{assets_are_scaled, payments_fit}
use Rattle.term_model.specs.Sites.{Site, Layer, Naming, Later, Undated, Trial, Once, sites_of, sites_of_contract, contract_at, AllPass}
use Rattle.term_model.specs.Acceptance.{Passes}
use Rattle.term_model.specs.LawsScales.{IsMultiple, AmountsAreMultiples}
use Rattle.term_model.proofs.FlowFacts.{raised-zero}
use Rattle.term_model.proofs.Products.{mul-assoc, raised-raised, sum-mul}
use Rattle.term_model.proofs.AssetFacts.{by_payments}
use Rattle.term_model.proofs.Trials.{AllPass-right}

pub none_multiple : (k : ℕ) → IsMultiple (pos 0) k
none_multiple k = (pos 0, sym (raised-zero k))

-- at more decimals, a multiple of a greater power of ten, and of each lesser one
raised_multiple : (x : ℤ) (k r l : ℕ) → l ≤ k + r → IsMultiple x k → IsMultiple (raised x r) l
raised_multiple x k r l le h =
    let more : (k + r - l) + l ≡ k + r = omega (arith, le) in
    (raised h.0 (k + r - l), ap (λ (z : ℤ). raised z r) h.1 ∙ raised-raised h.0 k r ∙ ap (λ (i : ℕ). raised h.0 i) (sym more) ∙ sym (raised-raised h.0 (k + r - l) l))

pub sum_multiple : (x y : ℤ) (k : ℕ) → IsMultiple x k → IsMultiple y k → IsMultiple (x +ℤ y) k
sum_multiple x y k h g = (h.0 +ℤ g.0, ap₂ (λ (u v : ℤ). u +ℤ v) h.1 g.1 ∙ sym (sum-mul h.0 g.0 (10 ^ k)))

times_multiple : (v x : ℤ) (k : ℕ) → IsMultiple x k → IsMultiple (v *ℤ x) k
times_multiple v x k h = (v *ℤ h.0, ap (λ (z : ℤ). v *ℤ z) h.1 ∙ sym (mul-assoc v h.0 (pos (10 ^ k))))

not_today : (n : ℤ) → on_day_zero n (pos 0) ≡ pos 0
not_today n = elim (cases_Bool (int_eq n (pos 0))) [
  | inl e ↦ ap (λ (b : Bool). if b then pos 0 else pos 0) e
  | inr e ↦ ap (λ (b : Bool). if b then pos 0 else pos 0) e
]

other_asset : (a p q : ℕ) (n : ℤ) (w : Flow) → (a == w.asset) ≡ false → on_day_zero n (unit_flow a p q w) ≡ pos 0
other_asset a p q n w e =
    let there = (p == w.from) && (q == w.to) in
    let back = (p == w.to) && (q == w.from) in
    ap (λ (b : Bool). on_day_zero n (if b && not (p == q) then (if there then pos 1 else (if back then negsuc 0 else pos 0)) else pos 0)) e ∙ not_today n

paid_multiple : (d : Declarations) (a p q : ℕ) (n : ℤ) (w : Flow) (s : ℕ) → s ≤ decimals_of d a → IsMultiple (on_day_zero n (unit_flow a p q w)) (0 + s - decimals_of d w.asset)
paid_multiple d a p q n w s le = elim (cases_Bool (a == w.asset)) [
  | inl e ↦
      let same : a ≡ w.asset = grind (arith, nat_tests, e) in
      let fits : s ≤ decimals_of d w.asset = subst (λ (i : ℕ). s ≤ decimals_of d i) same le in
      (on_day_zero n (unit_flow a p q w), sym (raised_none (on_day_zero n (unit_flow a p q w)) (0 + s - decimals_of d w.asset) (omega (arith, fits))))
  | inr e ↦ subst (λ (x : ℤ). IsMultiple x (0 + s - decimals_of d w.asset)) (sym (other_asset a p q n w e)) (none_multiple (0 + s - decimals_of d w.asset))
]

branch_multiple : (o : Option ℕ) (x : ℕ → ℤ) (y : ℤ) (k l n : ℕ) → ((i : ℕ) → IsMultiple (raised (x i) k) n) → IsMultiple (raised y l) n → IsMultiple (elim o [ Some i ↦ raised (x i) k | None ↦ raised y l ]) n
branch_multiple (Some i) x y k l n h g = h i
branch_multiple None x y k l n h g = g

flow_multiple : (d : Declarations) (c : Contract) (g : List Entry) (env : Environment) (f n : ℤ) (w : Flow) (s : ℕ) → payments_fit d c (kinds g) s ≡ true → IsMultiple (flow_of d c g env f n w) (scale_of_contract d c (kinds g) + s - decimals_of d w.asset)
flow_multiple d Zero g env f n w s h = none_multiple (0 + s - decimals_of d w.asset)
flow_multiple d (Pay a p q) g env f n w s h = paid_multiple d a p q n w s (leb-true s (decimals_of d a) h)
flow_multiple d (Both x y) g env f n w s h =
    let i = scale_of_contract d x (kinds g) in
    let j = scale_of_contract d y (kinds g) in
    let k = decimals_of d w.asset in
    let t = and_parts (payments_fit d x (kinds g) s) (payments_fit d y (kinds g) s) h in
    sum_multiple (raised (flow_of d x g env f n w) (max i j - i)) (raised (flow_of d y g env f n w) (max i j - j)) (max i j + s - k)
    (raised_multiple (flow_of d x g env f n w) (i + s - k) (max i j - i) (max i j + s - k) (omega arith) (flow_multiple d x g env f n w s t.0))
    (raised_multiple (flow_of d y g env f n w) (j + s - k) (max i j - j) (max i j + s - k) (omega arith) (flow_multiple d y g env f n w s t.1))
flow_multiple d (Scale e c) g env f n w s h =
    let v = num (value_of d e g env f) in
    let i = scale_of d e (kinds g) in
    let j = scale_of_contract d c (kinds g) in
    let k = decimals_of d w.asset in
    let same : j + (s + i) - k ≡ i + j + s - k = omega arith in
    subst (λ (r : ℕ). IsMultiple (v *ℤ flow_of d c g env f n w) r) same (times_multiple v (flow_of d c g env f n w) (j + (s + i) - k) (flow_multiple d c g env f n w (s + i) h))
flow_multiple d (After m c) g env f n w s h = flow_multiple d c g env (f +ℤ pos (count_of m)) (n -ℤ pos (count_of m)) w s h
flow_multiple d (Let e c) g env f n w s h = flow_multiple d c (entry_of d e g env f ∷ g) env f n w s h
flow_multiple d (Within e m x y) g env f n w s h =
    let i = scale_of_contract d x (kinds g) in
    let j = scale_of_contract d y (kinds g) in
    let k = decimals_of d w.asset in
    let t = and_parts (payments_fit d x (kinds g) s) (payments_fit d y (kinds g) s) h in
    branch_multiple (first_true d e g env f (count_of m)) (λ r. flow_of d x g env (f +ℤ pos r) (n -ℤ pos r) w) (flow_of d y g env (f +ℤ pos (count_of m)) (n -ℤ pos (count_of m)) w) (max i j - i) (max i j - j) (max i j + s - k)
    (λ r. raised_multiple (flow_of d x g env (f +ℤ pos r) (n -ℤ pos r) w) (i + s - k) (max i j - i) (max i j + s - k) (omega arith) (flow_multiple d x g env (f +ℤ pos r) (n -ℤ pos r) w s t.0))
    (raised_multiple (flow_of d y g env (f +ℤ pos (count_of m)) (n -ℤ pos (count_of m)) w) (j + s - k) (max i j - j) (max i j + s - k) (omega arith) (flow_multiple d y g env (f +ℤ pos (count_of m)) (n -ℤ pos (count_of m)) w s t.1))

-- ---- the whole is the last node that is tried

pub whole_passes : (P : Site → Type 0) (w : Trial) (c : Contract) (r : List Layer) (k : ℕ) → AllPass P (sites_of_contract w c r k) → P (contract_at k r c)
whole_passes P w Zero r k h = h.0
whole_passes P w (Pay a p q) r k h = h.0
whole_passes P w (Both a b) r k h =
    (AllPass-right P (sites_of_contract w b r (k + 1 + nodes_of_contract a)) (contract_at k r (Both a b) ∷ []) (AllPass-right P (sites_of_contract w a r (k + 1)) _ h)).0
whole_passes P w (Scale e c) r k h =
    (AllPass-right P (sites_of_contract w c r (k + 1 + nodes e)) (contract_at k r (Scale e c) ∷ []) (AllPass-right P (sites_of w e r (k + 1)) _ h)).0
whole_passes P w (After n c) r k h = (AllPass-right P (sites_of_contract w c (Later (count_of n) ∷ r) (k + 1)) (contract_at k r (After n c) ∷ []) h).0
whole_passes P w (Let e c) r k h =
    (AllPass-right P (sites_of_contract w c (Naming e ∷ r) (k + 1 + nodes e)) (contract_at k r (Let e c) ∷ []) (AllPass-right P (sites_of w e r (k + 1)) _ h)).0
whole_passes P w (Within e n a b) r k h =
    (AllPass-right P (sites_of_contract w b (Later (count_of n) ∷ r) (k + 1 + nodes e + nodes_of_contract a)) (contract_at k r (Within e n a b) ∷ [])
    (AllPass-right P (sites_of_contract w a (Undated ∷ r) (k + 1 + nodes e)) _ (AllPass-right P (sites_of w e (Undated ∷ r) (k + 1)) _ h))).0

pub amounts_multiple : AmountsAreMultiples
amounts_multiple d c env f n w h =
    let k = decimals_of d w.asset in
    let i = scale_of_contract d c [] in
    let t = and_parts (nat_le i d.amounts) (assets_are_scaled d c []) (whole_passes (Passes d ScaleRule) Once c [] 0 h.scales) in
    let low : i ≤ d.amounts = leb-true i d.amounts t.0 in
    raised_multiple (flow_of d c [] env f n w) (i + 0 - k) (d.amounts - i) (d.amounts - k) (omega (arith, low))
    (flow_multiple d c [] env f n w 0 (sym (by_payments d c []) ∙ t.1))
