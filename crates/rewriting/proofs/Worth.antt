-- What a contract is worth on a day, at a scale: how what is worth so much is put together.
use Rattle.std.proofs.Common.{◌≡◌, ℕ, ℤ, pos, ◌+ℤ◌, ◌-◌, ◌≤◌, max, ap, ap₂, sym, subst, ◌∙◌, List, ◌∷◌, arith}
use Rattle.decimal.specs.Rounding.{raised}
use Rattle.term_model.specs.Declarations.{Declarations}
use Rattle.term_model.specs.Terms.{Contract, Zero, Both}
use Rattle.term_model.specs.Environments.{Environment}
use Rattle.term_model.specs.Values.{Entry, kinds}
use Rattle.term_model.specs.Flows.{Flow, flow_of, scale_of_contract}
use Rattle.term_model.proofs.FlowFacts.{raised-zero}
use Rattle.rewriting.specs.Worth.{IsWorth}
use Rattle.rewriting.proofs.RaisedFacts.{raised_by, raised-none, raised-sum}

module _ (d : Declarations) (g : List Entry) (env : Environment) (f x : ℤ) (w : Flow) where
  pub worth_zero : (s : ℕ) (v : ℤ) → v ≡ pos 0 → IsWorth d g env f x w s v Zero
  worth_zero s v h = (omega arith, raised-zero (s - 0) ∙ sym h)

  pub worth_nothing : (s : ℕ) (v : ℤ) (c : Contract) → c ≡ Zero → IsWorth d g env f x w s v c → v ≡ pos 0
  worth_nothing s v c e h =
      let z : IsWorth d g env f x w s v Zero = subst (IsWorth d g env f x w s v) e h in
      sym z.1 ∙ raised-zero (s - 0)

  pub under_nothing : (s : ℕ) (v : ℤ) (c : Contract) (entry : Entry) → c ≡ Zero → IsWorth d (entry ∷ g) env f x w s v c → v ≡ pos 0
  under_nothing s v c entry e h =
      let z : IsWorth d (entry ∷ g) env f x w s v Zero = subst (IsWorth d (entry ∷ g) env f x w s v) e h in
      sym z.1 ∙ raised-zero (s - 0)

  pub worth_is : (s : ℕ) (u v : ℤ) (c : Contract) → u ≡ v → IsWorth d g env f x w s u c → IsWorth d g env f x w s v c
  worth_is s u v c e h = (h.0, h.1 ∙ e)

  -- at a greater scale
  pub worth_more : (s t : ℕ) (v : ℤ) (c : Contract) → s ≤ t → IsWorth d g env f x w s v c → IsWorth d g env f x w t (raised v (t - s)) c
  worth_more s t v c le h =
      (omega (arith, h.0), raised_by (flow_of d c g env f x w) (scale_of_contract d c (kinds g)) s t h.0 le ∙ ap (λ (z : ℤ). raised z (t - s)) h.1)

  pub worth_same : (s : ℕ) (v : ℤ) (c : Contract) → scale_of_contract d c (kinds g) ≡ s → flow_of d c g env f x w ≡ v → IsWorth d g env f x w s v c
  worth_same s v c e h =
      let none : s - scale_of_contract d c (kinds g) ≡ 0 = omega (arith, e) in
      (omega (arith, e), ap (raised (flow_of d c g env f x w)) none ∙ raised-none (flow_of d c g env f x w) ∙ h)

  pub both_worth : (s t : ℕ) (u v : ℤ) (a b : Contract) → IsWorth d g env f x w s u a → IsWorth d g env f x w t v b → IsWorth d g env f x w (max s t) (raised u (max s t - s) +ℤ raised v (max s t - t)) (Both a b)
  both_worth s t u v a b h k =
      let i = scale_of_contract d a (kinds g) in
      let j = scale_of_contract d b (kinds g) in
      let y = flow_of d a g env f x w in
      let z = flow_of d b g env f x w in
      let one = worth_more s (max s t) u a (omega arith) h in
      let other = worth_more t (max s t) v b (omega arith) k in (
        omega (arith, h.0, k.0),
        raised-sum (raised y (max i j - i)) (raised z (max i j - j)) (max s t - max i j)
            ∙ ap₂ (λ (p q : ℤ). p +ℤ q) (sym (raised_by y i (max i j) (max s t) (omega arith) (omega (arith, h.0, k.0)))) (sym (raised_by z j (max i j) (max s t) (omega arith) (omega (arith, h.0, k.0))))
            ∙ ap₂ (λ (p q : ℤ). p +ℤ q) one.1 other.1,
      )
