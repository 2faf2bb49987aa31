-- What is worth so much on a day, at a scale: the parts of what is left, put together.
use Rattle.rewriting.proofs.Choices.{if_cases}
use Rattle.rewriting.specs.Worth.{IsWorth}
use Rattle.rewriting.proofs.Worth.{worth_zero, worth_nothing, worth_is, worth_more, both_worth, under_nothing}
use Rattle.std.proofs.Common.{◌≡◌, ℕ, ℤ, ◌+ℤ◌, ◌*ℤ◌, ◌+◌, ◌-◌, max, if◌then◌else◌, ap, ap₂, sym, subst, ◌∙◌, List, ◌∷◌, arith}
use Rattle.std.proofs.Math.IntN.{*ℤ-zero}
use Rattle.decimal.specs.Rounding.{raised}
use Rattle.term_model.specs.Declarations.{Declarations}
use Rattle.term_model.specs.Terms.{Expression, Contract, Zero, Both, Scale, Let}
use Rattle.term_model.specs.Environments.{Environment}
use Rattle.term_model.specs.Kinds.{kind_of, scale_of}
use Rattle.term_model.specs.Values.{Entry, kinds, num, kind_or, value_of}
use Rattle.term_model.specs.Flows.{Flow, flow_of, scale_of_contract}
use Rattle.term_model.proofs.FlowFacts.{one_zero}
use Rattle.simplify.specs.TurningContracts.{is_nothing}
use Rattle.simplify.proofs.RuleFlows.{nothing_is, left_gone, right_gone}
use Rattle.advance_step.specs.WhatIsLeft.{both_left, scale_left, let_left}
use Rattle.rewriting.proofs.RaisedFacts.{raised-times}

pub both_cases : (P : Contract → Type 0) (a b : Contract) → (a ≡ Zero → P b) → (b ≡ Zero → P a) → P (Both a b) → P (both_left a b)
both_cases P a b left right both =
    if_cases P (is_nothing a) b (if is_nothing b then a else Both a b) (λ e. left (nothing_is a e)) (λ _. if_cases P (is_nothing b) a (Both a b) (λ e. right (nothing_is b e)) (λ _. both))

pub scale_cases : (P : Contract → Type 0) (e : Expression) (c : Contract) → (c ≡ Zero → P Zero) → P (Scale e c) → P (scale_left e c)
scale_cases P e c none some = if_cases P (is_nothing c) Zero (Scale e c) (λ h. none (nothing_is c h)) (λ _. some)

pub let_cases : (P : Contract → Type 0) (e : Expression) (c : Contract) → (c ≡ Zero → P Zero) → P (Let e c) → P (let_left e c)
let_cases P e c none some = if_cases P (is_nothing c) Zero (Let e c) (λ h. none (nothing_is c h)) (λ _. some)

module _ (d : Declarations) (g : List Entry) (env : Environment) (f x : ℤ) (w : Flow) where
  pub worth_both : (s t : ℕ) (u v : ℤ) (a b : Contract) → IsWorth d g env f x w s u a → IsWorth d g env f x w t v b → IsWorth d g env f x w (max s t) (raised u (max s t - s) +ℤ raised v (max s t - t)) (both_left a b)
  worth_both s t u v a b h k =
      let one = worth_more d g env f x w s (max s t) u a (omega arith) h in
      let other = worth_more d g env f x w t (max s t) v b (omega arith) k in
      both_cases (IsWorth d g env f x w (max s t) (raised u (max s t - s) +ℤ raised v (max s t - t))) a b
      (λ e. worth_is d g env f x w (max s t) (raised v (max s t - t)) _ b (left_gone (raised u (max s t - s)) (raised v (max s t - t)) (one_zero u (max s t - s) (worth_nothing d g env f x w s u a e h))) other)
      (λ e. worth_is d g env f x w (max s t) (raised u (max s t - s)) _ a (right_gone (raised u (max s t - s)) (raised v (max s t - t)) (one_zero v (max s t - t) (worth_nothing d g env f x w t v b e k))) one)
      (both_worth d g env f x w s t u v a b h k)

  pub worth_scale : (s i : ℕ) (v m : ℤ) (e : Expression) (c : Contract) → scale_of d e (kinds g) ≡ i → num (value_of d e g env f) ≡ m → IsWorth d g env f x w s v c → IsWorth d g env f x w (i + s) (m *ℤ v) (scale_left e c)
  worth_scale s i v m e c se ve h =
      let j = scale_of_contract d c (kinds g) in
      let y = flow_of d c g env f x w in
      let same : (i + s) - (scale_of d e (kinds g) + j) ≡ s - j = omega (arith, se, h.0) in
      scale_cases (IsWorth d g env f x w (i + s) (m *ℤ v)) e c
      (λ z. worth_zero d g env f x w (i + s) (m *ℤ v) (ap (λ (r : ℤ). m *ℤ r) (worth_nothing d g env f x w s v c z h) ∙ *ℤ-zero m)) (
        omega (arith, se, h.0),
        ap (raised (num (value_of d e g env f) *ℤ y)) same ∙ raised-times (num (value_of d e g env f)) y (s - j) ∙ ap₂ (λ (p q : ℤ). p *ℤ q) ve h.1,
      )

  -- a body under a name, whose entry is the same
  pub worth_let : (s : ℕ) (v : ℤ) (e : Expression) (c : Contract) (entry : Entry) → record { value = value_of d e g env f; kind = kind_or (kind_of d e (kinds g)) } ≡ entry → IsWorth d (entry ∷ g) env f x w s v c → IsWorth d g env f x w s v (let_left e c)
  worth_let s v e c entry same h =
      let there : IsWorth d (record { value = value_of d e g env f; kind = kind_or (kind_of d e (kinds g)) } ∷ g) env f x w s v c = subst (λ (b : Entry). IsWorth d (b ∷ g) env f x w s v c) (sym same) h in
      let_cases (IsWorth d g env f x w s v) e c (λ z. worth_zero d g env f x w s v (under_nothing d g env f x w s v c entry z h)) there
