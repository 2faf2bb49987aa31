-- The nodes of payoff code in the order in which the rules of acceptance try them, as those of contracts: parts before
-- wholes, parts in written order, and the nodes of a value expression as those of the expression that it is once each
-- date has a day. Dates are no nodes.
use Rattle.std.specs.Prelude.{ℕ, ℤ, ◌+◌, ◌≡◌, ◌⊎◌, List, [], ◌∷◌, ◌++◌, map}
use Rattle.term_model.specs.Terms.{Expression}
use Rattle.term_model.specs.Sizes.{nodes}
use Rattle.term_model.specs.Sites.{Trial, Layer, Naming, Site, sites_of}
use Rattle.payoff_terms.specs.TemplateDates.{Date}
use Rattle.payoff_terms.specs.Dating.{dated_by, undated}
use Rattle.payoff_terms.specs.CodeSizes.{nodes_of_code}
use Rattle.payoff_terms.specs.Code.{PayoffCode, Nothing, PayOn, Add, ScaleBy, LetBe, Loop, Cut}

pub data CodeSite : Type 0 where
  InValue : (s : Site) → CodeSite
  AtCode : (number : ℕ) (code : PayoffCode) (layers : List Layer) → CodeSite

abbrev pub number_of : CodeSite → ℕ
number_of (InValue s) = s.number
number_of (AtCode n k r) = n

-- the nodes of a value expression with number n
abbrev pub value_sites : Trial → List Layer → ℕ → Expression → List CodeSite
value_sites w r n e = map (λ s. InValue s) (sites_of w e r n)

abbrev pub sites_of_code : Trial → (Date → ℤ) → PayoffCode → List Layer → ℕ → List CodeSite
sites_of_code w day Nothing r n = AtCode n Nothing r ∷ []
sites_of_code w day (PayOn x a p q) r n = AtCode n (PayOn x a p q) r ∷ []
sites_of_code w day (Add k l) r n =
    sites_of_code w day k r (n + 1) ++ (sites_of_code w day l r (n + 1 + nodes_of_code k) ++ AtCode n (Add k l) r ∷ [])
sites_of_code w day (ScaleBy v k) r n =
    value_sites w r (n + 1) (dated_by day v) ++ (sites_of_code w day k r (n + 1 + nodes (undated v)) ++ AtCode n (ScaleBy v k) r ∷ [])
sites_of_code w day (LetBe v k) r n =
    value_sites w r (n + 1) (dated_by day v)
    ++ (sites_of_code w day k (Naming (undated v) ∷ r) (n + 1 + nodes (undated v)) ++ AtCode n (LetBe v k) r ∷ [])
sites_of_code w day (Loop v x k l) r n =
    value_sites w r (n + 1) (dated_by day v)
    ++ (sites_of_code w day k r (n + 1 + nodes (undated v))
    ++ (sites_of_code w day l r (n + 1 + nodes (undated v) + nodes_of_code k) ++ AtCode n (Loop v x k l) r ∷ []))
sites_of_code w day (Cut x k) r n = sites_of_code w day k r (n + 1) ++ AtCode n (Cut x k) r ∷ []

abbrev pub AllPassInCode : (CodeSite → Type 0) → List CodeSite → Type 0
AllPassInCode P [] = Unit {0}
AllPassInCode P (s ∷ rest) = P s × AllPassInCode P rest

abbrev pub FirstFaultInCode : (CodeSite → Type 0) → List CodeSite → ℕ → Type 0
FirstFaultInCode P [] n = ⊥
FirstFaultInCode P (s ∷ rest) n = ((P s → ⊥) × (number_of s ≡ n)) ⊎ (P s × FirstFaultInCode P rest n)
