-- Types are kept where an expression is asked on a later day, a contract on an earlier one, and where names are known
-- sooner.
use Rattle.std.specs.Prelude.{ℤ, ◌≤ℤ◌, List, [], ◌∷◌}
use Rattle.term_model.specs.Terms.{Expression, Contract}
use Rattle.term_model.specs.Times.{Typed, TypedContract}

-- the first context's times are at most the second's, name by name
abbrev pub AreNoLater : List ℤ → List ℤ → Type 0
AreNoLater [] [] = Unit {0}
AreNoLater [] (x ∷ g) = ⊥
AreNoLater (y ∷ h) [] = ⊥
AreNoLater (y ∷ h) (x ∷ g) = (y ≤ℤ x) × AreNoLater h g

abbrev pub TypesOfExpressionsRise : Type 0
TypesOfExpressionsRise =
    (e : Expression) (g h : List ℤ) (t u : ℤ) → AreNoLater h g → t ≤ℤ u → Typed g e t → Typed h e u

abbrev pub TypesOfContractsFall : Type 0
TypesOfContractsFall =
    (c : Contract) (g h : List ℤ) (t u : ℤ) → AreNoLater h g → u ≤ℤ t → TypedContract g c t → TypedContract h c u
