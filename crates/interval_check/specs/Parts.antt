-- Where an expression stands in a contract, outside the bodies of accumulators, and the ranges of the names round it: one
-- for each `let` in whose body it stands.
use Rattle.std.specs.Prelude.{◌≡◌, ◌⊎◌, List, ◌∷◌}
use Rattle.term_model.specs.Declarations.{Declarations}
use Rattle.term_model.specs.Terms.{Expression, Lit, Yes, Var, Obs, Neg, Num, Cmp, Not, Logic, Cond, Widen, Round, Div, Acc}
use Rattle.term_model.specs.Terms.{Contract, Zero, Pay, Both, Scale, After, Let, Within}
use Rattle.term_model.specs.Bounds.{Range}
use Rattle.interval_check.specs.Nodes.{range_of}

-- e is x, or a part of it that stands in no accumulator's body
abbrev pub IsPart : Expression → Expression → Type 0
IsPart e (Lit m s) = e ≡ Lit m s
IsPart e (Yes b) = e ≡ Yes b
IsPart e (Var back) = e ≡ Var back
IsPart e (Obs l t) = e ≡ Obs l t
IsPart e (Neg a) = (e ≡ Neg a) ⊎ IsPart e a
IsPart e (Num op a b) = (e ≡ Num op a b) ⊎ (IsPart e a ⊎ IsPart e b)
IsPart e (Cmp op a b) = (e ≡ Cmp op a b) ⊎ (IsPart e a ⊎ IsPart e b)
IsPart e (Not a) = (e ≡ Not a) ⊎ IsPart e a
IsPart e (Logic op a b) = (e ≡ Logic op a b) ⊎ (IsPart e a ⊎ IsPart e b)
IsPart e (Cond t a b) = (e ≡ Cond t a b) ⊎ (IsPart e t ⊎ (IsPart e a ⊎ IsPart e b))
IsPart e (Widen s a) = (e ≡ Widen s a) ⊎ IsPart e a
IsPart e (Round mode s a) = (e ≡ Round mode s a) ⊎ IsPart e a
IsPart e (Div mode s a b) = (e ≡ Div mode s a b) ⊎ (IsPart e a ⊎ IsPart e b)
IsPart e (Acc body n first) = (e ≡ Acc body n first) ⊎ IsPart e first

-- e is x or a part of it, and the names round it are those round x
pub record IsPartHere (e : Expression) (h : List Range) (x : Expression) (g : List Range) : Type 0 where
  pub part : IsPart e x
  pub ranges : h ≡ g

-- e stands in a contract with names of ranges g round it, and in its place names have the ranges h
abbrev pub StandsIn : Declarations → Expression → List Range → Contract → List Range → Type 0
StandsIn d e h Zero g = ⊥
StandsIn d e h (Pay a p q) g = ⊥
StandsIn d e h (Both a b) g = StandsIn d e h a g ⊎ StandsIn d e h b g
StandsIn d e h (Scale x c) g = IsPartHere e h x g ⊎ StandsIn d e h c g
StandsIn d e h (After n c) g = StandsIn d e h c g
StandsIn d e h (Let x c) g = IsPartHere e h x g ⊎ StandsIn d e h c (range_of d x g ∷ g)
StandsIn d e h (Within x n a b) g = IsPartHere e h x g ⊎ (StandsIn d e h a g ⊎ StandsIn d e h b g)
