-- The entries of bound names, each with the kind of its expression and what it holds, and how many more have room.
use Rattle.std.specs.Prelude.{ℕ, List, [], ◌∷◌, ◌≡◌, map}
use Rattle.term_model.specs.declared.values.Kind.{Kind}
use Rattle.expr_eval.specs.declared.scratch.Binding.{Binding}

-- the entries, innermost first
pub record Room : Type 0 where
  pub entries : List Binding
  pub spare : ℕ

-- rest is what a list has beside its first
abbrev pub IsWithoutFirst : List Binding → List Binding → Type 0
IsWithoutFirst [] rest = ⊥
IsWithoutFirst (b ∷ bs) rest = rest ≡ bs

-- the kinds of entries
abbrev pub kinds_of : List Binding → List Kind
kinds_of bs = map (λ b. b.kind) bs
