-- What a scope holds of the names that are bound around a part, innermost first.
use Rattle.std.specs.Prelude.{List, [], ◌∷◌}
use Rattle.term_model.specs.declared.scope.Scope.{Scope}
use Rattle.term_model.specs.declared.scope.Scope.TheVariants.{Empty, Bound'}

abbrev pub held_in : {A : Type 0} → Scope A → List A
held_in Empty = []
held_in (Bound' held p outer) = held ∷ held_in outer
