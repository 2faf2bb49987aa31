-- The entries of bindings, innermost first: those of accumulators before those of the scratch.
use Rattle.std.specs.Prelude.{List, ◌∷◌}
use Rattle.expr_eval.specs.declared.scratch.Binding.{Binding}
use Rattle.expr_eval.specs.declared.bindings.Bindings.{Bindings}
use Rattle.expr_eval.specs.declared.bindings.Bindings.TheVariants.{Lent, Inner'}

abbrev pub bindings : Bindings → List Binding
bindings (Lent p) = p.now.entries
bindings (Inner' b p outer) = b ∷ bindings outer
