-- The ranges of the names in a scope, innermost first.
use Rattle.std.specs.Prelude.{List, map}
use Rattle.term_model.specs.Bounds.{Range}
use Rattle.term_model.specs.Scopes.{held_in}
use Rattle.term_model.specs.declared.scope.Scope.{Scope}
use Rattle.interval_check.specs.declared.ranges.Range.{Range as Found}
use Rattle.interval_check.specs.Ranges.{range}

abbrev pub ranges_in : Scope Found → List Range
ranges_in scope = map range (held_in scope)
