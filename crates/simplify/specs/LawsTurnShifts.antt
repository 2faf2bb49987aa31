-- A turn of the simplifier sees no offsets: so a factor of a shared term is turned as it is stored.
use Rattle.std.specs.Prelude.{ℤ, ◌≡◌, List}
use Rattle.term_model.specs.Declarations.{Declarations}
use Rattle.term_model.specs.declared.values.Kind.{Kind}
use Rattle.term_model.specs.Terms.{Expression}
use Rattle.term_model.specs.Shifts.{shifted}
use Rattle.simplify.specs.Turning.{turned}

abbrev pub TurnsSeeNoOffsets : Type 0
TurnsSeeNoOffsets = (d : Declarations) (e : Expression) (ks : List Kind) (k : ℤ) → turned d ks (shifted k e) ≡ shifted k (turned d ks e)
