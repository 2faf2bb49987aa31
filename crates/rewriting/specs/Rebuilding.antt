-- An expression of which parts are replaced: what took the place of a part, or the part where nothing did.
use Rattle.std.specs.Prelude.{◌+◌, ◌<◌, ◌≡◌, Option, Some, None}
use Rattle.term_model.specs.declared.terms.Expr.{Expr}
use Rattle.term_model.specs.Terms.{Expression, expression, Cond}
pub use Rattle.term_model.specs.Rebuilding.{over_one, over_two}
use Rattle.rewriting.specs.Measures.{size}

abbrev pub after : Expression → Option Expr → Expression
after x None = x
after x (Some r) = expression r

-- what took the place of an expression is smaller
abbrev pub IsLess : Option Expr → Expression → Type 0
IsLess None x = Unit {0}
IsLess (Some r) x = size (expression r) < size x

-- a node over two parts, and a choice, over what took the places of their parts
abbrev pub two_after : Expr → Expr → Option Expr → Expr → Option Expr → Expression
two_after e left one right two = over_two (expression e) (after (expression left) one) (after (expression right) two)

abbrev pub choice_after : Expr → Option Expr → Expr → Option Expr → Expr → Option Expr → Expression
choice_after test one left two right three =
    Cond (after (expression test) one) (after (expression left) two) (after (expression right) three)

-- a claim, where what took the places of parts is smaller
abbrev pub IfBothAreLess : Expr → Option Expr → Expr → Option Expr → Type 0 → Type 0
IfBothAreLess left one right two P = IsLess one (expression left) → IsLess two (expression right) → P

abbrev pub IfAllAreLess : Expr → Option Expr → Expr → Option Expr → Expr → Option Expr → Type 0 → Type 0
IfAllAreLess test one left two right three P = IsLess one (expression test) → IfBothAreLess left two right three P

-- what takes the place of e is smaller, if x and y are together smaller than the two parts of e
abbrev pub IsLessByParts : Expression → Expression → Expression → Option Expr → Type 0
IsLessByParts e x y new = (a b : Expression) → over_two e a b ≡ e → size x + size y < size a + size b → IsLess new e
