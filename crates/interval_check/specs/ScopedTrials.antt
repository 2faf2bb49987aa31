-- What the trials find of a term, as the model or the program holds it, among the names of a scope,
-- and that its scales are right there.
use Rattle.std.specs.Prelude.{◌∷◌}
use Rattle.term_model.specs.declared.decls.Decls.{Decls}
use Rattle.term_model.specs.declared.terms.Expr.{Expr}
use Rattle.term_model.specs.declared.terms.Contr.{Contr}
use Rattle.term_model.specs.declared.scope.Scope.{Scope}
use Rattle.term_model.specs.declared.values.Kind.{Kind}
use Rattle.term_model.specs.Declarations.{declarations}
use Rattle.term_model.specs.Terms.{Expression, Contract, Within, expression, contract}
use Rattle.term_model.specs.DayCounts.{Num}
use Rattle.term_model.specs.Bounds.{Range as Bounds, range_kinds}
use Rattle.term_core.specs.Trying.{moved}
use Rattle.interval_check.specs.declared.ranges.Range.{Range}
use Rattle.interval_check.specs.RangeScopes.{ranges_in}
use Rattle.interval_check.specs.RangeTrials.{Answer, day_tried, range_tried, AreScaled}
use Rattle.interval_check.specs.TotalTrials.{Answer as TotalAnswer, total_tried, AreTotalsScaled}

abbrev pub range_within : Decls → Expression → Scope Range → Answer
range_within decls e scope = range_tried (declarations decls) e (ranges_in scope)

abbrev pub range_among : Decls → Expr → Scope Range → Answer
range_among decls e scope = range_within decls (expression e) scope

-- the body of an accumulator, with a range for its name, counted from the accumulator's own node
abbrev pub body_among : Decls → Expr → Scope Range → Bounds → Answer
body_among decls body scope r =
    moved 1 (range_tried (declarations decls) (expression body) (r ∷ ranges_in scope))

-- a day of an accumulator with this body
abbrev pub day_among : Decls → Expr → Scope Range → Bounds → Answer
day_among decls body scope =
    day_tried (λ g. range_tried (declarations decls) (expression body) g) (ranges_in scope)

abbrev pub total_within : Decls → Contract → Scope Range → TotalAnswer
total_within decls c scope = total_tried (declarations decls) c (ranges_in scope)

abbrev pub total_among : Decls → Contr → Scope Range → TotalAnswer
total_among decls c scope = total_within decls (contract c) scope

-- of the branches of a test, whose days change no total
abbrev pub branches_of : Expr → Contr → Contr → Contract
branches_of test hit miss = Within (expression test) (Num 0) (contract hit) (contract miss)

abbrev pub total_of_branches : Decls → Expr → Contr → Contr → Scope Range → TotalAnswer
total_of_branches decls test hit miss scope =
    total_within decls (branches_of test hit miss) scope

abbrev pub IsScaledWithin : Decls → Expression → Scope Range → Type 0
IsScaledWithin decls e scope = AreScaled (declarations decls) e (range_kinds (ranges_in scope))

abbrev pub IsScaledAmong : Decls → Expr → Scope Range → Type 0
IsScaledAmong decls e scope = IsScaledWithin decls (expression e) scope

-- the body of an accumulator, whose name has this kind
abbrev pub IsBodyScaled : Decls → Expr → Kind → Scope Range → Type 0
IsBodyScaled decls body kind scope =
    AreScaled (declarations decls) (expression body) (kind ∷ range_kinds (ranges_in scope))

abbrev pub PaysScaledWithin : Decls → Contract → Scope Range → Type 0
PaysScaledWithin decls c scope =
    AreTotalsScaled (declarations decls) c (range_kinds (ranges_in scope))

abbrev pub PaysScaledBranches : Decls → Expr → Contr → Contr → Scope Range → Type 0
PaysScaledBranches decls test hit miss scope =
    PaysScaledWithin decls (branches_of test hit miss) scope

abbrev pub PaysScaledAmong : Decls → Contr → Scope Range → Type 0
PaysScaledAmong decls c scope = PaysScaledWithin decls (contract c) scope
