-- What the trial of sorts finds of a term among the names of a scope.
use Rattle.term_model.specs.declared.decls.Decls.{Decls}
use Rattle.term_model.specs.declared.terms.Expr.{Expr}
use Rattle.term_model.specs.declared.terms.Contr.{Contr}
use Rattle.term_model.specs.declared.scope.Scope.{Scope}
use Rattle.term_model.specs.Declarations.{declarations}
use Rattle.term_model.specs.DayCounts.{Num}
use Rattle.term_model.specs.Scopes.{held_in}
use Rattle.term_model.specs.Terms.{Expression, Contract, Acc, Within, expression, contract}
use Rattle.time_types.specs.declared.observed_sorts.Sort.{Sort}
use Rattle.time_types.specs.SortTrials.{Answer, Sorted, sort_tried, sorts_tried}

abbrev pub sort_within : Decls → Expression → Scope Sort → Answer
sort_within decls e scope = sort_tried (declarations decls) e (held_in scope)

-- of an accumulator, whose days change no sort
abbrev pub sort_of_steps : Decls → Expr → Expr → Scope Sort → Answer
sort_of_steps decls body first scope =
    sort_within decls (Acc (expression body) 0 (expression first)) scope

abbrev pub sorts_within : Decls → Contract → Scope Sort → Sorted
sorts_within decls c scope = sorts_tried (declarations decls) c (held_in scope)

-- of the branches of a test, whose days change no sort
abbrev pub sorts_of_branches : Decls → Expr → Contr → Contr → Scope Sort → Sorted
sorts_of_branches decls test hit miss scope =
    sorts_within decls (Within (expression test) (Num 0) (contract hit) (contract miss)) scope
