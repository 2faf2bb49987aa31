-- The trial of the rule on sorts: a value expression has the sort of its undated expression, a factor
-- has to be a number and a test a truth value. What is found of code is the number of its nodes.
use Rattle.std.specs.Prelude.{ℕ, ◌+◌, List, ◌∷◌, Result, Ok, Err}
use Rattle.term_model.specs.declared.decls.Decls.{Decls}
use Rattle.term_model.specs.declared.scope.Scope.{Scope}
use Rattle.term_model.specs.Declarations.{Declarations, declarations}
use Rattle.term_model.specs.Terms.{Expression}
use Rattle.term_model.specs.Sizes.{nodes}
use Rattle.term_model.specs.Scopes.{held_in}
use Rattle.term_core.specs.Trying.{then_do, moved}
use Rattle.time_types.specs.declared.observed_sorts.Sort.{Sort}
use Rattle.time_types.specs.declared.observed_sorts.Sort.TheVariants.{Truth, Number}
use Rattle.time_types.specs.SortTrials.{sort_tried}
use Rattle.payoff_terms.specs.Dating.{undated}
use Rattle.payoff_terms.specs.Code.{PayoffCode}
use Rattle.payoff_check.specs.declared.sort_rule.Sorted.{Sorted}
use Rattle.payoff_check.specs.Trials.{Steps, code_tried}

-- an undated expression whose first node has number n
abbrev pub value_tried : Declarations → Expression → List Sort → ℕ → Result Sorted ℕ
value_tried d e ss n =
    then_do (moved n (sort_tried d e ss)) (λ s. Ok (record { sort = s; nodes = nodes e }))

-- a part whose expression is of a sort, where one is wanted
abbrev pub needed : Sort → Sort → ℕ → ℕ → Result ℕ ℕ
needed Truth Truth count n = Ok count
needed Number Number count n = Ok count
needed Truth Number count n = Err n
needed Number Truth count n = Err n

abbrev pub sorting : Declarations → Steps Sorted ℕ (List Sort)
sorting d = record {
  value = λ v ss n. value_tried d (undated v) ss n;
  enter = λ u ss. u.sort ∷ ss;
  nothing = λ n. Ok 1;
  payment = λ x n. Ok 1;
  sum = λ a b n. Ok (a + b + 1);
  scaled = λ u a n. needed Number u.sort (u.nodes + a + 1) n;
  bound = λ u a n. Ok (u.nodes + a + 1);
  looped = λ u x a b n. needed Truth u.sort (u.nodes + a + b + 1) n;
  cut = λ x a n. Ok (a + 1);
}

abbrev pub sorts_tried : Declarations → PayoffCode → List Sort → ℕ → Result ℕ ℕ
sorts_tried d k ss n = code_tried (sorting d) k ss n

-- the same among the names of a scope
abbrev pub sort_among : Decls → Expression → Scope Sort → ℕ → Result Sorted ℕ
sort_among decls e scope n = value_tried (declarations decls) e (held_in scope) n

abbrev pub sorts_among : Decls → PayoffCode → Scope Sort → ℕ → Result ℕ ℕ
sorts_among decls k scope n = sorts_tried (declarations decls) k (held_in scope) n
