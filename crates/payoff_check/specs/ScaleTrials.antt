-- The trial of the rule on scales, of code whose sorts are right: a value expression has the scale
-- of its undated expression, and the scale of each code is at most the portfolio's decimals and nine.
use Rattle.std.specs.Prelude.{ℕ, ◌+◌, max, nat_le, List, ◌∷◌, Result, Ok, Err, if◌then◌else◌}
use Rattle.term_model.specs.declared.decls.Decls.{Decls}
use Rattle.term_model.specs.declared.scope.Scope.{Scope}
use Rattle.term_model.specs.Declarations.{Declarations, declarations}
use Rattle.term_model.specs.Terms.{Expression}
use Rattle.term_model.specs.Sizes.{nodes}
use Rattle.term_model.specs.Scopes.{held_in}
use Rattle.term_core.specs.Trying.{then_do, moved}
use Rattle.scale_check.specs.ScaleTrials.{scale_tried}
use Rattle.payoff_terms.specs.Dating.{undated}
use Rattle.payoff_terms.specs.Code.{PayoffCode}
use Rattle.payoff_check.specs.declared.scale_rule.Scaled.{Scaled}
use Rattle.payoff_check.specs.Trials.{Steps, code_tried}

-- an undated expression whose first node has number n
abbrev pub value_tried : Declarations → Expression → List ℕ → ℕ → Result Scaled ℕ
value_tried d e ss n =
    then_do (moved n (scale_tried d e ss)) (λ s. Ok (record { scale = s; nodes = nodes e }))

-- a scale that is at most the greatest one
abbrev pub kept : ℕ → ℕ → ℕ → ℕ → Result Scaled ℕ
kept greatest s count n =
    if nat_le s greatest then Ok (record { scale = s; nodes = count }) else Err n

abbrev pub scaling : Declarations → Steps Scaled Scaled (List ℕ)
scaling d = record {
  value = λ v ss n. value_tried d (undated v) ss n;
  enter = λ u ss. u.scale ∷ ss;
  nothing = λ n. kept (d.amounts + 9) 0 1 n;
  payment = λ x n. kept (d.amounts + 9) 9 1 n;
  sum = λ a b n. kept (d.amounts + 9) (max a.scale b.scale) (a.nodes + b.nodes + 1) n;
  scaled = λ u a n. kept (d.amounts + 9) (u.scale + a.scale) (u.nodes + a.nodes + 1) n;
  bound = λ u a n. kept (d.amounts + 9) a.scale (u.nodes + a.nodes + 1) n;
  looped = λ u x a b n.
      kept (d.amounts + 9) (max a.scale b.scale) (u.nodes + a.nodes + b.nodes + 1) n;
  cut = λ x a n. kept (d.amounts + 9) a.scale (a.nodes + 1) n;
}

abbrev pub scales_tried : Declarations → PayoffCode → List ℕ → ℕ → Result Scaled ℕ
scales_tried d k ss n = code_tried (scaling d) k ss n

-- the same among the names of a scope
abbrev pub scale_among : Decls → Expression → Scope ℕ → ℕ → Result Scaled ℕ
scale_among decls e scope n = value_tried (declarations decls) e (held_in scope) n

abbrev pub scales_among : Decls → PayoffCode → Scope ℕ → ℕ → Result Scaled ℕ
scales_among decls k scope n = scales_tried (declarations decls) k (held_in scope) n
