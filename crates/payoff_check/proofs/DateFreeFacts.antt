-- The size of a value expression, whatever its dates.
use Rattle.std.proofs.Common.{◌≡◌, ℕ, ℤ, pos, refl, ap, ap₂, ◌∙◌, List}
use Rattle.term_model.specs.Terms.{Expression}
use Rattle.term_model.specs.Sizes.{nodes, height, work}
use Rattle.payoff_terms.specs.TemplateDates.{Date, day_of}
use Rattle.payoff_terms.specs.Dating.{dated_by, at_setting, undated}
use Rattle.payoff_terms.specs.Code.{ValueExpression, Lit, Yes, Var, Model, Neg, Num, Cmp, Not, Logic, Cond, Widen, Round, Div, Acc}
use Rattle.payoff_check.specs.declared.part_sizes.ValueSize.{ValueSize}
use Rattle.payoff_check.specs.SizeTrials.{over_one, over_two, over_three, over_days}

-- the size of an expression
abbrev pub size_of : Expression → ValueSize
size_of e = record { height = height e; nodes = nodes e; work = work e }

pub size_any : (day more : Date → ℤ) (v : ValueExpression) → size_of (dated_by day v) ≡ size_of (dated_by more v)
size_any day more (Lit m s) = refl
size_any day more (Yes b) = refl
size_any day more (Var back) = refl
size_any day more (Model l x) = refl
size_any day more (Neg v) = ap over_one (size_any day more v)
size_any day more (Num op v w) = ap₂ over_two (size_any day more v) (size_any day more w)
size_any day more (Cmp op v w) = ap₂ over_two (size_any day more v) (size_any day more w)
size_any day more (Not v) = ap over_one (size_any day more v)
size_any day more (Logic op v w) = ap₂ over_two (size_any day more v) (size_any day more w)
size_any day more (Cond t v w) =
    ap (λ (a : ValueSize). over_three a (size_of (dated_by day v)) (size_of (dated_by day w))) (size_any day more t)
    ∙ ap₂ (over_three (size_of (dated_by more t))) (size_any day more v) (size_any day more w)
size_any day more (Widen s v) = ap over_one (size_any day more v)
size_any day more (Round mode s v) = ap over_one (size_any day more v)
size_any day more (Div mode s v w) = ap₂ over_two (size_any day more v) (size_any day more w)
size_any day more (Acc body n first) =
    ap₂ (λ (a b : ValueSize). over_days a n b) (size_any day more body) (size_any day more first)

pub nodes_undated : (xs : List ℕ) (v : ValueExpression) → nodes (at_setting xs v) ≡ nodes (undated v)
nodes_undated xs v = ap (λ (s : ValueSize). s.nodes) (size_any (day_of xs) (λ _. pos 0) v)
