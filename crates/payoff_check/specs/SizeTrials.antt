-- The trial of the rule on sizes at a setting: the size of a part, or its first node that breaks
-- the rule. Of a value expression the node is told by its place, counted from the expression's own
-- first node.
use Rattle.std.specs.Prelude.{ℕ, ◌+◌, ◌*◌, ◌≤◌, max, nat_le, ◌&&◌, Bool, List, Result, Ok, Err}
use Rattle.std.specs.Prelude.{if◌then◌else◌}
use Rattle.term_model.specs.Terms.{Expression, Lit, Yes, Var, Obs, Neg, Num, Cmp, Not, Logic, Cond}
use Rattle.term_model.specs.Terms.{Widen, Round, Div, Acc}
use Rattle.term_model.specs.Limits.{most_days, most_height_of_code, most_nodes_of_code, most_work}
use Rattle.term_model.specs.Sizes.{nodes}
use Rattle.term_core.specs.Trying.{then_do, moved}
use Rattle.payoff_terms.specs.TemplateDates.{day_of}
use Rattle.payoff_terms.specs.Dating.{at_setting}
use Rattle.payoff_terms.specs.Code.{PayoffCode, value_expression}
use Rattle.payoff_terms.specs.CodeSizes.{as_count}
use Rattle.payoff_terms.specs.CodeAcceptance.{within_code_limits, is_date, is_upto}
use Rattle.payoff_terms.specs.declared.code.Vx.{Vx}
use Rattle.payoff_check.specs.declared.part_sizes.ValueSize.{ValueSize}
use Rattle.payoff_check.specs.declared.part_sizes.CodeSize.{CodeSize}
use Rattle.payoff_check.specs.Trials.{Steps, code_tried}

-- Value expressions.

abbrev pub leaf : ValueSize
leaf = record { height = 1; nodes = 1; work = 1 }

abbrev pub over_one : ValueSize → ValueSize
over_one a = record { height = a.height + 1; nodes = a.nodes + 1; work = 1 + a.work }

abbrev pub over_two : ValueSize → ValueSize → ValueSize
over_two a b =
    record {
      height = max a.height b.height + 1;
      nodes = a.nodes + b.nodes + 1;
      work = 1 + (a.work + b.work);
    }

abbrev pub over_three : ValueSize → ValueSize → ValueSize → ValueSize
over_three t a b = record {
  height = max t.height (max a.height b.height) + 1;
  nodes = t.nodes + a.nodes + b.nodes + 1;
  work = 1 + (t.work + a.work + b.work);
}

-- an accumulator over n days
abbrev pub over_days : ValueSize → ℕ → ValueSize → ValueSize
over_days body n first =
    record {
      height = max body.height first.height + 1;
      nodes = body.nodes + first.nodes + 1;
      work = 1 + (first.work + n * body.work);
    }

abbrev pub value_fits : ValueSize → Bool
value_fits s = within_code_limits s.height s.nodes s.work

-- the size of a part with a count of days, else a fault here
abbrev pub limited : ℕ → ValueSize → Result ValueSize ℕ
limited days s = if value_fits s && nat_le days most_days then Ok s else Err 0

-- of an observable, by whether its date is within its range
abbrev pub dated : Bool → Result ValueSize ℕ
dated b = if b then Ok leaf else Err 0

abbrev pub Answer : Type 0
Answer = Result ValueSize ℕ

abbrev pub one_tried : Answer → Answer
one_tried a = then_do (moved 1 a) (λ s. limited 0 (over_one s))

-- an operator on two operands, of which the first has n nodes
abbrev pub two_tried : ℕ → Answer → Answer → Answer
two_tried n a b =
    then_do (moved 1 a) (λ s. then_do (moved (1 + n) b) (λ t. limited 0 (over_two s t)))

-- an `if`, of which the test has m nodes, and the first branch n
abbrev pub three_tried : ℕ → ℕ → Answer → Answer → Answer → Answer
three_tried m n t a b =
    then_do (moved 1 t)
    (λ s. then_do (moved (1 + m) a)
    (λ x. then_do (moved m (moved (1 + n) b)) (λ y. limited 0 (over_three s x y))))

-- an accumulator over some days, whose body has n nodes
abbrev pub acc_tried : ℕ → ℕ → Answer → Answer → Answer
acc_tried n days first body =
    then_do (moved (1 + n) first)
    (λ s. then_do (moved 1 body) (λ t. limited days (over_days t days s)))

-- the expression that a value expression is at a setting
abbrev pub size_tried : Expression → Answer
size_tried (Lit m s) = limited 0 leaf
size_tried (Yes b) = limited 0 leaf
size_tried (Var back) = limited 0 leaf
size_tried (Obs l t) = dated (is_date t)
size_tried (Neg e) = one_tried (size_tried e)
size_tried (Num op a b) = two_tried (nodes a) (size_tried a) (size_tried b)
size_tried (Cmp op a b) = two_tried (nodes a) (size_tried a) (size_tried b)
size_tried (Not e) = one_tried (size_tried e)
size_tried (Logic op a b) = two_tried (nodes a) (size_tried a) (size_tried b)
size_tried (Cond t a b) =
    three_tried (nodes t) (nodes a) (size_tried t) (size_tried a) (size_tried b)
size_tried (Widen s e) = one_tried (size_tried e)
size_tried (Round mode s e) = one_tried (size_tried e)
size_tried (Div mode s a b) = two_tried (nodes a) (size_tried a) (size_tried b)
size_tried (Acc body n first) = acc_tried (nodes body) n (size_tried first) (size_tried body)

-- the nodes and the trial of the program's value expression at a setting
abbrev pub nodes_at : List ℕ → Vx → ℕ
nodes_at xs v = nodes (at_setting xs (value_expression v))

abbrev pub tried_at : List ℕ → Vx → Answer
tried_at xs v = size_tried (at_setting xs (value_expression v))

-- what is known of the size of a part that is within the limits
pub record IsLimited (s : ValueSize) : Type 0 where
  pub height_in : s.height ≤ most_height_of_code
  pub nodes_in : s.nodes ≤ most_nodes_of_code
  pub work_in : s.work ≤ most_work

-- Code.

abbrev pub unit : CodeSize
unit = record { height = 1; nodes = 1; work = 0; days = 0 }

abbrev pub together : CodeSize → CodeSize → CodeSize
together a b =
    record {
      height = max a.height b.height + 1;
      nodes = a.nodes + b.nodes + 1;
      work = a.work + b.work;
      days = max a.days b.days;
    }

-- a part behind a value expression
abbrev pub behind : ValueSize → CodeSize → CodeSize
behind u a =
    record {
      height = max u.height a.height + 1;
      nodes = u.nodes + a.nodes + 1;
      work = u.work + a.work;
      days = a.days;
    }

abbrev pub over : CodeSize → CodeSize
over a = record { height = a.height + 1; nodes = a.nodes + 1; work = a.work; days = a.days }

-- a test that is tried on n days after the first
abbrev pub looped : ValueSize → ℕ → CodeSize → CodeSize → CodeSize
looped u n a b = record {
  height = max u.height (max a.height b.height) + 1;
  nodes = u.nodes + a.nodes + b.nodes + 1;
  work = (n + 1) * u.work + a.work + b.work;
  days = max (n + a.days) b.days;
}

abbrev pub code_fits : CodeSize → Bool
code_fits s = within_code_limits s.height s.nodes s.work && nat_le s.days most_days

abbrev pub limited_code : CodeSize → ℕ → Result CodeSize ℕ
limited_code s n = if code_fits s then Ok s else Err n

-- the same where a date is within its range
abbrev pub dated_code : Bool → CodeSize → ℕ → Result CodeSize ℕ
dated_code b s n = if b then limited_code s n else Err n

abbrev pub sizing : List ℕ → Steps ValueSize CodeSize (Unit {0})
sizing xs = record {
  value = λ v g n. moved n (size_tried (at_setting xs v));
  enter = λ u g. g;
  nothing = λ n. limited_code unit n;
  payment = λ x n. dated_code (is_date (day_of xs x)) unit n;
  sum = λ a b n. limited_code (together a b) n;
  scaled = λ u a n. limited_code (behind u a) n;
  bound = λ u a n. limited_code (behind u a) n;
  looped = λ u x a b n.
      dated_code (is_upto (day_of xs x)) (looped u (as_count (day_of xs x)) a b) n;
  cut = λ x a n. dated_code (is_date (day_of xs x)) (over a) n;
}

abbrev pub sizes_tried : List ℕ → PayoffCode → ℕ → Result CodeSize ℕ
sizes_tried xs k n = code_tried (sizing xs) k tt n

pub record IsLimitedCode (s : CodeSize) : Type 0 where
  pub height_in : s.height ≤ most_height_of_code
  pub nodes_in : s.nodes ≤ most_nodes_of_code
  pub work_in : s.work ≤ most_work
  pub days_in : s.days ≤ most_days
