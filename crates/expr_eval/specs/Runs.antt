-- What an evaluation over fixings answers: the value with its kind, or the first place that it asked for and that is not
-- fixed. It goes as the evaluator does: operands in written order, a branch and a right side only where they are needed,
-- and an accumulator day by day.
use Rattle.std.specs.Prelude.{ℕ, zero, suc, ℤ, pos, ◌+ℤ◌, ◌-ℤ◌, not, false, List, ◌∷◌, Option, Some, None, Result, Ok, Err, if◌then◌else◌, slice_get}
use Rattle.term_model.specs.Declarations.{Declarations}
use Rattle.term_model.specs.declared.terms.LogicOp.{LogicOp}
use Rattle.term_model.specs.declared.values.Kind.{Kind}
use Rattle.term_model.specs.declared.values.Kind.TheVariants.{Number}
use Rattle.term_model.specs.declared.values.Value.{Value}
use Rattle.term_model.specs.declared.values.Missing.{Missing}
use Rattle.term_model.specs.Terms.{Expression, Lit, Yes, Var, Obs, Neg, Num, Cmp, Not, Logic, Cond, Widen, Round, Div, Acc}
use Rattle.term_model.specs.Environments.{Environment, held, label_of}
use Rattle.term_model.specs.Kinds.{kind_of_label}
use Rattle.term_model.specs.Values.{kind_or}
use Rattle.term_model.specs.Reads.{decides}
use Rattle.expr_eval.specs.declared.scratch.Held.{Held}
use Rattle.expr_eval.specs.declared.scratch.Held.TheVariants.{Known, Lacking}
use Rattle.expr_eval.specs.declared.scratch.Binding.{Binding}
use Rattle.expr_eval.specs.declared.operations.Typed.{Typed}
use Rattle.expr_eval.specs.declared.operations.Operands.{Operands}
use Rattle.expr_eval.specs.Rooms.{kinds_of}
use Rattle.expr_eval.specs.Operations.{number, verdict, truth_in, at_kind, negated, combined, compared, rounded, quotient}
use Rattle.interval_check.specs.RangeTrials.{kind_found, kind_of_either}

abbrev pub Answer : Type 0
Answer = Result Typed Missing

-- without the kind of its value
abbrev pub untyped : Answer → Result Value Missing
untyped (Ok v) = Ok v.value
untyped (Err m) = Err m

-- goes on with a value
abbrev pub then_do : Answer → (Typed → Answer) → Answer
then_do (Ok v) go = go v
then_do (Err m) go = Err m

-- both operands, the left one first
abbrev pub both_of : Answer → Answer → Result Operands Missing
both_of (Ok x) (Ok y) = Ok (record { left = x; right = y })
both_of (Ok x) (Err m) = Err m
both_of (Err m) b = Err m

abbrev pub on_both : Result Operands Missing → (Typed → Typed → Typed) → Answer
on_both (Ok p) f = Ok (f p.left p.right)
on_both (Err m) f = Err m

abbrev pub of_held : Kind → Held → Answer
of_held k (Known v) = Ok (record { kind = k; value = v })
of_held k (Lacking m) = Err m

abbrev pub of_binding : Option Binding → Answer
of_binding None = Ok (verdict false)
of_binding (Some b) = of_held b.kind b.held

abbrev pub of_place : Kind → Option Value → ℕ → ℤ → Answer
of_place k None l t = Err (record { label = l; day = t })
of_place k (Some v) l t = Ok (record { kind = k; value = v })

-- the kind of what is observed under a label, and its value on a day
abbrev pub kind_observed : Declarations → ℕ → Kind
kind_observed d l = kind_or (kind_of_label (label_of d l))

abbrev pub observation : Declarations → Environment → ℕ → ℤ → Answer
observation d env l t = of_place (kind_observed d l) (held env (record { label = l; day = t })) l t

-- the right side only where the left does not decide
abbrev pub of_sides : LogicOp → Answer → Answer → Answer
of_sides op a b =
    then_do a (λ x. if decides op (truth_in x) then Ok (verdict (truth_in x)) else then_do b (λ y. Ok (verdict (truth_in y))))

-- the first branch at the kind of both, where the second has kind j; and the second, where the first has kind i
abbrev pub of_first : Kind → Answer → Answer
of_first j a = then_do a (λ y. Ok (at_kind (kind_of_either y.kind j) y))

abbrev pub of_second : Kind → Answer → Answer
of_second i b = then_do b (λ y. Ok (at_kind (kind_of_either i y.kind) y))

-- one branch, at the kind of both; of the other only the kind is asked for
abbrev pub of_branches : Kind → Kind → Answer → Answer → Answer → Answer
of_branches i j t a b = then_do t (λ x. if truth_in x then of_first j a else of_second i b)

-- each day's step, from the first to the last
abbrev pub days_tried : ℕ → (ℕ → Typed → Answer) → Answer → Answer
days_tried zero step a = a
days_tried (suc n) step a = then_do (days_tried n step a) (step (suc n))

-- the entry of an accumulator's name
abbrev pub bound_to : Typed → Binding
bound_to v = record { kind = v.kind; held = Known v.value }

-- a day of an accumulator: its body with the value so far for the name, at the kind of the start
abbrev pub day_done : (List Binding → ℤ → Answer) → List Binding → ℤ → Typed → Answer
day_done body g at v = then_do (body (bound_to v ∷ g) at) (λ w. Ok (at_kind v.kind w))

abbrev pub day_step : (List Binding → ℤ → Answer) → List Binding → ℤ → ℕ → Typed → Answer
day_step body g from i v = day_done body g (from +ℤ pos i) v

abbrev pub run_of : Declarations → Expression → List Binding → Environment → ℤ → Answer
run_of d (Lit m s) g env f = Ok (number s m)
run_of d (Yes b) g env f = Ok (verdict b)
run_of d (Var back) g env f = of_binding (slice_get g back)
run_of d (Obs l t) g env f = observation d env l (f +ℤ t)
run_of d (Neg e) g env f = then_do (run_of d e g env f) (λ v. Ok (negated v))
run_of d (Num op a b) g env f = on_both (both_of (run_of d a g env f) (run_of d b g env f)) (combined op)
run_of d (Cmp op a b) g env f = on_both (both_of (run_of d a g env f) (run_of d b g env f)) (compared op)
run_of d (Not e) g env f = then_do (run_of d e g env f) (λ v. Ok (verdict (not (truth_in v))))
run_of d (Logic op a b) g env f = of_sides op (run_of d a g env f) (run_of d b g env f)
run_of d (Cond t a b) g env f =
    of_branches (kind_found d a (kinds_of g)) (kind_found d b (kinds_of g)) (run_of d t g env f) (run_of d a g env f) (run_of d b g env f)
run_of d (Widen s e) g env f = then_do (run_of d e g env f) (λ v. Ok (at_kind (Number s) v))
run_of d (Round mode s e) g env f = then_do (run_of d e g env f) (λ v. Ok (rounded mode s v))
run_of d (Div mode s a b) g env f = on_both (both_of (run_of d a g env f) (run_of d b g env f)) (quotient mode s)
run_of d (Acc body n first) g env f =
    days_tried n (day_step (λ h t. run_of d body h env t) g (f -ℤ pos n)) (run_of d first g env (f -ℤ pos n))

-- both operands, the left one first
abbrev pub both_run : Declarations → Expression → Expression → List Binding → Environment → ℤ → Result Operands Missing
both_run d a b g env f = both_of (run_of d a g env f) (run_of d b g env f)

-- a day of an accumulator with this body, and its first n days
abbrev pub day_run : Declarations → Expression → List Binding → Environment → ℤ → Typed → Answer
day_run d body g env at v = day_done (λ h t. run_of d body h env t) g at v

abbrev pub days_run : Declarations → Expression → List Binding → Environment → ℤ → ℕ → Answer → Answer
days_run d body g env from n start = days_tried n (day_step (λ h t. run_of d body h env t) g from) start
