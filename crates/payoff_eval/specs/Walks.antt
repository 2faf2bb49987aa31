-- The walk over code at a base, by fixings: each part on the path taken once, in the order in which it reads, until a
-- place is met that is not fixed. It answers what the code is worth at so many decimals, and whether it reaches a payment
-- of the pair and the asset that are asked for; or that place. Names have values, and the places that these were read
-- from.
use Rattle.std.specs.Prelude.{ℕ, zero, suc, ℤ, pos, negsuc, int_lt, ◌+ℤ◌, ◌*ℤ◌, ◌-◌, true, false, ◌||◌, List, ◌∷◌, Option, Some, None, Result, Ok, Err, if◌then◌else◌}
use Rattle.decimal.specs.Rounding.{raised}
use Rattle.term_model.specs.Declarations.{Declarations}
use Rattle.term_model.specs.declared.values.Missing.{Missing}
use Rattle.term_model.specs.Environments.{Environment, Place}
use Rattle.term_model.specs.Kinds.{scale_of}
use Rattle.term_model.specs.Values.{Entry, kinds, num}
use Rattle.term_model.specs.Flows.{unit_flow}
use Rattle.term_model.specs.Reads.{first_unfixed}
use Rattle.expr_eval.specs.Trials.{DayOrMissing, ValueOrMissing, missing_at, first_tried}
use Rattle.payoff_terms.specs.TemplateDates.{day_of}
use Rattle.payoff_terms.specs.Dating.{undated}
use Rattle.payoff_terms.specs.Code.{ValueExpression, PayoffCode, Nothing, PayOn, Add, ScaleBy, LetBe, Loop, Cut}
use Rattle.payoff_terms.specs.CodeValues.{Asked, factor_on, value_at, entry_at}
use Rattle.payoff_terms.specs.CodeReads.{value_reads, concerns}
use Rattle.payoff_eval.specs.declared.walk.Worth.{Worth}

-- what comes out where a place may be missing
abbrev pub WorthOrMissing : Type 0
WorthOrMissing = Result Worth Missing

abbrev pub nothing_reached : Worth
nothing_reached = record { amount = pos 0; reached = false }

abbrev pub unless : {A : Type 0} → Option Place → A → Result A Missing
unless (Some q) v = Err (missing_at q)
unless None v = Ok v

-- the value of a value expression over fixings, or its first place that is not fixed
abbrev pub answer_at : Declarations → ValueExpression → List Entry → List (List Place) → Environment → List ℕ → ℤ → ValueOrMissing
answer_at d v g bs fixings xs b = unless (first_unfixed fixings (value_reads d v g bs fixings xs b)) (value_at d v g fixings xs b)

-- the days 0 to n; there are none below 0
abbrev pub tries : ℤ → ℕ
tries (pos n) = suc n
tries (negsuc n) = zero

abbrev pub then_added : WorthOrMissing → WorthOrMissing → WorthOrMissing
then_added (Err m) other = Err m
then_added (Ok x) (Err m) = Err m
then_added (Ok x) (Ok y) = Ok (record { amount = x.amount +ℤ y.amount; reached = x.reached || y.reached })

abbrev pub times : ValueOrMissing → ℤ → WorthOrMissing
times (Ok v) x = Ok (record { amount = num v *ℤ x; reached = true })
times (Err m) x = Err m

-- the factor is asked for only where a payment is reached
abbrev pub then_scaled : WorthOrMissing → ValueOrMissing → WorthOrMissing
then_scaled (Err m) factor = Err m
then_scaled (Ok x) factor = if x.reached then times factor x.amount else Ok nothing_reached

abbrev pub then_branch : DayOrMissing → (ℕ → WorthOrMissing) → WorthOrMissing → WorthOrMissing
then_branch (Err m) hit miss = Err m
then_branch (Ok (Some n)) hit miss = hit n
then_branch (Ok None) hit miss = miss

abbrev pub walk_of : Declarations → ℕ → PayoffCode → List Entry → List (List Place) → Environment → List ℕ → Asked → ℤ → WorthOrMissing
walk_of d decimals Nothing g bs fixings xs a b = Ok nothing_reached
walk_of d decimals (PayOn x u p q) g bs fixings xs a b =
    Ok (record { amount = raised (factor_on a (b +ℤ day_of xs x) *ℤ unit_flow u p q a.flow) (decimals - 9); reached = concerns u p q a.flow })
walk_of d decimals (Add k l) g bs fixings xs a b = then_added (walk_of d decimals k g bs fixings xs a b) (walk_of d decimals l g bs fixings xs a b)
walk_of d decimals (ScaleBy v k) g bs fixings xs a b =
    then_scaled (walk_of d (decimals - scale_of d (undated v) (kinds g)) k g bs fixings xs a b) (answer_at d v g bs fixings xs b)
walk_of d decimals (LetBe v k) g bs fixings xs a b =
    walk_of d decimals k (entry_at d v g fixings xs b ∷ g) (value_reads d v g bs fixings xs b ∷ bs) fixings xs a b
walk_of d decimals (Loop v x k l) g bs fixings xs a b =
    then_branch (first_tried (tries (day_of xs x)) (λ i. answer_at d v g bs fixings xs (b +ℤ pos i)))
    (λ n. walk_of d decimals k g bs fixings xs a (b +ℤ pos n))
    (walk_of d decimals l g bs fixings xs a b)
walk_of d decimals (Cut x k) g bs fixings xs a b =
    if int_lt (b +ℤ day_of xs x) a.now then Ok nothing_reached else walk_of d decimals k g bs fixings xs a b
