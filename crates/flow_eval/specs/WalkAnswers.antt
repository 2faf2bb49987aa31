-- What a walk over a contract needs and answers, by what it goes by and where the contract stands: the walk of
-- `Walks`, for all values and places that the entries of the names round it stand for.
use Rattle.std.specs.Prelude.{◌≡◌, ℕ, ℤ, pos, ◌+ℤ◌, List, [], Result, Ok}
use Rattle.std.specs.Global.{Vec}
use Rattle.decimal.specs.Rounding.{raised}
use Rattle.term_model.specs.Declarations.{declarations}
use Rattle.term_model.specs.Terms.{Expression, Contract}
use Rattle.term_model.specs.Environments.{Place}
use Rattle.term_model.specs.declared.values.Kind.{Kind}
use Rattle.term_model.specs.Kinds.{kind_of}
use Rattle.term_model.specs.Values.{Entry, kind_or}
use Rattle.expr_eval.specs.Rooms.{Room, kinds_of}
use Rattle.expr_eval.specs.Standing.{StandFor}
use Rattle.expr_eval.specs.Trials.{DayOrMissing, ValueOrMissing, answer_of, first_tried}
use Rattle.flow_eval.specs.declared.faults.FlowErr.{FlowErr}
use Rattle.flow_eval.specs.declared.payments.Payment.{Payment}
use Rattle.flow_eval.specs.declared.walk.Basis.{Basis}
use Rattle.flow_eval.specs.declared.walk.Standing.{Standing}
use Rattle.flow_eval.specs.Payments.{paid}
use Rattle.flow_eval.specs.Walks.{PaymentsOrMissing, days_to_try, walk_of}
use Rattle.flow_eval.specs.Readiness.{CanAnswer, CanWalk}
use Rattle.flow_eval.specs.Gathering.{Gathers, IsGathered}

-- a contract can be walked where it stands
abbrev pub MayWalk : Basis → Contract → Standing → Room → Type 0
MayWalk basis c here r = CanWalk (declarations basis.decls.now) c here.decimals r basis.fixings.now

-- an expression can be answered among the entries
abbrev pub MayAnswer : Basis → Expression → Room → Type 0
MayAnswer basis e r = CanAnswer (declarations basis.decls.now) e r basis.fixings.now

-- its kind
abbrev pub kind_among : Basis → Expression → Room → Kind
kind_among basis e r = kind_or (kind_of (declarations basis.decls.now) e (kinds_of r.entries))

-- an expression that stands there has this value, or lacks this place
abbrev pub IsAnswerFor : Basis → Expression → Standing → Room → ValueOrMissing → Type 0
IsAnswerFor basis e here r answer =
    (g : List Entry) (bs : List (List Place)) → StandFor basis.fixings.now r.entries g bs
    → answer ≡ answer_of (declarations basis.decls.now) e g bs basis.fixings.now here.day

-- the first day on which a test that stands there is true, of so many days behind the first and up to the last that
-- counts; or the place that it lacks before
abbrev pub IsFirstDayFor : Basis → Expression → Standing → Room → ℕ → DayOrMissing → Type 0
IsFirstDayFor basis test here r days answer =
    (g : List Entry) (bs : List (List Place)) → StandFor basis.fixings.now r.entries g bs
    → answer ≡ first_tried (days_to_try basis.until here.day days)
    (λ i. answer_of (declarations basis.decls.now) test g bs basis.fixings.now (here.day +ℤ pos i))

-- the payment of one unit of an asset
abbrev pub paid_alone : Basis → Standing → ℕ → ℕ → ℕ → PaymentsOrMissing
paid_alone basis here asset from to =
    Ok (paid basis.until here.day (record { asset = asset; from = from; to = to }) (raised (pos 1) here.decimals))

-- the payments of the walk are noted behind those before, or the place that it lacks is answered
abbrev pub Notes : Basis → Contract → Standing → Room → List Payment → List Payment → Result (Unit {0}) FlowErr → Type 0
Notes basis c here r before after result =
    (g : List Entry) (bs : List (List Place)) → StandFor basis.fixings.now r.entries g bs
    → Gathers (walk_of (declarations basis.decls.now) here.decimals c g bs basis.fixings.now here.day basis.until) before after result

-- the payments of a contract that stands on a day, at the portfolio's decimals, or the place that it lacks
abbrev pub ArePaymentsOf : Basis → Contract → ℤ → Result (Vec Payment) FlowErr → Type 0
ArePaymentsOf basis c frame result =
    IsGathered
    (walk_of (declarations basis.decls.now) basis.decls.now.amounts c [] [] basis.fixings.now frame basis.until) result
