-- What advancing an accepted contract over some days answers: what it pays on the days gone by, and
-- what is left of it, reduced; or the first place that it reads on these days and that is not
-- fixed.
use Rattle.std.specs.Prelude.{◌≡◌, ◌<◌, ℕ, ℤ, pos, ◌+ℤ◌, ◌-ℤ◌, List, Some, Result, Ok, Err}
use Rattle.term_model.specs.Declarations.{Declarations}
use Rattle.std.specs.declared.rc.Rc.{Rc}
use Rattle.std.specs.Global.{Global}
use Rattle.term_model.specs.Terms.{Contract, Zero, contract}
use Rattle.term_model.specs.declared.terms.Contr.{Contr}
use Rattle.term_core.specs.declared.shared.SharedContr.{SharedContr}
use Rattle.term_core.specs.SharedTerms.{shared, StoresOffsets}
use Rattle.term_model.specs.Environments.{Environment}
use Rattle.term_model.specs.Acceptance.{IsAccepted}
use Rattle.term_model.specs.Reads.{first_unfixed}
use Rattle.term_model.specs.Redexes.{IsReduced}
use Rattle.term_model.specs.Residuals.{Carries}
use Rattle.term_model.specs.Sizes.{reach}
use Rattle.term_model.specs.WellFormed.{HasOnlyNumbers, IsClosed}
use Rattle.flow_eval.specs.FlowAnswers.{AreKnownFlows, reads_until}
use Rattle.flow_eval.specs.declared.faults.FlowErr.{FlowErr}
use Rattle.flow_eval.specs.declared.flow_table.FlowRow.{FlowRow}
use Rattle.flow_eval.specs.declared.faults.FlowErr.TheVariants.{Missing, NoMemory}
use Rattle.term_model.specs.Literals.{HasLiteralsIn}
use Rattle.flow_eval.specs.Faults.{lacks_memory}
use Rattle.fixing_files.specs.Layers.{HoldSame}
use Rattle.advance_step.specs.Reducing.{residual}
use Rattle.advance_step.specs.declared.advancing.Advanced.{Advanced}
use Rattle.advance_step.specs.declared.stepping.SharedAdvanced.{SharedAdvanced}
use Rattle.advance_step.specs.Residual.{IsLeftAfter}

-- the day before the one that is so many days after the first
abbrev pub day_before : ℤ → ℕ → ℤ
day_before first days = (first +ℤ pos days) -ℤ pos 1

-- a contract that is left of one which stands on the first day, so many days later: it is accepted,
-- pays on each later day what the other pays, in each environment that extends the fixings, and has
-- no redex; past the reach it is nothing; and it is the one residual, by whatever list holds what
-- the fixings hold. And what printing asks of it.
pub record IsResidual (d : Declarations) (fixings : Environment) (first : ℤ) (days : ℕ)
    (c rest : Contract) : Type 0 where
  pub exact : (env : Environment) → HoldSame fixings env → rest ≡ residual d env first days c
  pub accepted : IsAccepted d rest
  pub carries : Carries d c first fixings days rest
  pub reduced : IsReduced d rest fixings (first +ℤ pos days)
  pub gone : reach c < days → rest ≡ Zero
  pub closed : IsClosed d rest
  pub numbers : HasOnlyNumbers rest
  pub literals : HasLiteralsIn rest

-- an answer is such a contract, with shared parts or without, or want of memory
abbrev pub AnswersReducedRest : Declarations → Environment → ℤ → ℕ → Contract
    → Result (Rc SharedContr Global) FlowErr → Type 0
AnswersReducedRest d fixings first days c (Ok rest) =
    IsResidual d fixings first days c (shared rest.value)
AnswersReducedRest d fixings first days c (Err e) = e ≡ lacks_memory

abbrev pub AnswersResidual : Declarations → Environment → ℤ → ℕ → Contract → Result Contr FlowErr
    → Type 0
AnswersResidual d fixings first days c (Ok rest) = IsResidual d fixings first days c (contract rest)
AnswersResidual d fixings first days c (Err e) = e ≡ lacks_memory

-- an answer is what is due before the new day and what is left, or the first read that it lacks
abbrev pub Advances : Declarations → Contract → Environment → ℤ → ℕ → Result Advanced FlowErr
    → Type 0
Advances d c fixings first days (Ok answer) =
    AreKnownFlows d c fixings first (day_before first days) answer.due.rows.items
    × IsResidual d fixings first days c (contract answer.rest)
Advances d c fixings first days (Err (Missing label day)) =
    first_unfixed fixings (reads_until d c fixings first (day_before first days))
    ≡ Some (record { label = label; day = day })
Advances d c fixings first days (Err NoMemory) = Unit {0}

-- what a step from a day to the next answers of a contract: what is due on the day, and what is
-- left on the next
pub record IsStep (d : Declarations) (fixings : Environment) (day : ℤ) (c : Contract)
    (rows : List FlowRow) (rest : Contract) : Type 0 where
  pub due : AreKnownFlows d c fixings day day rows
  pub left : IsLeftAfter d fixings day 1 c rest

-- a fault is the first place that it reads on the day and that is not fixed, or want of memory
abbrev pub LacksOnDay : Declarations → Environment → ℤ → Contract → FlowErr → Type 0
LacksOnDay d fixings day c (Missing label at) =
    first_unfixed fixings (reads_until d c fixings day day)
    ≡ Some (record { label = label; day = at })
LacksOnDay d fixings day c NoMemory = Unit {0}

-- an answer with shared parts is such a step, of which the rest stores its offsets, or such a fault
abbrev pub AnswersSharedStep : Declarations → Environment → ℤ → Contract
    → Result SharedAdvanced FlowErr → Type 0
AnswersSharedStep d fixings day c (Ok answer) =
    IsStep d fixings day c answer.due.rows.items (shared answer.rest.value)
    × StoresOffsets answer.rest.value
AnswersSharedStep d fixings day c (Err e) = LacksOnDay d fixings day c e

-- an answer is such a step, of which the rest can be printed, or such a fault
abbrev pub AnswersStep : Declarations → Environment → ℤ → Contract → Result Advanced FlowErr
    → Type 0
AnswersStep d fixings day c (Ok answer) =
    IsStep d fixings day c answer.due.rows.items (contract answer.rest)
    × IsClosed d (contract answer.rest) × HasOnlyNumbers (contract answer.rest)
AnswersStep d fixings day c (Err e) = LacksOnDay d fixings day c e
