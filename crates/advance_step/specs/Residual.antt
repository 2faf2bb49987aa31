-- The two halves of a residual: what is left of a contract some days later, and what that is
-- reduced to.
use Rattle.std.specs.Prelude.{ℕ, ℤ, pos, ◌<◌, ◌≤ℤ◌, ◌≡◌, None, Result, Ok, Err}
use Rattle.std.specs.declared.rc.Rc.{Rc}
use Rattle.std.specs.Global.{Global}
use Rattle.term_model.specs.Declarations.{Declarations}
use Rattle.term_model.specs.Terms.{Contract, Zero}
use Rattle.term_model.specs.Environments.{Environment, Extends}
use Rattle.term_core.specs.declared.shared.SharedContr.{SharedContr}
use Rattle.term_core.specs.SharedTerms.{shared, StoresOffsets}
use Rattle.term_model.specs.Acceptance.{IsAccepted}
use Rattle.term_model.specs.Limits.{last_start}
use Rattle.term_model.specs.Reads.{first_unfixed}
use Rattle.term_model.specs.Redexes.{IsReduced}
use Rattle.term_model.specs.Residuals.{Carries}
use Rattle.term_model.specs.Sizes.{reach}
use Rattle.term_model.specs.WellFormed.{IsClosed}
use Rattle.flow_eval.specs.FlowAnswers.{reads_until}
use Rattle.flow_eval.specs.Faults.{lacks_memory}
use Rattle.flow_eval.specs.declared.faults.FlowErr.{FlowErr}
use Rattle.term_model.specs.Literals.{HasLiteralsIn}
use Rattle.advance_step.specs.Reducing.{reduced, rest_after}

-- a day on which a contract may stand
abbrev pub MayStandOn : ℤ → Type 0
MayStandOn day = (pos 0 ≤ℤ day) × (day ≤ℤ pos last_start)

-- each place is fixed that c, which stands on the first day, reads up to the last
abbrev pub ReadsAreFixed : Declarations → Contract → Environment → ℤ → ℤ → Type 0
ReadsAreFixed d c fixings first last =
    first_unfixed fixings (reads_until d c fixings first last) ≡ None

-- a contract that is left of c, which stands on the first day, so many days later: accepted, and
-- paying on each later day what c pays, in each environment that extends the fixings; past the
-- reach it is nothing; and it is what is left in whichever of these environments
pub record IsLeftAfter (d : Declarations) (fixings : Environment) (first : ℤ) (days : ℕ)
    (c rest : Contract) : Type 0 where
  pub exact : (env : Environment) → Extends fixings env → rest ≡ rest_after d env first days c
  pub accepted : IsAccepted d rest
  pub carries : Carries d c first fixings days rest
  pub gone : reach c < days → rest ≡ Zero
  pub closed : IsClosed d c → IsClosed d rest

-- an answer is such a contract, which stores its offsets, or want of memory
abbrev pub AnswersLeftAfter : Declarations → Environment → ℤ → ℕ → Contract
    → Result (Rc SharedContr Global) FlowErr → Type 0
AnswersLeftAfter d fixings first days c (Ok rest) =
    IsLeftAfter d fixings first days c (shared rest.value) × StoresOffsets rest.value
AnswersLeftAfter d fixings first days c (Err e) = e ≡ lacks_memory

-- a contract that c, which stands on a day, is reduced to: accepted, paying the same from that day
-- on, and without redexes. Of nothing it is nothing. No other contract is it.
pub record IsReducedFrom (d : Declarations) (fixings : Environment) (day : ℤ)
    (c rest : Contract) : Type 0 where
  pub exact : rest ≡ reduced d fixings day c
  pub accepted : IsAccepted d rest
  pub carries : Carries d c day fixings 0 rest
  pub reduced : IsReduced d rest fixings day
  pub gone : c ≡ Zero → rest ≡ Zero
  pub closed : IsClosed d c → IsClosed d rest
  pub literals : HasLiteralsIn rest
