-- Rounds of reducing end. Then the whole of what is asked of a residual.
use Rattle.std.specs.Prelude.{ℕ, suc, ℤ, pos, ◌+ℤ◌, ◌≤◌, ◌<◌, ◌≡◌, ◌⊎◌}
use Rattle.term_model.specs.Declarations.{Declarations}
use Rattle.term_model.specs.Terms.{Contract, Zero}
use Rattle.term_model.specs.Environments.{Environment}
use Rattle.term_model.specs.Sizes.{reach}
use Rattle.term_model.specs.Residuals.{Carries}
use Rattle.term_model.specs.Redexes.{IsReduced}
use Rattle.term_model.specs.Acceptance.{IsAccepted}
use Rattle.advance_step.specs.LawsLeft.{IsLeftInAdmitted}
use Rattle.advance_step.specs.Reducing.{reduced_once, reduced_times}
use Rattle.rewriting.specs.Measures.{size_in}
use Rattle.specialise.specs.LawsAccepted.{WhereAccepted}

-- k is accepted, carries c, and is c if that is reduced, or smaller
abbrev pub IsRound : Declarations → Environment → ℤ → Contract → Contract → Type 0
IsRound d fixings f c k =
    IsAccepted d k × Carries d c f fixings 0 k × (((k ≡ c) × IsReduced d c fixings f) ⊎ (size_in k < size_in c))

-- k is accepted, carries c, and is reduced
abbrev pub IsReducedTo : Declarations → Environment → ℤ → Contract → Contract → Type 0
IsReducedTo d fixings f c k = IsAccepted d k × Carries d c f fixings 0 k × IsReduced d k fixings f

-- k is accepted, carries c over j + 1 days, is reduced on the day behind them, and is nothing past the reach of c
abbrev pub IsReducedRest : Declarations → Environment → ℤ → ℕ → Contract → Contract → Type 0
IsReducedRest d fixings f j c k =
    IsAccepted d k × Carries d c f fixings (suc j) k × IsReduced d k fixings (f +ℤ pos (suc j)) × (reach c ≤ j → k ≡ Zero)

abbrev pub ReducingOnce : Type 0
ReducingOnce =
    (d : Declarations) (fixings : Environment) (f : ℤ) (c : Contract)
    → WhereAccepted d fixings c (IsRound d fixings f c (reduced_once d fixings f c))

-- so after as many rounds as its size it is reduced
abbrev pub ReducingEnds : Type 0
ReducingEnds =
    (d : Declarations) (fixings : Environment) (f : ℤ) (c : Contract) (n : ℕ)
    → WhereAccepted d fixings c (size_in c ≤ n → IsReducedTo d fixings f c (reduced_times d fixings f n c))

-- what is left of an accepted contract after j + 1 days, whatever the environment that extends the fixings, and reduced
abbrev pub ResidualsHold : Type 0
ResidualsHold =
    (d : Declarations) (fixings : Environment) (f : ℤ) (c rest : Contract) (j n : ℕ)
    → WhereAccepted d fixings c (
    IsLeftInAdmitted d fixings c f j rest → size_in rest ≤ n
    → IsReducedRest d fixings f j c (reduced_times d fixings (f +ℤ pos (suc j)) n rest))
