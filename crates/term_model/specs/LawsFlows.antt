-- Laws of amounts that follow from the definitions alone: what one party pays the other receives, nothing is paid before
-- the contract stands or from its horizon on, and the horizon is at most a day past the reach.
use Rattle.std.specs.Prelude.{ℤ, pos, neg_ℤ, ◌<ℤ◌, ◌≤ℤ◌, ◌≡◌, ◌≤◌, ◌+◌}
use Rattle.term_model.specs.Declarations.{Declarations}
use Rattle.term_model.specs.Terms.{Contract}
use Rattle.term_model.specs.Environments.{Environment}
use Rattle.term_model.specs.Flows.{Flow, amount_of}
use Rattle.term_model.specs.Horizons.{horizon_of}
use Rattle.term_model.specs.Sizes.{reach}

-- the other way
abbrev pub reversed : Flow → Flow
reversed w = record { from = w.to; to = w.from; asset = w.asset }

-- the amount from q to p is the negative of that from p to q
abbrev pub AmountsAreOpposite : Type 0
AmountsAreOpposite =
    (d : Declarations) (c : Contract) (env : Environment) (f n : ℤ) (w : Flow)
    → amount_of d c env f n (reversed w) ≡ neg_ℤ (amount_of d c env f n w)

-- the amount is 0 on every own day at or after the horizon
abbrev pub AmountsEndAtHorizon : Type 0
AmountsEndAtHorizon =
    (d : Declarations) (c : Contract) (env : Environment) (f n : ℤ) (w : Flow) → pos (horizon_of c) ≤ℤ n → amount_of d c env f n w ≡ pos 0

-- the amount is 0 on every own day below 0
abbrev pub AmountsBeginAtZero : Type 0
AmountsBeginAtZero =
    (d : Declarations) (c : Contract) (env : Environment) (f n : ℤ) (w : Flow) → n <ℤ pos 0 → amount_of d c env f n w ≡ pos 0

-- what is paid is paid at the latest on the day of the reach
abbrev pub HorizonIsWithinReach : Type 0
HorizonIsWithinReach = (c : Contract) → horizon_of c ≤ reach c + 1
