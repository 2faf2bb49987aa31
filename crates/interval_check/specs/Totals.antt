-- The program's totals as those of the trial, and what is known of one that passed it.
use Rattle.std.specs.Prelude.{ℕ, ◌≤◌, ◌^◌, Result, Ok, Err}
use Rattle.interval_check.specs.declared.totals.Total.{Total as Found}
use Rattle.interval_check.specs.TotalTrials.{Total, Answer, at_decimals}

abbrev pub total : Found → Total
total t = record { amount = t.amount; scale = t.scale }

abbrev pub total_found : Result Found ℕ → Answer
total_found (Ok t) = Ok (total t)
total_found (Err k) = Err k

-- at most 10^27, as it is and at the portfolio's decimals, and of no more decimals than those
pub record IsTotal (k : ℕ) (t : Found) : Type 0 where
  pub amount : t.amount ≤ 10 ^ 27
  pub scale : t.scale ≤ k
  pub aligned : at_decimals k (total t) ≤ 10 ^ 27
