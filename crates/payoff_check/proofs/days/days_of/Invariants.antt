use Rattle.std.proofs.Common.{◌≡◌, ◌≤◌, ◌+◌, ◌*◌, ◌^◌, ℕ, List, drop}
use Rattle.payoff_terms.specs.TemplateDates.{sum_at}
use Rattle.payoff_check.proofs.days.days_of.Given as goal

pub record IsSumSoFar (xs names : List ℕ) (i total : ℕ) : Type 0 where
  pub sum : total + sum_at xs (drop i names) ≡ sum_at xs names
  pub few : total ≤ i * 2 ^ 32

abbrev pub invariant-loop-i : goal.invariant-loop-i
invariant-loop-i l = IsSumSoFar l.setting l.names l.i l.total
