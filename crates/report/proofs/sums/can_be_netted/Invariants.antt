use Rattle.std.proofs.Common.{◌≡◌, ◌≤◌, ◌^◌, take}
use Rattle.report.proofs.RunningFacts.{total}
use Rattle.report.proofs.sums.can_be_netted.Given as goal

abbrev pub invariant-loop-payment : goal.invariant-loop-payment
invariant-loop-payment l = (l.size ≡ total (take l.payment-index l.payments)) × (l.size ≤ 10 ^ 36)
