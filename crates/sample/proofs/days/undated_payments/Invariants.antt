use Rattle.std.proofs.Common.{◌≡◌, map, take}
use Rattle.sample.specs.Days.{undated}
use Rattle.sample.proofs.days.undated_payments.Given as goal

abbrev pub invariant-loop-row : goal.invariant-loop-row
invariant-loop-row l = l.payments.items ≡ map undated (take l.row-index l.rows)
