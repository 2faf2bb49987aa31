use Rattle.std.proofs.Common.{◌≡◌, ◌++◌, map, take}
use Rattle.report.specs.SumTables.{payment_of}
use Rattle.report.proofs.sums.append_payments.Given as goal

abbrev pub invariant-loop-row : goal.invariant-loop-row
invariant-loop-row l = l.out.items ≡ l.initial.out.items ++ map payment_of (take l.row-index l.rows)
