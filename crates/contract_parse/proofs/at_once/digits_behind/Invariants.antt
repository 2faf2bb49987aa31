use Rattle.std.proofs.Common.{◌≡◌, ◌+◌, ◌^◌, ◌≤◌, length}
use Rattle.contract_parse.specs.AtOnce.{after_digits, number_written}
use Rattle.contract_parse.proofs.at_once.digits_behind.Given as goal

abbrev pub invariant-loop-rest : goal.invariant-loop-rest
invariant-loop-rest l =
    (number_written l.number l.rest ≡ number_written l.fn.before l.fn.bytes) × (after_digits l.rest ≡ after_digits l.fn.bytes) × (length l.rest ≤ length l.fn.bytes)
    × (l.fn.before ≤ 10 ^ 18 + 9 → l.number ≤ 10 ^ 18 + 9)

abbrev pub decreases-loop-rest : goal.decreases-loop-rest
decreases-loop-rest l = length l.rest
