use Rattle.std.proofs.Common.{◌≡◌}
use Rattle.fixing_files.specs.Words.{BeginsWithDigits}
use Rattle.fixing_files.proofs.numerals.count_digits.Given as goal

abbrev pub invariant-loop-b : goal.invariant-loop-b
invariant-loop-b l = (l.count ≡ l.b-index) × BeginsWithDigits l.fn.before l.text l.number l.count
