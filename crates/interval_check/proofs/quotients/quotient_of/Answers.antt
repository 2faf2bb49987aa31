use Rattle.std.proofs.Common.{sym, arith}
use Rattle.std.proofs.lemmas.Int.{ints}
use Rattle.interval_check.proofs.QuotientFacts.{divided_by_zero}
use Rattle.interval_check.proofs.quotients.quotient_of.Goals as goal

pub returns-then-b-eq0 : goal.returns-then-b-eq0
returns-then-b-eq0 c =
    sym (divided_by_zero c.args.by.mode c.args.a c.args.by.top c.args.b c.args.by.below c.args.by.scale (omega (arith, ints)))
