use Rattle.std.proofs.Common.{rules, refl}
use Rattle.interval_check.specs.Ranges.{range}
use Rattle.interval_check.proofs.SteadyFacts.{after_is}
use Rattle.interval_check.proofs.steady.after_days.Goals as goal

pub returns-then-fits_in : goal.returns-then-fits_in
returns-then-fits_in c =
    after_is (range c.args.start) (range c.args.next) _ c.args.days (search rules) refl (search rules) (search rules) (search rules) c.requires.start
