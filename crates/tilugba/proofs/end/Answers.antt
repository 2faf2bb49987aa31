use Rattle.std.proofs.Common.{rules}
use Rattle.tilugba.proofs.end.Goals as goal

pub returns : goal.returns
returns g c = record { status = c.run-status.result; meets = c.run-status.ensures.meets; number = search rules }
