use Rattle.std.proofs.Common.{◌≡◌, length}
use Rattle.fixing_files.specs.Curves.{rows_of}
use Rattle.fixing_files.specs.CurveSteps.{IsFront}
use Rattle.fixing_files.specs.Readers.{HasRead}
use Rattle.fixing_files.specs.Tables.{Table}
use Rattle.fixing_files.proofs.curve_tables.read_curve.Given as goal

abbrev pub invariant-loop-read : goal.invariant-loop-read
invariant-loop-read l = (t : Table) × HasRead l.fn.bytes t l.reader × (l.read ≡ length t) × IsFront t (rows_of l.steps.items)
