use Rattle.std.proofs.Common.{◌≡◌, length}
use Rattle.term_model.specs.Declarations.{declarations}
use Rattle.fixing_files.specs.Readers.{HasRead}
use Rattle.fixing_files.specs.Tables.{Table, table_of}
use Rattle.scenario_set.specs.Rising.{Rises}
use Rattle.scenario_set.proofs.rising.gather.Given as goal

abbrev pub invariant-loop-read : goal.invariant-loop-read
invariant-loop-read l = (t : Table) × HasRead l.fn.bytes t l.reader × (l.read ≡ length t)
    × Rises (declarations l.fn.decls) (table_of l.fn.bytes) l.read l.rising
