use Rattle.std.proofs.Common.{◌∷◌}
use Rattle.term_model.specs.Declarations.{declarations}
use Rattle.fixing_files.specs.PlainRows.{IsFront, rows_of}
use Rattle.fixing_files.specs.Records.{header}
use Rattle.fixing_files.proofs.fronts.plain_front.Given as goal

abbrev pub invariant-loop-records : goal.invariant-loop-records
invariant-loop-records l =
    IsFront (declarations l.fn.decls) (header ∷ rows_of l.fn.rows) l.records l.runs.items (rows_of l.rest)
