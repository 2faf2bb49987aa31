use Rattle.term_model.specs.Declarations.{declarations}
use Rattle.fixing_files.specs.Tables.{table_of}
use Rattle.fixing_files.proofs.FrontFacts.{ReadsOn}
use Rattle.fixing_files.proofs.tables.gather.Given as goal

abbrev pub invariant-loop-read : goal.invariant-loop-read
invariant-loop-read l = ReadsOn (declarations l.fn.decls) (table_of l.fn.bytes) l.reader l.read l.runs.items
