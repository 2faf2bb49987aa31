use Rattle.std.proofs.Common.{take}
use Rattle.term_model.specs.Declarations.{declarations}
use Rattle.lifecycle_commands.specs.AdvanceParts.{AppendsComments}
use Rattle.lifecycle_commands.proofs.advance.append_comments.Given as goal

abbrev pub invariant-loop-row : goal.invariant-loop-row
invariant-loop-row l = AppendsComments (declarations l.decls) l.name (take l.row-index l.table.rows.items) l.initial.out.items l.out.items
