use Rattle.std.proofs.Common.{take}
use Rattle.term_model.specs.Declarations.{declarations}
use Rattle.flow_commands.specs.FlowsParts.{AppendsLines}
use Rattle.flow_commands.proofs.flows.append_table.Given as goal

abbrev pub invariant-loop-row : goal.invariant-loop-row
invariant-loop-row l = AppendsLines (declarations l.decls) l.name (take l.row-index l.table.rows.items) l.initial.out.items l.out.items
