use Rattle.std.proofs.Common.{take}
use Rattle.term_model.specs.Declarations.{declarations}
use Rattle.flow_commands.specs.NettingParts.{AppendsPositions}
use Rattle.flow_commands.proofs.netting.append_positions.Given as goal

abbrev pub invariant-loop-row : goal.invariant-loop-row
invariant-loop-row l = AppendsPositions (declarations l.decls) (take l.row-index l.positions.rows.items) l.initial.out.items l.out.items
