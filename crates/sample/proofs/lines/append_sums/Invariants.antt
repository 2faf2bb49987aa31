use Rattle.std.proofs.Common.{◌≡◌, ◌++◌, take}
use Rattle.std.specs.List.{flat_map}
use Rattle.term_model.specs.Declarations.{declarations}
use Rattle.sample.specs.Summary.{sum_line}
use Rattle.sample.proofs.lines.append_sums.Given as goal

abbrev pub invariant-loop-row : goal.invariant-loop-row
invariant-loop-row l = l.out.items ≡ l.initial.out.items ++ flat_map (sum_line (declarations l.decls)) (take l.row-index l.rows)
