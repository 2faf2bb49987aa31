use Rattle.std.proofs.Common.{◌++◌, take}
use Rattle.fixing_files.specs.Layers.{HoldSame, entries_held}
use Rattle.fixing_files.proofs.layers.joined.Given as goal

abbrev pub invariant-loop-entry : goal.invariant-loop-entry
invariant-loop-entry l = HoldSame (entries_held l.all.entries) (entries_held (take l.entry-index l.risen) ++ entries_held l.fn.others.entries)
