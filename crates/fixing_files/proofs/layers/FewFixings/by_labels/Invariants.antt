use Rattle.std.proofs.Common.{map}
use Rattle.fixing_files.specs.Layers.{HoldSame, entry_held}
use Rattle.fixing_files.proofs.layers.FewFixings.by_labels.Given as goal

abbrev pub invariant-loop-place : goal.invariant-loop-place
invariant-loop-place l = HoldSame l.fixings (map entry_held l.yielded)
