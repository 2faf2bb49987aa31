use Rattle.std.proofs.Common.{◌≡◌, ◌≤◌, ℕ, List, length, take}
use Rattle.clap.specs.Walk.{texts}
use Rattle.command_courses.specs.Inputs.{bytes_of}
use Rattle.contract_cli.specs.Reading.{WereRead}
use Rattle.contract_cli.specs.Seen.{CountsOnlyOf, seen}
use Rattle.contract_cli.proofs.reading.read_files.Given as goal

abbrev pub invariant-loop-i : goal.invariant-loop-i
invariant-loop-i g l =
    WereRead (g.F.Files.contents l.initial.files) (take l.i (texts l.names)) (bytes_of l.inputs.items)
    × (length l.names ≤ 255)
    × ((other : List ℕ) → g.F.Files.contents l.files other ≡ g.F.Files.contents l.initial.files other)
    × CountsOnlyOf (texts l.names) (seen (g.F.Files.contents l.initial.files) (g.F.Files.faults l.initial.files) (g.F.Files.faults l.files))
