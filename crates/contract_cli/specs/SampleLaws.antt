-- A law of `sample`, whose promise is the summary of the crate `sample`: how a run of it ends.
use Rattle.std.specs.Prelude.{◌≡◌, ℕ, List}
use Rattle.edge_io.specs.Counts.{Rose}
use Rattle.sample.specs.Summary.{IsSummary}
use Rattle.command_words.specs.Commands.{Sample}
use Rattle.command_courses.specs.declared.status.Status.{Status}
use Rattle.command_courses.specs.declared.status.Status.TheVariants as status
use Rattle.contract_cli.specs.RunPromise.{Meets, Names}
use Rattle.contract_cli.specs.Seen.{Edge, WritesAll, WritesNothing}

-- `sample` ends with its summary written, or with a failed write, or for want of memory; it has no other status
pub data SampleEnds (edge : Edge) (count : ℕ) (s : Status) : Type 0 where
  summarized : s ≡ status.Done → (text : List ℕ) → IsSummary count text → WritesAll edge.sink text → SampleEnds edge count s
  unwritten : s ≡ status.WriteFault → Rose edge.sink.faults_before edge.sink.faults_after → SampleEnds edge count s
  no_memory : s ≡ status.NoMemory → WritesNothing edge.sink → SampleEnds edge count s

abbrev pub SampleHasThreeEnds : Type 0
SampleHasThreeEnds =
    (words : List (List ℕ)) (edge : Edge) (s : Status) (count : ℕ)
    → Meets words edge s → Names words (Sample count) → SampleEnds edge count s
