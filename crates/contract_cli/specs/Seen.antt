-- What a run sees of files and leaves in a sink.
use Rattle.std.specs.Prelude.{◌≡◌, ◌≢◌, ◌≤◌, ◌<◌, ℕ, List, Option, IfSome, IsSome, length, take}
use Rattle.std.specs.List.{All}
use Rattle.std.specs.Io.KnownBytes.{Appends, Keeps}
use Rattle.edge_io.specs.Counts.{Rose}

-- the greatest length of a file, in bytes
abbrev pub longest_file : ℕ
longest_file = 16_777_216

-- what a run sees of files, by name: their contents, where those are told, and the counts of their faults before and
-- after it
pub record FilesSeen : Type 0 where
  pub contents : List ℕ → Option (List ℕ)
  pub faults_before : List ℕ → ℕ
  pub faults_after : List ℕ → ℕ

-- the files as a run sees them, from what they hold and the counts before and after it
abbrev pub seen : (List ℕ → Option (List ℕ)) → (List ℕ → ℕ) → (List ℕ → ℕ) → FilesSeen
seen contents before after = record { contents = contents; faults_before = before; faults_after = after }

-- what a run leaves in a sink: the bytes taken, where those are told, and the counts of its faults before and after it
pub record SinkLeft : Type 0 where
  pub taken_before : Option (List ℕ)
  pub taken_after : Option (List ℕ)
  pub faults_before : ℕ
  pub faults_after : ℕ

-- the sink as a run leaves it
abbrev pub sink_left : Option (List ℕ) → Option (List ℕ) → ℕ → ℕ → SinkLeft
sink_left taken_before taken_after faults_before faults_after =
    record { taken_before = taken_before; taken_after = taken_after; faults_before = faults_before; faults_after = faults_after }

-- what a run meets: files, and a sink
pub record Edge : Type 0 where
  pub files : FilesSeen
  pub sink : SinkLeft

-- the count of faults of a file rose
abbrev pub Failed : FilesSeen → List ℕ → Type 0
Failed files file = Rose (files.faults_before file) (files.faults_after file)

-- these bytes were read of a file: its contents, where they are told
pub record WasRead (contents : List ℕ → Option (List ℕ)) (file bytes : List ℕ) : Type 0 where
  pub told : IfSome (contents file) (λ all. bytes ≡ all)
  pub fits : length bytes ≤ longest_file

-- a file has more bytes than the limit, where its contents are told
abbrev pub IsLong : (List ℕ → Option (List ℕ)) → List ℕ → Type 0
IsLong contents file = IfSome (contents file) (λ all. longest_file < length all)

-- no count of faults falls, and that of a told file stays that is none of these
pub record CountsOnlyOf (names : List (List ℕ)) (files : FilesSeen) : Type 0 where
  pub later : (file : List ℕ) → files.faults_before file ≤ files.faults_after file
  pub others :
      (file : List ℕ) → All (λ name. file ≢ name) names → IsSome (files.contents file) → files.faults_after file ≡ files.faults_before file

-- nothing was written
abbrev pub WritesNothing : SinkLeft → Type 0
WritesNothing sink = Keeps sink.taken_before sink.taken_after

-- the whole text was written
abbrev pub WritesAll : SinkLeft → List ℕ → Type 0
WritesAll sink text = Appends sink.taken_before sink.taken_after text

-- a write failed, and a proper prefix of the text was written before it
abbrev pub WritesPart : SinkLeft → List ℕ → Type 0
WritesPart sink text =
    Rose sink.faults_before sink.faults_after
    × (written : ℕ) × (written < length text) × Appends sink.taken_before sink.taken_after (take written text)
