-- How a call ends that runs a command over lent words, files and room for the text.
use Rattle.std.specs.Prelude.{◌≡◌, ◌<◌, ◌≤◌, ℕ, List, [], ◌++◌, Some, IsSome, length, drop}
use Rattle.std.specs.List.{All}
use Rattle.std.specs.Str.{IsUtf8}
use Rattle.command_courses.specs.Statuses.{number_of}
use Rattle.command_courses.specs.declared.status.Status.{Status}
use Rattle.contract_cli.specs.Headline.{Headline}
use Rattle.contract_cli.specs.RunPromise.{Meets}
use Rattle.contract_cli.specs.Seen.{Edge, seen, sink_left}
use Rattle.in_process.specs.declared.lent.NamedBytes.{NamedBytes}
use Rattle.in_process.specs.Lent.{contents_in, faults_in}

-- the text stands at the front of the room if it fits there, and else the room is as it was
pub record IsHandedOut (text old new : List ℕ) : Type 0 where
  pub fits : length text ≤ length old → new ≡ text ++ drop (length text) old
  pub past : length old < length text → new ≡ old

-- what a run meets over lent files and a text that was empty: so many reads of each name have failed, and no write
abbrev pub edge_over : List NamedBytes → (List ℕ → ℕ) → List ℕ → Edge
edge_over files failed text = record {
  files = seen (contents_in files) (faults_in files 0) failed;
  sink = sink_left (Some []) (Some text) 0 0;
}

-- the command has run, no read of a lent file and no write has failed, and its text is handed out
pub record HasRun (words : List (List ℕ)) (files : List NamedBytes) (old new : List ℕ) (count code : ℕ) : Type 0 where
  pub status : Status
  pub text : List ℕ
  pub failed : List ℕ → ℕ
  pub unfailing : (name : List ℕ) → IsSome (contents_in files name) → failed name ≡ 0
  pub meets : Meets words (edge_over files failed text) status
  pub headline : Headline words (edge_over files failed text) status
  pub number : code ≡ number_of status
  pub counted : count ≡ length text
  pub handed : IsHandedOut text old new

-- how the call ends: the command has run; or memory ran out; or a word is not UTF-8
pub data Ends (words : List (List ℕ)) (files : List NamedBytes) (old new : List ℕ) (count code : ℕ) : Type 0 where
  ran : HasRun words files old new count code → Ends words files old new count code
  lacking : code ≡ 9 → count ≡ 0 → new ≡ old → Ends words files old new count code
  no_text : code ≡ 13 → count ≡ 0 → new ≡ old → (All IsUtf8 words → ⊥) → Ends words files old new count code
