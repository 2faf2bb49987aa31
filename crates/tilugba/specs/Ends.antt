-- How the program ends: with the number of the status of its run.
use Rattle.std.specs.Prelude.{◌≡◌, ℕ, List}
use Rattle.std.specs.Process.{exit_status}
use Rattle.std.specs.declared.process.ExitCode.{ExitCode}
use Rattle.command_courses.specs.Statuses.{number_of}
use Rattle.command_courses.specs.declared.status.Status.{Status}
use Rattle.contract_cli.specs.RunPromise.{Meets}
use Rattle.contract_cli.specs.Seen.{Edge}

-- the exit status is the number of a status with which the run of these words ends
pub record EndsWithStatus (words : List (List ℕ)) (edge : Edge) (code : ExitCode) : Type 0 where
  pub status : Status
  pub meets : Meets words edge status
  pub number : exit_status code ≡ number_of status
