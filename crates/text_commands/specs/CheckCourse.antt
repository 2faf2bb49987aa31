-- `check PORTFOLIO`: the portfolio of the text; and then a line for each contract, whether all are accepted or not.
use Rattle.std.specs.Prelude.{ℕ, List, None}
use Rattle.text_commands.specs.CheckPromise.{AreCheckLines, Verdict}
use Rattle.command_courses.specs.Course.{Course, behind, ends}
use Rattle.command_courses.specs.Inputs.{file_at}
use Rattle.used_contracts.specs.Portfolios.{portfolio_of}
use Rattle.used_contracts.specs.UsedContracts.{used}

abbrev pub check_course : List (List ℕ) → Course
check_course inputs =
    behind (portfolio_of (file_at inputs 0)) (λ b.
    ends (Verdict b) (AreCheckLines b.declarations (used None b)))
