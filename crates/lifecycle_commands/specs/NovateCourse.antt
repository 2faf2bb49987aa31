-- `novate PORTFOLIO FIXINGS --to DAY --contract NAME --old PARTY --new PARTY`: the portfolio of the text; the name of a contract; a
-- declared party, and another; and then the stages of `advance`, what is due, and the text of what is left with the new party.
use Rattle.std.specs.Prelude.{ℕ, List, Option, Some}
use Rattle.term_model.specs.Books.{Book}
use Rattle.command_words.specs.Commands.{NovateAsked}
use Rattle.lifecycle_commands.specs.AdvanceCourse.{to_a_day}
use Rattle.command_courses.specs.Course.{Course, behind, tells}
use Rattle.command_courses.specs.Inputs.{file_at}
use Rattle.lifecycle_commands.specs.NovatePromise.{IsNovated}
use Rattle.used_contracts.specs.Portfolios.{known, portfolio_of}
use Rattle.lifecycle_commands.specs.LifecycleStages.{party_named}

abbrev pub novate_on : NovateAsked → Book → Option (List ℕ) → Course
novate_on asked b table =
    behind (known b (Some asked.contract)) (λ _.
    behind (party_named b.declarations asked.old) (λ old.
    behind (party_named b.declarations asked.new) (λ new.
    to_a_day asked.advance.to b table (λ day fixings.
    tells (IsNovated asked.contract old new b day fixings)))))

abbrev pub novate_course : NovateAsked → List (List ℕ) → Course
novate_course asked inputs =
    behind (portfolio_of (file_at inputs 0)) (λ b.
    novate_on asked b (Some (file_at inputs 1)))
