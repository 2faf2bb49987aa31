-- `migrate PORTFOLIO`: the portfolio of the text; and then its text in version 2, with all else equal.
use Rattle.std.specs.Prelude.{ℕ, List}
use Rattle.contract_print.specs.Canon.{IsCanon}
use Rattle.contract_print.specs.Migrated.{migrated}
use Rattle.command_courses.specs.Course.{Course, behind, tells}
use Rattle.command_courses.specs.Inputs.{file_at}
use Rattle.used_contracts.specs.Portfolios.{portfolio_of}

abbrev pub migrate_of_text : List ℕ → Course
migrate_of_text text =
    behind (portfolio_of text) (λ b.
    tells (λ out. IsCanon out (migrated b)))

abbrev pub migrate_course : List (List ℕ) → Course
migrate_course inputs = migrate_of_text (file_at inputs 0)
