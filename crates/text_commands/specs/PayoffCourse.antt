-- `payoff PORTFOLIO --contract NAME [--plain]`: the portfolio of the text; the contract of the name; that it is accepted at the
-- defaults; and then the text of its code.
use Rattle.std.specs.Prelude.{ℕ, List}
use Rattle.term_model.specs.Books.{Book}
use Rattle.term_model.specs.Declarations.{Declarations}
use Rattle.term_model.specs.Terms.{Contract}
use Rattle.payoff_lang.specs.CodeCanon.{IsCanonOfCode}
use Rattle.command_words.specs.Commands.{PayoffAsked}
use Rattle.command_courses.specs.Course.{Course, behind, tells}
use Rattle.command_courses.specs.Inputs.{file_at}
use Rattle.text_commands.specs.PayoffPromise.{code_file_of}
use Rattle.text_commands.specs.PayoffStages.{accepted_at_defaults, named}
use Rattle.used_contracts.specs.Portfolios.{portfolio_of}

-- of a contract of the name
abbrev pub payoff_of : PayoffAsked → Declarations → Contract → Course
payoff_of asked d c =
    behind (accepted_at_defaults d asked.contract c) (λ _.
    tells (λ text. IsCanonOfCode text (code_file_of d asked c)))

-- of a portfolio
abbrev pub payoff_on : PayoffAsked → Book → Course
payoff_on asked b =
    behind (named b asked.contract) (λ c.
    payoff_of asked b.declarations c)

-- of a portfolio's text
abbrev pub payoff_of_text : PayoffAsked → List ℕ → Course
payoff_of_text asked text =
    behind (portfolio_of text) (λ b.
    payoff_on asked b)

abbrev pub payoff_course : PayoffAsked → List (List ℕ) → Course
payoff_course asked inputs = payoff_of_text asked (file_at inputs 0)
