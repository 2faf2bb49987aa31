-- The line of a verdict: `NAME accepted start S scale N total T horizon H`, with the start as a whole number or
-- `always` and the total at the portfolio's decimals; or `NAME refused RULE node N`.
use Rattle.std.specs.Prelude.{ℕ, ℤ, List, [], ◌∷◌, ◌++◌, Option, Some, None, Result, Ok, Err, codes}
use Rattle.decimal.specs.Text.{text_of}
use Rattle.term_model.specs.declared.rules.Rule.{Rule}
use Rattle.term_model.specs.declared.rules.Rule.TheVariants.{Sort, Time, Scale, Size, Bound}
use Rattle.term_model.specs.declared.rules.RuleFault.{RuleFault}
use Rattle.time_types.specs.Starts.{start_day}
use Rattle.report.specs.Pieces.{number_text}
use Rattle.contract_check.specs.declared.checks.Facts.{Facts}

abbrev pub rule_text : Rule → List ℕ
rule_text Sort = codes "sort"
rule_text Time = codes "time"
rule_text Scale = codes "scale"
rule_text Size = codes "size"
rule_text Bound = codes "bound"

abbrev pub start_text : Option ℤ → List ℕ
start_text None = codes "always"
start_text (Some day) = text_of day 0

-- the end of a line
abbrev pub line_feed : List ℕ
line_feed = 10 ∷ []

-- of a named contract with these facts, in a portfolio of so many decimals
abbrev pub accepted_line : ℕ → List ℕ → Option ℤ → ℕ → ℤ → ℕ → List ℕ
accepted_line amounts name start scale total horizon =
    name ++ (codes " accepted start " ++ (start_text start ++ (codes " scale " ++ (number_text scale
    ++ (codes " total " ++ (text_of total amounts ++ (codes " horizon " ++ (number_text horizon ++ line_feed))))))))

-- which rule refuses a contract, and at which node
abbrev pub refusal_text : Rule → ℕ → List ℕ
refusal_text rule node = rule_text rule ++ (codes " node " ++ (number_text node ++ line_feed))

abbrev pub refused_line : List ℕ → Rule → ℕ → List ℕ
refused_line name rule node = name ++ (codes " refused " ++ refusal_text rule node)

abbrev pub verdict_line : ℕ → List ℕ → Result Facts RuleFault → List ℕ
verdict_line amounts name (Ok facts) = accepted_line amounts name (start_day facts.start) facts.scale facts.total facts.horizon
verdict_line amounts name (Err fault) = refused_line name fault.rule fault.node
