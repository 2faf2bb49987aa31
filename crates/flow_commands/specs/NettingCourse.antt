-- `positions PORTFOLIO [FIXINGS] [--until DAY]` and `settle PORTFOLIO [FIXINGS] [--until DAY]`: the stages of `flows` of all contracts;
-- and then the lines of what parties come to by the contracts' flow tables, or of payments that settle it.
use Rattle.std.specs.Prelude.{ℕ, true, List, Option, None}
use Rattle.term_model.specs.Books.{Book}
use Rattle.term_model.specs.Declarations.{Declarations}
use Rattle.flow_eval.specs.declared.flow_table.FlowTable.{FlowTable}
use Rattle.command_words.specs.Commands.{FlowsAsked, NettingAsked}
use Rattle.command_courses.specs.Course.{Course, behind, tells}
use Rattle.flow_commands.specs.FlowsCourse.{over_fixings}
use Rattle.command_courses.specs.Inputs.{table_if_named}
use Rattle.command_courses.specs.Inputs.{file_at}
use Rattle.flow_commands.specs.NettingPromise.{IsToldOfTables, TellsPositions, TellsSettlement}
use Rattle.used_contracts.specs.Portfolios.{portfolio_of}
use Rattle.used_contracts.specs.UsedContracts.{used}

-- `flows` of all contracts and their sum, of the same files to the same day
abbrev pub flows_of_all : NettingAsked → FlowsAsked
flows_of_all asked = record { portfolio = asked.portfolio; fixings = asked.fixings; until = asked.until; contract = None; net = true }

-- the course of a portfolio that tells something of the flow tables of all its contracts
abbrev pub netting_on : (Declarations → List FlowTable → List ℕ → Type 0) → NettingAsked → Book → Option (List ℕ) → Course
netting_on TellsOf asked b table =
    over_fixings None asked.until b table (λ last fixings.
    tells (IsToldOfTables TellsOf b.declarations fixings last (used None b)))

-- the same behind the portfolio of a text
abbrev pub netting_of_text : (Declarations → List FlowTable → List ℕ → Type 0) → NettingAsked → List ℕ → Option (List ℕ) → Course
netting_of_text TellsOf asked text table =
    behind (portfolio_of text) (λ b.
    netting_on TellsOf asked b table)

abbrev pub netting_course : (Declarations → List FlowTable → List ℕ → Type 0) → NettingAsked → List (List ℕ) → Course
netting_course TellsOf asked inputs = netting_of_text TellsOf asked (file_at inputs 0) (table_if_named asked.fixings inputs)

abbrev pub positions_course : NettingAsked → List (List ℕ) → Course
positions_course = netting_course TellsPositions

abbrev pub settle_course : NettingAsked → List (List ℕ) → Course
settle_course = netting_course TellsSettlement
