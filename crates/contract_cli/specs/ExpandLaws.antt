-- Laws of what `expand` prints of a schedule file. It is a text of the portfolio of the contracts that the plans are written
-- for, in the order of the plans, of which each is accepted and pays what its plan says; so `check` accepts it; and what
-- `flows` prints of that text are the lines of what the plans themselves pay.
use Rattle.std.specs.Prelude.{◌≡◌, ◌-ℤ◌, ◌-◌, ℕ, ℤ, pos, Bool, true, false, List, [], ◌∷◌, ◌++◌, Option, codes, map}
use Rattle.std.specs.List.{filter}
use Rattle.decimal.specs.Rounding.{raised}
use Rattle.term_model.specs.declared.name.Name.{Name}
use Rattle.term_model.specs.Declarations.{Declarations}
use Rattle.term_model.specs.Environments.{Environment, Extends}
use Rattle.term_model.specs.Flows.{Flow}
use Rattle.flow_eval.specs.Tables.{IsTable}
use Rattle.flow_eval.specs.declared.flow_table.FlowRow.{FlowRow}
use Rattle.report.specs.SumTables.{together}
use Rattle.schedule_forms.specs.PlanBooks.{PlanBook}
use Rattle.schedule_forms.specs.PlanFlows.{plan_flow, scale_of_plan}
use Rattle.schedule_forms.specs.declared.plans.Plan.{Plan}
use Rattle.command_words.specs.Commands.{Check, Expand, Flows, FlowsAsked, files_of}
use Rattle.flow_commands.specs.FlowsCourse.{table_named}
use Rattle.command_courses.specs.FixingTables.{AreFixings}
use Rattle.flow_commands.specs.FlowsPromise.{AreLines, IsLastDay}
use Rattle.used_contracts.specs.UsedContracts.{is_asked}
use Rattle.command_courses.specs.declared.status.Status.{Status}
use Rattle.command_courses.specs.declared.status.Status.TheVariants as status
use Rattle.contract_cli.specs.Headline.{HasExpanded}
use Rattle.contract_cli.specs.Reading.{WereRead}
use Rattle.contract_cli.specs.RunLaws.{IsOrNoMemory, IsReadWhole}
use Rattle.contract_cli.specs.RunPromise.{Meets, Names}
use Rattle.contract_cli.specs.Seen.{Edge, WritesAll}
use Rattle.contract_cli.specs.TwoRuns.{Passes}

-- ---- what `expand` has printed

-- `expand` has printed a portfolio
pub record Expands (words : List (List ℕ)) (edge : Edge) (file : List ℕ) : Type 0 where
  pub named : Names words (Expand file)
  pub done : Meets words edge status.Done

abbrev pub ExpandedTextsAreTexts : Type 0
ExpandedTextsAreTexts = (words : List (List ℕ)) (edge : Edge) (file : List ℕ) → Expands words edge file → HasExpanded edge file

-- ---- `expand`, and then `check`

-- `check` accepts each contract of what `expand` has printed: it ends well, or for want of memory
abbrev pub ExpandedTextsAreAccepted : Type 0
ExpandedTextsAreAccepted =
    (words more : List (List ℕ)) (first second : Edge) (s : Status) (file «from» : List ℕ) (inputs : List (List ℕ))
    → Expands words first file → Meets more second s → IsReadWhole more second (Check «from») inputs
    → Passes first second «from» → IsOrNoMemory status.Done s

-- ---- `expand`, and then `flows`

-- what a plan pays on a day, at the decimals of amounts, where it stands on the start
abbrev pub paid_as_planned : Declarations → Plan → Environment → ℤ → Flow → ℤ
paid_as_planned d plan env day w =
    raised (plan_flow d plan env (pos d.start) (day -ℤ pos d.start) w) (d.amounts - scale_of_plan plan)

-- the lines of what a plan pays up to a last day, the same in every environment that extends the fixings
pub record ArePlanLines (d : Declarations) (fixings : Environment) (last : ℤ)
    (name : List ℕ) (plan : Plan) (text : List ℕ) : Type 0 where
  pub rows : List FlowRow
  pub table : (env : Environment) → Extends fixings env → IsTable (paid_as_planned d plan env) (pos d.start) last rows
  pub lines : AreLines d name rows text

-- the lines of plans, one plan after another
abbrev pub AreLinesOfPlans : Declarations → Environment → ℤ → List (Name × Plan) → List ℕ → Type 0
AreLinesOfPlans d fixings last [] text = text ≡ []
AreLinesOfPlans d fixings last (entry ∷ entries) text =
    (first : List ℕ) × (rest : List ℕ) × ArePlanLines d fixings last entry.0 entry.1 first
    × AreLinesOfPlans d fixings last entries rest × (text ≡ first ++ rest)

-- what plans pay together
abbrev pub planned_together : Declarations → List (Name × Plan) → Environment → ℤ → Flow → ℤ
planned_together d entries env = together (map (λ entry. paid_as_planned d entry.1 env) entries)

-- the lines of what plans pay together, under the name *
pub record AreSumsOfPlans (d : Declarations) (fixings : Environment) (last : ℤ)
    (entries : List (Name × Plan)) (text : List ℕ) : Type 0 where
  pub rows : List FlowRow
  pub table : (env : Environment) → Extends fixings env → IsTable (planned_together d entries env) (pos d.start) last rows
  pub lines : AreLines d (codes "*") rows text

-- the lines of plans, or of their sum
abbrev pub ArePlanLinesAsked : Bool → Declarations → Environment → ℤ → List (Name × Plan) → List ℕ → Type 0
ArePlanLinesAsked false d fixings last entries text = AreLinesOfPlans d fixings last entries text
ArePlanLinesAsked true d fixings last entries text = AreSumsOfPlans d fixings last entries text

-- the plans that are asked for: the one of a name, or all
abbrev pub plans_asked : Option (List ℕ) → PlanBook → List (Name × Plan)
plans_asked only plans = filter (λ entry. is_asked only entry.0) plans.plans

-- `flows` has printed lines
pub record Lists (words : List (List ℕ)) (edge : Edge) (asked : FlowsAsked) : Type 0 where
  pub named : Names words (Flows asked)
  pub done : Meets words edge status.Done

-- the lines that `flows` has written of what `expand` has printed are those of the plans that are asked for, over the fixings
-- and to the last day that its words ask for
pub record ListsPlans (first : Edge) (file : List ℕ) (second : Edge) (asked : FlowsAsked) : Type 0 where
  pub expanding : HasExpanded first file
  pub inputs : List (List ℕ)
  pub read : WereRead second.files.contents (files_of (Flows asked)) inputs
  pub last : ℤ
  pub is_last : IsLastDay expanding.plans.declarations asked.until last
  pub fixings : Environment
  pub are_fixings : AreFixings expanding.plans.declarations (table_named asked inputs) fixings
  pub text : List ℕ
  pub lines :
      ArePlanLinesAsked asked.net expanding.plans.declarations fixings last (plans_asked asked.contract expanding.plans) text
  pub written : WritesAll second.sink text

abbrev pub ExpandedPlansAreListed : Type 0
ExpandedPlansAreListed =
    (words more : List (List ℕ)) (first second : Edge) (file : List ℕ) (asked : FlowsAsked)
    → Expands words first file → Lists more second asked → Passes first second asked.portfolio → ListsPlans first file second asked
