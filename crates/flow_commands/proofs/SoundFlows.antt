-- The courses of `flows`, `positions` and `settle` are sound: their stages exclude one another, what passes on something else has a
-- course that is alike, and their statuses are those of commands.
use Rattle.std.proofs.Common.{◌≡◌, ℕ, ℤ, List}
use Rattle.std.specs.Prelude.{Option, None}
use Rattle.term_model.specs.Books.{Book}
use Rattle.term_model.specs.Declarations.{Declarations}
use Rattle.term_model.specs.Environments.{Environment}
use Rattle.contract_parse.proofs.OneText.{one_text}
use Rattle.flow_eval.specs.declared.flow_table.FlowTable.{FlowTable}
use Rattle.command_words.specs.Commands.{FlowsAsked, NettingAsked}
use Rattle.command_courses.specs.Course.{Course, behind, tells}
use Rattle.command_courses.specs.FixingTables.{fixed_by}
use Rattle.command_courses.specs.Inputs.{file_at, table_if_named}
use Rattle.command_courses.specs.declared.status.Status.TheVariants as status
use Rattle.command_courses.proofs.CourseFacts.{Alike, OfCommand, Sound, alike_ends, one_next, onward, sound_tells}
use Rattle.command_courses.proofs.FixingFacts.{hold_same}
use Rattle.command_courses.proofs.StageFacts.{fixed_by_is}
use Rattle.used_contracts.specs.AllAccepted.{all_accepted}
use Rattle.used_contracts.specs.AllFixed.{all_fixed}
use Rattle.used_contracts.specs.Portfolios.{known, portfolio_of}
use Rattle.used_contracts.specs.UsedContracts.{used}
use Rattle.used_contracts.proofs.StageFacts.{all_accepted_is, all_fixed_is, fixed_alike, known_is, portfolio_is}
use Rattle.flow_commands.specs.FlowsCourse.{flows_course, flows_on, over_fixings, table_named}
use Rattle.flow_commands.specs.FlowsPromise.{AreLinesAsked}
use Rattle.flow_commands.specs.FlowsStages.{last_day}
use Rattle.flow_commands.specs.NettingCourse.{netting_course, netting_on}
use Rattle.flow_commands.specs.NettingPromise.{IsToldOfTables}
use Rattle.flow_commands.proofs.LastDayFacts.{last_day_is, one_last}

-- any command that lists what contracts pay to a last day, whatever it tells of it
sound_over : (only until : Option (List ℕ)) (b : Book) (table : Option (List ℕ)) (next : ℤ → Environment → Course)
    → ((last : ℤ) (one other : Environment) → Alike (next last one) (next last other))
    → ((last : ℤ) (fixings : Environment) → Sound OfCommand (next last fixings)) → Sound OfCommand (over_fixings only until b table next)
sound_over only until b table next alike sound =
    let entries = used only b in
    let d = b.declarations in
    onward OfCommand (known b only) _ tt (known_is b only)
    (one_next OfCommand ℤ (last_day d until) _ tt (last_day_is d until) (one_last d until) (λ last p.
    onward OfCommand (all_accepted d entries) (behind (fixed_by d table 2) (λ fixings. behind (all_fixed d fixings last entries) (λ _. next last fixings))) tt (all_accepted_is d entries) (
      tt,
      fixed_by_is d table 2,
      λ one other h k. fixed_alike d last entries one other (next last one) (next last other) (hold_same d table one other h k) (alike last one other),
      λ fixings h. onward OfCommand (all_fixed d fixings last entries) (next last fixings) tt (all_fixed_is d entries fixings last) (sound last fixings),
    )))

sound_flows : (asked : FlowsAsked) (b : Book) (table : Option (List ℕ)) → Sound OfCommand (flows_on asked b table)
sound_flows asked b table =
    let IsText : ℤ → Environment → List ℕ → Type 0 = λ last fixings. AreLinesAsked asked.net b.declarations fixings last (used asked.contract b) in
    sound_over asked.contract asked.until b table (λ last fixings. tells (IsText last fixings)) (λ last one other. alike_ends (λ s. s ≡ status.Done) (IsText last one) (IsText last other))
    (λ last fixings. sound_tells (IsText last fixings))

-- whatever is told of the flow tables of all contracts
sound_netting : (TellsOf : Declarations → List FlowTable → List ℕ → Type 0) (asked : NettingAsked) (b : Book) (table : Option (List ℕ)) → Sound OfCommand (netting_on TellsOf asked b table)
sound_netting TellsOf asked b table =
    let IsText : ℤ → Environment → List ℕ → Type 0 = λ last fixings. IsToldOfTables TellsOf b.declarations fixings last (used None b) in
    sound_over None asked.until b table (λ last fixings. tells (IsText last fixings)) (λ last one other. alike_ends (λ s. s ≡ status.Done) (IsText last one) (IsText last other))
    (λ last fixings. sound_tells (IsText last fixings))

pub sound_flows_course : (asked : FlowsAsked) (inputs : List (List ℕ)) → Sound OfCommand (flows_course asked inputs)
sound_flows_course asked inputs =
    let bytes = file_at inputs 0 in
    one_next OfCommand Book (portfolio_of bytes) _ tt (portfolio_is bytes) (one_text bytes) (λ b p. sound_flows asked b (table_named asked inputs))

pub sound_netting_course : (TellsOf : Declarations → List FlowTable → List ℕ → Type 0) (asked : NettingAsked) (inputs : List (List ℕ)) → Sound OfCommand (netting_course TellsOf asked inputs)
sound_netting_course TellsOf asked inputs =
    let bytes = file_at inputs 0 in
    one_next OfCommand Book (portfolio_of bytes) _ tt (portfolio_is bytes) (one_text bytes) (λ b p. sound_netting TellsOf asked b (table_if_named asked.fixings inputs))
