-- The course of each command is sound: its stages exclude one another, what passes on something else has a course that is alike,
-- and its statuses are those of commands.
use Rattle.std.proofs.Common.{ℕ, List}
use Rattle.sample.specs.Summary.{IsSummary}
use Rattle.command_words.specs.Commands.{Advance, Check, Expand, Flows, Migrate, Novate, Payoff, Positions, Request, Sample, Scenarios, Settle, Value}
use Rattle.command_courses.proofs.CourseFacts.{OfCommand, Sound, sound_tells}
use Rattle.flow_commands.specs.NettingPromise.{TellsPositions, TellsSettlement}
use Rattle.flow_commands.proofs.SoundFlows.{sound_flows_course, sound_netting_course}
use Rattle.lifecycle_commands.proofs.SoundLifecycle.{sound_advance, sound_novate}
use Rattle.text_commands.proofs.SoundTexts.{sound_check, sound_expand, sound_migrate, sound_payoff}
use Rattle.valuation_commands.proofs.SoundValues.{sound_scenarios_course, sound_value_course}
use Rattle.command_answers.specs.Courses.{course_of}

-- ---- the whole commands, over the bytes of their files

pub sound_course : (request : Request) (inputs : List (List ℕ)) → Sound OfCommand (course_of request inputs)
sound_course (Check portfolio) inputs = sound_check inputs
sound_course (Flows asked) inputs = sound_flows_course asked inputs
sound_course (Advance asked) inputs = sound_advance asked inputs
sound_course (Payoff asked) inputs = sound_payoff asked inputs
sound_course (Value asked) inputs = sound_value_course asked inputs
sound_course (Migrate portfolio) inputs = sound_migrate inputs
sound_course (Expand plans) inputs = sound_expand inputs
sound_course (Sample contracts) inputs = sound_tells (IsSummary contracts)
sound_course (Positions asked) inputs = sound_netting_course TellsPositions asked inputs
sound_course (Settle asked) inputs = sound_netting_course TellsSettlement asked inputs
sound_course (Novate asked) inputs = sound_novate asked inputs
sound_course (Scenarios asked) inputs = sound_scenarios_course asked inputs
