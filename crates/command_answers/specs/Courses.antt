-- The course of each command, behind the bytes of its files. `sample NUMBER` has no file, and no stage: it tells its summary.
use Rattle.std.specs.Prelude.{ℕ, List}
use Rattle.sample.specs.Summary.{IsSummary}
use Rattle.command_words.specs.Commands.{Advance, Check, Expand, Flows, Migrate, Novate, Payoff, Positions, Request, Sample, Scenarios, Settle, Value}
use Rattle.lifecycle_commands.specs.AdvanceCourse.{advance_course}
use Rattle.text_commands.specs.CheckCourse.{check_course}
use Rattle.command_courses.specs.Course.{Course, tells}
use Rattle.text_commands.specs.ExpandCourse.{expand_course}
use Rattle.flow_commands.specs.FlowsCourse.{flows_course}
use Rattle.text_commands.specs.MigrateCourse.{migrate_course}
use Rattle.flow_commands.specs.NettingCourse.{positions_course, settle_course}
use Rattle.lifecycle_commands.specs.NovateCourse.{novate_course}
use Rattle.text_commands.specs.PayoffCourse.{payoff_course}
use Rattle.valuation_commands.specs.ScenariosCourse.{scenarios_course}
use Rattle.valuation_commands.specs.ValueCourse.{value_course}

abbrev pub sample_course : ℕ → Course
sample_course contracts = tells (IsSummary contracts)

abbrev pub course_of : Request → List (List ℕ) → Course
course_of (Check portfolio) inputs = check_course inputs
course_of (Flows asked) inputs = flows_course asked inputs
course_of (Advance asked) inputs = advance_course asked inputs
course_of (Payoff asked) inputs = payoff_course asked inputs
course_of (Value asked) inputs = value_course asked inputs
course_of (Migrate portfolio) inputs = migrate_course inputs
course_of (Expand plans) inputs = expand_course inputs
course_of (Sample contracts) inputs = sample_course contracts
course_of (Positions asked) inputs = positions_course asked inputs
course_of (Settle asked) inputs = settle_course asked inputs
course_of (Novate asked) inputs = novate_course asked inputs
course_of (Scenarios asked) inputs = scenarios_course asked inputs
