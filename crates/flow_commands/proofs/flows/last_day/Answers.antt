use Rattle.std.proofs.Common.{ℕ, List, ap, subst, sym}
use Rattle.std.specs.Prelude.{Option, Some, option_map}
use Rattle.term_model.specs.Declarations.{declarations}
use Rattle.flow_commands.specs.FlowsParts.{CanBeLast}
use Rattle.command_courses.specs.Days.{IsDayAsked, greatest_day}
use Rattle.flow_commands.specs.FlowsStages.{IsDayFault}
use Rattle.command_courses.specs.Days.{IsWordFault}
use Rattle.command_courses.specs.Stopping.{AnswersBy}
use Rattle.command_words.specs.declared.day_words.DayWord.{DayWord}
use Rattle.flow_commands.proofs.LastDayFacts.{is_last, no_last}
use Rattle.command_courses.proofs.StopFacts.{answers_too}
use Rattle.flow_commands.proofs.flows.last_day.Goals as goal

pub returns-in-Some : goal.returns-in-Some
returns-in-Some c =
    let d = declarations c.args.decls.now in
    let word = c.in-Some.asked.word.now in
    subst (λ (until : Option (List ℕ)). AnswersBy (CanBeLast d until) (IsDayFault d until) c.day_asked.result) (sym (ap (option_map (λ (day : DayWord). day.word.now)) c.in-Some.is))
    (answers_too (IsDayAsked d greatest_day word) (CanBeLast d (Some word)) (IsWordFault d greatest_day word) (IsDayFault d (Some word)) (is_last d word) (no_last d word) c.day_asked.result c.day_asked.ensures)
