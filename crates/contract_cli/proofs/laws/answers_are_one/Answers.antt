use Rattle.command_answers.proofs.AnswersAreOne.{answers_are_one, summaries_are_one}
use Rattle.lifecycle_commands.proofs.DueAreOne.{due_are_one, due_of_novate_are_one}
use Rattle.contract_cli.proofs.laws.answers_are_one.Goals as goal

pub returns : goal.returns
returns c = record { files = answers_are_one; due = due_are_one; due_of_novate = due_of_novate_are_one; sample = summaries_are_one }
