use Rattle.std.proofs.Common.{◌≡◌, rules, subst}
use Rattle.std.specs.Prelude.{Result, Err}
use Rattle.clap.specs.Walk.{texts}
use Rattle.command_courses.specs.Course.{Stops}
use Rattle.command_courses.specs.Stopping.{Goes}
use Rattle.command_courses.specs.declared.answer.Answer.{Answer}
use Rattle.command_courses.specs.declared.stop.Stop.{Stop}
use Rattle.command_courses.specs.declared.stop.Stop.TheVariants as stop
use Rattle.command_courses.proofs.StopFacts.{line_answers}
use Rattle.contract_cli.specs.RunPromise.{run_course}
use Rattle.contract_cli.specs.Seen.{seen}
use Rattle.contract_cli.proofs.command.prepare.Goals as goal

pub returns-in-Err-Fault-clause-answer : goal.returns-in-Err-Fault-clause-answer
returns-in-Err-Fault-clause-answer g c =
    let files = seen (g.F.Files.contents c.args.files.now) (g.F.Files.faults c.args.files.now) (g.F.Files.faults c.answer_words.new.files) in
    let course = run_course (texts c.args.words.now) files in
    let is : c.answer_words.result ≡ Err (stop.Fault c.in-Err-Fault.fault) = search rules in
    let stops : Stops course c.in-Err-Fault.fault = subst (λ (r : Result Answer Stop). Goes course r) is c.answer_words.ensures.answer in
    line_answers course c.in-Err-Fault.fault c.fault_answer.result stops c.fault_answer.ensures.status c.fault_answer.ensures.text
