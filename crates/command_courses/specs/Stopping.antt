-- What a part of a command answers: something good, or a fault that stops the command, or want of memory, of which nothing
-- is said.
use Rattle.std.specs.Prelude.{ℕ, Result, Ok, Err}
use Rattle.std.specs.Global.{Vec}
use Rattle.contract_parse.specs.declared.faults.ParseErr.{ParseErr}
use Rattle.contract_parse.specs.declared.faults.ParseErr.TheVariants as err
use Rattle.report.specs.declared.fault_lines.Fault.{Fault}
use Rattle.report.specs.declared.fault_lines.Fault.TheVariants as fault
use Rattle.command_courses.specs.Course.{Answers, Course, Stage, Stops, Tells}
use Rattle.command_courses.specs.declared.answer.Answer.{Answer}
use Rattle.command_courses.specs.declared.status.Status.TheVariants as status
use Rattle.command_courses.specs.declared.stop.Stop.{Stop}
use Rattle.command_courses.specs.declared.stop.Stop.TheVariants as stop

abbrev pub AnswersBy : {A : Type 0} → (A → Type 0) → (Fault → Type 0) → Result A Stop → Type 0
AnswersBy Good Stopped (Ok a) = Good a
AnswersBy Good Stopped (Err (stop.Fault f)) = Stopped f
AnswersBy Good Stopped (Err stop.NoMemory) = Unit {0}

-- what stops a command at a text that is not read
abbrev pub stop_of_text : ParseErr → Stop
stop_of_text (err.Text f) = stop.Fault (fault.Text f)
stop_of_text err.NoMemory = stop.NoMemory

-- what one stage answers: a value that stands for what it passes on, or its fault
abbrev pub AnswersStage : {A B : Type 0} → Stage A → (B → A) → Result B Stop → Type 0
AnswersStage stage view r = AnswersBy (λ b. stage.Passes (view b)) stage.FaultIs r

-- what goes a course to its end, or stops on it
abbrev pub Goes : Course → Result Answer Stop → Type 0
Goes c r = AnswersBy (λ answer. Tells c answer.status answer.text.items) (Stops c) r

-- the same of what is left of a course that ends with Done: the text alone
abbrev pub GoesDone : Course → Result (Vec ℕ) Stop → Type 0
GoesDone c r = AnswersBy (λ text. Tells c status.Done text.items) (Stops c) r

-- the same with its status
abbrev pub is_done : Result (Vec ℕ) Stop → Result Answer Stop
is_done (Ok text) = Ok (record { status = status.Done; text = text })
is_done (Err e) = Err e

-- an answer of a course, whether it tells or is the line of a fault
abbrev pub IsAnswerOf : Course → Answer → Type 0
IsAnswerOf c answer = Answers c answer.status answer.text.items
