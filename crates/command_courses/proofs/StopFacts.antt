-- A fault that stops a part of a command stops the whole, and its line is the answer of the command.
use Rattle.std.proofs.Common.{◌≡◌, ◌∙◌, inr, ℕ, ap, subst, sym}
use Rattle.std.specs.Prelude.{Result, Ok, Err, IsErrAnd, IfOk}
use Rattle.std.specs.Global.{Vec}
use Rattle.std.proofs.lemmas.Result.{err_from_is_err_and}
use Rattle.decimal.specs.declared.errors.NoMemory.{NoMemory}
use Rattle.contract_parse.specs.declared.faults.ParseErr.{ParseErr}
use Rattle.contract_parse.specs.declared.faults.ParseErr.TheVariants as err
use Rattle.contract_grammar.specs.declared.faults.TextFault.{TextFault}
use Rattle.report.specs.FaultLines.{fault_text}
use Rattle.report.specs.declared.fault_lines.Fault.{Fault}
use Rattle.report.specs.declared.fault_lines.Fault.TheVariants as fault
use Rattle.command_courses.specs.Course.{Course, Stage, Stops, Tells, behind, stopped}
use Rattle.command_courses.specs.Statuses.{status_of}
use Rattle.command_courses.specs.Stopping.{AnswersBy, Goes, GoesDone, IsAnswerOf, is_done, stop_of_text}
use Rattle.command_courses.specs.declared.answer.Answer.{Answer}
use Rattle.command_courses.specs.declared.status.Status.TheVariants as status
use Rattle.command_courses.specs.declared.stop.Stop.{Stop}
use Rattle.command_courses.specs.declared.stop.Stop.TheVariants as stop

pub by_stop : {A B : Type 0} (Good : A → Type 0) (Other : B → Type 0) (Stopped Stops : Fault → Type 0) → ((f : Fault) → Stopped f → Stops f) → (e : Stop) → AnswersBy Good Stopped (Err e) → AnswersBy Other Stops (Err e)
by_stop Good Other Stopped Stops pass (stop.Fault f) h = pass f h
by_stop Good Other Stopped Stops pass stop.NoMemory h = tt

-- where `?` hands a stop on
pub handed_on : {A B : Type 0} (Good : A → Type 0) (Other : B → Type 0) (Stopped Stops : Fault → Type 0) → ((f : Fault) → Stopped f → Stops f) → (e : Stop) (r : Result B Stop) → AnswersBy Good Stopped (Err e) → IsErrAnd r (λ y. y ≡ e) → AnswersBy Other Stops r
handed_on Good Other Stopped Stops pass e r h given =
    let p = err_from_is_err_and r given in
    subst (AnswersBy Other Stops) (sym (p.1 ∙ ap (λ (x : Stop). Err x) p.2)) (by_stop Good Other Stopped Stops pass e h)

-- where `?` makes a stop of what is no text
by_text : {A : Type 0} (Good : A → Type 0) (Stopped : Fault → Type 0) (Answers : ParseErr → Type 0) → ((f : TextFault) → Answers (err.Text f) → Stopped (fault.Text f)) → (e : ParseErr) → Answers e → AnswersBy Good Stopped (Err (stop_of_text e))
by_text Good Stopped Answers stops (err.Text f) h = stops f h
by_text Good Stopped Answers stops err.NoMemory h = tt

pub text_stops : {A : Type 0} (Good : A → Type 0) (Stopped : Fault → Type 0) (Answers : ParseErr → Type 0) → ((f : TextFault) → Answers (err.Text f) → Stopped (fault.Text f)) → (e : ParseErr) (r : Result A Stop) → Answers e → IsErrAnd r (λ s. s ≡ stop_of_text e)
    → AnswersBy Good Stopped r
text_stops Good Stopped Answers stops e r h given =
    let p = err_from_is_err_and r given in
    subst (AnswersBy Good Stopped) (sym (p.1 ∙ ap (λ (s : Stop). Err s) p.2)) (by_text Good Stopped Answers stops e h)

-- where the answer is the same but for what it stops
pub answers_too : {A : Type 0} (Good : A → Type 0) (Other : A → Type 0) (Stopped Stops : Fault → Type 0) → ((a : A) → Good a → Other a) → ((f : Fault) → Stopped f → Stops f) → (r : Result A Stop) → AnswersBy Good Stopped r → AnswersBy Other Stops r
answers_too Good Other Stopped Stops good pass (Ok a) h = good a h
answers_too Good Other Stopped Stops good pass (Err (stop.Fault f)) h = pass f h
answers_too Good Other Stopped Stops good pass (Err stop.NoMemory) h = tt

-- what goes the rest of a course to its end, behind a stage that passes, goes the whole
pub goes_behind : {A : Type 0} (stage : Stage A) (next : A → Course) (a : A) → stage.Passes a → (r : Result (Vec ℕ) Stop) → GoesDone (next a) r → GoesDone (behind stage next) r
goes_behind stage next a p r h =
    answers_too (λ (text : Vec ℕ). Tells (next a) status.Done text.items) (λ (text : Vec ℕ). Tells (behind stage next) status.Done text.items) (Stops (next a)) (Stops (behind stage next))
    (λ text told. (a, p, told)) (λ f stops. inr (a, p, stops)) r h

-- a command that is done goes its course
pub goes_done : (c : Course) (text : Result (Vec ℕ) Stop) (r : Result Answer Stop) → r ≡ is_done text → GoesDone c text → Goes c r
goes_done c text r is h = subst (Goes c) (sym is) (by_text text h)
  where
    by_text : (t : Result (Vec ℕ) Stop) → GoesDone c t → Goes c (is_done t)
    by_text (Ok t) h = h
    by_text (Err (stop.Fault f)) h = h
    by_text (Err stop.NoMemory) h = tt

-- the line of a fault is the answer of a course that it stops
pub line_answers : (c : Course) (f : Fault) (r : Result Answer NoMemory) → Stops c f → IfOk r (λ answer. answer.status ≡ status_of f) → IfOk r (λ answer. answer.text.items ≡ fault_text f)
    → IfOk r (IsAnswerOf c)
line_answers c f (Ok answer) h s t = stopped f h s t
line_answers c f (Err e) h s t = tt

-- want of memory stops what is left of every course
pub lacks_memory_done : (c : Course) (r : Result (Vec ℕ) Stop) → IsErrAnd r (λ e. e ≡ stop.NoMemory) → GoesDone c r
lacks_memory_done c r given =
    let p = err_from_is_err_and r given in
    subst (λ (x : Result (Vec ℕ) Stop). GoesDone c x) (sym (p.1 ∙ ap (λ (x : Stop). Err x) p.2)) tt
