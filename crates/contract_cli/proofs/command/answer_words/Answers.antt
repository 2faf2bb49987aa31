use Rattle.std.proofs.Common.{◌≡◌, ◌∙◌, ◌≤◌, ℕ, inl, length, ap, refl, rules, subst, sym}
use Rattle.std.specs.Prelude.{Err}
use Rattle.std.specs.Global.{Vec}
use Rattle.std.proofs.lemmas.List.{length-map}
use Rattle.clap.specs.Walk.{texts}
use Rattle.command_words.specs.Commands.{files_of}
use Rattle.command_words.specs.Words.{IsRequestOf, requested_by}
use Rattle.command_words.specs.declared.arguments.WordsErr.{WordsErr}
use Rattle.command_words.specs.declared.arguments.WordsErr.TheVariants as words_err
use Rattle.command_courses.specs.Course.{Stops, Tells}
use Rattle.command_answers.specs.Courses.{course_of}
use Rattle.command_courses.specs.Inputs.{bytes_of}
use Rattle.command_courses.specs.declared.answer.Answer.{Answer}
use Rattle.command_courses.proofs.StopFacts.{answers_too, handed_on}
use Rattle.contract_cli.specs.Reading.{StopsReading, WereRead}
use Rattle.contract_cli.specs.RunPromise.{Names, run_course}
use Rattle.contract_cli.specs.Seen.{seen}
use Rattle.contract_cli.proofs.RunFacts.{counts_by_words, few_files, stops_behind_files, stops_run, tells_behind_files, were_short}
use Rattle.contract_cli.proofs.command.answer_words.Goals as goal

pub returns-in-Err-Usage-clause-answer : goal.returns-in-Err-Usage-clause-answer
returns-in-Err-Usage-clause-answer g c =
    let usage : c.in-Err-Usage.field-0 ≡ words_err.Usage = search rules in
    inl (refl, subst (λ (e : WordsErr). IsRequestOf (texts c.args.words.now) (Err e)) usage c.in-Err-Usage.ensures)

pub read_files-requires : goal.read_files-requires
read_files-requires g c =
    let request = requested_by c.in-Ok.request in
    let named : texts c.deref.result.now ≡ files_of request = ap texts c.deref.ensures.value ∙ c.in_ok-names.ensures in
    let same : length c.deref.result.now ≡ length (files_of request) = sym (length-map c.deref.result.now _) ∙ ap length named in
    subst (λ (n : ℕ). n ≤ 255) (sym same) (few_files request)

pub returns-in_err-inputs-clause-answer : goal.returns-in_err-inputs-clause-answer
returns-in_err-inputs-clause-answer g c =
    let words = texts c.args.words.now in
    let files = seen (g.F.Files.contents c.args.files.now) (g.F.Files.faults c.args.files.now) (g.F.Files.faults c.read_files.new.files) in
    let request = requested_by c.in-Ok.request in
    let formed : Names words request = c.in-Ok.ensures in
    let names = texts c.deref.result.now in
    let named : names ≡ files_of request = ap texts c.deref.ensures.value ∙ c.in_ok-names.ensures in
    handed_on (λ (inputs : Vec (Vec ℕ)). WereRead files.contents names (bytes_of inputs.items))
    (λ (answer : Answer). Tells (run_course words files) answer.status answer.text.items) (StopsReading files names 1) (Stops (run_course words files))
    (stops_run words files request formed names named) c.in_err-inputs.field-0.0 c.from_residual-in_err-inputs.result c.in_err-inputs.ensures.answer c.from_residual-in_err-inputs.ensures.1

pub returns-in_err-inputs-clause-counts : goal.returns-in_err-inputs-clause-counts
returns-in_err-inputs-clause-counts g c =
    let words = texts c.args.words.now in
    let files = seen (g.F.Files.contents c.args.files.now) (g.F.Files.faults c.args.files.now) (g.F.Files.faults c.read_files.new.files) in
    let request = requested_by c.in-Ok.request in
    let formed : Names words request = c.in-Ok.ensures in
    counts_by_words words files request formed (texts c.deref.result.now) (ap texts c.deref.ensures.value ∙ c.in_ok-names.ensures) c.read_files.ensures.counts

pub invariant_of-answer_request : goal.invariant_of-answer_request
invariant_of-answer_request g c =
    let contents = g.F.Files.contents c.args.files.now in
    rw c.deref-2.ensures.value (record { short = were_short contents (texts c.deref.result.now) (bytes_of c.in_ok-inputs.inputs.items) c.in_ok-inputs.ensures.answer })

pub returns-clause-answer : goal.returns-clause-answer
returns-clause-answer g c =
    let words = texts c.args.words.now in
    let files = seen (g.F.Files.contents c.args.files.now) (g.F.Files.faults c.args.files.now) (g.F.Files.faults c.read_files.new.files) in
    let request = requested_by c.in-Ok.request in
    let formed : Names words request = c.in-Ok.ensures in
    let names = texts c.deref.result.now in
    let named : names ≡ files_of request = ap texts c.deref.ensures.value ∙ c.in_ok-names.ensures in
    let read = bytes_of c.in_ok-inputs.inputs.items in
    let course = course_of request read in
    answers_too (λ (answer : Answer). Tells course answer.status answer.text.items) (λ (answer : Answer). Tells (run_course words files) answer.status answer.text.items)
    (Stops course) (Stops (run_course words files))
    (λ answer h. tells_behind_files words files request formed names named read c.in_ok-inputs.ensures.answer answer.status answer.text.items h)
    (λ f h. stops_behind_files words files request formed names named read c.in_ok-inputs.ensures.answer f h)
    c.answer_request.result (rw c.deref-2.ensures.value at c.answer_request.ensures)
