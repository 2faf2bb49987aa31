use Rattle.std.proofs.Common.{ℕ, ℤ, List, subst}
use Rattle.term_model.specs.Flows.{Flow}
use Rattle.payoff_terms.specs.CodeBooks.{CodeBook, code_book}
use Rattle.command_words.specs.Words.{value_by}
use Rattle.command_courses.specs.Course.{Course}
use Rattle.command_courses.specs.Inputs.{bytes_of, file_at}
use Rattle.command_courses.specs.Stopping.{GoesDone}
use Rattle.valuation_commands.specs.ValueCourse.{numbers, value_on}
use Rattle.valuation_commands.specs.ValueParts.{by_tables, flow_of}
use Rattle.valuation_commands.specs.ValueStages.{code_of}
use Rattle.command_courses.proofs.StopFacts.{goes_behind}
use Rattle.valuation_commands.proofs.ValueParts.{goes_on, not_asked}
use Rattle.valuation_commands.proofs.value.value_text.Goals as goal

-- what is left of the course behind the code, at numbers for its templates
abbrev behind : CodeBook → List ℕ → List ℕ → List ℕ → Flow → ℤ → Course
behind b xs table curve flow day = by_tables (record { book = b; setting = xs; day = day; flow = flow }) table curve

pub returns-in_err-asking : goal.returns-in_err-asking
returns-in_err-asking c =
    let inputs = bytes_of c.args.inputs.files.now in
    let table = file_at inputs 1 in
    let curve = file_at inputs 2 in
    let file = c.in_ok-file.file in
    let b = code_book file in
    let asked = value_by c.args.asked.now in
    let r = c.from_residual-in_err-asking.result in
    goes_behind (code_of (file_at inputs 0)) (λ (k : CodeBook). value_on asked k table curve) b c.in_ok-file.ensures.spelled r
    (not_asked asked file (behind b (numbers b asked) table curve) c.in_err-asking.field-0.0 r c.in_err-asking.ensures c.from_residual-in_err-asking.ensures.1)

pub returns : goal.returns
returns c =
    let inputs = bytes_of c.args.inputs.files.now in
    let table = file_at inputs 1 in
    let curve = file_at inputs 2 in
    let file = c.in_ok-file.file in
    let b = code_book file in
    let asked = value_by c.args.asked.now in
    let asking = c.in_ok-asking.asking in
    let r = c.by_tables.result in
    goes_behind (code_of (file_at inputs 0)) (λ (k : CodeBook). value_on asked k table curve) b c.in_ok-file.ensures.spelled r
    (goes_on asked file (behind b (numbers b asked) table curve) asking c.in_ok-asking.ensures r
    (subst (λ (xs : List ℕ). GoesDone (behind b xs table curve (flow_of asking.parties) asking.day) r) c.in_ok-asking.ensures.setting c.by_tables.ensures))
