use Rattle.std.proofs.Common.{◌≡◌, ℕ, List, subst, sym}
use Rattle.std.specs.Prelude.{Result}
use Rattle.std.specs.Global.{Vec}
use Rattle.command_words.specs.Words.{requested_by}
use Rattle.command_words.specs.declared.words.Request.{Request}
use Rattle.command_words.specs.declared.words.Request.TheVariants as request
use Rattle.command_courses.specs.Inputs.{bytes_of}
use Rattle.command_courses.specs.Stopping.{Goes, GoesDone, is_done}
use Rattle.command_courses.specs.declared.answer.Answer.{Answer}
use Rattle.command_courses.specs.declared.stop.Stop.{Stop}
use Rattle.command_answers.specs.Courses.{course_of}
use Rattle.command_courses.proofs.StopFacts.{goes_done}
use Rattle.command_answers.proofs.answers.answer_request.Goals as goal

-- what goes the course of this request, and ends with Done, goes the course of what was asked
goes_as : (given this : Request) → given ≡ this → (inputs : List (List ℕ)) (text : Result (Vec ℕ) Stop) (r : Result Answer Stop) → r ≡ is_done text
    → GoesDone (course_of (requested_by this) inputs) text → Goes (course_of (requested_by given) inputs) r
goes_as given this same inputs text r done goes =
    subst (λ (q : Request). Goes (course_of (requested_by q) inputs) r) (sym same) (goes_done (course_of (requested_by this) inputs) text r done goes)

pub returns-in-Advance : goal.returns-in-Advance
returns-in-Advance c =
    goes_as c.args.request.now (request.Advance c.in-Advance.asked) c.in-Advance.is (bytes_of c.args.inputs.files.now) c.advance_text.result c.done-in-Advance.result
    c.done-in-Advance.ensures c.advance_text.ensures

pub returns-in-Payoff : goal.returns-in-Payoff
returns-in-Payoff c =
    goes_as c.args.request.now (request.Payoff c.in-Payoff.asked) c.in-Payoff.is (bytes_of c.args.inputs.files.now) c.payoff_text.result c.done-in-Payoff.result
    c.done-in-Payoff.ensures c.payoff_text.ensures

pub returns-in-Value : goal.returns-in-Value
returns-in-Value c =
    goes_as c.args.request.now (request.Value c.in-Value.asked) c.in-Value.is (bytes_of c.args.inputs.files.now) c.value_text.result c.done-in-Value.result
    c.done-in-Value.ensures c.value_text.ensures

pub returns-in-Expand : goal.returns-in-Expand
returns-in-Expand c =
    goes_as c.args.request.now (request.Expand c.in-Expand.plans) c.in-Expand.is (bytes_of c.args.inputs.files.now) c.expand_text.result c.done-in-Expand.result
    c.done-in-Expand.ensures c.expand_text.ensures

pub returns-in-Positions : goal.returns-in-Positions
returns-in-Positions c =
    goes_as c.args.request.now (request.Positions c.in-Positions.asked) c.in-Positions.is (bytes_of c.args.inputs.files.now) c.positions_text.result c.done-in-Positions.result
    c.done-in-Positions.ensures c.positions_text.ensures

pub returns-in-Settle : goal.returns-in-Settle
returns-in-Settle c =
    goes_as c.args.request.now (request.Settle c.in-Settle.asked) c.in-Settle.is (bytes_of c.args.inputs.files.now) c.settlement_text.result c.done-in-Settle.result
    c.done-in-Settle.ensures c.settlement_text.ensures

pub returns-in-Novate : goal.returns-in-Novate
returns-in-Novate c =
    goes_as c.args.request.now (request.Novate c.in-Novate.asked) c.in-Novate.is (bytes_of c.args.inputs.files.now) c.novate_text.result c.done-in-Novate.result
    c.done-in-Novate.ensures c.novate_text.ensures

pub returns-in-Scenarios : goal.returns-in-Scenarios
returns-in-Scenarios c =
    goes_as c.args.request.now (request.Scenarios c.in-Scenarios.asked) c.in-Scenarios.is (bytes_of c.args.inputs.files.now) c.scenarios_text.result c.done-in-Scenarios.result
    c.done-in-Scenarios.ensures c.scenarios_text.ensures
