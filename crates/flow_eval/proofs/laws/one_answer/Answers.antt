use Rattle.flow_eval.proofs.AnswerFacts.{answers_are_one}
use Rattle.flow_eval.proofs.laws.one_answer.Goals as goal

pub returns : goal.returns
returns c = answers_are_one
