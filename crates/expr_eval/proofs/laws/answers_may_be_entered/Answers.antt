use Rattle.expr_eval.proofs.AnswerFacts.{none_stand_for_none, entered_stand_for, entered_suit}
use Rattle.expr_eval.proofs.laws.answers_may_be_entered.Goals as goal

pub returns : goal.returns
returns c = record { none = none_stand_for_none; stand = entered_stand_for; suit = entered_suit }
