use Rattle.payoff_check.proofs.VerdictFacts.{accepted_or_refused, accepted_not_refused, refusals_unique, answers_unique}
use Rattle.payoff_check.proofs.laws.code_has_one_verdict.Goals as goal

pub returns : goal.returns
returns c =
    record { decided = accepted_or_refused; apart = accepted_not_refused; refusals = refusals_unique; answers = answers_unique }
