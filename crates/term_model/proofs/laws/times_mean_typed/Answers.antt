use Rattle.term_model.proofs.TimeFacts.{times_mean_typed}
use Rattle.term_model.proofs.laws.times_mean_typed.Goals as goal

pub returns : goal.returns
returns c = times_mean_typed
