use Rattle.term_model.proofs.AssetFacts.{one_scale_decides}
use Rattle.term_model.proofs.FormedFacts.{closed_at_one_scale}
use Rattle.term_model.proofs.VerdictFacts.{accepted_at_one_scale}
use Rattle.term_model.proofs.laws.accepted_at_one_scale.Goals as goal

pub returns : goal.returns
returns c = record { decides = one_scale_decides; accepted = accepted_at_one_scale; closed = closed_at_one_scale }
