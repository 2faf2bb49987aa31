use Rattle.term_model.proofs.AssetFacts.{by_payments, scales_kept}
use Rattle.term_model.proofs.laws.scales_are_kept.Goals as goal

pub returns : goal.returns
returns c = record { payments = by_payments; kept = scales_kept }
