use Rattle.interval_check.proofs.ClosedFacts.{closed_parts_are_safe}
use Rattle.interval_check.proofs.GuaranteeFacts.{accepted_are_safe}
use Rattle.interval_check.proofs.SuitedFacts.{parts_of_accepted_are_safe}
use Rattle.interval_check.proofs.laws.accepted_contracts_are_safe.Goals as goal

pub returns : goal.returns
returns c = record { contracts = accepted_are_safe; parts = parts_of_accepted_are_safe; closed = closed_parts_are_safe }
