use Rattle.contract_check.proofs.CausalFlows.{typed_are_causal, timed_are_causal, accepted_are_causal}
use Rattle.contract_check.proofs.laws.contracts_are_causal.Goals as goal

pub returns : goal.returns
returns c = record { typed = typed_are_causal; timed = timed_are_causal; accepted = accepted_are_causal }
