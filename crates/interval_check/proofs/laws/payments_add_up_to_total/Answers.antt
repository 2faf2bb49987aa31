use Rattle.interval_check.proofs.GuaranteeFacts.{flows_add_up_to_total, amounts_add_up_to_total}
use Rattle.interval_check.proofs.laws.payments_add_up_to_total.Goals as goal

pub returns : goal.returns
returns c = record { flows = flows_add_up_to_total; amounts = amounts_add_up_to_total }
