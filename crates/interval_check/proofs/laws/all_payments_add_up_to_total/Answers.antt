use Rattle.interval_check.proofs.VolumeFacts.{all_flows_add_up_to_total, all_amounts_add_up_to_total}
use Rattle.interval_check.proofs.laws.all_payments_add_up_to_total.Goals as goal

pub returns : goal.returns
returns c = record { flows = all_flows_add_up_to_total; amounts = all_amounts_add_up_to_total }
