use Rattle.exposure.proofs.NetFacts.{nets_add_up_to_no_more, nets_leave_positions}
use Rattle.exposure.proofs.laws.nets_leave_positions.Goals as goal

pub returns : goal.returns
returns c = record { positions = nets_leave_positions; sizes = nets_add_up_to_no_more }
