use Rattle.term_model.specs.Terms.{contract}
use Rattle.lifecycle_commands.proofs.AdvanceFacts.{carried_one, not_carried}
use Rattle.lifecycle_commands.proofs.advance.advance_contract.Goals as goal

pub returns-in-Ok : goal.returns-in-Ok
returns-in-Ok c = carried_one c.args.to.now (contract c.args.contr) c.in-Ok.advanced c.in-Ok.ensures

pub returns-in-Err : goal.returns-in-Err
returns-in-Err c = not_carried c.args.to.now (contract c.args.contr) c.in-Err.error c.stop_of.result c.in-Err.ensures c.stop_of.ensures
