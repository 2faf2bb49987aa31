use Rattle.term_model.specs.Declarations.{declarations}
use Rattle.contract_check.proofs.checks.limited.Goals as goal

pub returns-in-Ok : goal.returns-in-Ok
returns-in-Ok c = (c.in-Ok.ensures.0 (declarations c.args._decls.now), tt)

pub returns-in-Err : goal.returns-in-Err
returns-in-Err c = (c.in-Err.ensures.0, c.in-Err.ensures.1 (declarations c.args._decls.now))
