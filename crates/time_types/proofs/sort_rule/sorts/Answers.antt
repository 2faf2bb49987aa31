use Rattle.std.proofs.Common.{sym, refl}
use Rattle.term_model.specs.Declarations.{declarations}
use Rattle.term_model.specs.Terms.{contract}
use Rattle.time_types.proofs.SortFacts.{sorts_meet, sorts_fail}
use Rattle.time_types.proofs.sort_rule.sorts.Goals as goal

pub returns-in-Ok : goal.returns-in-Ok
returns-in-Ok c = (sorts_meet (declarations c.args.decls.now) (contract c.args.c.now) (sym c.in-Ok.ensures.sorts), tt)

pub returns-in-Err : goal.returns-in-Err
returns-in-Err c = (refl, sorts_fail (declarations c.args.decls.now) (contract c.args.c.now) c.in-Err.node (sym c.in-Err.ensures.sorts))
