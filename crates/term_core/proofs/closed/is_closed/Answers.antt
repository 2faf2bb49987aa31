use Rattle.term_core.proofs.BinderFacts.{closed_where, open_where}
use Rattle.term_model.specs.Declarations.{declarations}
use Rattle.term_model.specs.Terms.{contract}
use Rattle.term_core.proofs.closed.is_closed.Goals as goal

pub returns-in-Some : goal.returns-in-Some
returns-in-Some c = closed_where (declarations c.args.decls.now) (contract c.args.c.now) c.in-Some.binders c.in-Some.ensures.value

pub returns-in-None : goal.returns-in-None
returns-in-None c = open_where (declarations c.args.decls.now) (contract c.args.c.now) c.in-None.ensures.value
