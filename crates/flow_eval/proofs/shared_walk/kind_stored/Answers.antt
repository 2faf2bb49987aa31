use Rattle.term_model.specs.Declarations.{declarations}
use Rattle.term_model.specs.Terms.{expression}
use Rattle.expr_eval.specs.Rooms.{kinds_of}
use Rattle.flow_eval.proofs.MovedFacts.{kind_moved}
use Rattle.flow_eval.proofs.shared_walk.kind_stored.Goals as goal

pub returns : goal.returns
returns c = λ moved. kind_moved (declarations c.args.basis.now.decls.now) (expression c.args.e.now) moved (kinds_of c.args.scratch.now.entries) c.kind_of.result c.kind_of.ensures.kind
