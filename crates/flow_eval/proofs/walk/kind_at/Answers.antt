use Rattle.std.proofs.Common.{Option, ap, sym}
use Rattle.term_model.specs.Declarations.{declarations}
use Rattle.term_model.specs.Terms.{expression}
use Rattle.term_model.specs.Values.{kind_or}
use Rattle.term_model.specs.declared.values.Kind.{Kind}
use Rattle.flow_eval.proofs.ReadyFacts.{may_evaluate}
use Rattle.flow_eval.proofs.walk.kind_at.Goals as goal

pub kind_of-requires : goal.kind_of-requires
kind_of-requires c = record { place = may_evaluate (declarations c.args.basis.now.decls.now) (expression c.args.e.now) c.args.scratch.now c.args.basis.now.fixings.now c.requires.ready }

pub returns : goal.returns
returns c = sym (ap (λ (o : Option Kind). kind_or o) c.kind_of.ensures.kind)
