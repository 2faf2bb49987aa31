use Rattle.std.proofs.Common.{◌∙◌, ap, sym, Some}
use Rattle.term_model.specs.declared.values.Kind.{Kind}
use Rattle.term_model.specs.Declarations.{declarations}
use Rattle.term_model.specs.Terms.{expression}
use Rattle.expr_eval.proofs.EvaluableFacts.{found_kind}
use Rattle.expr_eval.proofs.kinds.kind_of.Goals as goal

pub kind_in-requires : goal.kind_in-requires
kind_in-requires c =
    (found_kind (declarations c.args.decls.now) (expression c.args.e.now) c.args.scratch.now.entries c.args.decls.now.labels_in c.requires.place).fits

pub returns : goal.returns
returns c = record {
  kind = (found_kind (declarations c.args.decls.now) (expression c.args.e.now) c.args.scratch.now.entries c.args.decls.now.labels_in c.requires.place).right ∙ ap (λ (k : Kind). Some k) (sym c.kind_in.ensures);
}
