use Rattle.std.proofs.Common.{Some, ap, sym, ◌∙◌}
use Rattle.term_model.specs.Declarations.{declarations}
use Rattle.term_model.specs.declared.label.Label.{Label}
use Rattle.interval_check.proofs.OperatorFacts.{label_scale}
use Rattle.interval_check.proofs.range_scopes.range_observed.Goals as goal

pub checked-requires : goal.checked-requires
checked-requires c =
    let arm = c.in-Some-Number in
    label_scale (declarations c.args.decls.now) c.args.label arm.scale arm.low arm.high c.args.decls.now.labels_in
    (sym arm.ensures ∙ ap (λ (v : Label). Some v) arm.field-0-is)
