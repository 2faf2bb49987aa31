use Rattle.std.proofs.Common.{◌-◌, arith}
use Rattle.term_model.specs.Declarations.{declarations}
use Rattle.term_model.specs.Terms.{contract}
use Rattle.advance_step.proofs.SimpleFacts.{simple_residual}
use Rattle.advance_step.proofs.HandedOnFacts.{handed_residual}
use Rattle.advance_step.proofs.residual.rest_of.Goals as goal

pub returns-then-is_reduced_simple : goal.returns-then-is_reduced_simple
returns-then-is_reduced_simple c =
    let gone = c.args.gone in
    simple_residual (declarations c.args.decls.now) c.args.fixings.now (contract c.args.c) (contract c.in_ok-left_of_simple.field-0) gone.from gone.days (gone.days - 1)
    c.args.decls.now.labels_in c.requires.admitted c.requires.accepted c.requires.closed c.requires.numbers (c.is_reduced_simple.ensures c.if-is_reduced_simple.true)
    (omega (arith, c.if-gone-gt0.true)) c.in_ok-left_of_simple.ensures

pub returns-then-is_handed_on : goal.returns-then-is_handed_on
returns-then-is_handed_on c =
    let span = c.span-span in
    handed_residual (declarations c.args.decls.now) c.args.fixings.now (contract c.args.c) (contract c.in_ok-handed_on.field-0) c.args.gone.from span.result.day c.args.gone.days span.result.last
    c.args.decls.now.labels_in c.requires.admitted c.requires.accepted c.requires.closed c.requires.numbers span.ensures.day span.ensures.last
    (c.is_handed_on.ensures c.if-is_handed_on.true) c.in_ok-handed_on.ensures
