use Rattle.term_model.specs.Declarations.{declarations}
use Rattle.term_core.specs.SharedTerms.{shared}
use Rattle.advance_step.proofs.GoneFacts.{known_in, left_in}
use Rattle.advance_step.proofs.residual.carried_after.Goals as goal

pub carry_known-requires-clause-known : goal.carry_known-requires-clause-known
carry_known-requires-clause-known c =
    known_in (declarations c.args.decls.now) c.args.fixings.now (shared c.args.s.now.value)
    c.args.gone.from c.span.result.day c.args.gone.days c.span.result.last c.span.ensures.day
    c.span.ensures.last c.requires.known

pub returns : goal.returns
returns c =
    left_in (declarations c.args.decls.now) c.args.fixings.now (shared c.args.s.now.value)
    c.args.gone.from c.span.result.day c.args.gone.days c.span.result.last c.carry_known.result
    c.span.ensures.day c.span.ensures.last c.carry_known.ensures
