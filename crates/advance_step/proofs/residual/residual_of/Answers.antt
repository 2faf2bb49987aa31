use Rattle.std.proofs.Common.{sym, subst}
use Rattle.term_model.specs.Declarations.{declarations}
use Rattle.term_core.specs.declared.shared.SharedContr.{SharedContr}
use Rattle.term_core.specs.SharedTerms.{shared, HasOffsetsIn}
use Rattle.term_model.specs.Terms.{contract}
use Rattle.term_core.proofs.SharedFacts.{formed_offsets_in}
use Rattle.specialise.proofs.CallFacts.{offsets_shared}
use Rattle.advance_step.proofs.KnownFacts.{gone_residual}
use Rattle.advance_step.proofs.residual.residual_of.Goals as goal

pub returns-then-is_gone : goal.returns-then-is_gone
returns-then-is_gone c =
    let d = declarations c.args.decls.now in
    gone_residual d c.args.fixings.now (contract c.args.c.now) c.args.gone.from c.args.gone.days
    c.args.decls.now.labels_in c.requires.accepted c.requires.closed c.requires.numbers
    (c.is_gone.ensures c.if-is_gone.true)

pub reduced_after-requires-clause-offsets : goal.reduced_after-requires-clause-offsets
reduced_after-requires-clause-offsets c =
    offsets_shared (declarations c.args.decls.now) c.in_ok-s.s.value (contract c.args.c.now)
    c.in_ok-s.ensures.tree c.in_ok-s.ensures.moved c.requires.closed

pub unshare-requires : goal.unshare-requires
unshare-requires c =
    subst (λ (v : SharedContr). HasOffsetsIn (shared v)) (sym c.deref.ensures)
    (formed_offsets_in (declarations c.args.decls.now) 0 (shared c.in_ok-rest.rest.value)
    c.in_ok-rest.ensures.closed)
