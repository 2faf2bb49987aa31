use Rattle.std.proofs.Common.{sym, subst}
use Rattle.term_model.specs.Declarations.{declarations}
use Rattle.term_core.specs.declared.shared.SharedContr.{SharedContr}
use Rattle.term_core.specs.SharedTerms.{shared, HasOffsetsIn}
use Rattle.term_model.specs.Terms.{contract, Contract}
use Rattle.term_model.specs.WellFormed.{IsClosed}
use Rattle.term_core.proofs.SharedFacts.{formed_offsets_in, stores_offsets}
use Rattle.simplify.proofs.SimplifyingFacts.{simplifies_as, alone_as}
use Rattle.simplify.proofs.simplifying.simplify.Goals as goal

pub simplify_shared-requires-clause-offsets : goal.simplify_shared-requires-clause-offsets
simplify_shared-requires-clause-offsets c =
    stores_offsets c.in_ok-s.s.value c.in_ok-s.ensures.moved
    (subst (λ (x : Contract). HasOffsetsIn x) (sym c.in_ok-s.ensures.tree)
    (formed_offsets_in (declarations c.args.decls.now) 0 (contract c.args.c.now) c.requires.1))

pub unshare-requires : goal.unshare-requires
unshare-requires c =
    let d = declarations c.args.decls.now in
    let closed = c.in_ok-simple.ensures.simpler.closed (subst (λ (x : Contract). IsClosed d x) (sym c.in_ok-s.ensures.tree) c.requires.1) in
    subst (λ (v : SharedContr). HasOffsetsIn (shared v)) (sym c.deref.ensures) (formed_offsets_in d 0 (shared c.in_ok-simple.simple.value) closed)

pub returns : goal.returns
returns c =
    let d = declarations c.args.decls.now in
    let v = c.deref.result.now in
    let w = c.in_ok-simple.simple.value in
    let simpler = c.in_ok-simple.ensures.simpler in
    let closed = simpler.closed (subst (λ (x : Contract). IsClosed d x) (sym c.in_ok-s.ensures.tree) c.requires.1) in
    record {
      simpler = simplifies_as d v w (contract c.args.c.now) _ c.unshare.result c.deref.ensures c.in_ok-s.ensures.tree c.unshare.ensures simpler;
      alone = alone_as d v w c.unshare.result c.deref.ensures c.unshare.ensures simpler.accepted closed;
    }
