use Rattle.std.proofs.Common.{ap, sym, subst}
use Rattle.term_core.specs.declared.shared.SharedContr.{SharedContr}
use Rattle.term_core.specs.SharedTerms.{shared, StoresOffsets}
use Rattle.advance_step.proofs.CarryReady.{whole_low, whole_ready}
use Rattle.advance_step.proofs.RestFacts.{whole_answers}
use Rattle.advance_step.proofs.carried.carry_by_walk.Goals as goal

pub carry_in-requires : goal.carry_in-requires
carry_in-requires c =
    let d = c.args.known.now.decls in
    let s = c.args.s.now.value in
    let can =
    whole_ready d s c.deref.result.now _ c.in_ok-scratch.ensures.empty c.deref.ensures
    c.requires.accepted c.requires.offsets in
    let stores = subst (λ (x : SharedContr). StoresOffsets x) (sym c.deref.ensures)
    c.requires.offsets in
    let low =
    whole_low d s c.deref.result.now _ c.deref.ensures c.requires.accepted
    c.in_ok-scratch.ensures.spare in
    record { ready = (can, stores, low) }

pub returns : goal.returns
returns c =
    whole_answers c.args.known.now (shared c.args.s.now.value) (shared c.deref.result.now)
    c.in_ok-scratch.scratch c.args.span c.carry_in.result c.in_ok-scratch.ensures.empty
    (ap (λ (x : SharedContr). shared x) c.deref.ensures) c.carry_in.ensures.answer
