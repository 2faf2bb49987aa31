use Rattle.std.proofs.Common.{rules, ◌≡◌, ◌<◌, [], sym, subst}
use Rattle.term_model.specs.Declarations.{declarations}
use Rattle.term_core.specs.declared.shared.SharedContr.{SharedContr}
use Rattle.term_core.specs.SharedTerms.{shared}
use Rattle.term_model.specs.Terms.{Contract}
use Rattle.rewriting.specs.Measures.{size_in}
use Rattle.simplify.specs.TurnableContracts.{CanTurnIn}
use Rattle.simplify.specs.Simplified.{Simplifies}
use Rattle.simplify.proofs.SimplifyingFacts.{accepted_turns, accepted_through, next_is, next_less, next_stores, still_is}
use Rattle.simplify.proofs.SimplifyingFacts.{simplifies_then, simplifies_itself}
use Rattle.simplify.proofs.simplifying.+simplify_shared.Goals as goal

pub turn_in-requires : goal.turn_in-requires
turn_in-requires t c =
    subst (λ (v : SharedContr). CanTurnIn (declarations c.args.decls.now) v []) (sym c.deref.ensures)
    (accepted_turns (declarations c.args.decls.now) c.args.s.now.value c.args.decls.now.labels_in c.requires.accepted)

pub simplify_shared-requires : goal.simplify_shared-requires
simplify_shared-requires t c =
    let d = declarations c.args.decls.now in
    let next = c.in-Some.next in
    let is = next_is d c.deref.result.now c.args.s.now.value c.in_ok-next.field-0 next c.deref.ensures c.in-Some.is c.in_ok-next.ensures.same in
    let less : size_in (shared next.value) < size_in (shared c.args.s.now.value) = next_less c.deref.result.now c.args.s.now.value c.in_ok-next.field-0 next c.deref.ensures c.in-Some.is c.in_ok-next.ensures.less in (
      search rules,
      (
        accepted_through d (shared next.value) (shared c.args.s.now.value) is c.args.decls.now.labels_in c.requires.accepted,
        next_stores c.deref.result.now c.args.s.now.value c.in_ok-next.field-0 next c.deref.ensures c.in-Some.is c.in_ok-next.ensures.offsets c.requires.offsets,
      ),
    )

pub returns-in-Some-clause-simpler : goal.returns-in-Some-clause-simpler
returns-in-Some-clause-simpler t c =
    let d = declarations c.args.decls.now in
    let s = c.args.s.now.value in
    let next = c.in-Some.next in
    let is = next_is d c.deref.result.now s c.in_ok-next.field-0 next c.deref.ensures c.in-Some.is c.in_ok-next.ensures.same in
    let less = next_less c.deref.result.now s c.in_ok-next.field-0 next c.deref.ensures c.in-Some.is c.in_ok-next.ensures.less in
    simplifies_then d (shared next.value) s c.simplify_shared.result is c.requires.accepted less c.simplify_shared.ensures.simpler

pub returns-in_ok-clone-in-None-clause-simpler : goal.returns-in_ok-clone-in-None-clause-simpler
returns-in_ok-clone-in-None-clause-simpler t c =
    let d = declarations c.args.decls.now in
    let s = c.args.s.now.value in
    let same : shared c.in_ok-clone-in-None.field-0.value ≡ shared s = search rules in
    let still = still_is d c.deref.result.now s c.in_ok-next.field-0 c.deref.ensures c.in-None.is c.in_ok-next.ensures.same in
    subst (λ (x : Contract). Simplifies d x (shared s)) (sym same)
    (simplifies_itself d (shared s) c.args.decls.now.labels_in c.requires.accepted still)
