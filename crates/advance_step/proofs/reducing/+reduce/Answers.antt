use Rattle.std.proofs.Common.{rules, ◌≡◌, ◌<◌, ℤ, [], Some, IfOk, refl, subst, w64}
use Rattle.std.proofs.lemmas.Int.{to_z-of_z}
use Rattle.term_model.specs.Declarations.{declarations}
use Rattle.term_core.specs.SharedTerms.{shared}
use Rattle.rewriting.specs.Measures.{size_in}
use Rattle.specialise.specs.Specialising.{specialised_in}
use Rattle.simplify.specs.TurningContracts.{turned_in}
use Rattle.simplify.proofs.SimplifyingFacts.{accepted_through, next_is, next_less, next_stores, still_is}
use Rattle.advance_step.specs.Residual.{IsReducedFrom}
use Rattle.advance_step.proofs.RoundFacts.{round_then, round_last, round_less}
use Rattle.advance_step.proofs.reducing.+reduce.Goals as goal

pub reduce-requires : goal.reduce-requires
reduce-requires t c =
    let d = declarations c.args.decls.now in
    let special = c.in_ok-special.special.value in
    let next = c.in-Some.next in
    let is = next_is d special special c.in_ok-next.field-0 next refl c.in-Some.is c.in_ok-next.ensures.same in
    let less : size_in (shared next.value) < size_in (shared c.args.s.now.value) =
    round_less (shared c.args.s.now.value) (shared special) (shared next.value) c.in_ok-special.ensures.told.smaller
    (next_less special special c.in_ok-next.field-0 next refl c.in-Some.is c.in_ok-next.ensures.less) in (
      search rules,
      (
        accepted_through d (shared next.value) (shared special) is c.args.decls.now.labels_in c.in_ok-special.ensures.told.accepted,
        (
          next_stores special special c.in_ok-next.field-0 next refl c.in-Some.is (λ o. c.in_ok-next.ensures.offsets) c.in_ok-special.ensures.offsets,
          (c.requires.admitted, (search rules, search rules)),
        ),
      ),
    )

pub returns-in-Some-clause-reduced : goal.returns-in-Some-clause-reduced
returns-in-Some-clause-reduced t c =
    let d = declarations c.args.decls.now in
    let F = c.args.fixings.now in
    let f = c.args.day in
    let s = c.args.s.now.value in
    let special = c.in_ok-special.special.value in
    let next = c.in-Some.next in
    let there = to_z-of_z w64 f c.ranges.day in
    let exact : shared special ≡ specialised_in d F (Some f) (shared s) = subst (λ (h : ℤ). shared special ≡ specialised_in d F (Some h) (shared s)) there c.in_ok-special.ensures.told.exact in
    let is : shared next.value ≡ turned_in d [] (shared special) = next_is d special special c.in_ok-next.field-0 next refl c.in-Some.is c.in_ok-next.ensures.same in
    let less : size_in (shared next.value) < size_in (shared s) =
    round_less (shared s) (shared special) (shared next.value) c.in_ok-special.ensures.told.smaller
    (next_less special special c.in_ok-next.field-0 next refl c.in-Some.is c.in_ok-next.ensures.less) in
    round_then d F f s special next.value c.reduce.result c.args.decls.now.labels_in c.requires.admitted c.requires.accepted exact is less
    (subst (λ (h : ℤ). IfOk c.reduce.result (λ r. IsReducedFrom d F h (shared next.value) (shared r.value))) there c.reduce.ensures.reduced)

pub returns-in-None-clause-reduced : goal.returns-in-None-clause-reduced
returns-in-None-clause-reduced t c =
    let d = declarations c.args.decls.now in
    let F = c.args.fixings.now in
    let f = c.args.day in
    let s = c.args.s.now.value in
    let special = c.in_ok-special.special.value in
    let exact : shared special ≡ specialised_in d F (Some f) (shared s) = subst (λ (h : ℤ). shared special ≡ specialised_in d F (Some h) (shared s)) (to_z-of_z w64 f c.ranges.day) c.in_ok-special.ensures.told.exact in
    round_last d F f s special c.args.decls.now.labels_in c.requires.admitted c.requires.accepted exact (still_is d special special c.in_ok-next.field-0 refl c.in-None.is c.in_ok-next.ensures.same)
