use Rattle.std.proofs.Common.{ℤ, IfOk, subst, w64}
use Rattle.std.proofs.lemmas.Int.{to_z-of_z}
use Rattle.term_model.specs.Declarations.{declarations}
use Rattle.term_core.specs.SharedTerms.{shared}
use Rattle.specialise.specs.Specialised.{IsSpecialisedOn, SpecialisesOn}
use Rattle.specialise.proofs.CallFacts.{on_ok, shared_numbers, takes_place}
use Rattle.specialise.proofs.calls.specialise_shared.Goals as goal

pub returns-clause-told : goal.returns-clause-told
returns-clause-told c =
    let d = declarations c.args.decls.now in
    let F = c.args.fixings.now in
    let f = c.args.day in
    let s = c.args.s.now.value in
    let exact : IfOk c.shared_on.result (λ r. IsSpecialisedOn d F f (shared r.value) (shared s)) =
    subst (λ (h : ℤ). IfOk c.shared_on.result (λ r. IsSpecialisedOn d F h (shared r.value) (shared s)))
    (to_z-of_z w64 f c.ranges.day) c.shared_on.ensures.exact in
    on_ok (λ r. IsSpecialisedOn d F f (shared r.value) (shared s)) (λ r. SpecialisesOn d F f (shared r.value) (shared s)) c.shared_on.result
    (λ r h. takes_place c.args.decls.now F f (shared r.value) (shared s) h c.requires.admitted c.requires.accepted (shared_numbers s)) exact
