use Rattle.std.proofs.Common.{ℤ, IfOk, subst, w64}
use Rattle.std.proofs.lemmas.Int.{to_z-of_z}
use Rattle.term_model.specs.Declarations.{declarations}
use Rattle.term_model.specs.Terms.{contract}
use Rattle.specialise.specs.Specialised.{IsSpecialisedOn, SpecialisesOn, StandsAlone}
use Rattle.specialise.proofs.CallFacts.{on_ok, stands_alone, takes_place}
use Rattle.specialise.proofs.calls.specialise_contr.Goals as goal

pub returns : goal.returns
returns c =
    let d = declarations c.args.decls.now in
    let F = c.args.fixings.now in
    let f = c.args.day in
    let x = contract c.args.c.now in
    let alone = c.requires.alone in
    let exact : IfOk c.contr_on.result (λ r. IsSpecialisedOn d F f (contract r) x) =
    subst (λ (h : ℤ). IfOk c.contr_on.result (λ r. IsSpecialisedOn d F h (contract r) x)) (to_z-of_z w64 f c.ranges.day) c.contr_on.ensures in
    record {
      told = on_ok (λ r. IsSpecialisedOn d F f (contract r) x) (λ r. SpecialisesOn d F f (contract r) x) c.contr_on.result
          (λ r h. takes_place c.args.decls.now F f (contract r) x h c.requires.admitted alone.0 alone.2) exact;
      alone = on_ok (λ r. IsSpecialisedOn d F f (contract r) x) (λ r. StandsAlone d (contract r)) c.contr_on.result
          (λ r h. stands_alone c.args.decls.now F f (contract r) x h c.requires.admitted alone) exact;
    }
