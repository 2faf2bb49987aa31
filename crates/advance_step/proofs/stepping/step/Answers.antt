use Rattle.std.proofs.Common.{rules, ◌≡◌, sym, subst}
use Rattle.term_model.specs.Declarations.{declarations}
use Rattle.term_core.specs.declared.shared.SharedContr.{SharedContr}
use Rattle.term_core.specs.SharedTerms.{shared, HasOffsetsIn}
use Rattle.term_model.specs.Terms.{Contract, contract}
use Rattle.term_model.specs.WellFormed.{HasOnlyNumbers, IsClosed}
use Rattle.term_core.proofs.SharedFacts.{formed_offsets_in}
use Rattle.specialise.proofs.CallFacts.{offsets_shared, shared_numbers}
use Rattle.advance_step.proofs.stepping.step.Goals as goal

pub step_shared-requires-clause-offsets : goal.step_shared-requires-clause-offsets
step_shared-requires-clause-offsets c =
    offsets_shared (declarations c.args.decls.now) c.in_ok-s.s.value (contract c.args.c.now)
    c.in_ok-s.ensures.tree c.in_ok-s.ensures.moved c.requires.closed

pub unshare-requires : goal.unshare-requires
unshare-requires c =
    let d = declarations c.args.decls.now in
    let closed : IsClosed d (shared c.in_ok-s.s.value) =
    subst (λ (x : Contract). IsClosed d x) (sym c.in_ok-s.ensures.tree) c.requires.closed in
    let same : c.deref.result.now ≡ c.in_ok-due.field-0.rest.value = search rules in
    subst (λ (v : SharedContr). HasOffsetsIn (shared v)) (sym same)
    (formed_offsets_in d 0 (shared c.in_ok-due.field-0.rest.value)
    (c.in_ok-due.ensures.0.left.closed closed))

pub returns : goal.returns
returns c = (
  search rules,
  search rules,
  subst (λ (x : Contract). HasOnlyNumbers x) (sym c.in_ok-rest.ensures)
      (shared_numbers c.deref.result.now),
)
