use Rattle.std.proofs.Common.{◌∙◌, ap, sym, arith}
use Rattle.term_core.specs.SharedTerms.{shared}
use Rattle.term_core.specs.declared.shared.SharedContr.{SharedContr}
use Rattle.advance_step.proofs.WalkFacts.{waiting_left}
use Rattle.advance_step.proofs.carried.carry_over.Goals as goal

pub returns-in_ok-delayed-in-After : goal.returns-in_ok-delayed-in-After
returns-in_ok-delayed-in-After c =
    let d = c.args.known.now.decls in
    let F = c.args.known.now.fixings in
    let r = c.in_ok-delayed-in-After.field-0.value in (
      waiting_left d (shared c.args.s.now.value) (shared c.in-After.body.value) F c.args.span.day
          c.in-After.days c.args.span.last (shared r)
          (ap (λ (x : SharedContr). shared x) (sym c.deref.ensures ∙ c.in-After.is))
          (grind (arith, c.if-span-days.true)) c.in_ok-delayed-in-After.ensures.tree,
      c.in_ok-delayed-in-After.ensures.offsets,
    )
