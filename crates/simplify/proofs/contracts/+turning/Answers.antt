use Rattle.std.proofs.Common.{◌≡◌, subst, w32}
use Rattle.std.proofs.lemmas.Int.{to_z-of_z}
use Rattle.term_model.specs.Declarations.{declarations}
use Rattle.term_core.specs.declared.shared.SharedContr.{SharedContr}
use Rattle.term_model.specs.declared.terms.Expr.{Expr}
use Rattle.term_model.specs.Terms.{expression}
use Rattle.term_core.specs.SharedTerms.{shared}
use Rattle.rewriting.specs.Rebuilding.{after}
use Rattle.rewriting.specs.RebuildingContracts.{after_in}
use Rattle.term_model.specs.Scopes.{held_in}
use Rattle.simplify.specs.Turning.{turned}
use Rattle.simplify.specs.TurningContracts.{turned_in}
use Rattle.simplify.proofs.TurnedParts.{scale_turned}
use Rattle.simplify.proofs.contracts.+turning.Goals as goal

pub turn_scaled-returns-clause-same : goal.turn_scaled-returns-clause-same
turn_scaled-returns-clause-same t c =
    let d = declarations c.args.decls.now in
    let ks = held_in c.args.names.now in
    let e = expression c.args.factor.now.value in
    let b = shared c.args.body.now.value in
    let p : after e c.in_ok-one.one.new ≡ turned d ks e =
    subst (λ (v : Expr). after (expression v) c.in_ok-one.one.new ≡ turned d ks (expression v)) c.deref.ensures c.in_ok-one.ensures.same in
    let q : after_in b c.in_ok-two.two ≡ turned_in d ks b =
    subst (λ (v : SharedContr). after_in (shared v) c.in_ok-two.two ≡ turned_in d ks (shared v)) c.deref-2.ensures c.in_ok-two.ensures.same in
    scale_turned d ks c.args.moved _ e _ b _ (shared c.args.s.now) c.turn_scale.result (to_z-of_z w32 c.args.moved c.ranges.moved) c.requires.whole p q c.turn_scale.ensures.same
