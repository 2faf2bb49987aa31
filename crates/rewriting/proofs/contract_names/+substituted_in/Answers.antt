use Rattle.std.proofs.Common.{rules, ◌≡◌, ap, ◌+◌, FitsSigned, w32}
use Rattle.std.proofs.lemmas.Int.{to_z-of_z}
use Rattle.term_core.specs.declared.shared.SharedContr.{SharedContr}
use Rattle.term_model.specs.Terms.{expression}
use Rattle.term_core.specs.SharedTerms.{shared}
use Rattle.rewriting.specs.Rebuilding.{after}
use Rattle.rewriting.specs.RebuildingContracts.{after_in}
use Rattle.rewriting.specs.Substituting.{substituted, substituted_in}
use Rattle.rewriting.proofs.NamedParts.{scale_named, let_named}
use Rattle.rewriting.proofs.contract_names.+substituted_in.Goals as goal

pub returns-in_ok-two-in-Scale-clause-same : goal.returns-in_ok-two-in-Scale-clause-same
returns-in_ok-two-in-Scale-clause-same t c =
    let x = expression c.args.other.now in
    let e = expression c.in-Scale.factor.value in
    let b = shared c.in-Scale.body.value in
    let p : after e c.in_ok-one-in-Scale.one ≡ substituted c.args.back x e = cc (c.deref-in-Scale.ensures, c.in_ok-one-in-Scale.ensures) in
    let q : after_in b c.in_ok-two-in-Scale.two ≡ substituted_in c.args.back x b = cc (c.deref-in-Scale-2.ensures, c.in_ok-two-in-Scale.ensures.same) in
    let fits : FitsSigned w32 c.in-Scale.moved = search rules in
    scale_named c.in-Scale.moved _ c.args.back x e _ b _ (shared c.args.s.now) c.scale_of.result (to_z-of_z w32 c.in-Scale.moved fits) c.requires.literal (ap (λ (s : SharedContr). shared s) c.in-Scale.is) p q c.scale_of.ensures.same

pub returns-in_ok-two-in-Let-clause-same : goal.returns-in_ok-two-in-Let-clause-same
returns-in_ok-two-in-Let-clause-same t c =
    let x = expression c.args.other.now in
    let e = expression c.in-Let.bound.value in
    let b = shared c.in-Let.body.value in
    let p : after e c.in_ok-one-in-Let.one ≡ substituted c.args.back x e = cc (c.deref-in-Let.ensures, c.in_ok-one-in-Let.ensures) in
    let q : after_in b c.in_ok-two-in-Let.two ≡ substituted_in (c.args.back + 1) x b = cc (c.deref-in-Let-2.ensures, c.in_ok-two-in-Let.ensures.same) in
    let fits : FitsSigned w32 c.in-Let.moved = search rules in
    let_named c.in-Let.moved _ c.args.back x e _ b _ (shared c.args.s.now) c.let_of.result (to_z-of_z w32 c.in-Let.moved fits) c.requires.literal (ap (λ (s : SharedContr). shared s) c.in-Let.is) p q c.let_of.ensures.same
