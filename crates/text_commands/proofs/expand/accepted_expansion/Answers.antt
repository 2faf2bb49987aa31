use Rattle.std.proofs.Common.{ℕ, List, subst, sym}
use Rattle.term_model.specs.Acceptance.{IsAccepted}
use Rattle.term_model.specs.Declarations.{declarations}
use Rattle.term_model.specs.Terms.{Contract, contract}
use Rattle.schedule_forms.specs.Expansions.{expansion}
use Rattle.text_commands.specs.ExpandParts.{IsAcceptedExpansion}
use Rattle.used_contracts.specs.AcceptingParts.{IsRefusedOne}
use Rattle.used_contracts.specs.UsedParts.{IsTriable}
use Rattle.text_commands.proofs.ExpandFacts.{expansion_triable}
use Rattle.command_courses.proofs.StopFacts.{handed_on}
use Rattle.text_commands.proofs.expand.accepted_expansion.Goals as goal

pub accept_named-requires : goal.accept_named-requires
accept_named-requires c =
    let d = declarations c.args.decls.now in
    subst (λ (t : Contract). IsTriable d t) (sym c.in_ok-contr.ensures.expansion) (expansion_triable d c.args.plan.now c.requires)

pub returns-in_err-accept_named : goal.returns-in_err-accept_named
returns-in_err-accept_named c =
    let d = declarations c.args.decls.now in
    let name = c.args.name.now in
    let plan = c.args.plan.now in
    let tree = contract c.in_ok-contr.contr in
    handed_on (λ (u : Unit {0}). IsAccepted d tree) (IsAcceptedExpansion d plan) (IsRefusedOne d (c.text.result.now, tree)) (IsRefusedOne d (name, expansion plan))
    (λ f h. subst (λ (t : Contract). IsRefusedOne d (name, t) f) c.in_ok-contr.ensures.expansion (subst (λ (n : List ℕ). IsRefusedOne d (n, tree) f) c.text.ensures h))
    c.in_err-accept_named.field-0.0 c.from_residual-in_err-accept_named.result c.in_err-accept_named.ensures c.from_residual-in_err-accept_named.ensures.1

pub returns : goal.returns
returns c =
    let d = declarations c.args.decls.now in
    let is = c.in_ok-contr.ensures.expansion in
    record { is = is; accepted = subst (λ (t : Contract). IsAccepted d t) is c.in_ok-accept_named.ensures }
