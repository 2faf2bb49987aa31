use Rattle.std.proofs.Common.{◌∙◌, ℕ, List, ap, refl, subst, sym}
use Rattle.std.specs.Prelude.{Some}
use Rattle.term_model.specs.Acceptance.{IsAccepted, IsRefusal}
use Rattle.term_model.specs.Declarations.{declarations}
use Rattle.term_model.specs.Instances.{HasNumbers, instance}
use Rattle.term_model.specs.Terms.{Contract, contract}
use Rattle.report.specs.declared.fault_lines.Fault.{Fault}
use Rattle.used_contracts.specs.AcceptingParts.{IsVerdictOf}
use Rattle.used_contracts.specs.UsedContracts.{at_defaults}
use Rattle.used_contracts.specs.UsedParts.{IsTriable}
use Rattle.used_contracts.proofs.ChoosingFacts.{try_accepted, try_behind, try_refused}
use Rattle.used_contracts.proofs.UsedFacts.{defaults_small, numbers_given, triable}
use Rattle.used_contracts.proofs.choosing.try_next.Goals as goal

pub made_of-requires-clause-numbers : goal.made_of-requires-clause-numbers
made_of-requires-clause-numbers c =
    let d = declarations c.args.choice.now.decls.now in
    let contr = contract c.args.next.contr in
    subst (λ (numbers : List ℕ). HasNumbers numbers contr) (sym c.args.choice.now.at_defaults) (numbers_given d contr c.requires)

pub made_of-requires-clause-sums : goal.made_of-requires-clause-sums
made_of-requires-clause-sums c = c.requires.sums

pub made_of-requires-clause-small : goal.made_of-requires-clause-small
made_of-requires-clause-small c =
    defaults_small (declarations c.args.choice.now.decls.now) c.args.choice.now.setting.now.days.items c.args.choice.now.decls.now.templates_in c.args.choice.now.at_defaults

pub verdict-requires : goal.verdict-requires
verdict-requires c =
    let d = declarations c.args.choice.now.decls.now in
    let contr = contract c.args.next.contr in
    let made = c.in_ok-contr.ensures ∙ ap (λ (numbers : List ℕ). instance numbers contr) c.args.choice.now.at_defaults in
    subst (IsTriable d) (sym made) (triable d contr c.requires)

pub returns-then-is_some : goal.returns-then-is_some
returns-then-is_some c =
    let d = declarations c.args.choice.now.decls.now in
    try_behind d (at_defaults d (c.args.next.name.now, contract c.args.next.contr)) c.args.refused.now c.args.refused.now (sym c.if-is_some.ensures) refl

pub returns-in-Ok : goal.returns-in-Ok
returns-in-Ok c =
    let d = declarations c.args.choice.now.decls.now in
    let contr = contract c.args.next.contr in
    let made = c.in_ok-contr.ensures ∙ ap (λ (numbers : List ℕ). instance numbers contr) c.args.choice.now.at_defaults in
    let granted = subst (IsVerdictOf d (contract c.in_ok-contr.contr)) c.in-Ok.is c.in_ok-verdict.ensures in
    try_accepted d (at_defaults d (c.args.next.name.now, contr)) c.args.refused.now c.args.refused.now (record { name = c.args.next.name; contr = c.in_ok-contr.contr })
    (sym c.if-is_some.ensures) refl (ap (λ (x : Contract). (c.args.next.name.now, x)) made) (triable d contr c.requires)
    (subst (IsAccepted d) made granted.accepted)

pub returns : goal.returns
returns c =
    let d = declarations c.args.choice.now.decls.now in
    let contr = contract c.args.next.contr in
    let made = c.in_ok-contr.ensures ∙ ap (λ (numbers : List ℕ). instance numbers contr) c.args.choice.now.at_defaults in
    let refusal = subst (IsVerdictOf d (contract c.in_ok-contr.contr)) c.in-Err.is c.in_ok-verdict.ensures in
    try_refused d (at_defaults d (c.args.next.name.now, contr)) c.args.refused.now (Some c.in_ok-refusal-in-Err.field-0) c.in-Err.fault
    (sym c.if-is_some.ensures) (subst (λ (x : Contract). IsRefusal d x c.in-Err.fault.rule c.in-Err.fault.node) made refusal)
    (ap (λ (f : Fault). Some f) c.in_ok-refusal-in-Err.ensures)
