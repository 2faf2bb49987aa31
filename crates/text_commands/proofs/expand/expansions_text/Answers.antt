use Rattle.std.specs.Global.{Vec}
use Rattle.std.proofs.Common.{◌≡◌, ℕ, List, map, rules, subst}
use Rattle.term_model.specs.declared.name.Name.{Name}
use Rattle.term_model.specs.Declarations.{declarations}
use Rattle.term_model.specs.Terms.{Contract}
use Rattle.contract_grammar.specs.Writable.{IsWritableTerm}
use Rattle.schedule_forms.specs.DeclaredPlans.{IsPlanOfTexts}
use Rattle.schedule_forms.specs.Expansions.{expansion}
use Rattle.schedule_forms.specs.declared.plans.Plan.{Plan}
use Rattle.text_commands.specs.ExpandParts.{AppendsExpansion, ArePlansOfTexts, ArePrintedBefore, ArePrintedExpansions, AreWritableExpansions, expanded_entry}
use Rattle.used_contracts.specs.AcceptingParts.{IsRefusedOne}
use Rattle.used_contracts.specs.AllAccepted.{IsRefusedOf}
use Rattle.text_commands.proofs.ExpandFacts.{next_within, printed_all, printed_more, printed_none, refused_next}
use Rattle.command_courses.proofs.StopFacts.{handed_on}
use Rattle.text_commands.proofs.expand.expansions_text.Goals as goal

pub loop-name-init : goal.loop-name-init
loop-name-init c =
    let d = declarations c.args.decls.now in
    let plans = c.args.plans.now.entries in
    let same : plans ≡ c.into_iter-name-iterator.result = search rules in
    let printed = printed_none d plans c.new-text.result.items c.print_beginning.new.out.items c.new-text.ensures.items c.in_ok-print_beginning.ensures.ok in
    record {
      printed = subst (λ (left : List (Name × Plan)). ArePrintedBefore d plans left c.print_beginning.new.out.items) same printed;
      plans = subst (λ (left : List (Name × Plan)). ArePlansOfTexts d left) same c.requires.plans;
      writable = subst (λ (left : List (Name × Plan)). AreWritableExpansions left) same c.requires.writable;
    }

pub append_expansion-requires-clause-plan : goal.append_expansion-requires-clause-plan
append_expansion-requires-clause-plan c =
    (next_within (IsPlanOfTexts (declarations c.args.decls.now)) c.loop-name.name-iterator c.next.new.self c.in-Some.name.now c.in-Some.plan.now c.in-Some.ensures.steps c.loop-name.invariant.plans).0

pub append_expansion-requires-clause-writable : goal.append_expansion-requires-clause-writable
append_expansion-requires-clause-writable c =
    (next_within (λ (plan : Plan). IsWritableTerm (expansion plan)) c.loop-name.name-iterator c.next.new.self c.in-Some.name.now c.in-Some.plan.now c.in-Some.ensures.steps c.loop-name.invariant.writable).0

pub returns-in_err-append_expansion : goal.returns-in_err-append_expansion
returns-in_err-append_expansion c =
    let d = declarations c.args.decls.now in
    let plans = c.args.plans.now.entries in
    let name = c.in-Some.name.now in
    let plan = c.in-Some.plan.now in
    let entry : Name × Contract = (name, expansion plan) in
    handed_on (λ (u : Unit {0}). AppendsExpansion d name plan c.loop-name.text.items c.append_expansion.new.out.items) (λ (text : Vec ℕ). ArePrintedExpansions d plans text.items)
    (IsRefusedOne d entry) (IsRefusedOf d (map expanded_entry plans))
    (λ f h. refused_next d plans c.loop-name.name-iterator c.next.new.self name plan c.loop-name.text.items c.in-Some.ensures.steps c.loop-name.invariant.printed f h)
    c.in_err-append_expansion.field-0.0 c.from_residual-in_err-append_expansion.result c.in_err-append_expansion.ensures c.from_residual-in_err-append_expansion.ensures.1

pub loop-name-preserved : goal.loop-name-preserved
loop-name-preserved c =
    let d = declarations c.args.decls.now in
    let left = c.loop-name.name-iterator in
    let rest = c.next.new.self in
    let name = c.in-Some.name.now in
    let plan = c.in-Some.plan.now in
    let steps = c.in-Some.ensures.steps in
    record {
      printed = printed_more d c.args.plans.now.entries left rest name plan c.loop-name.text.items steps c.loop-name.invariant.printed c.append_expansion.new.out.items c.in_ok-append_expansion.ensures;
      plans = (next_within (IsPlanOfTexts d) left rest name plan steps c.loop-name.invariant.plans).1;
      writable = (next_within (λ (plan : Plan). IsWritableTerm (expansion plan)) left rest name plan steps c.loop-name.invariant.writable).1;
    }

pub returns : goal.returns
returns c =
    printed_all (declarations c.args.decls.now) c.args.plans.now.entries c.loop-name.name-iterator c.loop-name.text.items c.in-None.ensures.steps.0 c.loop-name.invariant.printed
