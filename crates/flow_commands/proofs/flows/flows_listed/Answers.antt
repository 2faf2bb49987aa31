use Rattle.std.proofs.Common.{◌≡◌, inl, refl}
use Rattle.std.specs.Prelude.{None, Some}
use Rattle.term_model.specs.Declarations.{declarations}
use Rattle.report.specs.declared.fault_lines.Fault.{Fault}
use Rattle.used_contracts.specs.ChoosingParts.{IsPassed, IsWalkedThrough, StopsIn, StopsOn, selection, so_far}
use Rattle.flow_commands.specs.FlowsParts.{HasFlows, ListsFlows, StopsFlows}
use Rattle.used_contracts.specs.Portfolios.{IsBadText}
use Rattle.used_contracts.specs.declared.choosing.Tried.{Tried}
use Rattle.flow_commands.specs.declared.flows.KeptFlows.{KeptFlows}
use Rattle.flow_commands.specs.declared.flows.Listed.{Listed}
use Rattle.flow_commands.proofs.FlowsStops.{first_stops_flows, flows_are_listed}
use Rattle.command_courses.proofs.StopFacts.{handed_on}
use Rattle.flow_commands.proofs.flows.flows_listed.Goals as goal

pub returns-in_err-tried : goal.returns-in_err-tried
returns-in_err-tried c = λ text begun.
    let until = c.args.until.now in
    let d = declarations until.choice.decls.now in
    handed_on (λ (all : Tried × KeptFlows). IsWalkedThrough text d (selection until.choice) (HasFlows until all.1) all.0) (λ (listed : Listed). ListsFlows text until listed)
    (IsBadText text) (StopsIn text d (StopsFlows until)) (λ f h. inl h) c.in_err-tried.field-0.0 c.from_residual.result (c.in_err-tried.ensures text begun) c.from_residual.ensures.1

pub returns-in_err-first_stop : goal.returns-in_err-first_stop
returns-in_err-first_stop c = λ text begun.
    let until = c.args.until.now in
    let d = declarations until.choice.decls.now in
    let s = selection until.choice in
    let tried = c.in_ok-tried.tried in
    let kept = c.in_ok-tried.kept in
    let h = c.in_ok-tried.ensures text begun in
    let b = so_far d h.entries in
    handed_on (λ (u : Unit {0}). IsPassed b s tried kept.missing) (λ (listed : Listed). ListsFlows text until listed)
    (StopsOn b s (λ (f : Fault). (tried.refused ≡ None) × (kept.missing ≡ Some f))) (StopsIn text d (StopsFlows until)) (first_stops_flows text until tried kept h)
    c.in_err-first_stop.field-0.0 c.from_residual-in_err-first_stop.result (c.in_err-first_stop.ensures b s refl h.trial) c.from_residual-in_err-first_stop.ensures.1

pub returns : goal.returns
returns c = λ text begun.
    let until = c.args.until.now in
    let h = c.in_ok-tried.ensures text begun in
    flows_are_listed text until c.in_ok-tried.tried c.in_ok-tried.kept h
    (c.in_ok-first_stop.ensures (so_far (declarations until.choice.decls.now) h.entries) (selection until.choice) refl h.trial)
