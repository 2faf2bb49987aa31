use Rattle.std.specs.Prelude.{ℕ}
use Rattle.std.specs.Global.{Vec}
use Rattle.term_model.specs.Declarations.{declarations}
use Rattle.used_contracts.specs.ChoosingParts.{StopsIn}
use Rattle.flow_commands.specs.FlowsParts.{ListsFlows, StopsFlows, TellsLines}
use Rattle.flow_commands.specs.declared.flows.Listed.{Listed}
use Rattle.flow_commands.proofs.FlowsStops.{can_be_summed}
use Rattle.command_courses.proofs.StopFacts.{handed_on}
use Rattle.flow_commands.proofs.flows.lines_asked.Goals as goal

pub sum_lines-requires-clause-summable : goal.sum_lines-requires-clause-summable
sum_lines-requires-clause-summable c =
    let text = c.requires.begun.0 in
    can_be_summed text c.args.until.now c.in_ok-listed.listed (c.in_ok-listed.ensures text c.requires.begun.1) c.requires.begun.1.short c.if-until.true

pub returns-in_err-listed : goal.returns-in_err-listed
returns-in_err-listed c = λ text begun.
    let until = c.args.until.now in
    let Stopped = StopsIn text (declarations until.choice.decls.now) (StopsFlows until) in
    handed_on (λ (listed : Listed). ListsFlows text until listed) (λ (lines : Vec ℕ). TellsLines text until lines) Stopped Stopped (λ f h. h)
    c.in_err-listed.field-0.0 c.from_residual.result (c.in_err-listed.ensures text begun) c.from_residual.ensures.1
