use Rattle.term_model.specs.Declarations.{declarations}
use Rattle.used_contracts.specs.ChoosingParts.{StopsIn}
use Rattle.flow_commands.specs.FlowsParts.{ListsFlows, StopsFlows}
use Rattle.flow_commands.specs.NettingParts.{ListsNet}
use Rattle.flow_commands.specs.declared.flows.Listed.{Listed}
use Rattle.flow_commands.proofs.FlowsStops.{listed_few}
use Rattle.command_courses.proofs.StopFacts.{handed_on}
use Rattle.flow_commands.proofs.netting.net_listed.Goals as goal

pub table-requires : goal.table-requires
table-requires c =
    let text = c.requires.begun.0 in
    listed_few text c.args.until.now c.in_ok-listed.listed (c.in_ok-listed.ensures text c.requires.begun.1) c.args.until.now.choice.decls.now.labels_in c.requires.admitted
    c.requires.begun.1.short c.requires.summed

pub returns-in_err-listed : goal.returns-in_err-listed
returns-in_err-listed c = λ text begun.
    let until = c.args.until.now in
    let Stopped = StopsIn text (declarations until.choice.decls.now) (StopsFlows until) in
    handed_on (λ (listed : Listed). ListsFlows text until listed) (ListsNet text until) Stopped Stopped (λ f h. h)
    c.in_err-listed.field-0.0 c.from_residual.result (c.in_err-listed.ensures text begun) c.from_residual.ensures.1

pub returns : goal.returns
returns c = λ text begun. record { listed = c.in_ok-listed.listed; lists = c.in_ok-listed.ensures text begun; told = c.in_ok-net.ensures }
