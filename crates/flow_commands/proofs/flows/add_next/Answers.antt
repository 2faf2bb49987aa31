use Rattle.std.proofs.Common.{subst}
use Rattle.std.specs.Prelude.{Option}
use Rattle.term_model.specs.declared.name.Name.{Name}
use Rattle.term_model.specs.Declarations.{declarations}
use Rattle.term_model.specs.Terms.{Contract, contract}
use Rattle.contract_parse.specs.declared.next_contracts.NextContract.{NextContract}
use Rattle.used_contracts.specs.ChoosingParts.{Chooses, selection}
use Rattle.used_contracts.proofs.ChoosingFacts.{used_accepted}
use Rattle.flow_commands.proofs.flows.add_next.Goals as goal

pub add_flows-requires-clause-accepted : goal.add_flows-requires-clause-accepted
add_flows-requires-clause-accepted c =
    let d = declarations c.args.until.now.choice.decls.now in
    let s = selection c.args.until.now.choice in
    let entry : Name × Contract = (c.args.next.name.now, contract c.args.next.contr) in
    used_accepted d s entry c.args.tried.now c.choose.new.tried c.in-Some.one
    (subst (λ (o : Option NextContract). Chooses d s entry c.args.tried.now c.choose.new.tried o) c.in-Some.is c.in_ok-one.ensures)
