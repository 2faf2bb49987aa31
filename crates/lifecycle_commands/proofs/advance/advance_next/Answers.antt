use Rattle.term_model.specs.declared.name.Name.{Name}
use Rattle.term_model.specs.Terms.{Contract, contract}
use Rattle.lifecycle_commands.specs.AdvanceParts.{HasRests, declared_to}
use Rattle.used_contracts.specs.ChoosingParts.{selection}
use Rattle.lifecycle_commands.proofs.AdvanceFacts.{chosen_accepted, chosen_none, chosen_one, chosen_triable, on_ok}
use Rattle.used_contracts.proofs.ChoosingFacts.{steps_passed, steps_used}
use Rattle.lifecycle_commands.proofs.advance.advance_next.Goals as goal

pub advance_one-requires-clause-accepted : goal.advance_one-requires-clause-accepted
advance_one-requires-clause-accepted c =
    let d = declared_to c.args.to.now in
    let s = selection c.args.to.now.choice in
    let entry : Name × Contract = (c.args.next.name.now, contract c.args.next.contr) in
    let one = c.in-Some.one in
    chosen_accepted d s entry c.args.tried.now c.choose.new.tried one
    (chosen_one d s entry c.args.tried.now c.choose.new.tried one c.in_ok-one.field-0 c.in-Some.is c.in_ok-one.ensures)

pub advance_one-requires-clause-triable : goal.advance_one-requires-clause-triable
advance_one-requires-clause-triable c =
    let d = declared_to c.args.to.now in
    let s = selection c.args.to.now.choice in
    let entry : Name × Contract = (c.args.next.name.now, contract c.args.next.contr) in
    let one = c.in-Some.one in
    chosen_triable d s entry c.args.tried.now c.choose.new.tried one
    (chosen_one d s entry c.args.tried.now c.choose.new.tried one c.in_ok-one.field-0 c.in-Some.is c.in_ok-one.ensures)

pub returns-in_default : goal.returns-in_default
returns-in_default c =
    let d = declared_to c.args.to.now in
    let s = selection c.args.to.now.choice in
    let entry : Name × Contract = (c.args.next.name.now, contract c.args.next.contr) in
    steps_passed d s entry c.args.tried.now c.choose.new.tried (HasRests c.args.to.now c.args.kept.now)
    (chosen_none d s entry c.args.tried.now c.choose.new.tried c.in_ok-one.field-0 c.in_default.not-Some c.in_ok-one.ensures)

pub returns : goal.returns
returns c =
    let to = c.args.to.now in
    let d = declared_to to in
    let s = selection to.choice in
    let entry : Name × Contract = (c.args.next.name.now, contract c.args.next.contr) in
    let one = c.in-Some.one in
    let chosen = chosen_one d s entry c.args.tried.now c.choose.new.tried one c.in_ok-one.field-0 c.in-Some.is c.in_ok-one.ensures in
    on_ok _ _ c.advance_one.result c.advance_one.ensures
    (λ adds. steps_used d s entry c.args.tried.now c.choose.new.tried (HasRests to c.args.kept.now) (HasRests to c.advance_one.new.kept) one chosen adds)
