use Rattle.std.proofs.Common.{Option, Some, None, subst}
use Rattle.term_model.specs.Declarations.{declarations}
use Rattle.fixing_files.specs.Folds.{SettlesAll}
use Rattle.fixing_files.specs.Gathering.{Gathers}
use Rattle.fixing_files.specs.Runs.{values_of}
use Rattle.fixing_files.specs.Tables.{table_of}
use Rattle.fixing_files.specs.declared.faults.RowFault.{RowFault}
use Rattle.fixing_files.specs.declared.folds.AllSettled.TheVariants.{Runs, Clashes}
use Rattle.fixing_files.proofs.GatherFacts.{gathers_clash, gathers_fault, gathers_holds, gathers_own, settled_rise}
use Rattle.fixing_files.proofs.LawFacts.{holds_admitted, holds_placed}
use Rattle.fixing_files.proofs.tables.read_fixings.Goals as goal

pub settle_all-requires-clause-numbers : goal.settle_all-requires-clause-numbers
settle_all-requires-clause-numbers c =
    gathers_own (declarations c.args.decls.now) (table_of c.args.bytes.now) c.in-Ok.field-0.runs.items c.in-Ok.field-0.fault c.in-Ok.ensures

pub invariant_of-result : goal.invariant_of-result
invariant_of-result c =
    let settles : SettlesAll c.in-Ok.field-0.runs.items (Runs c.in-Ok-Runs.runs) = rw c.in-Ok-Runs.field-0-is at c.in-Ok-Runs.ensures in
    (settled_rise c.in-Ok.field-0.runs.items c.in-Ok-Runs.runs settles, rw c.deref.ensures.value at c.in-Ok-blocks_of_all.ensures)

pub returns-in-Ok-Clashes-clause-answer : goal.returns-in-Ok-Clashes-clause-answer
returns-in-Ok-Clashes-clause-answer c =
    let runs = c.in-Ok.field-0.runs.items in
    let clash = c.in-Ok-Clashes.clash in
    let settles : SettlesAll runs (Clashes clash) = rw c.in-Ok-Clashes.field-0-is at c.in-Ok-Clashes.ensures in
    rw c.refused.ensures (gathers_clash (declarations c.args.decls.now) (table_of c.args.bytes.now) runs c.in-Ok.field-0.fault clash c.in-Ok.ensures settles)

pub returns-in-Some-clause-answer : goal.returns-in-Some-clause-answer
returns-in-Some-clause-answer c =
    let d = declarations c.args.decls.now in
    let table = table_of c.args.bytes.now in
    let runs = c.in-Ok.field-0.runs.items in
    let settles : SettlesAll runs (Runs c.in-Ok-Runs.runs) = rw c.in-Ok-Runs.field-0-is at c.in-Ok-Runs.ensures in
    let gathers : Gathers d table runs (Some c.in-Some.fault) = subst (λ (o : Option RowFault). Gathers d table runs o) c.in-Some.is c.in-Ok.ensures in
    gathers_fault d table runs c.in-Some.fault c.in-Ok-Runs.runs gathers settles

pub returns-in-Ok-blocks_of_all-clause-answer : goal.returns-in-Ok-blocks_of_all-clause-answer
returns-in-Ok-blocks_of_all-clause-answer c =
    let d = declarations c.args.decls.now in
    let table = table_of c.args.bytes.now in
    let runs = c.in-Ok.field-0.runs.items in
    let settles : SettlesAll runs (Runs c.in-Ok-Runs.runs) = rw c.in-Ok-Runs.field-0-is at c.in-Ok-Runs.ensures in
    let gathers : Gathers d table runs None = subst (λ (o : Option RowFault). Gathers d table runs o) c.in-None.is c.in-Ok.ensures in
    gathers_holds d table runs c.in-Ok-Runs.runs gathers settles

pub returns-in-Ok-blocks_of_all-clause-admitted : goal.returns-in-Ok-blocks_of_all-clause-admitted
returns-in-Ok-blocks_of_all-clause-admitted c =
    holds_admitted (declarations c.args.decls.now) (table_of c.args.bytes.now) (values_of c.in-Ok-Runs.runs.items) (returns-in-Ok-blocks_of_all-clause-answer c)

pub returns-in-Ok-blocks_of_all-clause-placed : goal.returns-in-Ok-blocks_of_all-clause-placed
returns-in-Ok-blocks_of_all-clause-placed c =
    holds_placed (declarations c.args.decls.now) (table_of c.args.bytes.now) (values_of c.in-Ok-Runs.runs.items) (returns-in-Ok-blocks_of_all-clause-answer c)
