use Rattle.term_model.specs.Declarations.{declarations}
use Rattle.term_model.specs.Terms.{contract}
use Rattle.sample.proofs.ContractFacts.{is_accepted, not_missing, rows_known}
use Rattle.sample.proofs.summing.table_of.Goals as goal

pub flows-requires-clause-accepted : goal.flows-requires-clause-accepted
flows-requires-clause-accepted c = is_accepted (declarations c.args.decls.now) c.requires.declared (contract c.args.contr.now) c.requires.sample

pub returns-in-Ok-clause-rows : goal.returns-in-Ok-clause-rows
returns-in-Ok-clause-rows c =
    rows_known (declarations c.args.decls.now) c.requires.declared (contract c.args.contr.now) c.requires.sample c.args.fixings.now c.in-Ok.table.rows.items c.requires.same c.in-Ok.ensures

pub unreachable-requires : goal.unreachable-requires
unreachable-requires c =
    not_missing (declarations c.args.decls.now) c.requires.declared (contract c.args.contr.now) c.requires.sample c.args.fixings.now (record { label = c.in-Err-Missing.field-0-0; day = c.in-Err-Missing.field-0-1 }) c.requires.same (rw c.in-Err-Missing.field-0-is at c.in-Err-Missing.ensures)
