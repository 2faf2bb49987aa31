use Rattle.std.proofs.Common.{length}
use Rattle.term_model.specs.Declarations.{declarations}
use Rattle.fixing_files.specs.Tables.{table_of}
use Rattle.scenario_set.proofs.AnswerFacts.{are_within, holds_scenarios}
use Rattle.scenario_set.proofs.tables.read_watched.Goals as goal

pub settle-requires-clause-within : goal.settle-requires-clause-within
settle-requires-clause-within c =
    let table = table_of c.args.bytes.now in
    are_within (declarations c.args.decls.now) table (length table) c.in_ok-draft.draft.names.keys c.in_ok-draft.draft.watch c.in_ok-draft.ensures.0

pub returns-in-Ok : goal.returns-in-Ok
returns-in-Ok c =
    holds_scenarios (declarations c.args.decls.now) (table_of c.args.bytes.now) c.in_ok-draft.draft.names.keys c.in_ok-draft.draft.watch c.in_ok-draft.ensures.0 c.in-Ok.set c.in_ok-draft.ensures.1 c.in-Ok.ensures
