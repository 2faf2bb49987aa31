use Rattle.term_model.specs.Declarations.{declarations}
use Rattle.fixing_files.specs.Tables.{table_of}
use Rattle.scenario_set.proofs.AnswerFacts.{answer_admitted, are_admitted}
use Rattle.scenario_set.proofs.tables.read_scenarios.Goals as goal

pub returns-in-Some-clause-admitted : goal.returns-in-Some-clause-admitted
returns-in-Some-clause-admitted c =
    let holds = rw c.in-Some.is at c.in-Ok.ensures in
    are_admitted (declarations c.args.decls.now) (table_of c.args.bytes.now) c.in-Some.set holds

pub returns-in-None-clause-admitted : goal.returns-in-None-clause-admitted
returns-in-None-clause-admitted c =
    answer_admitted (declarations c.args.decls.now) (table_of c.args.bytes.now) c.read_watched.result c.read_watched.ensures
