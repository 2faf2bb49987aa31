use Rattle.term_model.specs.Declarations.{declarations}
use Rattle.fixing_files.specs.Tables.{table_of}
use Rattle.scenario_set.proofs.RisingFacts.{all_answered}
use Rattle.scenario_set.proofs.rising.read_rising.Goals as goal

pub returns-in-Some : goal.returns-in-Some
returns-in-Some c =
    let gathered = rw c.in-Some.is at c.in_ok-found.ensures in
    all_answered (declarations c.args.decls.now) (table_of c.args.bytes.now) c.in-Some.rising c.settle.result gathered c.settle.ensures
