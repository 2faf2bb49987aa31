use Rattle.fixing_files.proofs.LawFacts.{faults_unique, faulty_hold_nothing, one_map}
use Rattle.fixing_files.proofs.laws.tables_have_one_answer.Goals as goal

pub returns-clause-faults : goal.returns-clause-faults
returns-clause-faults c = faults_unique

pub returns-clause-either : goal.returns-clause-either
returns-clause-either c = faulty_hold_nothing

pub returns-clause-fixings : goal.returns-clause-fixings
returns-clause-fixings c = one_map
