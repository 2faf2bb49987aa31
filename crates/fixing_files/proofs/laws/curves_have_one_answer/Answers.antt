use Rattle.fixing_files.proofs.CurveLawFacts.{are_answered, faults_unique, faulty_hold_none, one_curve}
use Rattle.fixing_files.proofs.laws.curves_have_one_answer.Goals as goal

pub returns-clause-answered : goal.returns-clause-answered
returns-clause-answered c = are_answered

pub returns-clause-faults : goal.returns-clause-faults
returns-clause-faults c = faults_unique

pub returns-clause-either : goal.returns-clause-either
returns-clause-either c = faulty_hold_none

pub returns-clause-curves : goal.returns-clause-curves
returns-clause-curves c = one_curve
