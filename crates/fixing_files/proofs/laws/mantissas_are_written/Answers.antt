use Rattle.fixing_files.proofs.DecimalFacts.{mantissas_written}
use Rattle.fixing_files.proofs.laws.mantissas_are_written.Goals as goal

pub returns : goal.returns
returns c = mantissas_written
