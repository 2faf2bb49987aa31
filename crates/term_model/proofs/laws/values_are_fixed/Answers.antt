use Rattle.term_model.proofs.ReadLawFacts.{expression_reads_stay, values_fixed}
use Rattle.term_model.proofs.laws.values_are_fixed.Goals as goal

pub returns : goal.returns
returns c = record { reads = expression_reads_stay; value = values_fixed }
