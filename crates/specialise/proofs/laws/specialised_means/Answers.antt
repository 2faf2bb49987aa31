use Rattle.specialise.proofs.SpecialValues.{special_kind, special_value}
use Rattle.specialise.proofs.SpecialReads.{special_reads}
use Rattle.specialise.proofs.SpecialSizes.{special_smaller, nothing_told}
use Rattle.specialise.proofs.SpecialShifts.{special_shifts}
use Rattle.specialise.proofs.laws.specialised_means.Goals as goal

pub returns-clause-kinds : goal.returns-clause-kinds
returns-clause-kinds c = special_kind

pub returns-clause-values : goal.returns-clause-values
returns-clause-values c = special_value

pub returns-clause-reads : goal.returns-clause-reads
returns-clause-reads c = special_reads

pub returns-clause-size : goal.returns-clause-size
returns-clause-size c = special_smaller

pub returns-clause-unknown : goal.returns-clause-unknown
returns-clause-unknown c = nothing_told

pub returns-clause-shifts : goal.returns-clause-shifts
returns-clause-shifts c = special_shifts
