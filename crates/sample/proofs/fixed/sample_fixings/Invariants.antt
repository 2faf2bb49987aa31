use Rattle.term_model.specs.Environments.{IsAdmitted}
use Rattle.sample.specs.Sample.{HoldSame, fixings_before, sample_declarations}
use Rattle.sample.proofs.fixed.sample_fixings.Given as goal

abbrev pub invariant-loop-day : goal.invariant-loop-day
invariant-loop-day l = record { same : HoldSame l.fixings (fixings_before l.day); admitted : IsAdmitted sample_declarations l.fixings }
