use Rattle.std.proofs.Common.{subst, sym}
use Rattle.term_model.specs.Environments.{Environment, IsAdmitted}
use Rattle.sample.specs.Sample.{HoldSame, fixings_before, sample_declarations}
use Rattle.sample.proofs.FixingFacts.{no_value, none_at_first}
use Rattle.sample.proofs.fixed.sample_fixings.Goals as goal

pub loop-day-init : goal.loop-day-init
loop-day-init c = record {
  same = subst (λ (e : Environment). HoldSame e (fixings_before 0)) (sym c.none-fixings.ensures) none_at_first;
  admitted = subst (λ (e : Environment). IsAdmitted sample_declarations e) (sym c.none-fixings.ensures) (no_value sample_declarations);
}
