use Rattle.exposure.proofs.LiteralFacts.{all_literals_are_listed}
use Rattle.exposure.proofs.RenamedReads.{reads_are_kept}
use Rattle.exposure.proofs.RenamedRules.{rules_are_kept, acceptance_is_kept, facts_are_kept}
use Rattle.exposure.proofs.RenamedRules.{sizes_are_kept, literals_are_kept, limits_are_kept}
use Rattle.exposure.proofs.RenamedRules.{numbers_are_kept, form_is_kept, redexes_are_kept}
use Rattle.exposure.proofs.laws.renaming_keeps_rules.Goals as goal

pub returns : goal.returns
returns c = record {
  acceptance = record {
    rules = rules_are_kept;
    accepted = acceptance_is_kept;
    facts = facts_are_kept;
  };
  sizes = sizes_are_kept;
  reads = reads_are_kept;
  literals = record {
    listed = all_literals_are_listed;
    literals = literals_are_kept;
    limits = limits_are_kept;
  };
  form = record { form = form_is_kept; numbers = numbers_are_kept };
  redexes = redexes_are_kept;
}
