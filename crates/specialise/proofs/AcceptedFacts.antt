-- What is specialised of an accepted contract is accepted.
use Rattle.std.proofs.Common.{[]}
use Rattle.term_model.proofs.TimeFacts.{times_mean_typed}
use Rattle.interval_check.proofs.GuaranteeFacts.{accepted_meet_rules}
use Rattle.rewriting.proofs.RewritingContracts.{rewritten_meet_rules}
use Rattle.specialise.specs.Specialising.{specialised_in}
use Rattle.specialise.specs.LawsAccepted.{SpecialisedIsAccepted}
use Rattle.specialise.proofs.SpecialTimes.{contract_typed}
use Rattle.rewriting.proofs.SmallFacts.{nodes_are_small, small_are_met}
use Rattle.specialise.proofs.SpecialSmall.{contract_small}
use Rattle.specialise.proofs.SpecialRules.{special_rewritten}

pub special_accepted : SpecialisedIsAccepted
special_accepted d c F o limits a h =
    let rules = rewritten_meet_rules d c (specialised_in d F o c) limits h.sorts h.scales h.bounds (special_rewritten d F o c [] [] limits a tt tt (accepted_meet_rules d c h)) in
    let type = (times_mean_typed d c).0 h.times in
    record {
      sorts = rules.0;
      times = (times_mean_typed d (specialised_in d F o c)).1 (type.0, contract_typed d F o c [] type.0 type.1);
      scales = rules.1;
      sizes = small_are_met d (specialised_in d F o c) (contract_small d F o c [] [] (nodes_are_small d c h.sizes));
      bounds = rules.2;
    }
