-- What is left of an accepted contract is accepted.
use Rattle.std.proofs.Common.{suc, pos, ◌-ℤ◌, []}
use Rattle.term_model.proofs.TimeFacts.{times_mean_typed}
use Rattle.interval_check.proofs.GuaranteeFacts.{accepted_meet_rules, rules_are_by_structure}
use Rattle.advance_step.specs.WhatIsLeft.{left_of}
use Rattle.advance_step.proofs.LeftRules.{left_replaces}
use Rattle.advance_step.proofs.LeftTimes.{left_typed}
use Rattle.rewriting.proofs.SmallFacts.{nodes_are_small, small_are_met}
use Rattle.advance_step.specs.LawsLeftAccepted.{LeftIsAccepted}
use Rattle.advance_step.proofs.LeftSmall.{left_small}

pub left_accepted : LeftIsAccepted
left_accepted d c env f j limits h =
    let k = left_of d c [] env f j in
    let rules = (left_replaces d c [] env f j [] limits tt (accepted_meet_rules d c h)).rules in
    let by = rules_are_by_structure d k in
    let type = (times_mean_typed d c).0 h.times in
    record {
      sorts = by.0.1 rules.sorts;
      times = (times_mean_typed d k).1 (type.0 -ℤ pos (suc j), left_typed d c [] env f j [] type.0 type.1);
      scales = by.1.1 rules.scales;
      sizes = small_are_met d k (left_small d c [] env f j [] [] (nodes_are_small d c h.sizes));
      bounds = by.2.1 rules.bounds;
    }
