-- A turn of an accepted contract is accepted.
use Rattle.std.proofs.Common.{[]}
use Rattle.term_model.proofs.TimeFacts.{times_mean_typed}
use Rattle.interval_check.proofs.GuaranteeFacts.{accepted_meet_rules, rules_are_by_structure}
use Rattle.simplify.specs.TurningContracts.{turned_in}
use Rattle.simplify.proofs.TurnTimes.{turns_keep_types}
use Rattle.simplify.proofs.TurnSmall.{turns_keep_sizes}
use Rattle.simplify.specs.LawsTurnsStand.{TurnIsAccepted}
use Rattle.simplify.proofs.TurnReplaces.{contract_turn_replaces}

pub turn_accepted : TurnIsAccepted
turn_accepted d c limits h =
    let k = turned_in d [] c in
    let rules = (contract_turn_replaces d c [] [] limits tt tt tt (accepted_meet_rules d c h)).rules in
    let by = rules_are_by_structure d k in
    let type = (times_mean_typed d c).0 h.times in
    record {
      sorts = by.0.1 rules.sorts;
      times = (times_mean_typed d k).1 (type.0, turns_keep_types d c [] [] type.0 type.1);
      scales = by.1.1 rules.scales;
      sizes = turns_keep_sizes d c [] h.sizes;
      bounds = by.2.1 rules.bounds;
    }
