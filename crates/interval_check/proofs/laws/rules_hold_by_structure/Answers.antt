use Rattle.interval_check.proofs.ClosedFacts.{closed_need_no_names}
use Rattle.interval_check.proofs.GuaranteeFacts.{rules_are_by_structure, accepted_meet_rules, parts_meet_rules}
use Rattle.interval_check.proofs.laws.rules_hold_by_structure.Goals as goal

pub returns : goal.returns
returns c = record { rules = rules_are_by_structure; accepted = accepted_meet_rules; parts = parts_meet_rules; closed = closed_need_no_names }
