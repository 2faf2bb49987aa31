use Rattle.std.specs.Map.Iter.{deref_pair}
use Rattle.std.proofs.lemmas.Map.Iter.{rest_more}
use Rattle.contract_print.proofs.AppendFacts.{bounds_on}
use Rattle.contract_print.proofs.decls.append_labels.Goals as goal

pub append_label-requires : goal.append_label-requires
append_label-requires c =
    let left = rest_more deref_pair c.loop-name.name-iterator c.next.new.self c.next.result (c.in-Some.name, c.in-Some.label) c.in-Some.is c.next.ensures.steps in
    (bounds_on c.loop-name.name-iterator c.next.new.self (c.in-Some.name.now, c.in-Some.label.now) left c.loop-name.invariant.bounds).0
