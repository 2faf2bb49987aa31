use Rattle.std.proofs.Common.{rules, arith}
use Rattle.flow_eval.proofs.SortFacts.{order_from_sort_by_key, order_of_one}
use Rattle.flow_eval.proofs.netting.sort.Goals as goal

pub returns-then-len-lt2-clause-in_order : goal.returns-then-len-lt2-clause-in_order
returns-then-len-lt2-clause-in_order c = order_of_one c.args.payments.now.items (grind (arith, c.if-len-lt2.true, c.len.ensures))

pub returns-clause-in_order : goal.returns-clause-in_order
returns-clause-in_order c = order_from_sort_by_key _ c.in_ok-sort_by_key.ensures.sorted (λ a r q k. search rules)
