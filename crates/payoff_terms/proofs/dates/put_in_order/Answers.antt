use Rattle.payoff_terms.proofs.OrderFacts.{sorted_so}
use Rattle.payoff_terms.proofs.dates.put_in_order.Goals as goal

pub returns : goal.returns
returns c = sorted_so c.args.names.now.items c.sort_unstable.new.self.items c.sort_unstable.ensures.permutation c.sort_unstable.ensures.sorted
