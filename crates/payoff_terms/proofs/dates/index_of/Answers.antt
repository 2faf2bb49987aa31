use Rattle.std.proofs.Common.{length, arith}
use Rattle.payoff_terms.proofs.IndexFacts.{index_is}
use Rattle.payoff_terms.proofs.dates.index_of.Goals as goal

pub returns-then-name-names-clause-inserts : goal.returns-then-name-names-clause-inserts
returns-then-name-names-clause-inserts c =
    index_is c.args.names.now c.loop-i.i c.args.name (omega arith) (λ l. c.if-name-names.true) c.loop-i.invariant

pub returns-clause-inserts : goal.returns-clause-inserts
returns-clause-inserts c =
    index_is c.args.names.now (length c.args.names.now) c.args.name (omega arith) (λ l. absurd (omega arith)) (λ k l. c.loop-i.invariant k (omega arith))
