use Rattle.std.proofs.Common.{[], List, length, ℕ}
use Rattle.term_model.specs.Declarations.{declarations}
use Rattle.contract_grammar.specs.ContractReading.{trees}
use Rattle.contract_parse.specs.NextContracts.{IsReadTo}
use Rattle.contract_parse.proofs.next_contracts.read_all.Given as goal

abbrev pub invariant-loop-contracts : goal.invariant-loop-contracts
invariant-loop-contracts l = record {
  read : (bytes : List ℕ) → IsReadTo bytes (declarations l.decls) [] l.fn.reader → IsReadTo bytes (declarations l.decls) (trees l.contracts.entries) l.reader;
}

abbrev pub decreases-loop-contracts : goal.decreases-loop-contracts
decreases-loop-contracts l = length l.reader.ahead.after.now
