use Rattle.std.proofs.Common.{◌≡◌, ◌++◌, []}
use Rattle.std.specs.Prelude.{All}
use Rattle.term_model.specs.Declarations.{declarations}
use Rattle.contract_grammar.specs.Names.{declared_by}
use Rattle.contract_print.specs.Canon.{contracts_text}
use Rattle.contract_grammar.specs.Writable.{IsWritableTerm}
use Rattle.contract_print.proofs.portfolio.append_contracts.Given as goal
use Rattle.contract_grammar.specs.ContractReading.{trees}

-- what stands, and the lines of what is left, are what stood and all lines
abbrev pub invariant-loop-name : goal.invariant-loop-name
invariant-loop-name l = record {
  lines : l.out.items ++ contracts_text (declared_by (declarations l.portfolio.decls) []) (trees l.name-iterator) ≡ l.initial.out.items ++ contracts_text (declared_by (declarations l.portfolio.decls) []) (trees l.portfolio.contracts.entries);
  writable : All (λ entry. IsWritableTerm entry.1) (trees l.name-iterator);
}
