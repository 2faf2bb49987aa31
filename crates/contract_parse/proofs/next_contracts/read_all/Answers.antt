use Rattle.std.proofs.Common.{◌∙◌, List, Ok, Option, ap, subst, sym}
use Rattle.term_model.specs.Declarations.{declarations}
use Rattle.term_model.specs.Terms.{Contract}
use Rattle.contract_grammar.specs.Words.{Bytes}
use Rattle.contract_grammar.specs.Names.{is_declared}
use Rattle.contract_grammar.specs.ContractReading.{trees}
use Rattle.contract_parse.specs.NextContracts.{AnswersNext, IsReadTo}
use Rattle.contract_parse.specs.declared.next_contracts.NextContract.{NextContract}
use Rattle.contract_parse.proofs.ContractFacts.{keys_of_trees}
use Rattle.contract_parse.proofs.next_contracts.read_all.Goals as goal

pub loop-contracts-preserved : goal.loop-contracts-preserved
loop-contracts-preserved c = record {
  read = λ bytes start.
      let before = c.loop-contracts.contracts.entries in
      let name = c.in-Some.next.name.now in
      let d = declarations c.args.decls.now in
      let after = c.next_contract.new.reader in
      let answered = c.in_ok-next.ensures.next bytes (trees before) (c.loop-contracts.invariant.read bytes start) in
      let next = subst (λ (found : Option NextContract). AnswersNext bytes d (trees before) after (Ok found)) c.in-Some.is answered in
      let is_new = ap (λ (names : List Bytes). is_declared names name) (keys_of_trees before) ∙ next.new in
      subst (λ (entries : List (Bytes × Contract)). IsReadTo bytes d entries after) (sym (c.in_default-keep.ensures is_new)) next.read;
}
