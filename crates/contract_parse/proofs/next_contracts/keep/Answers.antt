use Rattle.std.proofs.Common.{◌∙◌, ◌∷◌, ◌++◌, [], ap}
use Rattle.indexmap.specs.IndexMap.{keys}
use Rattle.term_model.specs.Terms.{contract}
use Rattle.contract_grammar.specs.Words.{Bytes}
use Rattle.contract_grammar.specs.Names.{is_declared}
use Rattle.contract_grammar.specs.ContractReading.{trees}
use Rattle.contract_grammar.proofs.EntryFacts.{entry_added}
use Rattle.contract_parse.proofs.ContractFacts.{trees_added}
use Rattle.contract_parse.proofs.next_contracts.keep.Goals as goal

pub returns : goal.returns
returns c = λ new.
    let before = c.args.contracts.now.entries in
    let name = c.in_ok-name.name in
    let tree = c.args.next.contr in
    let is_new = ap (is_declared (keys c.args.contracts.now)) c.in_ok-name.ensures ∙ new in
    ap trees (c.in_ok-insert.ensures.entries ∙ entry_added before name tree is_new)
    ∙ trees_added before name tree
    ∙ ap (λ (n : Bytes). trees before ++ (n, contract tree) ∷ []) c.in_ok-name.ensures
