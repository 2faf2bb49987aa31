use Rattle.std.proofs.Common.{ap, List, [], subst}
use Rattle.term_model.specs.Declarations.{declarations}
use Rattle.contract_grammar.specs.Names.{declared_by}
use Rattle.contract_print.specs.Canon.{contract_text}
use Rattle.contract_print.proofs.AppendFacts.{lines_on}
use Rattle.std.specs.Prelude.{All}
use Rattle.std.specs.Map.Iter.{deref_pair}
use Rattle.std.proofs.lemmas.Map.Iter.{rest_more}
use Rattle.std.proofs.lemmas.List.Elements.{All-head, All-tail}
use Rattle.term_model.specs.declared.name.Name.{Name}
use Rattle.term_model.specs.declared.terms.Contr.{Contr}
use Rattle.term_model.specs.Terms.{Contract, contract}
use Rattle.contract_grammar.specs.Writable.{IsWritableTerm}
use Rattle.contract_print.proofs.portfolio.append_contracts.Goals as goal
use Rattle.contract_grammar.specs.ContractReading.{trees}

pub append_contract-requires : goal.append_contract-requires
append_contract-requires c =
    let left = rest_more deref_pair c.loop-name.name-iterator c.next.new.self c.next.result (c.in-Some.name, c.in-Some.contr) c.in-Some.is c.next.ensures.steps in
    let all = subst (λ (xs : List (Name × Contr)). All (λ (entry : Name × Contract). IsWritableTerm entry.1) (trees xs)) left c.loop-name.invariant.writable in
    All-head (λ (entry : Name × Contract). IsWritableTerm entry.1) (c.in-Some.name.now, contract c.in-Some.contr.now) (trees c.next.new.self) all

pub loop-name-preserved : goal.loop-name-preserved
loop-name-preserved c =
    let d = declarations c.args.portfolio.now.decls in
    let left = rest_more deref_pair c.loop-name.name-iterator c.next.new.self c.next.result (c.in-Some.name, c.in-Some.contr) c.in-Some.is c.next.ensures.steps in
    let all = subst (λ (xs : List (Name × Contr)). All (λ (entry : Name × Contract). IsWritableTerm entry.1) (trees xs)) left c.loop-name.invariant.writable in
    let next : Name × Contract = (c.in-Some.name.now, contract c.in-Some.contr.now) in
    record {
      lines = lines_on (λ (entry : Name × Contract). contract_text (declared_by d []) entry.0 entry.1) (trees c.loop-name.name-iterator) (trees c.next.new.self) next c.loop-name.out.items c.append_contract.new.out.items _ (ap trees left) (rw c.text.ensures at c.in_ok-append_contract.ensures) c.loop-name.invariant.lines;
      writable = All-tail (λ (entry : Name × Contract). IsWritableTerm entry.1) next (trees c.next.new.self) all;
    }
