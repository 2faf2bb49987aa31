use Rattle.std.proofs.Common.{subst, sym}
use Rattle.term_model.specs.Terms.{Contract, contract}
use Rattle.contract_grammar.specs.Writable.{IsWritableTerm}
use Rattle.lifecycle_commands.proofs.WritableFacts.{changed_writable}
use Rattle.lifecycle_commands.proofs.advance.keep.Goals as goal

pub print_contract-requires : goal.print_contract-requires
print_contract-requires c =
    subst (λ (x : Contract). IsWritableTerm x) (sym c.in_ok-rest.ensures)
    (changed_writable c.args.to.now.renaming (c.args.name.now, contract c.args.advanced.rest) c.requires.writable)
