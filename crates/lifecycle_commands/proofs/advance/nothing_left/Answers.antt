use Rattle.term_model.specs.Declarations.{declarations}
use Rattle.lifecycle_commands.proofs.AdvanceFacts.{none_left}
use Rattle.lifecycle_commands.proofs.advance.nothing_left.Goals as goal

pub returns : goal.returns
returns c =
    none_left c.args.to.now (record { due = c.new.result; rest = c.print_beginning.new.out }) (declarations c.in_ok-decls.decls) c.new-rest.result.items
    c.new.ensures.items c.in_ok-decls.ensures c.new-rest.ensures.items c.in_ok-print_beginning.ensures.ok
