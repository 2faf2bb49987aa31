use Rattle.term_model.specs.Declarations.{declarations}
use Rattle.term_model.specs.Terms.{contract}
use Rattle.used_contracts.specs.ChoosingParts.{selection}
use Rattle.used_contracts.proofs.ChoosingFacts.{steps_nothing}
use Rattle.used_contracts.proofs.choosing.try_on.Goals as goal

pub returns : goal.returns
returns c =
    steps_nothing (declarations c.args.choice.now.decls.now) (selection c.args.choice.now) (c.args.next.name.now, contract c.args.next.contr)
    c.args.tried.now c.choose.new.tried c.in_ok-choose.field-0 c.in_ok-choose.ensures
