use Rattle.std.proofs.Common.{subst, sym}
use Rattle.term_model.specs.Acceptance.{IsAccepted}
use Rattle.term_model.specs.Declarations.{declarations}
use Rattle.term_model.specs.Instances.{declared_numbers}
use Rattle.term_model.specs.Terms.{contract}
use Rattle.library_rows.proofs.OwnInstance.{own_instance}
use Rattle.library_rows.proofs.contracts.code_of_contract.Goals as goal

pub compile-requires-clause-accepted : goal.compile-requires-clause-accepted
compile-requires-clause-accepted c =
    let d = declarations c.args.decls.now in
    let contr = contract c.args.c.now in
    subst (IsAccepted d) (sym (own_instance (declared_numbers d) contr c.requires.2)) c.requires.0
