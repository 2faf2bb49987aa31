use Rattle.std.proofs.Common.{[], sym, subst}
use Rattle.term_model.specs.Declarations.{declarations}
use Rattle.term_core.specs.declared.shared.SharedContr.{SharedContr}
use Rattle.simplify.specs.TurnableContracts.{CanTurnIn}
use Rattle.simplify.proofs.SimplifyingFacts.{accepted_turns}
use Rattle.simplify.proofs.simplifying.turn_shared.Goals as goal

pub turn_in-requires : goal.turn_in-requires
turn_in-requires c =
    subst (λ (v : SharedContr). CanTurnIn (declarations c.args.decls.now) v []) (sym c.deref.ensures)
    (accepted_turns (declarations c.args.decls.now) c.args.s.now.value c.args.decls.now.labels_in c.requires.accepted)
