use Rattle.term_model.specs.Declarations.{declarations}
use Rattle.advance_step.proofs.KnownFacts.{known_answers}
use Rattle.advance_step.proofs.known.carry_known.Goals as goal

pub returns : goal.returns
returns c =
    let d = declarations c.args.decls.now in
    known_answers d c.args.fixings.now c.args.s.now.value c.args.span.day c.args.span.last
    c.carry_over.result c.args.decls.now.labels_in c.requires.accepted c.requires.known
    c.carry_over.ensures
