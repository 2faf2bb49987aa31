use Rattle.term_model.specs.Declarations.{declarations}
use Rattle.library_rows.proofs.contracts.by_rules.Goals as goal

pub bounds-requires-clause-small : goal.bounds-requires-clause-small
bounds-requires-clause-small c = c.in-Ok.ensures.0 (declarations c.args.decls.now)
