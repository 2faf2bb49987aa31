use Rattle.std.proofs.Common.{sym, subst}
use Rattle.term_model.specs.Acceptance.{IsAccepted}
use Rattle.term_model.specs.Declarations.{declarations}
use Rattle.term_model.specs.Terms.{Contract, contract}
use Rattle.term_model.specs.WellFormed.{IsClosed}
use Rattle.specialise.proofs.CallFacts.{offsets_shared}
use Rattle.library_rows.proofs.residuals.shared_parts.Goals as goal

pub returns-clause-offsets : goal.returns-clause-offsets
returns-clause-offsets c =
    offsets_shared (declarations c.args._decls.now) c.in_ok-s.s.value (contract c.args.c.now) c.in_ok-s.ensures.tree c.in_ok-s.ensures.moved c.requires.1
