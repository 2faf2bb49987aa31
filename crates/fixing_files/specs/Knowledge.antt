-- What a walk goes by, as clauses see it: declarations, and fixings that they admit.
use Rattle.term_model.specs.Declarations.{Declarations}
use Rattle.term_model.specs.Environments.{Environment}

pub record Knowledge : Type 0 where
  pub decls : Declarations
  pub fixings : Environment
