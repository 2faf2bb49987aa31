-- The laws of residuals: a contract carries itself over no days, and a residual of a residual, under more fixings, carries
-- the first contract over all the days. So a book that is advanced a day at a time is as good as one that is advanced at
-- once.
use Rattle.std.specs.Prelude.{ℕ, ℤ, pos, ◌+◌, ◌+ℤ◌}
use Rattle.term_model.specs.Declarations.{Declarations}
use Rattle.term_model.specs.Terms.{Contract}
use Rattle.term_model.specs.Environments.{Environment, Extends}
use Rattle.term_model.specs.Residuals.{Carries}

abbrev pub CarriesItself : Type 0
CarriesItself = (d : Declarations) (c : Contract) (f : ℤ) (fixings : Environment) → Carries d c f fixings 0 c

abbrev pub CarriesComposes : Type 0
CarriesComposes =
    (d : Declarations) (c rest last : Contract) (f : ℤ) (fixings more : Environment) (m k : ℕ)
    → Carries d c f fixings m rest → Carries d rest (f +ℤ pos m) more k last → Extends fixings more
    → Carries d c f more (m + k) last
