-- What is asked of a contract before it is tried.
use Rattle.std.specs.Prelude.{◌≤◌, ◌<◌, ◌^◌}
use Rattle.term_model.specs.Declarations.{Declarations}
use Rattle.term_model.specs.Terms.{Contract}
use Rattle.term_model.specs.Sizes.{height_of_contract, nodes_of_contract}
use Rattle.term_model.specs.WellFormed.{HasOnlyNumbers, IsClosed}

-- a contract without names of templates that can be tried
pub record IsTriable (d : Declarations) (c : Contract) : Type 0 where
  pub closed : IsClosed d c
  pub numbers : HasOnlyNumbers c
  pub low : height_of_contract c ≤ 1_000
  pub small : nodes_of_contract c < 2 ^ 32
