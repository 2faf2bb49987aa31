-- A contract is written for a plan: it is within the limits of height and nodes, over declarations that have what the plan
-- names it is closed and pays what the plan says, and so it does where it is accepted.
use Rattle.std.specs.Prelude.{◌≤◌}
use Rattle.term_model.specs.Declarations.{Declarations}
use Rattle.term_model.specs.Terms.{Contract}
use Rattle.term_model.specs.WellFormed.{IsClosed, HasOnlyNumbers}
use Rattle.term_model.specs.Literals.{HasLiteralsIn}
use Rattle.term_model.specs.Acceptance.{IsAccepted}
use Rattle.term_model.specs.Sizes.{height_of_contract, nodes_of_contract}
use Rattle.schedule_forms.specs.declared.plans.Plan.{Plan}
use Rattle.schedule_forms.specs.DeclaredPlans.{IsPlanOver}
use Rattle.schedule_forms.specs.LawsSchedules.{PaysAsPlanned}

pub record IsWrittenFor (plan : Plan) (c : Contract) : Type 0 where
  pub height : height_of_contract c ≤ 200
  pub nodes : nodes_of_contract c ≤ 100_000
  pub closed : (d : Declarations) → IsPlanOver d plan → IsClosed d c × HasOnlyNumbers c
  pub declared : (d : Declarations) → IsPlanOver d plan → PaysAsPlanned d c plan
  pub accepted : (d : Declarations) → IsAccepted d c → HasLiteralsIn c × PaysAsPlanned d c plan
