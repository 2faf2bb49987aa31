-- Laws of plans and their expansions: what is written for a plan pays what the plan says, it is closed and small and
-- meets the rules on sorts and times, and a leg's days are decided and its payments stand in a tree as the definitions
-- say in words.
use Rattle.std.specs.Prelude.{ℤ, ◌≡◌, ◌≤◌, ◌<◌, ◌↔◌, true, List, [], ◌∷◌, length, take, drop}
use Rattle.term_model.specs.Declarations.{Declarations}
use Rattle.term_model.specs.Terms.{Contract, Both}
use Rattle.term_model.specs.WellFormed.{IsClosed, HasOnlyNumbers}
use Rattle.term_model.specs.Environments.{Environment}
use Rattle.term_model.specs.Flows.{Flow, flow_of, scale_of_contract}
use Rattle.term_model.specs.Literals.{HasLiteralsIn}
use Rattle.term_model.specs.declared.rules.Rule.TheVariants.{Sort, Time}
use Rattle.term_model.specs.Acceptance.{Meets, IsAccepted}
use Rattle.term_model.specs.Sizes.{height_of_contract, nodes_of_contract}
use Rattle.schedule_forms.specs.declared.plans.Leg.{Leg}
use Rattle.schedule_forms.specs.declared.plans.Plan.{Plan}
use Rattle.schedule_forms.specs.PaymentDays.{IsPaymentDay, pays_on}
use Rattle.schedule_forms.specs.PlanLimits.{IsWithinLimits}
use Rattle.schedule_forms.specs.DeclaredPlans.{IsPlanOver}
use Rattle.schedule_forms.specs.PlanFlows.{scale_of_plan, plan_flow}
use Rattle.schedule_forms.specs.Expansions.{balanced, half, expansion}

-- a contract pays what a plan says: at its scale, in every environment, on every frame and day, in each direction and asset
pub record PaysAsPlanned (d : Declarations) (c : Contract) (plan : Plan) : Type 0 where
  pub scale : scale_of_contract d c [] ≡ scale_of_plan plan
  pub flows : (env : Environment) (f n : ℤ) (w : Flow) → flow_of d c [] env f n w ≡ plan_flow d plan env f n w

-- an accepted expansion pays so, and its literals are within the limits of texts
abbrev pub AcceptedExpansionsPay : Type 0
AcceptedExpansionsPay =
    (d : Declarations) (plan : Plan) → IsWithinLimits plan → IsAccepted d (expansion plan)
    → HasLiteralsIn (expansion plan) × PaysAsPlanned d (expansion plan) plan

-- the expansion of a plan over declarations pays so, be it accepted or not
abbrev pub DeclaredExpansionsPay : Type 0
DeclaredExpansionsPay =
    (d : Declarations) (plan : Plan) → IsWithinLimits plan → IsPlanOver d plan → PaysAsPlanned d (expansion plan) plan

-- it is a closed contract over them, with numbers for day counts
abbrev pub ExpansionsAreClosed : Type 0
ExpansionsAreClosed =
    (d : Declarations) (plan : Plan) → IsWithinLimits plan → IsPlanOver d plan
    → IsClosed d (expansion plan) × HasOnlyNumbers (expansion plan)

-- it meets the rules on sorts and times, so that only those on scales, sizes and bounds can refuse it
abbrev pub ExpansionsAreSortedAndTimed : Type 0
ExpansionsAreSortedAndTimed =
    (d : Declarations) (plan : Plan) → IsWithinLimits plan → IsPlanOver d plan
    → Meets d Sort (expansion plan) × Meets d Time (expansion plan)

-- an expansion is within the limits of height and nodes
abbrev pub ExpansionsAreSmall : Type 0
ExpansionsAreSmall =
    (plan : Plan) → IsWithinLimits plan
    → (height_of_contract (expansion plan) ≤ 200) × (nodes_of_contract (expansion plan) ≤ 100_000)

-- the test of a leg's days decides them
abbrev pub TestsDecideDays : Type 0
TestsDecideDays = (leg : Leg) (n : ℤ) → (pays_on leg n ≡ true) ↔ IsPaymentDay leg n

-- contracts in a tree: one is itself, and more are those of the first half and those of the rest
pub record TreesHalve : Type 0 where
  pub one : (c : Contract) → balanced (c ∷ []) ≡ c
  pub more :
      (cs : List Contract) → 1 < length cs
      → balanced cs ≡ Both (balanced (take (half cs) cs)) (balanced (drop (half cs) cs))
