-- The guarantees of the rules, joined from what is known of nodes, values and sums.
use Rattle.std.proofs.Common.{pos, ◌+ℤ◌, ◌-◌, ◌^◌, List, [], ◌∷◌, arith}
use Rattle.std.proofs.Math.Nat.{mul-le-mul_right}
use Rattle.term_model.specs.Declarations.{Declarations}
use Rattle.term_model.specs.Environments.{Environment, IsAdmitted}
use Rattle.term_model.specs.Values.{Entry}
use Rattle.term_model.specs.LawsKinds.{AreOfKinds}
use Rattle.term_model.specs.Flows.{scale_of_contract, flow_of}
use Rattle.term_model.specs.Sites.{Once, EachDay}
use Rattle.term_model.specs.Bounds.{Range}
use Rattle.interval_check.specs.Nodes.{IsSortedPart, IsScaledPart, IsBoundedPart}
use Rattle.interval_check.specs.Within.{AreWithin, KeepsLimits}
use Rattle.interval_check.specs.Guarantees.{RulesAreByStructure, AcceptedMeetRules, PartsMeetRules, ValuesLieInIntervals, ExpressionsAreSafe, BindingsLieWithin, ContractsAreSafe, AcceptedAreSafe, FlowsAddUpToTotal, AmountsAddUpToTotal}
use Rattle.interval_check.proofs.RuleFacts.{sorts_hold, scales_hold, bounds_hold, sorts_are_met, scales_are_met, bounds_are_met}
use Rattle.interval_check.proofs.ValueFacts.{inside_from, values_lie}
use Rattle.interval_check.proofs.SafeFacts.{Suits, value_is_safe, expression_is_safe}
use Rattle.interval_check.proofs.ContractSafeFacts.{contract_is_safe}
use Rattle.interval_check.proofs.PartFacts.{standing_meets}
use Rattle.interval_check.proofs.SumFacts.{sum_raised}
use Rattle.interval_check.proofs.TurnoverFacts.{inside_let, turnover_at_most, flows_within_turnover}

pub rules_are_by_structure : RulesAreByStructure
rules_are_by_structure d c = (
  (sorts_hold d c, sorts_are_met d c),
  (scales_hold d c, scales_are_met d c),
  (bounds_hold d c, bounds_are_met d c),
)

pub accepted_meet_rules : AcceptedMeetRules
accepted_meet_rules d c h =
    record { sorts = sorts_hold d c h.sorts; scales = scales_hold d c h.scales; bounds = bounds_hold d c h.bounds }

pub parts_meet_rules : PartsMeetRules
parts_meet_rules d e h c g stands rules =
    record { sorts = standing_meets (IsSortedPart d) Once d e h c g stands rules.sorts; scales = standing_meets (IsScaledPart d) Once d e h c g stands rules.scales; bounds = standing_meets (IsBoundedPart d) EachDay d e h c g stands rules.bounds }

pub values_lie_in_intervals : ValuesLieInIntervals
values_lie_in_intervals d e g es env f limits h within admitted = values_lie d limits e g es env f h (inside_from g es within) admitted

pub of_kinds_from : (g : List Range) (es : List Entry) → AreWithin g es → AreOfKinds es
of_kinds_from [] [] h = tt
of_kinds_from [] (e ∷ es) h = absurd h
of_kinds_from (r ∷ g) [] h = absurd h
of_kinds_from (r ∷ g) (e ∷ es) h = (h.0.of_kind, of_kinds_from g es h.1)

pub suits : (d : Declarations) (g : List Range) (es : List Entry) (env : Environment) → KeepsLimits d → AreWithin g es → IsAdmitted d env → Suits d g es env
suits d g es env limits within admitted =
    record { limits = limits; inside = inside_from g es within; of_kinds = of_kinds_from g es within; admitted = admitted }

pub expressions_are_safe : ExpressionsAreSafe
expressions_are_safe d e g es env f limits h within admitted =
    expression_is_safe d e g es env f h (suits d g es env limits within admitted)

pub bindings_lie_within : BindingsLieWithin
bindings_lie_within d e g es env f limits h within admitted =
    let known = suits d g es env limits within admitted in
    let value = value_is_safe d e g es env f h known in
    let inside = inside_let d e g es env f known.inside (values_lie d limits e g es env f h.bounds known.inside admitted) in
    (record { same_kind = inside.0; of_kind = value.of_kind; inside = inside.1 }, within)

pub contracts_are_safe : ContractsAreSafe
contracts_are_safe d c g es env f limits h within admitted =
    contract_is_safe d c g es env f h (suits d g es env limits within admitted)

pub accepted_are_safe : AcceptedAreSafe
accepted_are_safe d c env f limits h admitted =
    contracts_are_safe d c [] [] env f limits (accepted_meet_rules d c h) tt admitted

pub flows_add_up_to_total : FlowsAddUpToTotal
flows_add_up_to_total d c g es env f m n w limits h within admitted =
    (flows_within_turnover d c es env f m n w, turnover_at_most d limits c g es env f w h (inside_from g es within) admitted)

pub amounts_add_up_to_total : AmountsAddUpToTotal
amounts_add_up_to_total d c env f m n w limits h admitted =
    let known = flows_add_up_to_total d c [] [] env f m n w limits (bounds_hold d c h) tt admitted in
    let k = d.amounts - scale_of_contract d c [] in
    let flows = known.0 in
    let turnover = known.1 in
    let raised = sum_raised n (λ i. flow_of d c [] env f (m +ℤ pos i) w) k in
    let most = mul-le-mul_right (10 ^ k) flows in
    let total = mul-le-mul_right (10 ^ k) turnover in
    (omega arith, omega arith)
