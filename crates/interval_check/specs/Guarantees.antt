-- What the rules of acceptance guarantee of an evaluation: values lie in their intervals (the inclusion property of
-- interval arithmetic, Moore 1966, for exact decimals and rounding by a mode), every number fits, no divisor is 0, and what
-- a contract pays adds up to at most its total.
use Rattle.std.specs.Prelude.{ℕ, ℤ, ◌≤◌, ◌↔◌, List, [], ◌∷◌}
use Rattle.term_model.specs.Declarations.{Declarations, declarations}
use Rattle.term_model.specs.declared.decls.Decls.{Decls}
use Rattle.term_model.specs.declared.rules.Rule.TheVariants.{Sort, Scale, Bound}
use Rattle.term_model.specs.Terms.{Expression, Contract}
use Rattle.term_model.specs.WellFormed.{IsWellFormed}
use Rattle.term_model.specs.Shifts.{shifted}
use Rattle.term_model.specs.Environments.{Environment, IsAdmitted}
use Rattle.term_model.specs.Values.{Entry, num, value_of}
use Rattle.term_model.specs.Flows.{Flow}
use Rattle.term_model.specs.Bounds.{Range, interval_of, total_of, aligned_total}
use Rattle.term_model.specs.Acceptance.{Meets, IsAccepted}
use Rattle.interval_check.specs.Nodes.{IsBounded, IsSortedContract, IsScaledContract, IsBoundedContract, MeetsRules, ContractMeetsRules, range_of}
use Rattle.interval_check.specs.Within.{IsIn, AreWithin, AreSuited, KeepsLimits}
use Rattle.interval_check.specs.Sums.{sum_of_flows, sum_of_amounts, turnover_of, entry_of}
use Rattle.interval_check.specs.Safety.{CanEvaluate}
use Rattle.interval_check.specs.ContractSafety.{IsSafeContract}
use Rattle.interval_check.specs.Parts.{StandsIn}

-- the declarations of a program's value keep their limits
abbrev pub DeclsKeepLimits : Type 0
DeclsKeepLimits = (decls : Decls) → KeepsLimits (declarations decls)

-- the rules of acceptance are those by structure
abbrev pub RulesAreByStructure : Type 0
RulesAreByStructure =
    (d : Declarations) (c : Contract)
    → (Meets d Sort c ↔ IsSortedContract d c []) × (Meets d Scale c ↔ IsScaledContract d c [])
    × (Meets d Bound c ↔ IsBoundedContract d c [])

-- an accepted contract meets the rules by structure, and so does each expression that stands in it
abbrev pub AcceptedMeetRules : Type 0
AcceptedMeetRules = (d : Declarations) (c : Contract) → IsAccepted d c → ContractMeetsRules d c []

abbrev pub PartsMeetRules : Type 0
PartsMeetRules =
    (d : Declarations) (e : Expression) (h : List Range) (c : Contract) (g : List Range)
    → StandsIn d e h c g → ContractMeetsRules d c g → MeetsRules d e h

-- the rules on sorts, scales and bounds do not see offsets
abbrev pub RulesDoNotSeeOffsets : Type 0
RulesDoNotSeeOffsets =
    (d : Declarations) (e : Expression) (k : ℤ) (g : List Range)
    → (MeetsRules d (shifted k e) g → MeetsRules d e g) × (MeetsRules d e g → MeetsRules d (shifted k e) g)

-- the number of each expression lies in its interval
abbrev pub ValuesLieInIntervals : Type 0
ValuesLieInIntervals =
    (d : Declarations) (e : Expression) (g : List Range) (es : List Entry) (env : Environment) (f : ℤ)
    → KeepsLimits d → IsBounded d e g → AreWithin g es → IsAdmitted d env → IsIn (interval_of d e g) (num (value_of d e es env f))

-- what meets the rules can be evaluated in 128 bits
abbrev pub ExpressionsAreSafe : Type 0
ExpressionsAreSafe =
    (d : Declarations) (e : Expression) (g : List Range) (es : List Entry) (env : Environment) (f : ℤ)
    → KeepsLimits d → MeetsRules d e g → AreWithin g es → IsAdmitted d env → CanEvaluate d e es env f

-- a name that is bound to the value of an expression lies within its range
abbrev pub BindingsLieWithin : Type 0
BindingsLieWithin =
    (d : Declarations) (e : Expression) (g : List Range) (es : List Entry) (env : Environment) (f : ℤ)
    → KeepsLimits d → MeetsRules d e g → AreWithin g es → IsAdmitted d env
    → AreWithin (range_of d e g ∷ g) (entry_of d e es env f ∷ es)

abbrev pub ContractsAreSafe : Type 0
ContractsAreSafe =
    (d : Declarations) (c : Contract) (g : List Range) (es : List Entry) (env : Environment) (f : ℤ)
    → KeepsLimits d → ContractMeetsRules d c g → AreWithin g es → IsAdmitted d env → IsSafeContract d c es env f

-- so can an accepted contract, on every frame
abbrev pub AcceptedAreSafe : Type 0
AcceptedAreSafe =
    (d : Declarations) (c : Contract) (env : Environment) (f : ℤ)
    → KeepsLimits d → IsAccepted d c → IsAdmitted d env → IsSafeContract d c [] env f

-- and each expression that stands in one, with an entry for each `let` round it that suits the binding
abbrev pub PartsOfAcceptedAreSafe : Type 0
PartsOfAcceptedAreSafe =
    (d : Declarations) (c : Contract) (e : Expression) (h : List Range) (es : List Entry) (env : Environment) (f : ℤ)
    → KeepsLimits d → IsAccepted d c → StandsIn d e h c [] → AreSuited h es → IsAdmitted d env
    → CanEvaluate d e es env f × IsIn (interval_of d e h) (num (value_of d e es env f))

-- an expression that uses no name bound outside it meets the rules without any
abbrev pub ClosedNeedNoNames : Type 0
ClosedNeedNoNames =
    (d : Declarations) (e : Expression) (g : List Range) → IsWellFormed d 0 e → MeetsRules d e g → MeetsRules d e []

-- and one that stands in an accepted contract can be evaluated without entries
abbrev pub ClosedPartsAreSafe : Type 0
ClosedPartsAreSafe =
    (d : Declarations) (c : Contract) (e : Expression) (h : List Range) (env : Environment) (f : ℤ)
    → KeepsLimits d → IsAccepted d c → StandsIn d e h c [] → IsWellFormed d 0 e → IsAdmitted d env → CanEvaluate d e [] env f

-- over any days, the sizes of what a contract pays between two parties in an asset add up to at most its turnover, and
-- this is at most its total
abbrev pub FlowsAddUpToTotal : Type 0
FlowsAddUpToTotal =
    (d : Declarations) (c : Contract) (g : List Range) (es : List Entry) (env : Environment) (f m : ℤ) (n : ℕ) (w : Flow)
    → KeepsLimits d → IsBoundedContract d c g → AreWithin g es → IsAdmitted d env
    → (sum_of_flows d c es env f m n w ≤ turnover_of d c es env f w) × (turnover_of d c es env f w ≤ total_of d c g)

-- the same of a closed contract, in units of its scale and at the portfolio's decimals
abbrev pub AmountsAddUpToTotal : Type 0
AmountsAddUpToTotal =
    (d : Declarations) (c : Contract) (env : Environment) (f m : ℤ) (n : ℕ) (w : Flow)
    → KeepsLimits d → Meets d Bound c → IsAdmitted d env
    → (sum_of_flows d c [] env f m n w ≤ total_of d c []) × (sum_of_amounts d c env f m n w ≤ aligned_total d c [])
