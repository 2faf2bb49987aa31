-- A turn may stand in the place of what is turned, and is accepted where that is.
use Rattle.std.specs.Prelude.{List, []}
use Rattle.term_model.specs.Declarations.{Declarations}
use Rattle.term_model.specs.Terms.{Expression, Contract}
use Rattle.term_model.specs.Values.{Entry}
use Rattle.term_model.specs.Acceptance.{IsAccepted}
use Rattle.term_model.specs.Bounds.{Range, range_kinds}
use Rattle.interval_check.specs.Nodes.{IsSorted, IsScaled, MeetsRules, ContractMeetsRules}
use Rattle.interval_check.specs.Within.{KeepsLimits}
use Rattle.rewriting.specs.Replacing.{Replaces, KeepsForm, ReplacesContract}
use Rattle.simplify.specs.Turning.{turned}
use Rattle.simplify.specs.TurningContracts.{turned_in}
use Rattle.simplify.specs.LawsRulesStand.{AmongRanges}

-- kind, sorts and scales, where nothing is known of bounds, as in the body of an accumulator of no days
abbrev pub TurnsKeepForm : Type 0
TurnsKeepForm =
    (d : Declarations) (e : Expression) (g : List Range) → IsSorted d e g → IsScaled d e g → KeepsForm d (turned d (range_kinds g) e) e g

abbrev pub TurnsReplace : Type 0
TurnsReplace =
    (d : Declarations) (e : Expression) (g : List Range) (es : List Entry)
    → AmongRanges d g es (MeetsRules d e g → Replaces d (turned d (range_kinds g) e) e g)

abbrev pub ContractTurnsReplace : Type 0
ContractTurnsReplace =
    (d : Declarations) (c : Contract) (g : List Range) (es : List Entry)
    → AmongRanges d g es (ContractMeetsRules d c g → ReplacesContract d (turned_in d (range_kinds g) c) c g)

abbrev pub TurnIsAccepted : Type 0
TurnIsAccepted = (d : Declarations) (c : Contract) → KeepsLimits d → IsAccepted d c → IsAccepted d (turned_in d [] c)
