-- What a rule of the simplifier makes may stand in the place of what it is applied to, for the rules on sorts, scales and
-- bounds.
use Rattle.std.specs.Prelude.{pos, ◌≡◌, List, [], ◌∷◌, Some}
use Rattle.term_model.specs.Declarations.{Declarations}
use Rattle.term_model.specs.declared.values.Kind.TheVariants.{Truth as TruthKind}
use Rattle.term_model.specs.Terms.{Expression, Contract}
use Rattle.term_model.specs.Kinds.{kind_of}
use Rattle.term_model.specs.Values.{Entry}
use Rattle.term_model.specs.Bounds.{Range, range_kinds, single, interval_of}
use Rattle.interval_check.specs.Nodes.{MeetsRules, ContractMeetsRules}
use Rattle.interval_check.specs.Narrowing.{AreNarrower}
use Rattle.interval_check.specs.Within.{AreWithin, KeepsLimits}
use Rattle.rewriting.specs.Replacing.{Replaces, ReplacesContract}
use Rattle.simplify.specs.Turning.{rule}
use Rattle.simplify.specs.TurningContracts.{rule_in}

-- a name that stands for a truth value has the interval of 0
abbrev pub TruthsAreNothing : List Range → Type 0
TruthsAreNothing [] = Unit {0}
TruthsAreNothing (r ∷ g) = (r.kind ≡ TruthKind → r.interval ≡ single (pos 0)) × TruthsAreNothing g

-- a claim among such ranges, which hold the values of the entries, under declarations that keep their limits
abbrev pub AmongRanges : Declarations → List Range → List Entry → Type 0 → Type 0
AmongRanges d g es P = KeepsLimits d → AreNarrower g g → AreWithin g es → TruthsAreNothing g → P

-- every expression that is a truth value has the interval of 0 there
abbrev pub TruthsHaveNothing : Type 0
TruthsHaveNothing =
    (d : Declarations) (e : Expression) (g : List Range)
    → TruthsAreNothing g → kind_of d e (range_kinds g) ≡ Some TruthKind → interval_of d e g ≡ single (pos 0)

-- what the rule makes of an expression that meets the rules may stand in its place
abbrev pub RuleReplaces : Type 0
RuleReplaces =
    (d : Declarations) (x : Expression) (g : List Range) (es : List Entry)
    → AmongRanges d g es (MeetsRules d x g → Replaces d (rule d (range_kinds g) x) x g)

-- and what it makes of a contract
abbrev pub ContractRuleReplaces : Type 0
ContractRuleReplaces =
    (d : Declarations) (c : Contract) (g : List Range)
    → KeepsLimits d → AreNarrower g g → ContractMeetsRules d c g → ReplacesContract d (rule_in c) c g
