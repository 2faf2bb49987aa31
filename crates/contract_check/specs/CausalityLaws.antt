-- The law of causality: a contract that has a type in the rule on times is causal. What it pays up to a day is the same
-- in any two environments that agree up to that day (Bahr, Berthold and Elsman, ICFP 2015).
use Rattle.std.specs.Prelude.{ℤ, []}
use Rattle.term_model.specs.Declarations.{Declarations}
use Rattle.term_model.specs.declared.rules.Rule.TheVariants.{Time}
use Rattle.term_model.specs.Terms.{Contract}
use Rattle.term_model.specs.Times.{TypedContract}
use Rattle.term_model.specs.Acceptance.{Meets, IsAccepted}
use Rattle.term_model.specs.Causality.{IsCausal}

-- a closed contract of any type
abbrev pub TypedAreCausal : Type 0
TypedAreCausal = (d : Declarations) (c : Contract) (t : ℤ) → TypedContract [] c t → IsCausal d c

-- a contract that meets the rule on times
abbrev pub TimedAreCausal : Type 0
TimedAreCausal = (d : Declarations) (c : Contract) → Meets d Time c → IsCausal d c

-- an accepted contract
abbrev pub AcceptedAreCausal : Type 0
AcceptedAreCausal = (d : Declarations) (c : Contract) → IsAccepted d c → IsCausal d c
