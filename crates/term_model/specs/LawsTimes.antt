-- The law of the rule on times: each node of a contract has some type in some allowed context exactly where the closed
-- contract has some type. So the nodes only say where a contract that has none goes wrong.
use Rattle.std.specs.Prelude.{ℤ, [], ◌↔◌}
use Rattle.term_model.specs.Declarations.{Declarations}
use Rattle.term_model.specs.declared.rules.Rule.TheVariants.{Time}
use Rattle.term_model.specs.Terms.{Contract}
use Rattle.term_model.specs.Times.{TypedContract}
use Rattle.term_model.specs.Acceptance.{Meets}

abbrev pub TimesMeanTyped : Type 0
TimesMeanTyped = (d : Declarations) (c : Contract) → Meets d Time c ↔ ((t : ℤ) × TypedContract [] c t)
