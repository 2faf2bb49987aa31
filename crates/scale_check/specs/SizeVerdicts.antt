-- What the call for the rule on sizes answers, under whatever declarations: that the rule holds everywhere, with the
-- reach; or that it fails, with the first node at which it does.
use Rattle.std.specs.Prelude.{ℕ, ◌≡◌, Result, Ok, Err}
use Rattle.term_model.specs.Declarations.{Declarations}
use Rattle.term_model.specs.Terms.{Contract}
use Rattle.term_model.specs.declared.rules.Rule.TheVariants.{Size}
use Rattle.term_model.specs.declared.rules.RuleFault.{RuleFault}
use Rattle.term_model.specs.Acceptance.{Meets, FailsAt}
use Rattle.term_model.specs.Sizes.{reach}

abbrev pub IsSizeVerdict : Contract → Result ℕ RuleFault → Type 0
IsSizeVerdict c (Ok far) = ((d : Declarations) → Meets d Size c) × (far ≡ reach c)
IsSizeVerdict c (Err fault) = (fault.rule ≡ Size) × ((d : Declarations) → FailsAt d Size c fault.node)
