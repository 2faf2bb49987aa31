-- What the call for a rule of acceptance answers: that the rule holds everywhere, with what is said of such a
-- contract; or that it fails, with the first node at which it does. Want of memory says nothing.
use Rattle.std.specs.Prelude.{◌≡◌, Result, Ok, Err}
use Rattle.term_model.specs.Declarations.{Declarations}
use Rattle.term_model.specs.Terms.{Contract}
use Rattle.term_model.specs.declared.rules.Rule.{Rule}
use Rattle.term_model.specs.declared.rules.CheckErr.{CheckErr}
use Rattle.term_model.specs.declared.rules.CheckErr.TheVariants.{Refused, NoMemory}
use Rattle.term_model.specs.Acceptance.{Meets, FailsAt}

abbrev pub IsVerdict : {A : Type 0} → Declarations → Rule → Contract → (A → Type 0) → Result A CheckErr → Type 0
IsVerdict d rule c Says (Ok a) = Meets d rule c × Says a
IsVerdict d rule c Says (Err (Refused r k)) = (r ≡ rule) × FailsAt d rule c k
IsVerdict d rule c Says (Err NoMemory) = Unit {0}
