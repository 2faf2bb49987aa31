-- What the trial of one rule of code answers: that the rule holds everywhere, with what is said of
-- such code; or that it fails, with the first node at which it does. Want of memory says nothing.
use Rattle.std.specs.Prelude.{ℕ, ℤ, pos, ◌≡◌, List, [], Result, Ok, Err}
use Rattle.term_model.specs.Declarations.{Declarations}
use Rattle.term_model.specs.declared.rules.Rule.{Rule}
use Rattle.term_model.specs.declared.rules.CheckErr.{CheckErr}
use Rattle.term_model.specs.declared.rules.CheckErr.TheVariants.{Refused, NoMemory}
use Rattle.payoff_terms.specs.Code.{PayoffCode}
use Rattle.payoff_terms.specs.CodeValues.{scale_of_code}
use Rattle.payoff_terms.specs.CodeTotals.{total_of_code}
use Rattle.payoff_terms.specs.CodeAcceptance.{MeetsInCode, FailsInCode}

-- what is said of accepted code: its scale, and its total in units of that scale
abbrev pub IsScaleOf : Declarations → PayoffCode → ℕ → Type 0
IsScaleOf d k scale = scale ≡ scale_of_code d k []

abbrev pub IsTotalOf : Declarations → PayoffCode → ℤ → Type 0
IsTotalOf d k total = total ≡ pos (total_of_code d k [])

abbrev pub NothingMore : Declarations → PayoffCode → Unit {0} → Type 0
NothingMore d k answer = Unit {0}

-- what is said of code that meets a rule
abbrev pub Saying : Type 0 → Type 1
Saying A = Declarations → PayoffCode → A → Type 0

abbrev pub IsCodeVerdict :
    {A : Type 0} → Declarations → List ℕ → Rule → PayoffCode → Saying A → Result A CheckErr → Type 0
IsCodeVerdict d xs rule k Says (Ok a) = MeetsInCode d xs rule k × Says d k a
IsCodeVerdict d xs rule k Says (Err (Refused r n)) = (r ≡ rule) × FailsInCode d xs rule k n
IsCodeVerdict d xs rule k Says (Err NoMemory) = Unit {0}
