-- What `check_code` answers at a setting: accepted code with its scale and its total, or the first rule that fails with the
-- first node at which it does. Want of memory says nothing.
use Rattle.std.specs.Prelude.{ℕ, List, Result, Ok, Err}
use Rattle.term_model.specs.Declarations.{Declarations}
use Rattle.term_model.specs.declared.rules.CheckErr.{CheckErr}
use Rattle.term_model.specs.declared.rules.CheckErr.TheVariants.{Refused, NoMemory}
use Rattle.payoff_terms.specs.Code.{PayoffCode}
use Rattle.payoff_terms.specs.CodeAcceptance.{IsAcceptedCode, IsCodeRefusal}
use Rattle.payoff_check.specs.Verdicts.{IsScaleOf, IsTotalOf}
use Rattle.payoff_check.specs.declared.checks.CodeFacts.{CodeFacts}

pub record AreCodeFacts (d : Declarations) (k : PayoffCode) (facts : CodeFacts) : Type 0 where
  pub right_scale : IsScaleOf d k facts.scale
  pub right_total : IsTotalOf d k facts.total

abbrev pub IsCheckedCode : Declarations → List ℕ → PayoffCode → Result CodeFacts CheckErr → Type 0
IsCheckedCode d xs k (Ok facts) = IsAcceptedCode d xs k × AreCodeFacts d k facts
IsCheckedCode d xs k (Err (Refused rule n)) = IsCodeRefusal d xs k rule n
IsCheckedCode d xs k (Err NoMemory) = Unit {0}
