-- What `check` answers: the facts of an accepted contract, which is causal and never pays more than its total; or the
-- first rule that fails, with the first node at which it does. Want of memory says nothing.
use Rattle.std.specs.Prelude.{ℕ, ℤ, pos, ◌≤ℤ◌, unsigned_abs, ◌≡◌, Result, Ok, Err}
use Rattle.term_model.specs.Declarations.{Declarations}
use Rattle.term_model.specs.Terms.{Contract}
use Rattle.term_model.specs.declared.rules.CheckErr.{CheckErr}
use Rattle.term_model.specs.declared.rules.CheckErr.TheVariants.{Refused, NoMemory}
use Rattle.term_model.specs.Acceptance.{Facts, IsAccepted, AreFacts, IsRefusal}
use Rattle.term_model.specs.Causality.{IsCausal}
use Rattle.term_model.specs.Environments.{Environment, IsAdmitted}
use Rattle.term_model.specs.Flows.{Flow}
use Rattle.time_types.specs.Starts.{start_day}
use Rattle.interval_check.specs.Sums.{sum_of_amounts}
use Rattle.contract_check.specs.declared.checks.Facts.{Facts as Answer}

-- the facts of the model that an answer tells
abbrev pub told : Answer → Facts
told a = record { start = start_day a.start; scale = a.scale; total = unsigned_abs a.total; horizon = a.horizon }

-- over any days, what a contract pays between two parties in an asset adds up to at most a number
abbrev pub PaysAtMost : Declarations → Contract → ℤ → Type 0
PaysAtMost d c most =
    (env : Environment) (f m : ℤ) (n : ℕ) (w : Flow) → IsAdmitted d env → pos (sum_of_amounts d c env f m n w) ≤ℤ most

pub record IsGranted (d : Declarations) (c : Contract) (a : Answer) : Type 0 where
  pub accepted : IsAccepted d c
  pub right : AreFacts d c (told a)
  pub positive : a.total ≡ pos (unsigned_abs a.total)
  pub causal : IsCausal d c
  pub bounded : PaysAtMost d c a.total

abbrev pub IsChecked : Declarations → Contract → Result Answer CheckErr → Type 0
IsChecked d c (Ok a) = IsGranted d c a
IsChecked d c (Err (Refused rule k)) = IsRefusal d c rule k
IsChecked d c (Err NoMemory) = Unit {0}
