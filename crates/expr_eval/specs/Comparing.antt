-- A comparison on one day after another. The scales of its two sides do not depend on the day, so neither does that by
-- which their numbers are multiplied so that they have one scale.
use Rattle.std.specs.Prelude.{ℕ, ℤ, pos, ◌+ℤ◌, ◌*ℤ◌, ◌-◌, ◌^◌, ◌≤◌, ◌<◌, ◌≡◌, max, Bool, List, Option, Some, None, Result, Ok, Err}
use Rattle.term_model.specs.Declarations.{Declarations}
use Rattle.term_model.specs.declared.values.Kind.{Kind}
use Rattle.term_model.specs.declared.values.Value.{Value}
use Rattle.term_model.specs.declared.values.Missing.{Missing}
use Rattle.term_model.specs.Terms.{Expression}
use Rattle.term_model.specs.Environments.{Environment}
use Rattle.term_model.specs.Kinds.{scale_of_kind}
use Rattle.term_model.specs.Values.{num}
use Rattle.term_model.specs.Scales.{greatest_scale}
use Rattle.interval_check.specs.RangeTrials.{kind_found}
use Rattle.interval_check.specs.Safety.{IsSmall}
use Rattle.expr_eval.specs.declared.scratch.Binding.{Binding}
use Rattle.expr_eval.specs.declared.operations.Typed.{Typed}
use Rattle.expr_eval.specs.declared.comparisons.Factors.{Factors}
use Rattle.expr_eval.specs.Operations.{number_in, truth_in, scale_in}
use Rattle.expr_eval.specs.KindScales.{KindFits}
use Rattle.expr_eval.specs.Runs.{Answer, run_of}
use Rattle.expr_eval.specs.Fits.{Fits, OnValues}

-- the mantissa of an answer, that of what is held at a place, and the truth value of an answer
abbrev pub number_found : Answer → Result ℤ Missing
number_found (Ok v) = Ok (number_in v)
number_found (Err m) = Err m

abbrev pub mantissa_held : Option Value → ℕ → ℤ → Result ℤ Missing
mantissa_held (Some v) l t = Ok (num v)
mantissa_held None l t = Err (record { label = l; day = t })

abbrev pub truth_found : Answer → Result Bool Missing
truth_found (Ok v) = Ok (truth_in v)
truth_found (Err m) = Err m

abbrev pub factors : ℕ → ℕ → Factors
factors i j = record { left = pos (10 ^ (max i j - i)); right = pos (10 ^ (max i j - j)) }

-- the decimals of an expression, by its form
abbrev pub scale_found : Declarations → Expression → List Kind → ℕ
scale_found d e ks = scale_of_kind (kind_found d e ks)

abbrev pub factors_found : Declarations → Expression → Expression → List Kind → Factors
factors_found d a b ks = factors (scale_found d a ks) (scale_found d b ks)

-- they are at most 27
pub record SidesFit (d : Declarations) (a b : Expression) (ks : List Kind) : Type 0 where
  pub left : KindFits d a ks
  pub right : KindFits d b ks
  pub left_scale : scale_found d a ks ≤ greatest_scale
  pub right_scale : scale_found d b ks ≤ greatest_scale

-- two numbers have one scale where they are multiplied by these, and fit
pub record AreBrought (by : Factors) (x y : Typed) : Type 0 where
  pub factors : factors (scale_in x) (scale_in y) ≡ by
  pub left : IsSmall (number_in x *ℤ by.left)
  pub right : IsSmall (number_in y *ℤ by.right)

-- both sides fit on a day, and so do their numbers
pub record ComparesOn (d : Declarations) (a b : Expression) (by : Factors) (g : List Binding) (env : Environment) (f : ℤ) : Type 0 where
  pub left : Fits d a g env f
  pub right : Fits d b g env f
  pub brought : OnValues (run_of d a g env f) (run_of d b g env f) (AreBrought by)

-- on each of n days
abbrev pub OnDays : (ℤ → Type 0) → ℤ → ℕ → Type 0
OnDays P from n = (i : ℕ) → i < n → P (from +ℤ pos i)
