-- The law of sizes: what accepted code is worth, in any admitted environment and by any curve, is at most its total in
-- size, both at nine decimals more than the portfolio's.
use Rattle.std.specs.Prelude.{ℕ, ℤ, ◌≤◌, unsigned_abs, List, []}
use Rattle.term_model.specs.Declarations.{Declarations}
use Rattle.term_model.specs.Environments.{Environment, IsAdmitted}
use Rattle.term_model.specs.Factors.{IsCurve, IsFactor}
use Rattle.interval_check.specs.Within.{KeepsLimits}
use Rattle.payoff_terms.specs.Code.{PayoffCode}
use Rattle.payoff_terms.specs.CodeValues.{Asked}
use Rattle.payoff_terms.specs.CodeTotals.{aligned_code_total}
use Rattle.payoff_terms.specs.CodeAcceptance.{IsAcceptedCode}
use Rattle.payoff_eval.specs.CodeAnswers.{aligned_value}

abbrev pub ValuesAreWithinTotals : Type 0
ValuesAreWithinTotals =
    (d : Declarations) (xs : List ℕ) (k : PayoffCode) (env : Environment) (a : Asked) (b : ℤ)
    → KeepsLimits d → IsAcceptedCode d xs k → IsAdmitted d env → IsCurve a.curve → IsFactor a.gone
    → unsigned_abs (aligned_value d k env xs a b) ≤ aligned_code_total d k []
