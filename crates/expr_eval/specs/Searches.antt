-- Where a test stops that is tried on one day after another, by the program's values.
use Rattle.std.specs.Prelude.{ℕ, ℤ, pos, ◌+ℤ◌, ◌+◌, ◌^◌, ◌≤◌, ◌≡◌, unsigned_abs, Bool}
use Rattle.term_model.specs.declared.decls.Decls.{Decls}
use Rattle.term_model.specs.declared.terms.Expr.{Expr}
use Rattle.term_model.specs.Terms.{Expression, expression, Obs}
use Rattle.term_model.specs.Environments.{Environment}
use Rattle.expr_eval.specs.declared.bindings.Bindings.{Bindings}
use Rattle.expr_eval.specs.declared.stops.Stop.{Stop}
use Rattle.expr_eval.specs.Stops.{TruthOrMissing, either_met, first_stop, wanted_of}
use Rattle.expr_eval.specs.Truths.{truth_of}

-- days that 64 bits hold, with those that offsets make of them
abbrev pub AreNear : ℤ → ℕ → Type 0
AreNear from n = unsigned_abs from + n ≤ 2 ^ 61

-- whether a test has the truth value that is wanted, i days after a day
abbrev pub met_in : Decls → Expression → Bool → Bindings → Environment → ℤ → ℕ → TruthOrMissing
met_in decls e wanted names fixings from i = wanted_of wanted (truth_of decls e names fixings (from +ℤ pos i))

-- s is where a test stops on n days, from a day on
abbrev pub IsStop : Decls → Expression → Bool → Bindings → Environment → ℤ → ℕ → Stop → Type 0
IsStop decls e wanted names fixings from n s = s ≡ first_stop n (λ i. met_in decls e wanted names fixings from i)

-- and where either of two tests does, the left one first
abbrev pub IsStopOfEither : Decls → Expr → Expr → Bool → Bindings → Environment → ℤ → ℕ → Stop → Type 0
IsStopOfEither decls left right wanted names fixings from n s =
    s ≡ first_stop n (λ i. either_met (met_in decls (expression left) wanted names fixings from i) (met_in decls (expression right) wanted names fixings from i))

-- and where what is observed does, as a truth value
abbrev pub IsFlagStop : ℕ → ℤ → Bool → Environment → ℤ → ℕ → Stop → Type 0
IsFlagStop label offset wanted fixings from n s =
    (decls : Decls) (names : Bindings) → IsStop decls (Obs label offset) wanted names fixings from n s

-- the stop of a test that answers the same on each of n days
abbrev pub alike : TruthOrMissing → ℕ → Stop
alike r n = first_stop n (λ i. r)
