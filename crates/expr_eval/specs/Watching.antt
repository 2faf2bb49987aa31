-- What is observed under a label, tried on each day: whether it is true, or how it compares with a number that stays the
-- same.
use Rattle.std.specs.Prelude.{ℕ, ℤ, ◌+ℤ◌, ◌*ℤ◌, ◌≡◌, Bool, List, Option, Some, None, Ok, Err}
use Rattle.term_model.specs.Declarations.{declarations}
use Rattle.term_model.specs.declared.decls.Decls.{Decls}
use Rattle.term_model.specs.declared.terms.CmpOp.{CmpOp}
use Rattle.term_model.specs.declared.terms.CmpOp.TheVariants.{Less, LessEq, Greater, GreaterEq, Equal, Unequal}
use Rattle.term_model.specs.declared.values.Value.{Value}
use Rattle.term_model.specs.Terms.{Expression}
use Rattle.term_model.specs.Environments.{Environment, held}
use Rattle.term_model.specs.Values.{cmp_op, num, truth}
use Rattle.expr_eval.specs.declared.scratch.Binding.{Binding}
use Rattle.expr_eval.specs.declared.operations.Typed.{Typed}
use Rattle.expr_eval.specs.declared.bindings.Bindings.{Bindings}
use Rattle.expr_eval.specs.declared.watches.Trial.{Trial}
use Rattle.expr_eval.specs.declared.watches.Trial.TheVariants.{Flag, Number}
use Rattle.expr_eval.specs.declared.watches.Watch.{Watch}
use Rattle.expr_eval.specs.Operations.{compared}
use Rattle.expr_eval.specs.Bindings.{bindings}
use Rattle.expr_eval.specs.Runs.{Answer, both_of, observation, on_both, run_of}
use Rattle.expr_eval.specs.Comparing.{truth_found}
use Rattle.expr_eval.specs.Stops.{TruthOrMissing, is_wanted, wanted_of}

-- the same comparison with its sides in the other order
abbrev pub turned : CmpOp → CmpOp
turned Less = Greater
turned LessEq = GreaterEq
turned Greater = Less
turned GreaterEq = LessEq
turned Equal = Equal
turned Unequal = Unequal

-- the outcome of a trial, and whether it is the one that is wanted
abbrev pub outcome : Trial → Value → Bool
outcome Flag v = truth v
outcome (Number op factor bound) v = cmp_op op (num v *ℤ factor) bound

abbrev pub is_met : Watch → Value → Bool
is_met w v = is_wanted w.wanted (outcome w.trial v)

-- of what is found on a day
abbrev pub met_by : Watch → Option Value → ℤ → TruthOrMissing
met_by w (Some v) t = Ok (is_met w v)
met_by w None t = Err (record { label = w.label; day = t })

abbrev pub met_on : Watch → Environment → ℤ → TruthOrMissing
met_on w env t = met_by w (held env (record { label = w.label; day = t })) t

-- a side has the same value on each day
abbrev pub Stands : Expression → List Binding → Typed → Type 0
Stands e g v = (decls : Decls) (env : Environment) (f : ℤ) → run_of (declarations decls) e g env f ≡ Ok v

-- what is observed under a label, some days after each day
abbrev pub observed_later : Decls → ℕ → ℤ → Environment → ℤ → Answer
observed_later decls l t env f = observation (declarations decls) env l (f +ℤ t)

-- a watch of one side of a comparison, of which each day's answer is given, where the other one has a value
abbrev pub IsAgainst : CmpOp → (Environment → ℤ → Answer) → Typed → Bool → Watch → Type 0
IsAgainst op side bound wanted w =
    (env : Environment) (f : ℤ) → wanted_of wanted (truth_found (on_both (both_of (side env f) (Ok bound)) (compared op))) ≡ met_on w env (f +ℤ w.offset)

-- on each day a test has the truth value that is wanted exactly where the watch is met, some days later
abbrev pub IsWatched : Decls → Expression → Bool → Bindings → Watch → Type 0
IsWatched decls e wanted names w =
    (env : Environment) (f : ℤ)
    → wanted_of wanted (truth_found (run_of (declarations decls) e (bindings names) env f)) ≡ met_on w env (f +ℤ w.offset)
