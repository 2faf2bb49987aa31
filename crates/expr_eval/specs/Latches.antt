-- Accumulators that keep a truth value once their name has it, such as `x | e` and `x & e`: the name decides before
-- anything is read.
use Rattle.std.specs.Prelude.{◌==◌, ◌&&◌, ◌≡◌, Bool, true, false, not, Ok, Err}
use Rattle.term_model.specs.Terms.{Expression, Var, Logic}
use Rattle.term_model.specs.Reads.{decides}
use Rattle.expr_eval.specs.declared.stops.Stop.{Stop}
use Rattle.expr_eval.specs.declared.stops.Stop.TheVariants.{Never, Met, Lacking}
use Rattle.expr_eval.specs.Stops.{TruthOrMissing}
use Rattle.expr_eval.specs.Truths.{is_verdict}

-- the innermost name decides first, where it has the truth value v
abbrev pub keeps : Bool → Expression → Bool
keeps v (Var n) = n == 0
keeps v (Logic op a b) = decides op v && keeps v a
keeps v _ = false

pub record IsKept (v : Bool) (body : Expression) : Type 0 where
  pub keeps : keeps v body ≡ true
  pub verdict : is_verdict body ≡ true

-- the value of one that did not have v at its start, by where its body first has v with that start
abbrev pub truth_at : Bool → Stop → TruthOrMissing
truth_at v Never = Ok (not v)
truth_at v (Met k) = Ok v
truth_at v (Lacking k m) = Err m
