use Rattle.std.proofs.Common.{sym, subst}
use Rattle.std.proofs.lemmas.Result.{IfOk-weaker}
use Rattle.payoff_terms.specs.Code.{PayoffCode, payoff_code}
use Rattle.payoff_compile.specs.CompiledCode.{CountsTheRest}
use Rattle.payoff_compile.proofs.PlainFacts.{cut_counts}
use Rattle.payoff_compile.proofs.cutting.cut.Goals as goal

pub returns-clause-rest : goal.returns-clause-rest
returns-clause-rest c =
    let tree = payoff_code c.args.code in
    IfOk-weaker c.with_cuts.result _ _ (λ k e. subst (λ (x : PayoffCode). CountsTheRest x tree) (sym e) (cut_counts tree)) c.with_cuts.ensures
