use Rattle.std.proofs.Common.{sym, subst, arith}
use Rattle.std.proofs.lemmas.Result.{IfOk-weaker}
use Rattle.term_model.specs.Declarations.{declarations}
use Rattle.term_model.specs.Terms.{contract}
use Rattle.term_model.specs.Instances.{instance, declared_numbers}
use Rattle.payoff_terms.specs.Code.{PayoffCode}
use Rattle.payoff_terms.proofs.MeaningFacts.{reach_of}
use Rattle.payoff_compile.specs.CompiledCode.{IsPlainCode}
use Rattle.payoff_compile.proofs.LimitFacts.{code_dates_fit, reach_named}
use Rattle.payoff_compile.proofs.PlainFacts.{code_plain}
use Rattle.payoff_compile.proofs.compiling.into_code.Goals as goal

pub compile_whole-requires : goal.compile_whole-requires
compile_whole-requires c =
    let d = declarations c.args.decls.now in
    let named = reach_named (declared_numbers d) (contract c.args.c) in
    let far = reach_of d (instance (declared_numbers d) (contract c.args.c)) c.requires.accepted in
    code_dates_fit d 0 0 (contract c.args.c) (omega (arith, named, far)) c.requires.closed

pub returns-clause-plain : goal.returns-clause-plain
returns-clause-plain c =
    let d = declarations c.args.decls.now in
    let tree = contract c.args.c in
    let plain = code_plain d tree c.requires.closed c.requires.accepted in
    IfOk-weaker c.compile_whole.result _ _ (λ k e. subst (λ (x : PayoffCode). IsPlainCode d tree x) (sym e) plain) c.compile_whole.ensures
