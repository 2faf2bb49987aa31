use Rattle.std.proofs.Common.{arith}
use Rattle.term_model.specs.Declarations.{declarations}
use Rattle.term_model.specs.Terms.{contract}
use Rattle.term_model.specs.Instances.{instance, declared_numbers}
use Rattle.payoff_terms.proofs.MeaningFacts.{reach_of}
use Rattle.payoff_compile.proofs.LimitFacts.{code_dates_fit, reach_named}
use Rattle.payoff_compile.proofs.compiling.into_cut_code.Goals as goal

pub compile_whole-requires : goal.compile_whole-requires
compile_whole-requires c =
    let d = declarations c.args.decls.now in
    let named = reach_named (declared_numbers d) (contract c.args.c) in
    let far = reach_of d (instance (declared_numbers d) (contract c.args.c)) c.requires.accepted in
    code_dates_fit d 0 0 (contract c.args.c) (omega (arith, named, far)) c.requires.closed
