-- What the compiler promises, put together.
use Rattle.std.proofs.Common.{arith}
use Rattle.term_model.specs.Instances.{declared_numbers}
use Rattle.payoff_terms.specs.TemplateDates.{no_date}
use Rattle.payoff_terms.specs.Compiled.{code_of}
use Rattle.payoff_terms.proofs.CutFacts.{cut_value}
use Rattle.payoff_terms.proofs.MeaningFacts.{compiled_means, cut_means}
use Rattle.payoff_terms.proofs.WellFormedFacts.{codes_formed}
use Rattle.payoff_compile.specs.LawsCompiled.{CodeIsPlain, CutCodeCountsTheRest}
use Rattle.payoff_compile.proofs.AcceptedFacts.{compiled_accepted}
use Rattle.payoff_compile.proofs.LimitFacts.{nodes_named}
use Rattle.payoff_compile.proofs.NumberFacts.{printable}
use Rattle.payoff_compile.proofs.SizeFacts.{nodes_compiled, nodes_cut}

pub code_plain : CodeIsPlain
code_plain d c f h =
    let xs = declared_numbers d in
    let named = nodes_named xs c in
    let few = nodes_compiled xs no_date c in
    let more = nodes_cut (code_of c) in
    record {
      means = compiled_means d c;
      means_cut = cut_means d c;
      accepted = ((λ ys a. (compiled_accepted d ys c f a).0), (λ ys a. (compiled_accepted d ys c f a).1));
      nodes = omega (arith, named, few);
      nodes_cut = omega (arith, named, few, more);
      closed = codes_formed d c f;
      printable = printable d xs c f h;
    }

pub cut_counts : CutCodeCountsTheRest
cut_counts k = record {
  values = λ d g env xs a b h. cut_value d k g env xs a.now a.curve a.gone a.flow b h;
  nodes = nodes_cut k;
}
