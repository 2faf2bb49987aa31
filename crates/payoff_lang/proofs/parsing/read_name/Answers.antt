use Rattle.std.proofs.Common.{◌≡◌, ◌∷◌, ◌++◌, [], List, ap, subst, rules}
use Rattle.std.specs.Map.{keys_of}
use Rattle.contract_grammar.specs.Tokens.{tokens}
use Rattle.contract_grammar.specs.Words.{Bytes}
use Rattle.contract_grammar.specs.Names.{with_names}
use Rattle.contract_parse.specs.Expecting.{Leaves, NewIn, run}
use Rattle.contract_grammar.specs.declared.names.NameSet.TheVariants.{Contract}
use Rattle.payoff_lang.proofs.parsing.read_name.Goals as goal

pub returns-clause-reads : goal.returns-clause-reads
returns-clause-reads c = record {
  follows = λ s ps.
      let none : keys_of c.new-others.result.entries ≡ [] = ap keys_of c.new-others.ensures.empty in
      subst (λ (names : List Bytes). Leaves (λ r. run (with_names Contract (names ++ r.0 ∷ []) s) ps (tokens r.1.now)) c.read_new_name.result (run (with_names Contract names s) (NewIn Contract ∷ ps) (tokens c.args.rest.now)))
      none (c.read_new_name.ensures.reads.follows Contract s ps);
  spelled = search rules;
  shorter = search rules;
}
