use Rattle.std.proofs.Common.{◌∷◌, [], rules}
use Rattle.std.specs.Prelude.{codes}
use Rattle.contract_grammar.specs.Tokens.{tokens}
use Rattle.contract_parse.specs.Expecting.{AmountAt, NewIn, TheMark}
use Rattle.contract_parse.specs.Reading.{declared_in, tok_of, tokens_after, tokens_ahead}
use Rattle.contract_grammar.specs.declared.names.NameSet.TheVariants.{Contract}
use Rattle.contract_parse.proofs.Passing.{word_taken}
use Rattle.payoff_lang.proofs.CodeFaults.{word_refused}
use Rattle.contract_parse.proofs.Passing.{stopped}
use Rattle.payoff_lang.proofs.parsing.read_code_line.Goals as goal

pub returns-in-Some : goal.returns-in-Some
returns-in-Some c = record {
  reads = record {
    follows = λ ps.
        rw (word_taken (declared_in c.args.decls.now []) (codes "code") (NewIn Contract ∷ TheMark (codes "=") ∷ AmountAt 1 [] ∷ TheMark (codes ";") ∷ ps) (tokens_ahead c.args.ahead.now) (tokens c.in-Some.rest.now) c.in-Some.ensures.found)
        (c.read_named_code.ensures.reads.follows ps);
    spelled = search rules;
    shorter = search rules;
  };
}

pub returns-in-None : goal.returns-in-None
returns-in-None c = record {
  reads = stopped (λ ps.
      let ahead = c.args.ahead.now in
      rw c.refuse.ensures (word_refused (declared_in c.args.decls.now []) (codes "code") (NewIn Contract ∷ TheMark (codes "=") ∷ AmountAt 1 [] ∷ TheMark (codes ";") ∷ ps) (tok_of ahead.token) (tokens_after ahead.token.kind ahead.after.now) c.in-None.ensures.lacks));
}
