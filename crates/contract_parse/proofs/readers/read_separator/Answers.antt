use Rattle.std.proofs.Common.{◌∷◌, refl, rules}
use Rattle.contract_grammar.specs.Judgements.{separator_at}
use Rattle.contract_parse.specs.Expecting.{MoreNames, Next, list_expected}
use Rattle.contract_parse.specs.Reading.{tok_of}
use Rattle.contract_parse.proofs.Passing.{stopped}
use Rattle.contract_parse.proofs.Steps.{passes, refuses, spells}
use Rattle.contract_parse.proofs.readers.read_separator.Goals as goal

pub returns-in-Ok-clause-reads : goal.returns-in-Ok-clause-reads
returns-in-Ok-clause-reads c = record {
  follows = λ set s ps. passes separator_at (λ text left. (refl, refl)) s s (MoreNames set ∷ ps) (list_expected set c.in-Ok.comma ps) (λ comma. Next s (list_expected set comma ps)) c.in-Ok.comma (tok_of c.next.result.0) c.args.rest.now c.next.result.1.now c.next.ensures.starts c.in-Ok.ensures refl refl;
  spelled = spells separator_at (λ text left. (refl, refl)) c.in-Ok.comma (tok_of c.next.result.0) c.args.rest.now c.next.result.1.now c.next.ensures.starts c.in-Ok.ensures;
  shorter = search rules;
}

pub returns-in-Err-clause-reads : goal.returns-in-Err-clause-reads
returns-in-Err-clause-reads c = stopped (λ set s ps. rw c.refuse.ensures (refuses separator_at s (MoreNames set ∷ ps) (λ comma. Next s (list_expected set comma ps)) c.in-Err.kind (tok_of c.next.result.0) c.args.rest.now c.next.result.1.now c.next.ensures.starts c.in-Err.ensures refl))
