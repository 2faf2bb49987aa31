use Rattle.std.proofs.Common.{◌∷◌, refl, rules}
use Rattle.contract_grammar.specs.Words.{is_the_mark}
use Rattle.contract_parse.specs.Expecting.{TheMark, Next, Refuse}
use Rattle.contract_parse.specs.Reading.{tok_of}
use Rattle.contract_parse.proofs.Passing.{stopped}
use Rattle.contract_parse.proofs.Steps.{so_passes, so_refuses, so_spells}
use Rattle.contract_grammar.specs.declared.faults.TextKind.TheVariants.{Syntax}
use Rattle.contract_parse.proofs.readers.skip_any_mark.Goals as goal

pub returns-then-is_the_mark-clause-reads : goal.returns-then-is_the_mark-clause-reads
returns-then-is_the_mark-clause-reads c = record {
  follows = λ s ps. so_passes (is_the_mark c.args.wanted.now) (λ text left. (refl, refl)) s s (TheMark c.args.wanted.now ∷ ps) ps (Refuse Syntax) (tok_of c.next.result.0) c.args.rest.now c.next.result.1.now c.next.ensures.starts c.if-is_the_mark.ensures refl;
  spelled = so_spells (is_the_mark c.args.wanted.now) (λ text left. (refl, refl)) (tok_of c.next.result.0) c.args.rest.now c.next.result.1.now c.next.ensures.starts c.if-is_the_mark.ensures;
  shorter = search rules;
}

pub returns-else-is_the_mark-clause-reads : goal.returns-else-is_the_mark-clause-reads
returns-else-is_the_mark-clause-reads c = stopped (λ s ps. rw c.refuse.ensures (so_refuses (is_the_mark c.args.wanted.now) s (TheMark c.args.wanted.now ∷ ps) (Next s ps) (tok_of c.next.result.0) c.args.rest.now c.next.result.1.now c.next.ensures.starts c.if-is_the_mark.ensures refl))
