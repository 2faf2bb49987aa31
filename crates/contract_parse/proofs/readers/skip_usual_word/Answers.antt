use Rattle.std.proofs.Common.{◌∷◌, length, refl, rules}
use Rattle.contract_grammar.specs.declared.faults.TextKind.TheVariants.{Syntax}
use Rattle.contract_grammar.specs.declared.token.LexemeKind.TheVariants.{Word}
use Rattle.contract_grammar.specs.Tokens.{Tok}
use Rattle.contract_grammar.specs.Words.{is_the_word}
use Rattle.contract_parse.specs.Expecting.{Refuse, TheWord}
use Rattle.contract_parse.proofs.Passing.{behind_gap}
use Rattle.contract_parse.proofs.Steps.{so_passes, so_spells}
use Rattle.contract_parse.proofs.WordsAtOnce.{from_start, same_word}
use Rattle.contract_parse.proofs.readers.skip_usual_word.Goals as goal

pub returns-in-Some-clause-reads : goal.returns-in-Some-clause-reads
returns-in-Some-clause-reads c =
    let wanted = c.args.wanted.now in
    let rest = c.args.rest.now in
    let after = c.in-Some.after.now in
    let at : Tok = record { kind = Word; text = wanted; left = length c.from_token-start.result.now } in
    let found = from_start c.from_token-start.result.now rest wanted after c.from_token-start.ensures.same c.in-Some.ensures.found in
    record {
      follows = λ s ps. so_passes (is_the_word wanted) (λ text left. (refl, refl)) s s (TheWord wanted ∷ ps) ps (Refuse Syntax) at rest after found (same_word wanted at.left) refl;
      spelled = so_spells (is_the_word wanted) (λ text left. (refl, refl)) at rest after found (same_word wanted at.left);
      shorter = search rules;
    }

pub returns-in-None-clause-reads : goal.returns-in-None-clause-reads
returns-in-None-clause-reads c = behind_gap (λ r. r.now) c.from_token-start.result.now c.args.rest.now c.skip_word.result c.from_token-start.ensures.same c.from_token-start.ensures.within c.skip_word.ensures.reads
