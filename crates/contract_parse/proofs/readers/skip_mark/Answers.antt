use Rattle.std.proofs.Common.{◌∷◌, refl, rules}
use Rattle.contract_grammar.specs.Words.{is_the_mark}
use Rattle.contract_parse.specs.Expecting.{TheMark, Refuse}
use Rattle.contract_parse.proofs.Steps.{so_passes, so_spells}
use Rattle.contract_grammar.specs.declared.faults.TextKind.TheVariants.{Syntax}
use Rattle.std.proofs.Common.{length}
use Rattle.contract_grammar.specs.declared.token.LexemeKind.TheVariants.{Mark}
use Rattle.contract_grammar.specs.Tokens.{Tok}
use Rattle.contract_parse.proofs.WholeMarks.{same_mark}
use Rattle.contract_parse.proofs.readers.skip_mark.Goals as goal

pub returns-in-Some-clause-reads : goal.returns-in-Some-clause-reads
returns-in-Some-clause-reads c =
    let wanted = c.args.wanted.now in
    let at : Tok = record { kind = Mark; text = wanted; left = length c.args.rest.now } in
    record {
      follows = λ s ps. so_passes (is_the_mark wanted) (λ text left. (refl, refl)) s s (TheMark wanted ∷ ps) ps (Refuse Syntax) at c.args.rest.now c.in-Some.after.now c.in-Some.ensures.found (same_mark wanted at.left) refl;
      spelled = so_spells (is_the_mark wanted) (λ text left. (refl, refl)) at c.args.rest.now c.in-Some.after.now c.in-Some.ensures.found (same_mark wanted at.left);
      shorter = search rules;
    }
