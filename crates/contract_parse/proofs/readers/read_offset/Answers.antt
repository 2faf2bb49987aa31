use Rattle.std.proofs.Common.{◌∷◌, false, refl, arith, subst}
use Rattle.contract_grammar.specs.Judgements.{integer_at}
use Rattle.contract_grammar.specs.Spelling.{valued}
use Rattle.contract_grammar.specs.Tokens.{tokens}
use Rattle.contract_grammar.proofs.Parts.{followed_by}
use Rattle.contract_parse.specs.Expecting.{OffsetAt}
use Rattle.contract_parse.proofs.NumbersAtOnce.{offset_step, offset_valued}
use Rattle.contract_parse.proofs.Passing.{behind_gap, value_taken}
use Rattle.contract_parse.proofs.readers.read_offset.Goals as goal

pub returns-in-Some : goal.returns-in-Some
returns-in-Some c =
    let rest = tokens c.args.rest.now in
    let after = tokens c.in-Some.after.now in
    let there = subst (λ ts. valued (integer_at 1_000_000) c.in-Some.number ts after) c.from_token-start.ensures.same c.in-Some.ensures.found in
    record {
      reads = record {
        follows = λ s ps. value_taken s s (OffsetAt ∷ ps) ps (integer_at 1_000_000) c.in-Some.number rest after (offset_step s ps c.in-Some.number) there;
        spelled = record { negative = false; spelled = followed_by rest refl (offset_valued c.in-Some.number rest after c.in-Some.ensures.most there) };
        shorter = omega (arith, c.in-Some.ensures.shorter, c.from_token-start.ensures.within);
      };
    }

pub returns-in-None : goal.returns-in-None
returns-in-None c = record { reads = behind_gap (λ r. r.1.now) c.from_token-start.result.now c.args.rest.now c.read_any_offset.result c.from_token-start.ensures.same c.from_token-start.ensures.within c.read_any_offset.ensures.reads }
