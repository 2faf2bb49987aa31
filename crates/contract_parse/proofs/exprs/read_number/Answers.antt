use Rattle.std.proofs.Common.{◌+◌, ◌∷◌, refl, arith, rules}
use Rattle.contract_grammar.specs.declared.faults.TextKind.TheVariants.{Deep, Number}
use Rattle.contract_parse.specs.Frames.{an_expression_here, names_at}
use Rattle.contract_parse.specs.Heads.{OfNumber, first_at}
use Rattle.contract_parse.specs.Expecting.{Next, expr_expected}
use Rattle.contract_parse.specs.Reading.{declared_in, tok_of}
use Rattle.contract_parse.proofs.HeadFacts.{number_begins, number_deep, number_is, number_wide}
use Rattle.contract_parse.proofs.Passing.{stopped}
use Rattle.contract_parse.proofs.Steps.{passes_on, refuses_on, takes_on}
use Rattle.contract_parse.proofs.exprs.read_number.Goals as goal

pub returns-in_default-clause-reads : goal.returns-in_default-clause-reads
returns-in_default-clause-reads c =
    let d = c.args.frame.now.depth + 1 in
    let names = names_at c.args.frame.now in
    let tok = tok_of c.args.token.now in
    stopped (λ cs ps.
    let s = declared_in c.args.frame.now.decls.now cs in
    rw c.refuse.ensures (refuses_on (first_at c.args.language d names) s (an_expression_here c.args.language c.args.frame.now ∷ ps)
    (λ first. Next s (expr_expected s c.args.language d names first ps)) Number tok c.args.after.now
    (number_wide c.args.language tok names d c.requires c.in_default.ensures.value) refl))

pub returns-then-frame-greatest_depth-clause-reads : goal.returns-then-frame-greatest_depth-clause-reads
returns-then-frame-greatest_depth-clause-reads c =
    let d = c.args.frame.now.depth + 1 in
    let names = names_at c.args.frame.now in
    let tok = tok_of c.args.token.now in
    stopped (λ cs ps.
    let s = declared_in c.args.frame.now.decls.now cs in
    rw c.refuse-then-frame-greatest_depth.ensures (refuses_on (first_at c.args.language d names) s (an_expression_here c.args.language c.args.frame.now ∷ ps)
    (λ first. Next s (expr_expected s c.args.language d names first ps)) Deep tok c.args.after.now
    (number_deep c.args.language tok names d c.requires c.in-Some.number c.in-Some.ensures.value (omega arith)) refl))

pub returns-clause-reads : goal.returns-clause-reads
returns-clause-reads c =
    let d = c.args.frame.now.depth + 1 in
    let names = names_at c.args.frame.now in
    let tok = tok_of c.args.token.now in
    let begun = number_begins c.args.language tok names d c.requires c.in-Some.number c.in-Some.ensures.value (omega arith) in
    record {
      follows = λ cs ps.
          let s = declared_in c.args.frame.now.decls.now cs in
          passes_on (first_at c.args.language d names) (λ text left. (refl, refl)) s s (an_expression_here c.args.language c.args.frame.now ∷ ps) ps
          (λ first. Next s (expr_expected s c.args.language d names first ps)) (OfNumber c.in-Some.number) tok c.args.after.now begun refl refl;
      spelled = (c.in-Some.number, c.literal.ensures, (tok, takes_on (first_at c.args.language d names) (λ text left. (refl, refl)) (OfNumber c.in-Some.number) tok c.args.after.now begun, number_is c.args.language tok c.in-Some.number c.requires c.in-Some.ensures.value));
      shorter = search rules;
    }
