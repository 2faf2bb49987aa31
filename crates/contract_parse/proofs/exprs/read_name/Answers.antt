use Rattle.std.proofs.Common.{◌+◌, ◌∷◌, refl, sym, arith, rules}
use Rattle.contract_grammar.specs.declared.faults.TextKind.TheVariants.{Deep, Syntax, Unknown}
use Rattle.contract_parse.specs.Frames.{an_expression_here, names_at}
use Rattle.contract_parse.specs.Heads.{OfName, first_at}
use Rattle.contract_parse.specs.Expecting.{Next, expr_expected}
use Rattle.contract_parse.specs.Reading.{declared_in, tok_of}
use Rattle.contract_parse.proofs.HeadFacts.{name_begins, name_deep, name_is, name_unknown, no_name_begins}
use Rattle.contract_parse.proofs.Passing.{stopped}
use Rattle.contract_parse.proofs.Steps.{passes_on, refuses_on, takes_on}
use Rattle.contract_parse.proofs.exprs.read_name.Goals as goal

pub returns-then-not-is_name-clause-reads : goal.returns-then-not-is_name-clause-reads
returns-then-not-is_name-clause-reads c =
    let d = c.args.frame.now.depth + 1 in
    let names = names_at c.args.frame.now in
    let tok = tok_of c.args.token.now in
    stopped (λ cs ps.
    let s = declared_in c.args.frame.now.decls.now cs in
    rw c.refuse.ensures (refuses_on (first_at c.args.language d names) s (an_expression_here c.args.language c.args.frame.now ∷ ps)
    (λ first. Next s (expr_expected s c.args.language d names first ps)) Syntax tok c.args.after.now
    (no_name_begins c.args.language tok names d c.requires.no_number c.requires.no_form (sym c.if-not-is_name.ensures)) refl))

pub returns-then-frame-greatest_depth-clause-reads : goal.returns-then-frame-greatest_depth-clause-reads
returns-then-frame-greatest_depth-clause-reads c =
    let d = c.args.frame.now.depth + 1 in
    let names = names_at c.args.frame.now in
    let tok = tok_of c.args.token.now in
    stopped (λ cs ps.
    let s = declared_in c.args.frame.now.decls.now cs in
    rw c.refuse-then-frame-greatest_depth.ensures (refuses_on (first_at c.args.language d names) s (an_expression_here c.args.language c.args.frame.now ∷ ps)
    (λ first. Next s (expr_expected s c.args.language d names first ps)) Deep tok c.args.after.now
    (name_deep c.args.language tok names d c.requires.no_number c.requires.no_form (sym c.if-not-is_name.ensures) (omega arith)) refl))

pub returns-in-Some-clause-reads : goal.returns-in-Some-clause-reads
returns-in-Some-clause-reads c =
    let d = c.args.frame.now.depth + 1 in
    let names = names_at c.args.frame.now in
    let tok = tok_of c.args.token.now in
    let begun = name_begins c.args.language tok names d c.requires.no_number c.requires.no_form c.in-Some.back (sym c.if-not-is_name.ensures) c.in-Some.ensures.value (omega arith) in
    record {
      follows = λ cs ps.
          let s = declared_in c.args.frame.now.decls.now cs in
          passes_on (first_at c.args.language d names) (λ text left. (refl, refl)) s s (an_expression_here c.args.language c.args.frame.now ∷ ps) ps
          (λ first. Next s (expr_expected s c.args.language d names first ps)) (OfName c.in-Some.back) tok c.args.after.now begun refl refl;
      spelled = (c.in-Some.back, refl, (tok, takes_on (first_at c.args.language d names) (λ text left. (refl, refl)) (OfName c.in-Some.back) tok c.args.after.now begun, name_is c.args.language tok names c.in-Some.back (sym c.if-not-is_name.ensures) c.in-Some.ensures.value));
      shorter = search rules;
    }

pub returns-in-None-clause-reads : goal.returns-in-None-clause-reads
returns-in-None-clause-reads c =
    let d = c.args.frame.now.depth + 1 in
    let names = names_at c.args.frame.now in
    let tok = tok_of c.args.token.now in
    stopped (λ cs ps.
    let s = declared_in c.args.frame.now.decls.now cs in
    rw c.refuse-in-None.ensures (refuses_on (first_at c.args.language d names) s (an_expression_here c.args.language c.args.frame.now ∷ ps)
    (λ first. Next s (expr_expected s c.args.language d names first ps)) Unknown tok c.args.after.now
    (name_unknown c.args.language tok names d c.requires.no_number c.requires.no_form (sym c.if-not-is_name.ensures) c.in-None.ensures.value (omega arith)) refl))
