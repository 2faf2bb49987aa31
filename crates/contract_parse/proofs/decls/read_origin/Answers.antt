use Rattle.std.proofs.Common.{◌∙◌, ◌∷◌, ap, refl, sym, rules}
use Rattle.std.specs.Prelude.{codes}
use Rattle.contract_grammar.specs.Tokens.{tokens}
use Rattle.contract_parse.specs.Reading.{tokens_ahead}
use Rattle.contract_parse.specs.Expecting.{OriginDate, OriginLine, TheMark, run}
use Rattle.contract_parse.proofs.LineFacts.{line_absent, line_opens}
use Rattle.contract_parse.proofs.Passing.{stopped_at}
use Rattle.contract_parse.proofs.decls.read_origin.Goals as goal

pub returns-in_err-day-in-Some-clause-reads : goal.returns-in_err-day-in-Some-clause-reads
returns-in_err-day-in-Some-clause-reads c = stopped_at _ c.from_residual.result c.from_residual.ensures.1 (λ s ps.
    rw (line_opens s (codes "origin") (OriginLine ∷ ps) (OriginDate ∷ TheMark (codes ";") ∷ ps) ps (λ t. refl) (tokens_ahead c.args.ahead.now) (tokens c.in-Some.after.now) c.in-Some.ensures.found)
    (c.in_err-day-in-Some.ensures.reads.follows s (TheMark (codes ";") ∷ ps)))

pub returns-in_err-rest-in-Some-clause-reads : goal.returns-in_err-rest-in-Some-clause-reads
returns-in_err-rest-in-Some-clause-reads c = stopped_at _ c.from_residual-in_err-rest-in-Some.result c.from_residual-in_err-rest-in-Some.ensures.1 (λ s ps.
    rw (line_opens s (codes "origin") (OriginLine ∷ ps) (OriginDate ∷ TheMark (codes ";") ∷ ps) ps (λ t. refl) (tokens_ahead c.args.ahead.now) (tokens c.in-Some.after.now) c.in-Some.ensures.found ∙ c.in_ok-day-in-Some.ensures.reads.follows s (TheMark (codes ";") ∷ ps))
    (c.in_err-rest-in-Some.ensures.reads.follows s ps))

pub returns-in-None-clause-reads : goal.returns-in-None-clause-reads
returns-in-None-clause-reads c = record {
  follows = λ s ps. line_absent s (codes "origin") (OriginLine ∷ ps) (OriginDate ∷ TheMark (codes ";") ∷ ps) ps (λ t. refl) (tokens_ahead c.args.ahead.now) c.in-None.ensures.lacks;
  spelled = search rules;
  shorter = search rules;
}

pub returns-in_ok-rest-in-Some-clause-reads : goal.returns-in_ok-rest-in-Some-clause-reads
returns-in_ok-rest-in-Some-clause-reads c = record {
  follows = λ s ps. line_opens s (codes "origin") (OriginLine ∷ ps) (OriginDate ∷ TheMark (codes ";") ∷ ps) ps (λ t. refl) (tokens_ahead c.args.ahead.now) (tokens c.in-Some.after.now) c.in-Some.ensures.found ∙ c.in_ok-day-in-Some.ensures.reads.follows s (TheMark (codes ";") ∷ ps) ∙ c.in_ok-rest-in-Some.ensures.reads.follows s ps ∙ ap (run s ps) (sym c.look.ensures.same);
  spelled = search rules;
  shorter = search rules;
}
