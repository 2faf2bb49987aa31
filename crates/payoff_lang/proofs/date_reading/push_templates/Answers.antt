use Rattle.std.proofs.Common.{◌∙◌, ◌∷◌, [], ◌++◌, List, ℕ, append_assoc, ap, arith, refl, sym, rules}
use Rattle.std.proofs.lemmas.List.{append-nil}
use Rattle.contract_grammar.specs.Tokens.{tokens}
use Rattle.contract_parse.specs.Expecting.{MoreTemplates}
use Rattle.contract_parse.specs.Reading.{declared_in}
use Rattle.contract_grammar.proofs.Parts.{followed_by}
use Rattle.contract_parse.proofs.PlusFacts.{plus_lacks, plus_opens}
use Rattle.contract_parse.proofs.Passing.{stopped_at}
use Rattle.payoff_lang.proofs.date_reading.push_templates.Goals as goal

pub returns-in_err-name-clause-reads : goal.returns-in_err-name-clause-reads
returns-in_err-name-clause-reads c = stopped_at _ c.from_residual.result c.from_residual.ensures.1 (λ cs ps.
    rw (c.loop-after.invariant.follows cs ps
    ∙ plus_opens (declared_in c.args.decls.now cs) ps (tokens c.loop-after.rest.now) (tokens c.in-Some.after.now) c.in-Some.ensures.found)
    (c.in_err-name.ensures.reads.follows (declared_in c.args.decls.now cs) (MoreTemplates ∷ ps)))

pub loop-after-preserved : goal.loop-after-preserved
loop-after-preserved c = record {
  follows = λ cs ps.
      c.loop-after.invariant.follows cs ps
      ∙ plus_opens (declared_in c.args.decls.now cs) ps (tokens c.loop-after.rest.now) (tokens c.in-Some.after.now) c.in-Some.ensures.found
      ∙ c.in_ok-name.ensures.reads.follows (declared_in c.args.decls.now cs) (MoreTemplates ∷ ps);
  spelled = λ after end x.
      c.loop-after.invariant.spelled after end
      (record {
        written = c.in_ok-name.name ∷ x.written;
        is = x.is ∙ ap (λ (us : List ℕ). us ++ x.written) (c.in_ok-push.ensures.items) ∙ append_assoc c.loop-after.names.items (c.in_ok-name.name ∷ []) x.written;
        spelled = followed_by (tokens c.in-Some.after.now) c.in-Some.ensures.found (followed_by (tokens c.in_ok-name.behind.now) c.in_ok-name.ensures.reads.spelled x.spelled);
      });
  shorter = omega (arith, c.loop-after.invariant.shorter, c.in-Some.ensures.shorter, c.in_ok-name.ensures.reads.shorter);
}

pub returns-clause-reads : goal.returns-clause-reads
returns-clause-reads c = record {
  follows = λ cs ps.
      c.loop-after.invariant.follows cs ps
      ∙ plus_lacks (declared_in c.args.decls.now cs) ps (tokens c.loop-after.rest.now) c.in_default.ensures.lacks;
  spelled = c.loop-after.invariant.spelled c.loop-after.names.items (tokens c.loop-after.rest.now) (record { written = []; is = sym (append-nil c.loop-after.names.items); spelled = refl });
  shorter = search rules;
}
