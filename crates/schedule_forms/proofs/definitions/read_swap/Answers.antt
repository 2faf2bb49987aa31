use Rattle.std.proofs.Common.{◌∷◌, ◌∙◌, rules}
use Rattle.std.specs.Prelude.{codes}
use Rattle.term_model.specs.Declarations.{declarations}
use Rattle.contract_grammar.specs.Tokens.{tokens}
use Rattle.contract_grammar.proofs.Parts.{followed_by}
use Rattle.contract_parse.proofs.Passing.{stopped_at}
use Rattle.schedule_forms.specs.PlanExpecting.{leg_expected, the_word}
use Rattle.schedule_forms.proofs.definitions.read_swap.Goals as goal

pub returns-in_err-rest-clause-reads : goal.returns-in_err-rest-clause-reads
returns-in_err-rest-clause-reads c = stopped_at _ c.from_residual-in_err-rest.result c.from_residual-in_err-rest.ensures.1 (λ names ps.
    let d = declarations c.args.decls.now in
    rw (c.in_ok-one.ensures.reads.follows names (the_word (codes "against") ∷ leg_expected d 5_000 ps))
    (c.in_err-rest.ensures.reads.follows names (leg_expected d 5_000 ps)))

pub returns-in_err-two-clause-reads : goal.returns-in_err-two-clause-reads
returns-in_err-two-clause-reads c = stopped_at _ c.from_residual-in_err-two.result c.from_residual-in_err-two.ensures.1 (λ names ps.
    let d = declarations c.args.decls.now in
    rw (c.in_ok-one.ensures.reads.follows names (the_word (codes "against") ∷ leg_expected d 5_000 ps)
    ∙ c.in_ok-rest.ensures.reads.follows names (leg_expected d 5_000 ps))
    (c.in_err-two.ensures.reads.follows names ps))

pub returns-clause-reads : goal.returns-clause-reads
returns-clause-reads c = record {
  follows = λ names ps.
      let d = declarations c.args.decls.now in
      c.in_ok-one.ensures.reads.follows names (the_word (codes "against") ∷ leg_expected d 5_000 ps)
      ∙ c.in_ok-rest.ensures.reads.follows names (leg_expected d 5_000 ps)
      ∙ c.in_ok-two.ensures.reads.follows names ps;
  spelled = followed_by (tokens c.in_ok-one.rest.now) c.in_ok-one.ensures.reads.spelled
      (followed_by (tokens c.in_ok-rest.rest.now) c.in_ok-rest.ensures.reads.spelled c.in_ok-two.ensures.reads.spelled);
  shorter = search rules;
}
