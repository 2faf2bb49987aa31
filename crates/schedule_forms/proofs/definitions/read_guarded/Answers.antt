use Rattle.std.proofs.Common.{SFits, ◌∷◌, ◌∙◌, rules}
use Rattle.std.specs.Int.{w128}
use Rattle.std.proofs.lemmas.Int.{to_z-of_z}
use Rattle.std.specs.Prelude.{codes}
use Rattle.term_model.specs.Declarations.{declarations}
use Rattle.contract_grammar.specs.Tokens.{tokens}
use Rattle.contract_grammar.proofs.Parts.{followed_by}
use Rattle.contract_parse.proofs.Passing.{stopped_at}
use Rattle.schedule_forms.specs.PlanExpecting.{DecimalAt, guard_expected, the_word}
use Rattle.schedule_forms.proofs.definitions.read_guarded.Goals as goal

pub returns-in_err-flag-clause-reads : goal.returns-in_err-flag-clause-reads
returns-in_err-flag-clause-reads c = stopped_at _ c.from_residual-in_err-flag.result c.from_residual-in_err-flag.ensures.1 (λ names ps.
    rw (c.in_ok-leg.ensures.reads.follows names (guard_expected (declarations c.args.decls.now) ps))
    (c.in_err-flag.ensures.reads.follows names (the_word (codes "covers") ∷ DecimalAt ∷ ps)))

pub returns-in_err-number-clause-reads : goal.returns-in_err-number-clause-reads
returns-in_err-number-clause-reads c = stopped_at _ c.from_residual-in_err-number.result c.from_residual-in_err-number.ensures.1 (λ names ps.
    rw (c.in_ok-leg.ensures.reads.follows names (guard_expected (declarations c.args.decls.now) ps)
    ∙ c.in_ok-flag.ensures.reads.follows names (the_word (codes "covers") ∷ DecimalAt ∷ ps))
    (c.in_err-number.ensures.reads.follows names ps))

pub returns-clause-reads : goal.returns-clause-reads
returns-clause-reads c = record {
  follows = λ names ps.
      c.in_ok-leg.ensures.reads.follows names (guard_expected (declarations c.args.decls.now) ps)
      ∙ c.in_ok-flag.ensures.reads.follows names (the_word (codes "covers") ∷ DecimalAt ∷ ps)
      ∙ c.in_ok-number.ensures.reads.follows names ps;
  spelled =
      let fits : SFits w128 c.in_ok-number.number.mant = search rules in
      rw (to_z-of_z w128 c.in_ok-number.number.mant fits) (followed_by (tokens c.in_ok-leg.rest.now) c.in_ok-leg.ensures.reads.spelled
      (followed_by (tokens c.in_ok-flag.rest.now) c.in_ok-flag.ensures.reads.spelled c.in_ok-number.ensures.reads.spelled));
  shorter = search rules;
}
