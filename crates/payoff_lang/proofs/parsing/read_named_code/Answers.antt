use Rattle.std.proofs.Common.{◌∙◌, ◌∷◌, [], rules}
use Rattle.std.specs.Prelude.{codes}
use Rattle.contract_parse.specs.Expecting.{AmountAt, TheMark}
use Rattle.contract_parse.specs.Reading.{declared_in}
use Rattle.contract_parse.proofs.Passing.{stopped_at}
use Rattle.payoff_lang.proofs.parsing.read_named_code.Goals as goal

pub returns-in_err-name-clause-reads : goal.returns-in_err-name-clause-reads
returns-in_err-name-clause-reads c = stopped_at _ c.from_residual.result c.from_residual.ensures.1 (λ ps. c.in_err-name.ensures.reads.follows (declared_in c.args.decls.now []) (TheMark (codes "=") ∷ AmountAt 1 [] ∷ TheMark (codes ";") ∷ ps))

pub returns-in_err-code-clause-reads : goal.returns-in_err-code-clause-reads
returns-in_err-code-clause-reads c = stopped_at _ c.from_residual-in_err-code.result c.from_residual-in_err-code.ensures.1 (λ ps.
    rw (c.in_ok-name.ensures.reads.follows (declared_in c.args.decls.now []) (TheMark (codes "=") ∷ AmountAt 1 [] ∷ TheMark (codes ";") ∷ ps))
    (c.in_err-code.ensures.reads.follows (c.in_ok-name.name ∷ []) ps))

pub returns-clause-reads : goal.returns-clause-reads
returns-clause-reads c = record {
  follows = λ ps.
      c.in_ok-name.ensures.reads.follows (declared_in c.args.decls.now []) (TheMark (codes "=") ∷ AmountAt 1 [] ∷ TheMark (codes ";") ∷ ps)
      ∙ c.in_ok-code.ensures.reads.follows (c.in_ok-name.name ∷ []) ps;
  spelled = search rules;
  shorter = search rules;
}
