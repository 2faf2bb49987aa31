use Rattle.std.proofs.Common.{◌∷◌, refl, rules}
use Rattle.std.specs.Prelude.{codes}
use Rattle.contract_parse.specs.Reading.{tok_of}
use Rattle.contract_grammar.specs.Judgements.{integer_at}
use Rattle.contract_parse.proofs.Passing.{stopped}
use Rattle.contract_parse.proofs.Steps.{spells}
use Rattle.schedule_forms.specs.PlanExpecting.{EveryAt, FirstAt, Next, the_word}
use Rattle.schedule_forms.proofs.PlanSteps.{plan_passes, plan_refuses}
use Rattle.schedule_forms.proofs.readers.read_first_day.Goals as goal

pub returns-in-Ok-clause-reads : goal.returns-in-Ok-clause-reads
returns-in-Ok-clause-reads c = record {
  follows = λ names ps. plan_passes (integer_at 100_000) (λ text left. (refl, refl)) names names (FirstAt c.args.most ∷ ps) (the_word (codes "every") ∷ EveryAt c.args.most c.in-Ok.first ∷ ps) (λ first. Next names (the_word (codes "every") ∷ EveryAt c.args.most first ∷ ps)) c.in-Ok.first (tok_of c.next.result.0) c.args.rest.now c.next.result.1.now c.next.ensures.starts c.in-Ok.ensures.value refl refl;
  spelled = spells (integer_at 100_000) (λ text left. (refl, refl)) c.in-Ok.first (tok_of c.next.result.0) c.args.rest.now c.next.result.1.now c.next.ensures.starts c.in-Ok.ensures.value;
  shorter = search rules;
}

pub returns-in-Err-clause-reads : goal.returns-in-Err-clause-reads
returns-in-Err-clause-reads c = stopped (λ names ps. rw c.refuse.ensures (plan_refuses (integer_at 100_000) names (FirstAt c.args.most ∷ ps) (λ first. Next names (the_word (codes "every") ∷ EveryAt c.args.most first ∷ ps)) c.in-Err.kind (tok_of c.next.result.0) c.args.rest.now c.next.result.1.now c.next.ensures.starts c.in-Err.ensures.value refl))
