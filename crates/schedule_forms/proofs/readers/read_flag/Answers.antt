use Rattle.std.proofs.Common.{◌∷◌, refl, rules}
use Rattle.term_model.specs.Declarations.{declarations}
use Rattle.contract_parse.specs.Reading.{tok_of}
use Rattle.schedule_forms.specs.PlanJudgements.{flag_at}
use Rattle.contract_parse.proofs.Passing.{stopped}
use Rattle.contract_parse.proofs.Steps.{spells}
use Rattle.schedule_forms.specs.PlanExpecting.{FlagAt, Next}
use Rattle.schedule_forms.proofs.PlanSteps.{plan_passes, plan_refuses}
use Rattle.schedule_forms.proofs.readers.read_flag.Goals as goal

pub returns-in-Ok : goal.returns-in-Ok
returns-in-Ok c = record {
  reads = record {
    follows = λ names ps. plan_passes (flag_at (declarations c.args.decls.now)) (λ text left. (refl, refl)) names names (FlagAt (declarations c.args.decls.now) ∷ ps) (ps) (λ i. Next names ps) c.in-Ok.index (tok_of c.next.result.0) c.args.rest.now c.next.result.1.now c.next.ensures.starts c.in-Ok.ensures refl refl;
    spelled = spells (flag_at (declarations c.args.decls.now)) (λ text left. (refl, refl)) c.in-Ok.index (tok_of c.next.result.0) c.args.rest.now c.next.result.1.now c.next.ensures.starts c.in-Ok.ensures;
    shorter = search rules;
  };
}

pub returns-in-Err : goal.returns-in-Err
returns-in-Err c = record { reads = stopped (λ names ps. rw c.refuse.ensures (plan_refuses (flag_at (declarations c.args.decls.now)) names (FlagAt (declarations c.args.decls.now) ∷ ps) (λ i. Next names ps) c.in-Err.kind (tok_of c.next.result.0) c.args.rest.now c.next.result.1.now c.next.ensures.starts c.in-Err.ensures refl)) }
