use Rattle.indexmap.specs.IndexMap.{keys}
use Rattle.schedule_forms.proofs.CommonFacts.{new_reads}
use Rattle.schedule_forms.proofs.lines.read_name.Goals as goal

pub returns-clause-reads : goal.returns-clause-reads
returns-clause-reads c = new_reads (keys c.args.plans.now) (λ r. r.0) (λ r. r.1.now) c.args.rest.now c.read_new_name.result c.read_new_name.ensures.reads
