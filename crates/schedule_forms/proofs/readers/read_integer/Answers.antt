use Rattle.std.proofs.Common.{refl}
use Rattle.contract_grammar.specs.Judgements.{integer_at}
use Rattle.contract_grammar.specs.Spelling.{valued}
use Rattle.contract_parse.specs.Expecting.{IntegerAt}
use Rattle.schedule_forms.proofs.CommonFacts.{common_reads, one_value, takes_value}
use Rattle.schedule_forms.proofs.readers.read_integer.Goals as goal

pub returns-clause-reads : goal.returns-clause-reads
returns-clause-reads c = common_reads (IntegerAt c.args.most) (λ r. valued (integer_at c.args.most) r.0) (λ r. r.1.now) c.args.rest.now c.read_integer.result (one_value (IntegerAt c.args.most) (integer_at c.args.most) (λ s ps t. refl)) (λ x. takes_value (IntegerAt c.args.most) (integer_at c.args.most) x.0 (λ s ps t. refl)) c.read_integer.ensures.reads
