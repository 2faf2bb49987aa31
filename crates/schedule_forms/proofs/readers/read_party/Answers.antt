use Rattle.std.proofs.Common.{refl}
use Rattle.contract_grammar.specs.Judgements.{use_at}
use Rattle.contract_grammar.specs.Spelling.{valued}
use Rattle.contract_parse.specs.Expecting.{UseOf}
use Rattle.schedule_forms.proofs.CommonFacts.{common_reads, one_value, takes_value}
use Rattle.schedule_forms.proofs.readers.read_party.Goals as goal

pub returns : goal.returns
returns c = record { reads = common_reads (UseOf c.args.parties.now.keys) (λ r. valued (use_at c.args.parties.now.keys) r.0) (λ r. r.1.now) c.args.rest.now c.read_use_of_set.result (one_value (UseOf c.args.parties.now.keys) (use_at c.args.parties.now.keys) (λ s ps t. refl)) (λ x. takes_value (UseOf c.args.parties.now.keys) (use_at c.args.parties.now.keys) x.0 (λ s ps t. refl)) c.read_use_of_set.ensures.reads }
