use Rattle.std.proofs.Common.{refl}
use Rattle.contract_grammar.specs.Judgements.{mode_at}
use Rattle.contract_grammar.specs.Spelling.{valued}
use Rattle.contract_parse.specs.Expecting.{ModeAt}
use Rattle.schedule_forms.proofs.CommonFacts.{common_reads, one_value, takes_value}
use Rattle.schedule_forms.proofs.readers.read_mode.Goals as goal

pub returns : goal.returns
returns c = record { reads = common_reads (ModeAt) (λ r. valued (mode_at) r.0) (λ r. r.1.now) c.args.rest.now c.read_mode.result (one_value (ModeAt) (mode_at) (λ s ps t. refl)) (λ x. takes_value (ModeAt) (mode_at) x.0 (λ s ps t. refl)) c.read_mode.ensures.reads }
