use Rattle.std.proofs.Common.{refl}
use Rattle.indexmap.specs.IndexMap.{keys}
use Rattle.contract_grammar.specs.Judgements.{use_at}
use Rattle.contract_grammar.specs.Spelling.{valued}
use Rattle.contract_parse.specs.Expecting.{UseOf}
use Rattle.schedule_forms.proofs.CommonFacts.{common_reads, one_value, takes_value}
use Rattle.schedule_forms.proofs.readers.read_asset.Goals as goal

pub returns : goal.returns
returns c = record { reads = common_reads (UseOf (keys c.args.assets.now)) (λ r. valued (use_at (keys c.args.assets.now)) r.0) (λ r. r.1.now) c.args.rest.now c.read_use_of_map.result (one_value (UseOf (keys c.args.assets.now)) (use_at (keys c.args.assets.now)) (λ s ps t. refl)) (λ x. takes_value (UseOf (keys c.args.assets.now)) (use_at (keys c.args.assets.now)) x.0 (λ s ps t. refl)) c.read_use_of_map.ensures.reads }
