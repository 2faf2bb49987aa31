use Rattle.contract_cli.proofs.SampleLaws.{sample_has_three_ends}
use Rattle.contract_cli.proofs.laws.sample_has_three_ends.Goals as goal

pub returns : goal.returns
returns c = sample_has_three_ends
