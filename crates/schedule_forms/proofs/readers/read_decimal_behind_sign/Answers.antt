use Rattle.std.proofs.Common.{refl, true}
use Rattle.contract_grammar.specs.Judgements.{literal_at}
use Rattle.contract_grammar.specs.Spelling.{valued}
use Rattle.contract_parse.specs.Expecting.{LiteralNumber}
use Rattle.schedule_forms.proofs.CommonFacts.{common_reads, one_value, takes_value}
use Rattle.schedule_forms.proofs.readers.read_decimal_behind_sign.Goals as goal

pub returns : goal.returns
returns c = record { reads = common_reads (LiteralNumber true) (λ r. valued (literal_at true) r.0) (λ r. r.1.now) c.args.rest.now c.read_literal.result (one_value (LiteralNumber true) (literal_at true) (λ s ps t. refl)) (λ x. takes_value (LiteralNumber true) (literal_at true) x.0 (λ s ps t. refl)) c.read_literal.ensures.reads }
