use Rattle.std.proofs.Common.{rules}
use Rattle.contract_parse.proofs.AsciiFacts.{all_up_to, one_more}
use Rattle.contract_parse.proofs.cursor.greatest_byte.Goals as goal

pub loop-b-preserved : goal.loop-b-preserved
loop-b-preserved c =
    one_more c.args.bytes.now c.loop-b.b-index c.loop-b.most c.max-most.result c.loop-b.invariant (search rules) (search rules)

pub returns : goal.returns
returns c = all_up_to c.args.bytes.now c.loop-b.b-index c.loop-b.most c.loop-b.invariant (search rules)
