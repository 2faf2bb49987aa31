use Rattle.std.proofs.Common.{arith}
use Rattle.contract_parse.proofs.SameTexts.{same_texts}
use Rattle.contract_parse.proofs.words.are_same.Goals as goal

pub returns : goal.returns
returns c = same_texts c.args.text.now c.args.other.now (omega arith) (λ k l. c.loop-i.invariant k (omega arith))
