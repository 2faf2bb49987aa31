use Rattle.contract_parse.proofs.AsciiFacts.{AreUpTo}
use Rattle.contract_parse.proofs.cursor.greatest_byte.Given as goal

abbrev pub invariant-loop-b : goal.invariant-loop-b
invariant-loop-b l = AreUpTo l.bytes l.b-index l.most
