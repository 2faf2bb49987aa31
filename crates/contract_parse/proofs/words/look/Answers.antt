use Rattle.std.proofs.Common.{sym}
use Rattle.contract_parse.proofs.words.look.Goals as goal

pub returns-clause-same : goal.returns-clause-same
returns-clause-same c = sym c.next.ensures.starts
