use Rattle.contract_parse.specs.Reading.{tok_of}
use Rattle.contract_parse.proofs.Steps.{end_passes, end_refuses, end_spells}
use Rattle.contract_parse.proofs.readers.read_end.Goals as goal

pub returns-then-is_end-clause-follows : goal.returns-then-is_end-clause-follows
returns-then-is_end-clause-follows c s ps = end_passes s ps (tok_of c.args.ahead.now.token) c.args.ahead.now.after.now c.if-is_end.ensures

pub returns-then-is_end-clause-spelled : goal.returns-then-is_end-clause-spelled
returns-then-is_end-clause-spelled c = end_spells (tok_of c.args.ahead.now.token) c.args.ahead.now.after.now c.if-is_end.ensures

pub returns-else-is_end-clause-follows : goal.returns-else-is_end-clause-follows
returns-else-is_end-clause-follows c s ps = rw c.refuse.ensures (end_refuses s ps (tok_of c.args.ahead.now.token) c.args.ahead.now.after.now c.if-is_end.ensures)
