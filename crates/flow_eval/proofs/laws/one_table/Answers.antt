use Rattle.flow_eval.proofs.TableFacts.{tables_are_one}
use Rattle.flow_eval.proofs.laws.one_table.Goals as goal

pub returns : goal.returns
returns c = tables_are_one
