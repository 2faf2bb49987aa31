use Rattle.contract_parse.proofs.FrontRows.{front_rows}
use Rattle.contract_parse.proofs.laws.rows_of_fronts.Goals as goal

pub returns : goal.returns
returns c = front_rows
