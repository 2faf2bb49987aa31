use Rattle.std.proofs.Common.{rules}
use Rattle.contract_parse.proofs.NumbersAtOnce.{integer_valued}
use Rattle.contract_parse.proofs.at_once.integer_here.Goals as goal

pub returns-clause-found : goal.returns-clause-found
returns-clause-found c =
    integer_valued c.args.most c.in_ok-number.number c.args.start.now c.in_ok-number.after.now c.in_ok-number.ensures.number c.in_ok-number.ensures.rest (search rules) (search rules) (search rules)
