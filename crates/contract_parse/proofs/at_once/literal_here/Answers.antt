use Rattle.std.proofs.Common.{rules}
use Rattle.contract_parse.proofs.NumbersAtOnce.{point_here, whole_valued}
use Rattle.contract_parse.proofs.at_once.literal_here.Goals as goal

pub returns-in-46-clause-found : goal.returns-in-46-clause-found
returns-in-46-clause-found c =
    c.fraction_here.ensures.found c.args.start.now c.in_ok-whole.ensures.number (point_here c.args.start.now c.in_ok-whole.after.now c.in_ok-whole.ensures.rest (search rules) (search rules)) (search rules)

pub returns-clause-found : goal.returns-clause-found
returns-clause-found c =
    whole_valued c.in_ok-whole.whole c.args.start.now c.in_ok-whole.after.now c.in_ok-whole.ensures.number c.in_ok-whole.ensures.rest (search rules) (search rules) (search rules)
