use Rattle.std.proofs.Common.{◌-◌, length, refl, rules}
use Rattle.contract_parse.proofs.NumbersAtOnce.{point_valued}
use Rattle.contract_parse.proofs.at_once.fraction_here.Goals as goal

pub returns-clause-found : goal.returns-clause-found
returns-clause-found c = λ start first rest some.
    point_valued c.args.whole c.in_ok-number.number (length c.args.bytes.now - length c.in_ok-number.after.now) start c.args.bytes.now c.in_ok-number.after.now first rest some
    c.in_ok-number.ensures.number c.in_ok-number.ensures.rest (search rules) (search rules) refl (search rules) (search rules)
