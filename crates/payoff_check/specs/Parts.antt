-- Payoff code of parts that the program holds.
use Rattle.std.specs.Prelude.{pos, []}
use Rattle.payoff_terms.specs.TemplateDates.{Date, date}
use Rattle.payoff_terms.specs.Code.{PayoffCode, Add, ScaleBy, LetBe, Loop, Cut}
use Rattle.payoff_terms.specs.Code.{payoff_code, value_expression}
use Rattle.payoff_terms.specs.declared.code.Code.{Code}
use Rattle.payoff_terms.specs.declared.code.DateExpr.{DateExpr}
use Rattle.payoff_terms.specs.declared.code.Vx.{Vx}

abbrev pub added : Code → Code → PayoffCode
added left right = Add (payoff_code left) (payoff_code right)

abbrev pub multiple : Vx → Code → PayoffCode
multiple factor body = ScaleBy (value_expression factor) (payoff_code body)

abbrev pub naming : Vx → Code → PayoffCode
naming bound body = LetBe (value_expression bound) (payoff_code body)

abbrev pub looping_to : DateExpr → Vx → Code → Code → PayoffCode
looping_to upto test hit miss =
    Loop (value_expression test) (date upto) (payoff_code hit) (payoff_code miss)

abbrev pub cutting_on : DateExpr → Code → PayoffCode
cutting_on day body = Cut (date day) (payoff_code body)

-- for the rules that see no dates
abbrev base : Date
base = record { days = pos 0; names = [] }

abbrev pub looping : Vx → Code → Code → PayoffCode
looping test hit miss = Loop (value_expression test) base (payoff_code hit) (payoff_code miss)

abbrev pub cutting : Code → PayoffCode
cutting body = Cut base (payoff_code body)
