use Rattle.scenario_set.specs.Surveys.{HasRoomFor, asked_in, scenarios_in}
use Rattle.scenario_set.specs.TotalSteps.{SumsUpTo}
use Rattle.scenario_set.proofs.sums.sum.Given as goal

abbrev pub invariant-loop-i : goal.invariant-loop-i
invariant-loop-i l =
    SumsUpTo (asked_in l.fn.survey) (scenarios_in l.fn.survey) l.i l.summed.values.items l.summed.total × HasRoomFor (asked_in l.fn.survey) l.scratch
