use Rattle.std.proofs.Common.{◌<◌, arith, length}
use Rattle.std.specs.Int.{w128}
use Rattle.std.proofs.lemmas.Int.{to_z-of_z}
use Rattle.std.proofs.lemmas.List.{length-map}
use Rattle.scenario_set.specs.Scenarios.{map_of}
use Rattle.scenario_set.specs.Surveys.{HasRoomFor, asked_in, scenarios_in}
use Rattle.scenario_set.proofs.SumFacts.{stops_is, takes_more, worth_fits}
use Rattle.scenario_set.proofs.sums.sum.Goals as goal

pub returns-in-Err : goal.returns-in-Err
returns-in-Err c =
    let s = c.args.survey.now in
    stops_is (asked_in s) (scenarios_in s) c.loop-i.i c.loop-i.summed.values.items c.loop-i.summed.total c.in-Err.stopped c.loop-i.invariant.0 c.in-Err.ensures.worth

pub loop-i-preserved : goal.loop-i-preserved
loop-i-preserved c =
    let s = c.args.survey.now in
    let q = asked_in s in
    let set = scenarios_in s in
    let long = length-map s.each.now (map_of s.common.now) in
    let within : c.loop-i.i < length set = omega (arith, long) in
    let worth = c.in-Ok-found.ensures.worth in
    let fits = worth_fits q set c.loop-i.i c.in-Ok-found.worth within c.requires.few worth in
    let takes = rw (to_z-of_z w128 c.in-Ok-found.worth fits) at c.in-Ok-take.ensures in
    let room : HasRoomFor q c.value_in-found.new.scratch = rw c.in-Ok-found.ensures.room c.loop-i.invariant.1 in
    (takes_more q set c.loop-i.i c.loop-i.summed c.take.new.self c.in-Ok-found.worth within c.loop-i.invariant.0 worth takes, room)
