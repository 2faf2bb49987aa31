use Rattle.std.proofs.Common.{List, ◌++◌, subst}
use Rattle.std.proofs.lemmas.Result.{IfOk-weaker}
use Rattle.fixing_files.specs.Layers.{HoldSame}
use Rattle.scenario_set.specs.Scenarios.{IsMapOf, rows_held}
use Rattle.scenario_set.specs.declared.scenarios.SetRow.{SetRow}
use Rattle.scenario_set.proofs.HeldFacts.{map_is}
use Rattle.scenario_set.proofs.scenarios.Scenarios.fixings.Goals as goal

pub returns : goal.returns
returns c =
    let first = c.in_ok-few.ensures in
    let second = subst (λ (rows : List SetRow). HoldSame c.add_all.new.few (c.in_ok-few.few ++ rows_held rows)) c.deref-2.ensures.value c.in_ok-add_all.ensures in
    IfOk-weaker c.by_labels.result (λ env. HoldSame env c.add_all.new.few) (λ env. IsMapOf c.args.self.now c.args.i env)
    (λ env third. map_is (rows_held c.self.inside.common.items) c.self.inside.each.items c.args.self.now c.args.i c.index.result.now c.deref.result.now c.in_ok-few.few c.add_all.new.few env c.self.view_is c.requires c.index.ensures c.deref.ensures.value first second third)
    c.by_labels.ensures
