use Rattle.std.proofs.Common.{◌∙◌, ◌<◌, ◌≤◌, ◌++◌, List, [], ◌∷◌, ap, arith, length, subst, sym, take}
use Rattle.std.proofs.lemmas.List.{take_all, take_more}
use Rattle.flow_eval.specs.declared.flow_table.FlowTable.{FlowTable}
use Rattle.report.specs.RunningSums.{IsSumSoFar}
use Rattle.report.proofs.RunningFacts.{sum_if_ok}
use Rattle.report.proofs.sums.net.Goals as goal

pub loop-table-preserved : goal.loop-table-preserved
loop-table-preserved c =
    let tables = c.args.tables.now in
    let i = c.loop-table.table-index in
    let table = c.table-item.result in
    let h : i < length tables = omega arith in
    let more = ap (λ (t : FlowTable). take i tables ++ t ∷ []) c.table-item.is ∙ sym (take_more tables i table h) in
    subst (λ (ts : List FlowTable). IsSumSoFar ts c.add.new.self) more (c.in_ok-add.ensures.ok (take i tables) c.loop-table.invariant)

pub returns : goal.returns
returns c =
    let tables = c.args.tables.now in
    let i = c.loop-table.table-index in
    let h : length tables ≤ i = omega arith in
    let whole = subst (λ (ts : List FlowTable). IsSumSoFar ts c.loop-table.sum) (take_all i tables h) c.loop-table.invariant in
    sum_if_ok tables c.loop-table.sum c.table.result whole c.table.ensures
