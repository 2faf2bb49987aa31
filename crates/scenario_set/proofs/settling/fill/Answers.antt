use Rattle.std.proofs.Common.{◌≡◌, ◌∙◌, List, sym, subst}
use Rattle.std.proofs.lemmas.List.{map-id}
use Rattle.std.proofs.lemmas.Map.Iter.{btree_map_turn, iter_end}
use Rattle.scenario_set.specs.Settling.{IsWithin, PutsRow, row_at}
use Rattle.scenario_set.specs.declared.mentions.Mention.{Mention}
use Rattle.scenario_set.specs.declared.watches.Spot.{Spot}
use Rattle.scenario_set.proofs.FillFacts.{FillsFront, fills_all, names_put, put_more, same_length}
use Rattle.scenario_set.proofs.SpotFacts.{spots_total}
use Rattle.scenario_set.proofs.settling.fill.Goals as goal

pub put-requires : goal.put-requires
put-requires c =
    let start = c.into_iter-spot-iterator.ensures.into_iter_gives in
    let turn = btree_map_turn (λ (p : Spot × Mention). p) c.loop-spot.yielded c.into_iter-spot-iterator.result c.loop-spot.spot-iterator c.next.new.self c.next.result (c.in-Some.spot, c.in-Some.first) c.loop-spot.yielded_by c.in-Some.is c.next.ensures.steps spots_total c.args.firsts start.0 start.5 in
    subst (λ n. IsWithin c.in-Some.spot.group n) (sym (same_length c.loop-spot.each.items c.args.each.now.items c.loop-spot.invariant.0))
    (c.requires.within c.in-Some.spot c.in-Some.first turn.1)

pub loop-spot-preserved : goal.loop-spot-preserved
loop-spot-preserved c =
    let puts : PutsRow c.loop-spot.common.items c.loop-spot.each.items c.put.new.common.items c.put.new.each.items c.in-Some.spot.group (row_at c.in-Some.spot c.in-Some.first) = rw (sym c.row_at.ensures) c.in_ok-put.ensures in (
      names_put c.loop-spot.common.items c.put.new.common.items c.loop-spot.each.items c.put.new.each.items c.in-Some.spot.group _ puts ∙ c.loop-spot.invariant.0,
      put_more c.loop-spot.yielded (c.in-Some.spot, c.in-Some.first) c.loop-spot.common.items c.put.new.common.items c.loop-spot.each.items c.put.new.each.items c.loop-spot.invariant.1 puts,
    )

pub returns-clause-filled : goal.returns-clause-filled
returns-clause-filled c =
    let start = c.into_iter-spot-iterator.ensures.into_iter_gives in
    let end = iter_end (λ (p : Spot × Mention). p) c.args.firsts.entries c.loop-spot.yielded c.into_iter-spot-iterator.result c.loop-spot.spot-iterator c.next.new.self c.next.result start.0 c.loop-spot.yielded_by c.in-None.is c.next.ensures.steps in
    let all : c.loop-spot.yielded ≡ c.args.firsts.entries = sym (map-id c.loop-spot.yielded) ∙ end.0 in
    fills_all c.args.firsts start.5 c.loop-spot.common.items c.loop-spot.each.items
    (subst (λ (l : List (Spot × Mention)). FillsFront l c.loop-spot.common.items c.loop-spot.each.items) all c.loop-spot.invariant.1)
