use Rattle.std.proofs.Common.{◌≡◌, length, rules, subst, arith}
use Rattle.std.proofs.lemmas.List.Sorted.{answers_always}
use Rattle.fixing_files.proofs.SettleFacts.{AreJoined, joined_all, joined_none, joined_step, key, sorted_in_order}
use Rattle.fixing_files.proofs.folds.in_order.Goals as goal

pub loop-at-init : goal.loop-at-init
loop-at-init c = joined_none c.args.run.days.items c.args.run.numbers.items c.args.run.late.items

pub loop-at-preserved : goal.loop-at-preserved
loop-at-preserved c =
    joined_step c.args.run.days.items c.deref-fixed-items.result.now c.args.run.numbers.items c.args.run.late.items c.loop-at.at c.loop-at.rows.items c.push.new.self.items _ c.index.result.now
    c.deref-fixed-items.ensures.value (omega (arith, c.deref-fixed-items.ensures.len, c.args.run.days.ok.0)) (omega (arith, c.deref-fixed-items.ensures.len, c.args.run.days.ok.0, c.requires.numbered)) c.index.ensures (rw c.new.ensures at c.in_ok-push.ensures.items) c.loop-at.invariant

pub returns-clause-order : goal.returns-clause-order
returns-clause-order c =
    sorted_in_order c.sort_by_key.new.self.items (c.in_ok-sort_by_key.ensures.sorted key (answers_always _ _ _ (λ f a r g called. search rules)))

pub returns-clause-rows : goal.returns-clause-rows
returns-clause-rows c =
    let run = c.args.run in
    let end : c.loop-at.at ≡ length run.days.items = omega (arith, c.deref-fixed-items.ensures.len, run.days.ok.0) in
    joined_all run c.loop-at.rows.items c.sort_by_key.new.self.items
    (subst (λ k. AreJoined run.days.items run.numbers.items run.late.items k c.loop-at.rows.items) end c.loop-at.invariant)
    c.in_ok-sort_by_key.ensures.permutation
