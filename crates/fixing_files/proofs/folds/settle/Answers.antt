use Rattle.std.proofs.Common.{◌≡◌, []}
use Rattle.fixing_files.proofs.SettleFacts.{no_late, own_moves, risen_agree, risen_holds, settles_rows}
use Rattle.std.specs.Prelude.{Contains}
use Rattle.fixing_files.specs.Rows.{HasRow}
use Rattle.fixing_files.proofs.folds.settle.Goals as goal

pub returns-then-is_empty : goal.returns-then-is_empty
returns-then-is_empty c =
    let run = c.args.run in
    let none : run.late.items ≡ [] = no_late run c.is_empty.result c.is_empty.ensures c.if-is_empty.true in
    (risen_holds run.days.items run.numbers.items run.late.items c.requires.run.rising none, risen_agree run.days.items run.numbers.items run.late.items c.requires.run.rising none)

pub folded-requires-clause-order : goal.folded-requires-clause-order
folded-requires-clause-order c = rw c.deref.ensures.value c.in_ok-rows.ensures.order

pub folded-requires-clause-numbers : goal.folded-requires-clause-numbers
folded-requires-clause-numbers c =
    rw c.deref.ensures.value (own_moves (HasRow c.args.run) (Contains c.in_ok-rows.rows.items) (λ x i. (c.in_ok-rows.ensures.rows x).0 i) c.requires.numbers)

pub returns : goal.returns
returns c =
    settles_rows c.args.run c.in_ok-rows.rows.items c.in_ok-rows.ensures.rows c.folded.result (rw c.deref.ensures.value at c.folded.ensures)
