use Rattle.std.proofs.Common.{◌≡◌, ◌+◌, ◌∙◌, ap, arith}
use Rattle.contract_parse.specs.Cursors.{Position}
use Rattle.contract_parse.proofs.LinePositions.{behind_feed, behind_other, column_small}
use Rattle.contract_parse.proofs.cursor.moved.Goals as goal
use Rattle.contract_parse.proofs.cursor.moved.Goals.{then-b-eq10, else-b-eq10}

pub overflow_add-column : goal.overflow_add-column
overflow_add-column c =
    let here : c.cursor.inside.at ≡ c.args.cursor.at = ap (λ (p : Position). p.at) c.cursor.view_is in
    omega (arith, c.loop-b.invariant.column, column_small c.args.bytes.now (c.args.cursor.at + c.loop-b.b-index), c.loop-b-test.true, here, c.requires.small)

pub loop-b-preserved : goal.loop-b-preserved
loop-b-preserved c =
    let here : c.cursor.inside.at ≡ c.args.cursor.at = ap (λ (p : Position). p.at) c.cursor.view_is in
    elim c.if-b-eq10.branch [
      | then-b-eq10 w ↦
          let next = behind_feed c.args.bytes.now c.cursor.inside.at c.args.cursor.at c.args.to c.loop-b.b-index here c.loop-b-test.true w.if-b-eq10.true in
          record { line = w.line-is ∙ ap (λ n. n + 1) c.loop-b.invariant.line ∙ next.line; column = w.column-is ∙ next.column }
      | else-b-eq10 w ↦
          let next = behind_other c.args.bytes.now c.cursor.inside.at c.args.cursor.at c.args.to c.loop-b.b-index here c.loop-b-test.true w.if-b-eq10.false in
          record { line = w.line-is ∙ c.loop-b.invariant.line ∙ next.line; column = w.column-is ∙ ap (λ n. n + 1) c.loop-b.invariant.column ∙ next.column }
    ]
