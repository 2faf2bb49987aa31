use Rattle.std.proofs.Common.{◌≡◌, ◌+◌}
use Rattle.contract_parse.specs.Lines.{column_at, line_at}
use Rattle.contract_parse.proofs.cursor.moved.Given as goal

abbrev pub invariant-loop-b : goal.invariant-loop-b
invariant-loop-b l = record {
  line : l.line ≡ line_at l.bytes (l.fn.cursor.at + l.b-index);
  column : l.column ≡ column_at l.bytes (l.fn.cursor.at + l.b-index);
}
