use Rattle.report.proofs.check_lines.check_line.Goals as goal

pub append-requires : goal.append-requires
append-requires c = (tt, (tt, (c.start_piece.ensures.writable, (tt, (c.whole.ensures.writable, (tt, (c.total_piece.ensures.writable, (tt, (c.whole-in-Ok.ensures.writable, (tt, tt))))))))))

pub append-requires-in-Err : goal.append-requires-in-Err
append-requires-in-Err c = (tt, (tt, (tt, (tt, (c.whole-in-Err.ensures.writable, (tt, tt))))))

pub returns-in-Ok-clause-ok : goal.returns-in-Ok-clause-ok
returns-in-Ok-clause-ok c =
    let h = rw c.whole.ensures.text at (rw c.whole-in-Ok.ensures.text at (rw c.start_piece.ensures.text at (rw c.total_piece.ensures.text at c.append.ensures.ok))) in
    rw c.in-Ok.is h

pub returns-in-Ok-clause-err : goal.returns-in-Ok-clause-err
returns-in-Ok-clause-err c =
    let h = rw c.whole.ensures.text at (rw c.whole-in-Ok.ensures.text at (rw c.start_piece.ensures.text at (rw c.total_piece.ensures.text at c.append.ensures.err))) in
    rw c.in-Ok.is h
