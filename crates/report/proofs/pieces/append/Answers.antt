use Rattle.std.proofs.Common.{◌<◌, arith, length}
use Rattle.decimal.proofs.AppendingFacts.{on_err}
use Rattle.report.specs.Pieces.{piece_text}
use Rattle.report.proofs.PieceFacts.{each_writable, stopped_in}
use Rattle.report.proofs.pieces.append.Goals as goal

pub append_piece-requires : goal.append_piece-requires
append_piece-requires c =
    let within : c.loop-piece.piece-index < length c.args.pieces.now = omega arith in
    each_writable c.args.pieces.now c.loop-piece.piece-index _ within c.requires

pub returns-in_err-append_piece-clause-err : goal.returns-in_err-append_piece-clause-err
returns-in_err-append_piece-clause-err c =
    let within : c.loop-piece.piece-index < length c.args.pieces.now = omega arith in
    on_err c.from_residual.result (stopped_in piece_text c.args.pieces.now c.loop-piece.piece-index _ c.args.out.now.items c.loop-piece.out.items c.append_piece.new.out.items within c.loop-piece.invariant c.in_err-append_piece.ensures.err)
