use Rattle.std.proofs.Common.{◌≡◌, ◌+◌, ◌++◌, refl, arith, ◌∷◌, [], length, subst}
use Rattle.std.proofs.lemmas.List.{length-append}
use Rattle.std.proofs.lemmas.Result.{err_from_is_err_and}
use Rattle.csv.specs.Records.{fields_of}
use Rattle.fixing_files.specs.Curves.{rows_of}
use Rattle.fixing_files.specs.CurveTables.{AnswersCurve}
use Rattle.fixing_files.specs.Tables.{Table, table_of}
use Rattle.fixing_files.proofs.CurveTableFacts.{front_kept, next_answers}
use Rattle.fixing_files.proofs.ReachedFacts.{follows_last}
use Rattle.fixing_files.proofs.ReaderFacts.{read_all, read_first, read_more}
use Rattle.fixing_files.proofs.curve_tables.read_curve.Goals as goal

pub loop-read-init : goal.loop-read-init
loop-read-init c = rw (c.new-steps.ensures.items) ([], c.reader_of-reader.ensures, refl, refl)

pub ended-requires : goal.ended-requires
ended-requires c =
    let inv = c.loop-read.invariant in
    record { kept = front_kept inv.0 (rows_of c.loop-read.steps.items) c.loop-read.read inv.2 inv.3 }

pub returns-then-not-found : goal.returns-then-not-found
returns-then-not-found c =
    let inv = c.loop-read.invariant in
    let s = rw c.if-not-found.true at (c.in-Ok.ensures.reads inv.1.untrimmed inv.1.ready) in
    let all = read_all c.args.bytes.now inv.0 c.loop-read.reader c.read_byte_record.new.self _ inv.1 s in
    subst (λ (t : Table). AnswersCurve t c.ended.result) all (c.ended.ensures inv.0 inv.2 inv.3)

pub returns-in_err-take : goal.returns-in_err-take
returns-in_err-take c =
    let inv = c.loop-read.invariant in
    let f = fields_of c.read_byte_record.new.row in
    let s = rw c.if-not-found.false at (c.in-Ok.ensures.reads inv.1.untrimmed inv.1.ready) in
    let more = read_more c.args.bytes.now inv.0 c.loop-read.reader c.read_byte_record.new.self f inv.1 s (c.in-Ok.ensures.ready inv.1.untrimmed) in
    let first = read_first c.args.bytes.now (inv.0 ++ f ∷ []) c.read_byte_record.new.self more in
    let all = follows_last inv.0 f (table_of c.args.bytes.now) first in
    let next : c.loop-read.read + 1 ≡ length inv.0 + 1 = omega (arith, inv.2) in
    let p = err_from_is_err_and c.from_residual.result c.from_residual.ensures.1 in
    let takes = c.in_err-take.ensures in
    rw (p.1, p.2)
    (next_answers (table_of c.args.bytes.now) inv.0 first.rest f (c.loop-read.read + 1) (rows_of c.loop-read.steps.items) (rows_of c.take.new.steps.items) _ all next inv.3 takes)

pub loop-read-preserved : goal.loop-read-preserved
loop-read-preserved c =
    let inv = c.loop-read.invariant in
    let f = fields_of c.read_byte_record.new.row in
    let s = rw c.if-not-found.false at (c.in-Ok.ensures.reads inv.1.untrimmed inv.1.ready) in
    let more = read_more c.args.bytes.now inv.0 c.loop-read.reader c.read_byte_record.new.self f inv.1 s (c.in-Ok.ensures.ready inv.1.untrimmed) in
    let row : c.loop-read.read + 1 ≡ length (inv.0 ++ f ∷ []) = omega (arith, inv.2, length-append inv.0 (f ∷ [])) in
    let next : c.loop-read.read + 1 ≡ length inv.0 + 1 = omega (arith, inv.2) in (
      inv.0 ++ f ∷ [],
      more,
      row,
      c.in_ok-take.ensures inv.0 next inv.3,
    )
