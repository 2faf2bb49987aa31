use Rattle.std.proofs.Common.{List, ◌≡◌, ◌∙◌, ◌+◌, ◌++◌, ap, sym, refl, arith, Some, ◌∷◌, [], length, subst, ℕ}
use Rattle.std.proofs.lemmas.List.{length-append}
use Rattle.csv.specs.Records.{fields_of}
use Rattle.term_model.specs.Declarations.{declarations}
use Rattle.fixing_files.specs.Gathering.{Gathers}
use Rattle.fixing_files.specs.Tables.{record_at, table_of}
use Rattle.fixing_files.specs.declared.faults.RowFault.{RowFault}
use Rattle.fixing_files.specs.declared.rows.Run.{Run}
use Rattle.fixing_files.proofs.FrontFacts.{all_read, next_stands, reads_none}
use Rattle.fixing_files.proofs.GatherFacts.{collects_more, ends_there, stops_gather}
use Rattle.fixing_files.proofs.ReaderFacts.{last_stands, read_all, read_more}
use Rattle.fixing_files.proofs.tables.gather.Goals as goal

pub loop-read-init : goal.loop-read-init
loop-read-init c =
    let front = c.in_ok-records.field-0 in
    reads_none (declarations c.args.decls.now) (table_of c.args.bytes.now) c.reader_of-reader.result front.records front.runs.items front.rest.now c.in_ok-records.ensures c.reader_of-reader.ensures

pub returns-then-not-found : goal.returns-then-not-found
returns-then-not-found c =
    let inv = c.loop-read.invariant in
    let d = declarations c.args.decls.now in
    let table = table_of c.args.bytes.now in
    let s = rw c.if-not-found.true at (c.in-Ok.ensures.reads inv.has_read.untrimmed inv.has_read.ready) in
    let all : length inv.behind ≡ length (table_of inv.rest) = ap length (read_all inv.rest inv.behind c.loop-read.reader c.read_byte_record.new.self _ inv.has_read s) in
    let whole = inv.counted ∙ all_read d table (table_of inv.rest) inv.records (length inv.behind) inv.first inv.front all in
    rw c.missing-fault.ensures (ends_there d table c.loop-read.runs.items c.loop-read.read whole inv.are_runs inv.collects)

pub returns-in-Some : goal.returns-in-Some
returns-in-Some c =
    let inv = c.loop-read.invariant in
    let d = declarations c.args.decls.now in
    let table = table_of c.args.bytes.now in
    let f = fields_of c.read_byte_record.new.row in
    let s = rw c.if-not-found.false at (c.in-Ok.ensures.reads inv.has_read.untrimmed inv.has_read.ready) in
    let more = read_more inv.rest inv.behind c.loop-read.reader c.read_byte_record.new.self f inv.has_read s (c.in-Ok.ensures.ready inv.has_read.untrimmed) in
    let here = last_stands inv.rest inv.behind f c.read_byte_record.new.self (length inv.behind) more refl in
    let stands : record_at table (c.loop-read.read + 1) ≡ Some f =
    ap (λ (k : ℕ). record_at table (k + 1)) inv.counted ∙ next_stands d table (table_of inv.rest) inv.records (length inv.behind) inv.first f inv.front here in
    let takes = rw c.in-Some.is at c.in_ok-broken.ensures in
    let fault : RowFault = record { row = c.loop-read.read + 1; kind = c.in-Some.kind } in
    subst (λ (runs : List Run). Gathers d table runs (Some fault)) (sym takes.0) (stops_gather d table c.loop-read.runs.items c.loop-read.read f c.in-Some.kind stands takes.1 inv.are_runs inv.collects)

pub loop-read-preserved : goal.loop-read-preserved
loop-read-preserved c =
    let inv = c.loop-read.invariant in
    let d = declarations c.args.decls.now in
    let table = table_of c.args.bytes.now in
    let f = fields_of c.read_byte_record.new.row in
    let s = rw c.if-not-found.false at (c.in-Ok.ensures.reads inv.has_read.untrimmed inv.has_read.ready) in
    let more = read_more inv.rest inv.behind c.loop-read.reader c.read_byte_record.new.self f inv.has_read s (c.in-Ok.ensures.ready inv.has_read.untrimmed) in
    let here = last_stands inv.rest inv.behind f c.read_byte_record.new.self (length inv.behind) more refl in
    let stands : record_at table (c.loop-read.read + 1) ≡ Some f =
    ap (λ (k : ℕ). record_at table (k + 1)) inv.counted ∙ next_stands d table (table_of inv.rest) inv.records (length inv.behind) inv.first f inv.front here in
    let takes = rw c.in-None.is at c.in_ok-broken.ensures in
    let counted : c.loop-read.read + 1 ≡ inv.records + length (inv.behind ++ f ∷ []) = omega (arith, inv.counted, length-append inv.behind (f ∷ [])) in
    record {
      records = inv.records;
      first = inv.first;
      rest = inv.rest;
      behind = inv.behind ++ f ∷ [];
      front = inv.front;
      has_read = more;
      counted = counted;
      are_runs = takes.0;
      collects = collects_more d table c.loop-read.read f stands c.loop-read.runs.items c.take.new.runs.items inv.collects takes.1;
    }
