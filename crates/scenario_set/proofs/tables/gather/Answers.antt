use Rattle.std.proofs.Common.{ℕ, ◌≡◌, ◌∙◌, ◌+◌, ◌++◌, ap, sym, refl, arith, ◌∷◌, [], length, subst}
use Rattle.std.proofs.lemmas.List.{length-append}
use Rattle.csv.specs.Records.{fields_of}
use Rattle.term_model.specs.Declarations.{declarations}
use Rattle.fixing_files.specs.Tables.{table_of}
use Rattle.fixing_files.proofs.ReaderFacts.{last_stands, read_all, read_more}
use Rattle.scenario_set.specs.Collecting.{Collects, Names}
use Rattle.scenario_set.proofs.CollectFacts.{collects_none, next_fault, not_empty, takes_collects, unnamed_fault}
use Rattle.scenario_set.proofs.tables.gather.Goals as goal

pub loop-read-init : goal.loop-read-init
loop-read-init c =
    let none = collects_none (declarations c.args.decls.now) (table_of c.args.bytes.now) c.new-draft.result.watch c.new-draft.ensures.seen in (
      [],
      c.reader_of-reader.ensures,
      refl,
      subst (λ (names : Names). Collects (declarations c.args.decls.now) (table_of c.args.bytes.now) 0 names c.new-draft.result.watch) (sym c.new-draft.ensures.names) none,
    )

pub returns-then-is_empty : goal.returns-then-is_empty
returns-then-is_empty c =
    let inv = c.loop-read.invariant in
    let s = rw c.if-not-found.true at (c.in-Ok.ensures.reads inv.1.untrimmed inv.1.ready) in
    let all = inv.2 ∙ ap length (read_all c.args.bytes.now inv.0 c.loop-read.reader c.read_byte_record.new.self _ inv.1 s) in
    unnamed_fault (declarations c.args.decls.now) (table_of c.args.bytes.now) c.loop-read.read c.loop-read.draft.names.keys c.loop-read.draft.watch inv.3 all (c.is_empty.ensures.0 c.if-is_empty.true)

pub returns-then-not-found : goal.returns-then-not-found
returns-then-not-found c =
    let inv = c.loop-read.invariant in
    let s = rw c.if-not-found.true at (c.in-Ok.ensures.reads inv.1.untrimmed inv.1.ready) in
    let all = inv.2 ∙ ap length (read_all c.args.bytes.now inv.0 c.loop-read.reader c.read_byte_record.new.self _ inv.1 s) in (
      subst (λ (n : ℕ). Collects (declarations c.args.decls.now) (table_of c.args.bytes.now) n c.loop-read.draft.names.keys c.loop-read.draft.watch) all inv.3,
      not_empty (length c.loop-read.draft.names.keys) c.is_empty.result c.is_empty.ensures c.if-is_empty.false,
      omega (arith, inv.3.are_named.few, c.loop-read-test.true),
    )

pub returns-in-Some : goal.returns-in-Some
returns-in-Some c =
    let inv = c.loop-read.invariant in
    let f = fields_of c.read_byte_record.new.row in
    let s = rw c.if-not-found.false at (c.in-Ok.ensures.reads inv.1.untrimmed inv.1.ready) in
    let more = read_more c.args.bytes.now inv.0 c.loop-read.reader c.read_byte_record.new.self f inv.1 s (c.in-Ok.ensures.ready inv.1.untrimmed) in
    let stands = last_stands c.args.bytes.now inv.0 f c.read_byte_record.new.self c.loop-read.read more inv.2 in
    let takes = rw c.in-Some.is at c.in-Ok-take.ensures in
    next_fault (declarations c.args.decls.now) (table_of c.args.bytes.now) c.loop-read.read f stands c.loop-read.draft c.take.new.draft inv.3 c.in-Some.kind takes

pub loop-read-preserved : goal.loop-read-preserved
loop-read-preserved c =
    let inv = c.loop-read.invariant in
    let f = fields_of c.read_byte_record.new.row in
    let s = rw c.if-not-found.false at (c.in-Ok.ensures.reads inv.1.untrimmed inv.1.ready) in
    let more = read_more c.args.bytes.now inv.0 c.loop-read.reader c.read_byte_record.new.self f inv.1 s (c.in-Ok.ensures.ready inv.1.untrimmed) in
    let stands = last_stands c.args.bytes.now inv.0 f c.read_byte_record.new.self c.loop-read.read more inv.2 in
    let takes = rw c.in-None.is at c.in-Ok-take.ensures in
    let row : c.loop-read.read + 1 ≡ length (inv.0 ++ f ∷ []) = omega (arith, inv.2, length-append inv.0 (f ∷ [])) in (
      inv.0 ++ f ∷ [],
      more,
      row,
      takes_collects (declarations c.args.decls.now) (table_of c.args.bytes.now) c.loop-read.read f stands c.loop-read.draft c.take.new.draft inv.3 takes,
    )
