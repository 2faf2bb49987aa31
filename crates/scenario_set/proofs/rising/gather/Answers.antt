use Rattle.std.proofs.Common.{ℕ, ◌≡◌, ◌∙◌, ◌+◌, ◌++◌, ap, refl, arith, ◌∷◌, [], length, subst}
use Rattle.std.proofs.lemmas.List.{length-append}
use Rattle.csv.specs.Records.{fields_of}
use Rattle.term_model.specs.Declarations.{declarations}
use Rattle.fixing_files.specs.Tables.{table_of}
use Rattle.fixing_files.proofs.ReaderFacts.{last_stands, read_all, read_more}
use Rattle.scenario_set.specs.Rising.{Rises}
use Rattle.scenario_set.proofs.CollectFacts.{not_empty}
use Rattle.scenario_set.proofs.RisingFacts.{rises_none, takes_rises}
use Rattle.scenario_set.proofs.rising.gather.Goals as goal

pub loop-read-init : goal.loop-read-init
loop-read-init c = (
  [],
  c.reader_of-reader.ensures,
  refl,
  rises_none (declarations c.args.decls.now) (table_of c.args.bytes.now) c.new-rising.result c.new-rising.ensures.names c.new-rising.ensures.each c.new-rising.ensures.common,
)

pub returns-then-not-found : goal.returns-then-not-found
returns-then-not-found c =
    let inv = c.loop-read.invariant in
    let s = rw c.if-not-found.true at (c.in-Ok.ensures.reads inv.1.untrimmed inv.1.ready) in
    let all = inv.2 ∙ ap length (read_all c.args.bytes.now inv.0 c.loop-read.reader c.read_byte_record.new.self _ inv.1 s) in
    record {
      rises = subst (λ (n : ℕ). Rises (declarations c.args.decls.now) (table_of c.args.bytes.now) n c.loop-read.rising) all inv.3;
      some = not_empty (length c.loop-read.rising.names.keys) c.is_empty.result c.is_empty.ensures c.if-is_empty.false;
      few = omega (arith, inv.3.are_named.few, c.loop-read-test.true);
    }

pub take-requires-clause-long : goal.take-requires-clause-long
take-requires-clause-long c = c.loop-read.invariant.3.long

pub loop-read-preserved : goal.loop-read-preserved
loop-read-preserved c =
    let inv = c.loop-read.invariant in
    let f = fields_of c.read_byte_record.new.row in
    let s = rw c.if-not-found.false at (c.in-Ok.ensures.reads inv.1.untrimmed inv.1.ready) in
    let more = read_more c.args.bytes.now inv.0 c.loop-read.reader c.read_byte_record.new.self f inv.1 s (c.in-Ok.ensures.ready inv.1.untrimmed) in
    let stands = last_stands c.args.bytes.now inv.0 f c.read_byte_record.new.self c.loop-read.read more inv.2 in
    let takes = rw c.if-not-rises.false at c.in_ok-rises.ensures in
    let row : c.loop-read.read + 1 ≡ length (inv.0 ++ f ∷ []) = omega (arith, inv.2, length-append inv.0 (f ∷ [])) in (
      inv.0 ++ f ∷ [],
      more,
      row,
      takes_rises (declarations c.args.decls.now) (table_of c.args.bytes.now) c.loop-read.read f stands c.loop-read.rising c.take.new.self inv.3 takes,
    )
