use Rattle.std.proofs.Common.{◌∙◌, ap, arith, sym}
use Rattle.std.specs.List.{list_any}
use Rattle.std.proofs.lemmas.List.{drop_all}
use Rattle.csv.specs.Writing.{default_writer, needs_byte}
use Rattle.fixing_files.proofs.WordFacts.{bare_step}
use Rattle.fixing_files.proofs.words.is_bare.Goals as goal

pub loop-b-preserved : goal.loop-b-preserved
loop-b-preserved c =
    bare_step c.args.word.now c.loop-b.b-index c.loop-b-test.true (sym c.is_mark.ensures ∙ c.if-is_mark.false) ∙ c.loop-b.invariant

pub returns : goal.returns
returns c = λ _. record {
  needs_none = sym c.loop-b.invariant ∙ ap (list_any (needs_byte default_writer)) (drop_all c.loop-b.b-index c.args.word.now (omega arith));
}
