use Rattle.std.proofs.Common.{◌∙◌, arith, sym}
use Rattle.csv.proofs.ReadFacts.{strip-short}
use Rattle.fixing_files.proofs.FrontFacts.{mark_behind, mark_missing}
use Rattle.fixing_files.proofs.fronts.unmarked.Goals as goal

pub returns-then-text-lt3 : goal.returns-then-text-lt3
returns-then-text-lt3 c = sym (strip-short c.args.text.now (omega arith))

pub returns-then-is_bom : goal.returns-then-is_bom
returns-then-is_bom c = mark_behind c.args.text.now (omega arith) (sym c.is_bom.ensures ∙ c.if-is_bom.true)

pub returns : goal.returns
returns c = mark_missing c.args.text.now (sym c.is_bom.ensures ∙ c.if-is_bom.false)
