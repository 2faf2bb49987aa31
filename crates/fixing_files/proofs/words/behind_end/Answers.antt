use Rattle.std.proofs.Common.{◌∙◌, sym}
use Rattle.std.proofs.lemmas.Option.{IfSome_then}
use Rattle.fixing_files.proofs.PlainFacts.{ends_at_once, ends_by_both, ends_by_feed}
use Rattle.fixing_files.proofs.words.behind_end.Goals as goal

pub returns-then-is_empty : goal.returns-then-is_empty
returns-then-is_empty c = ends_at_once c.args.text.now (sym c.is_empty.ensures ∙ c.if-is_empty.true)

pub returns-in-Some : goal.returns-in-Some
returns-in-Some c =
    IfSome_then c.behind_byte-in-Some.result c.behind_byte-in-Some.ensures (λ rest e. ends_by_both c.args.text.now c.in-Some.line.now rest.now c.in-Some.ensures e)

pub returns-in-None : goal.returns-in-None
returns-in-None c = IfSome_then c.behind_byte-in-None.result c.behind_byte-in-None.ensures (λ rest e. ends_by_feed c.args.text.now rest.now e)
