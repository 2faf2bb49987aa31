use Rattle.std.proofs.lemmas.Option.{IfSome_then}
use Rattle.fixing_files.proofs.words.behind_line.Goals as goal

pub returns : goal.returns
returns c =
    IfSome_then c.behind_end.result c.behind_end.ensures (λ rest e. record { after = c.in_ok-behind.behind.now; split = c.in_ok-behind.ensures; ends = e })
