use Rattle.std.proofs.Common.{◌∙◌, sym}
use Rattle.fixing_files.specs.Steps.{place_of}
use Rattle.fixing_files.proofs.LayerFacts.{held_above, held_below}
use Rattle.fixing_files.proofs.layers.get_over.Goals as goal

pub returns-in-Some : goal.returns-in-Some
returns-in-Some c = sym (held_above c.args.few.now c.args.below.now (place_of c.args.place) c.in-Some.value (sym c.in-Some.ensures))

pub returns-in-None : goal.returns-in-None
returns-in-None c =
    c.get_at.ensures ∙ sym (held_below c.args.few.now c.args.below.now (place_of c.args.place) (sym c.get.ensures ∙ c.in-None.is))
