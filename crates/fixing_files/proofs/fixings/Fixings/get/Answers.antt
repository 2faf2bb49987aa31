use Rattle.std.proofs.Common.{◌∙◌, w64}
use Rattle.std.proofs.lemmas.Int.{to_z-of_z}
use Rattle.fixing_files.proofs.RunFacts.{lent_value}
use Rattle.fixing_files.proofs.fixings.Fixings.get.Goals as goal

pub returns : goal.returns
returns c =
    rw (to_z-of_z w64 c.args.day c.ranges.day) at c.value_on.ensures
    ∙ lent_value c.args.self.now c.args.label c.days_of.result.now c.args.day c.days_of.ensures.rising c.days_of.ensures.days
