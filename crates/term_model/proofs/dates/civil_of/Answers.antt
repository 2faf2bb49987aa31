use Rattle.std.proofs.Common.{◌∙◌, w64}
use Rattle.std.specs.Prelude.{FitsSigned}
use Rattle.std.proofs.lemmas.Int.{to_z-of_z}
use Rattle.term_model.proofs.DateFacts.{year_from}
use Rattle.term_model.proofs.dates.civil_of.Goals as goal

pub returns-clause-year : goal.returns-clause-year
returns-clause-year c =
    let fits : FitsSigned w64 c.args.day = c.ranges.day in
    let day = c.in-Ok.ensures.value ∙ to_z-of_z w64 c.args.day fits in
    year_from c.in-Ok.date (rw day c.requires.0)
