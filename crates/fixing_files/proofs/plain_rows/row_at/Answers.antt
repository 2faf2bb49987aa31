use Rattle.std.proofs.Common.{FitsSigned, rules, w64}
use Rattle.std.proofs.lemmas.Int.{to_z-of_z}
use Rattle.term_model.specs.Declarations.{declarations}
use Rattle.fixing_files.proofs.PlainFacts.{row_begins}
use Rattle.fixing_files.proofs.plain_rows.row_at.Goals as goal

pub returns : goal.returns
returns c =
    let day = c.in_ok-day.day in
    let fits : FitsSigned w64 day = search rules in
    rw (to_z-of_z w64 day fits)
    (row_begins (declarations c.args.decls.now) c.args.text.now c.in_ok-label.rest.now c.in_ok-day.rest.now c.in_ok-value.rest.now c.in_ok-label.label c.in_ok-day.day c.in_ok-value.value c.in_ok-label.declared c.in_ok-label.ensures c.in_ok-day.ensures c.in_ok-value.ensures)
