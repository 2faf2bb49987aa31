use Rattle.std.proofs.Common.{◌∙◌, ◌++◌, List, ℕ, ap, sym}
use Rattle.term_model.specs.Declarations.{declarations}
use Rattle.fixing_files.proofs.PlainFacts.{label_begins}
use Rattle.fixing_files.proofs.RecordFacts.{label_keeps}
use Rattle.fixing_files.proofs.plain_rows.label_of_number.Goals as goal

pub returns : goal.returns
returns c =
    let decls = c.args.decls.now in
    let entry = sym c.in_ok-name.ensures.entry in
    let behind = c.in_ok-behind.behind.now in
    let split = c.in_ok-behind.ensures ∙ ap (λ (name : List ℕ). name ++ behind) c.text.ensures in
    let limits = label_keeps decls.labels.entries c.args.number c.in_ok-name.name.now c.in_ok-name.label.now decls.labels_in entry in
    label_begins (declarations decls) c.args.text.now c.in_ok-name.name.now behind c.in_ok-rest.rest.now c.args.number c.in_ok-name.label.now c.requires entry split c.in_ok-rest.ensures limits
