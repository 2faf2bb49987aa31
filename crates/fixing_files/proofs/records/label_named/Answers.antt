use Rattle.fixing_files.proofs.RecordFacts.{label_keeps}
use Rattle.fixing_files.proofs.records.label_named.Goals as goal

pub returns-in-Some-clause-limits : goal.returns-in-Some-clause-limits
returns-in-Some-clause-limits c =
    label_keeps c.args.decls.now.labels.entries _ _ c.in-Some.label.now c.args.decls.now.labels_in c.in-Some.ensures.entry
