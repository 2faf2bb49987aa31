use Rattle.std.proofs.Common.{sym, subst}
use Rattle.csv.specs.Records.{fields_of}
use Rattle.term_model.specs.Declarations.{declarations}
use Rattle.fixing_files.specs.Records.{Fields, said}
use Rattle.fixing_files.specs.Steps.{Tells}
use Rattle.fixing_files.proofs.RecordFacts.{three_listed}
use Rattle.fixing_files.proofs.records.entry_of.Goals as goal

pub returns : goal.returns
returns c =
    let listed = three_listed (fields_of c.args.record.now) c.in-Some.name.now c.in-Some.day.now c.in-Some.value.now c.in-Some.ensures in
    subst (λ (fs : Fields). Tells (said (declarations c.args.decls.now) fs) c.entry_at.result) (sym listed) c.entry_at.ensures
