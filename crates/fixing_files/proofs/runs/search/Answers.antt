use Rattle.std.proofs.Common.{rules, w64}
use Rattle.std.proofs.lemmas.Int.{to_z-of_z}
use Rattle.std.proofs.lemmas.List.Sorted.{answers_always}
use Rattle.fixing_files.specs.declared.runs.FixedDay.{FixedDay}
use Rattle.fixing_files.proofs.RunFacts.{searched}
use Rattle.fixing_files.proofs.runs.search.Goals as goal

pub returns : goal.returns
returns c =
    let facts = c.binary_search_by_key.ensures in
    let by_key = facts.position (λ (f : FixedDay). f.day) (answers_always _ _ _ (λ f a r g called. search rules)) in
    let both = searched c.args.run.now c.args.day c.requires c.binary_search_by_key.result facts.bound (rw (to_z-of_z w64 c.args.day c.ranges.day) at by_key) in
    record { found = both.0; absent = both.1 }
