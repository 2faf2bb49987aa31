use Rattle.fixing_files.proofs.NameFacts.{AreBare}
use Rattle.fixing_files.proofs.fronts.names_are_bare.Given as goal

abbrev pub invariant-loop-number : goal.invariant-loop-number
invariant-loop-number l = AreBare l.decls.labels.entries l.number
