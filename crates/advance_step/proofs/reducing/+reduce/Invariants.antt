use Rattle.term_core.specs.SharedTerms.{shared}
use Rattle.rewriting.specs.Measures.{size_in}
use Rattle.advance_step.proofs.reducing.+reduce.Given as goal

abbrev pub decreases-reduce : goal.decreases-reduce
decreases-reduce l = size_in (shared l.s.now.value)
