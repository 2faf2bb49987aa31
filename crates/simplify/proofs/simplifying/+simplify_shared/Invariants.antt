use Rattle.term_core.specs.SharedTerms.{shared}
use Rattle.rewriting.specs.Measures.{size_in}
use Rattle.simplify.proofs.simplifying.+simplify_shared.Given as goal

abbrev pub decreases-simplify_shared : goal.decreases-simplify_shared
decreases-simplify_shared l = size_in (shared l.s.now.value)
