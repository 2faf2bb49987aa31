-- The rule on sizes asks nothing of the declarations, so a contract meets it under all of them or under none. For any d
-- this is `Meets d Size c`.
use Rattle.std.specs.Prelude.{IsTrue}
use Rattle.term_model.specs.Terms.{Contract}
use Rattle.term_model.specs.Sites.{Once, sites, AllPass}
use Rattle.term_model.specs.Smallness.{is_small}

abbrev pub MeetsSize : Contract → Type 0
MeetsSize c = AllPass (λ s. IsTrue (is_small s)) (sites Once c)
