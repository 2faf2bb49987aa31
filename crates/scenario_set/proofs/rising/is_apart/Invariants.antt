use Rattle.std.proofs.Common.{◌≡◌, None, take}
use Rattle.std.specs.Prelude.{All}
use Rattle.term_model.specs.Environments.{held}
use Rattle.scenario_set.specs.Rising.{place_at}
use Rattle.scenario_set.proofs.rising.is_apart.Given as goal

abbrev pub invariant-loop-row : goal.invariant-loop-row
invariant-loop-row l = All (λ r. held l.fixings (place_at r) ≡ None) (take l.row-index l.rows)
