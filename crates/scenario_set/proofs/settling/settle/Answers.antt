use Rattle.std.proofs.Common.{◌∙◌, ℕ, sym, subst}
use Rattle.scenario_set.specs.Settling.{IsWithin}
use Rattle.scenario_set.proofs.FillFacts.{length_of_names}
use Rattle.scenario_set.proofs.MapFacts.{settles_maps}
use Rattle.scenario_set.proofs.settling.settle.Goals as goal

pub fill-requires-clause-within : goal.fill-requires-clause-within
fill-requires-clause-within c = λ spot f e.
    subst (λ (n : ℕ). IsWithin spot.group n) (sym (length_of_names c.in_ok-each.each.items c.args.draft.names.keys c.in_ok-each.ensures.names_are)) (c.requires.within spot f e)

pub returns : goal.returns
returns c =
    settles_maps c.args.draft.names.keys c.args.draft.watch.first _ c.fill.new.each.items (c.in_ok-fill.ensures.names ∙ c.in_ok-each.ensures.names_are) c.in_ok-fill.ensures.filled
