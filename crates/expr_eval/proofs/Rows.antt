-- Entries of a fixed and of a lacking name, and what they stand for.
use Rattle.std.proofs.Common.{pos, false, [], ◌∷◌, refl}
use Rattle.term_model.specs.declared.values.Kind.TheVariants.{Truth as TruthKind, Number}
use Rattle.term_model.specs.declared.values.Value.TheVariants.{Num as Amount, Truth}
use Rattle.expr_eval.specs.declared.scratch.Held.TheVariants.{Known, Lacking}
use Rattle.expr_eval.specs.Standing.{StandFor}

-- let x = obs(0, 0) in let y = obs(1, 0) in .. on day 3, where label 0 is fixed at 1.5000 on that day and label 1 is not
fixed_and_lacking : StandFor ((record { label = 0; day = pos 3 }, Amount (pos 15_000)) ∷ []) (record { kind = TruthKind; held = Lacking (record { label = 1; day = pos 3 }) } ∷ record { kind = Number 4; held = Known (Amount (pos 15_000)) } ∷ []) (record { value = Truth false; kind = TruthKind } ∷ record { value = Amount (pos 15_000); kind = Number 4 } ∷ []) ((record { label = 1; day = pos 3 } ∷ []) ∷ (record { label = 0; day = pos 3 } ∷ []) ∷ [])
fixed_and_lacking = (refl, refl, (refl, (refl, refl), tt))
