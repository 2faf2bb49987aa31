-- The rule on scales: every scale is at most 27, `widen` goes to no lower scale, an accumulator's body has at most the
-- scale of its start, and every contract has at most the decimals of the portfolio's amounts, and in each asset that it
-- pays at most those of the asset. That declared scales are
-- at most 18 and the amounts' decimals at most 12 is kept by the declarations themselves.
use Rattle.std.specs.Prelude.{ℕ, ◌∷◌, ◌&&◌, Bool, true, nat_le}
use Rattle.term_model.specs.Declarations.{Declarations}
use Rattle.term_model.specs.Terms.{Expression, Widen, Acc}
use Rattle.term_model.specs.Kinds.{kind_of, scale_of}
use Rattle.term_model.specs.Values.{kind_or}
use Rattle.term_model.specs.Flows.{scale_of_contract}
use Rattle.term_model.specs.AssetScales.{assets_are_scaled}
use Rattle.term_model.specs.Sites.{Site, Part, OfExpression, OfContract, kinds_round}

abbrev pub greatest_scale : ℕ
greatest_scale = 27

-- what an operator asks of the scales of its parts
abbrev pub parts_are_scaled : Declarations → Site → Expression → Bool
parts_are_scaled d s (Widen to e) = nat_le (scale_of d e (kinds_round d s.layers)) to
parts_are_scaled d s (Acc body n first) =
    let ks = kinds_round d s.layers in
    nat_le (scale_of d body (kind_or (kind_of d first ks) ∷ ks)) (scale_of d first ks)
parts_are_scaled d s _ = true

abbrev pub part_is_scaled : Declarations → Site → Part → Bool
part_is_scaled d s (OfExpression e) = nat_le (scale_of d e (kinds_round d s.layers)) greatest_scale && parts_are_scaled d s e
part_is_scaled d s (OfContract c) =
    let ks = kinds_round d s.layers in
    nat_le (scale_of_contract d c ks) d.amounts && assets_are_scaled d c ks

abbrev pub is_scaled : Declarations → Site → Bool
is_scaled d s = part_is_scaled d s s.part
