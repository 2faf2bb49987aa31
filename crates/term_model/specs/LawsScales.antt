-- The laws of scales in assets: what an accepted contract pays in an asset is a whole number at the asset's decimals; a
-- part that has no greater scale, as a whole and in each asset, keeps the rule on scales; and what is accepted is
-- accepted where each asset has the decimals of the amounts.
use Rattle.std.specs.Prelude.{ℕ, ℤ, ◌≡◌, ◌≤◌, ◌-◌, ◌∷◌, List, true}
use Rattle.decimal.specs.Rounding.{raised}
use Rattle.term_model.specs.Declarations.{Declarations, decimals_of, at_one_scale}
use Rattle.term_model.specs.declared.values.Kind.{Kind}
use Rattle.term_model.specs.Terms.{Contract, Expression, Both, Scale, Let, Within}
use Rattle.term_model.specs.DayCounts.{Days}
use Rattle.term_model.specs.Environments.{Environment}
use Rattle.term_model.specs.Kinds.{kind_of, scale_of}
use Rattle.term_model.specs.Values.{kind_or}
use Rattle.term_model.specs.Flows.{Flow, scale_of_contract, amount_of}
use Rattle.term_model.specs.Sites.{Site, OfContract, kinds_round}
use Rattle.term_model.specs.Scales.{part_is_scaled}
use Rattle.term_model.specs.AssetScales.{HasNoGreaterScales, assets_are_scaled, payments_fit}
use Rattle.term_model.specs.Acceptance.{IsAccepted}

-- a multiple of a power of ten
abbrev pub IsMultiple : ℤ → ℕ → Type 0
IsMultiple x k = (m : ℤ) × (x ≡ raised m k)

-- what is paid in an asset, in units of the amounts, is a whole number at the asset's decimals
abbrev pub AmountsAreMultiples : Type 0
AmountsAreMultiples =
    (d : Declarations) (c : Contract) (env : Environment) (f n : ℤ) (w : Flow)
    → IsAccepted d c → IsMultiple (amount_of d c env f n w) (d.amounts - decimals_of d w.asset)

-- the test on assets, by the walk over payments
abbrev pub AssetsAreScaledByPayments : Type 0
AssetsAreScaledByPayments = (d : Declarations) (c : Contract) (ks : List Kind) → assets_are_scaled d c ks ≡ payments_fit d c ks 0

-- A contract that has no greater scales than another keeps the rule at its node, in both halves, and the test on assets
-- among whatever names; and wholes with such parts have no greater scales.
pub record ScalesAreKept : Type 0 where
  pub node : (d : Declarations) (s : Site) (y x : Contract)
      → scale_of_contract d y (kinds_round d s.layers) ≤ scale_of_contract d x (kinds_round d s.layers)
      → HasNoGreaterScales d (kinds_round d s.layers) y x
      → part_is_scaled d s (OfContract x) ≡ true → part_is_scaled d s (OfContract y) ≡ true
  pub test : (d : Declarations) (y x : Contract) (ks : List Kind)
      → HasNoGreaterScales d ks y x → assets_are_scaled d x ks ≡ true → assets_are_scaled d y ks ≡ true
  pub both : (d : Declarations) (ks : List Kind) (y x v u : Contract)
      → HasNoGreaterScales d ks y x → HasNoGreaterScales d ks v u → HasNoGreaterScales d ks (Both y v) (Both x u)
  pub scale : (d : Declarations) (ks : List Kind) (i e : Expression) (y x : Contract)
      → scale_of d i ks ≤ scale_of d e ks → HasNoGreaterScales d ks y x → HasNoGreaterScales d ks (Scale i y) (Scale e x)
  pub let_ : (d : Declarations) (ks : List Kind) (i e : Expression) (y x : Contract)
      → kind_of d i ks ≡ kind_of d e ks → HasNoGreaterScales d (kind_or (kind_of d e ks) ∷ ks) y x
      → HasNoGreaterScales d ks (Let i y) (Let e x)
  pub within : (d : Declarations) (ks : List Kind) (i e : Expression) (n m : Days) (y x v u : Contract)
      → HasNoGreaterScales d ks y x → HasNoGreaterScales d ks v u → HasNoGreaterScales d ks (Within i n y v) (Within e m x u)

-- where each asset has the decimals of the amounts, the scale of the whole decides
abbrev pub OneScaleDecides : Type 0
OneScaleDecides =
    (d : Declarations) (c : Contract) (ks : List Kind)
    → ((a : ℕ) → decimals_of d a ≡ d.amounts) → scale_of_contract d c ks ≤ d.amounts → assets_are_scaled d c ks ≡ true

-- what is accepted is accepted where each asset has the decimals of the amounts
abbrev pub AcceptedAtOneScale : Type 0
AcceptedAtOneScale = (d : Declarations) (c : Contract) → IsAccepted d c → IsAccepted (at_one_scale d) c
