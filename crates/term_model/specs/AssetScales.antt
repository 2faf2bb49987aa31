-- The scale of a contract in one asset: the greatest number of decimals with which it pays the asset. What it pays in an
-- asset has at most the asset's decimals.
use Rattle.std.specs.Prelude.{ℕ, ◌+◌, ◌≤◌, ◌==◌, max, nat_le, Bool, true, ◌&&◌, if◌then◌else◌, List, [], ◌∷◌, ◌++◌, Option, Some, None, option_map}
use Rattle.std.specs.List.{list_all}
use Rattle.term_model.specs.Declarations.{Declarations, decimals_of}
use Rattle.term_model.specs.declared.values.Kind.{Kind}
use Rattle.term_model.specs.Terms.{Contract, Zero, Pay, Both, Scale, After, Let, Within}
use Rattle.term_model.specs.Kinds.{kind_of, scale_of}
use Rattle.term_model.specs.Values.{kind_or}

-- the greater of two, where none is less than every number
abbrev pub greater : Option ℕ → Option ℕ → Option ℕ
greater None s = s
greater (Some s) None = Some s
greater (Some s) (Some t) = Some (max s t)

-- the scale in one asset, or none where nothing of it is paid
abbrev pub scale_in_asset : Declarations → Contract → List Kind → ℕ → Option ℕ
scale_in_asset d Zero ks a = None
scale_in_asset d (Pay b p q) ks a = if b == a then Some 0 else None
scale_in_asset d (Both x y) ks a = greater (scale_in_asset d x ks a) (scale_in_asset d y ks a)
scale_in_asset d (Scale e c) ks a = option_map (λ s. scale_of d e ks + s) (scale_in_asset d c ks a)
scale_in_asset d (After n c) ks a = scale_in_asset d c ks a
scale_in_asset d (Let e c) ks a = scale_in_asset d c (kind_or (kind_of d e ks) ∷ ks) a
scale_in_asset d (Within e n x y) ks a = greater (scale_in_asset d x ks a) (scale_in_asset d y ks a)

-- the assets that a contract pays, as they stand in it
abbrev pub assets_in : Contract → List ℕ
assets_in Zero = []
assets_in (Pay a p q) = a ∷ []
assets_in (Both x y) = assets_in x ++ assets_in y
assets_in (Scale e c) = assets_in c
assets_in (After n c) = assets_in c
assets_in (Let e c) = assets_in c
assets_in (Within e n x y) = assets_in x ++ assets_in y

-- a scale in an asset is at most the asset's decimals
abbrev pub fits_asset : Option ℕ → ℕ → Bool
fits_asset None decimals = true
fits_asset (Some s) decimals = nat_le s decimals

-- what the rule on scales asks of a contract for its assets
abbrev pub assets_are_scaled : Declarations → Contract → List Kind → Bool
assets_are_scaled d c ks = list_all (λ a. fits_asset (scale_in_asset d c ks a) (decimals_of d a)) (assets_in c)

-- the same by one walk: under factors that have s decimals together, each payment fits the decimals of its asset
abbrev pub payments_fit : Declarations → Contract → List Kind → ℕ → Bool
payments_fit d Zero ks s = true
payments_fit d (Pay a p q) ks s = nat_le s (decimals_of d a)
payments_fit d (Both x y) ks s = payments_fit d x ks s && payments_fit d y ks s
payments_fit d (Scale e c) ks s = payments_fit d c ks (s + scale_of d e ks)
payments_fit d (After n c) ks s = payments_fit d c ks s
payments_fit d (Let e c) ks s = payments_fit d c (kind_or (kind_of d e ks) ∷ ks) s
payments_fit d (Within e n x y) ks s = payments_fit d x ks s && payments_fit d y ks s

-- one scale in an asset is no greater than another
abbrev pub NoGreater : Option ℕ → Option ℕ → Type 0
NoGreater None t = Unit {0}
NoGreater (Some s) None = ⊥
NoGreater (Some s) (Some t) = s ≤ t

-- in each asset a contract has no greater scale than another
abbrev pub HasNoGreaterScales : Declarations → List Kind → Contract → Contract → Type 0
HasNoGreaterScales d ks y x = (a : ℕ) → NoGreater (scale_in_asset d y ks a) (scale_in_asset d x ks a)
