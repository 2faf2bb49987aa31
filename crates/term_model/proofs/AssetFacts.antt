-- Scales in assets: the test on assets by the walk over payments, and what keeps it.
use Rattle.std.proofs.Common.{◌≡◌, ℕ, zero, suc, zero-add, ◌+◌, ◌≤◌, ◌⊎◌, ◌==◌, max, nat_le, Bool, true, false, if◌then◌else◌, List, [], ◌∷◌, Option, Some, None, inl, inr, refl, ap, sym, subst, ◌∙◌, leb-true, le-leb, arith}
use Rattle.std.specs.Prelude.{option_map, slice_get, map}
use Rattle.std.specs.List.{list_all}
use Rattle.std.proofs.lemmas.Bool.{cases_Bool, and_parts, and_from}
use Rattle.std.proofs.lemmas.Bool.Decides.{nat_tests}
use Rattle.std.proofs.lemmas.List.Folds.{list_all-append}
use Rattle.term_model.specs.Declarations.{Declarations, decimals_of, decimals_or, at_one_scale}
use Rattle.term_model.specs.declared.name.Name.{Name}
use Rattle.term_model.specs.declared.values.Kind.{Kind}
use Rattle.term_model.specs.Terms.{Expression, Contract, Zero, Pay, Both, Scale, After, Let, Within}
use Rattle.term_model.specs.Kinds.{kind_of, scale_of}
use Rattle.term_model.specs.Values.{kind_or}
use Rattle.term_model.specs.Flows.{scale_of_contract}
use Rattle.term_model.specs.AssetScales.{greater, scale_in_asset, assets_in, fits_asset, assets_are_scaled, payments_fit, NoGreater, HasNoGreaterScales}
use Rattle.term_model.specs.Sites.{Site, OfContract, kinds_round}
use Rattle.term_model.specs.Scales.{part_is_scaled}
use Rattle.term_model.specs.LawsScales.{AssetsAreScaledByPayments, ScalesAreKept, OneScaleDecides}

-- ---- scales in one asset

-- under factors of s decimals together
abbrev under : ℕ → Option ℕ → Option ℕ
under s o = option_map (λ t. s + t) o

both_fit : (o u : Option ℕ) (s k : ℕ) → fits_asset (under s o) k ≡ true → fits_asset (under s u) k ≡ true → fits_asset (under s (greater o u)) k ≡ true
both_fit None u s k h g = g
both_fit (Some i) None s k h g = h
both_fit (Some i) (Some j) s k h g =
    let a = leb-true (s + i) k h in
    let b = leb-true (s + j) k g in
    le-leb (s + max i j) k (omega (arith, a, b))

left_fits : (o u : Option ℕ) (s k : ℕ) → fits_asset (under s (greater o u)) k ≡ true → fits_asset (under s o) k ≡ true
left_fits None u s k h = refl
left_fits (Some i) None s k h = h
left_fits (Some i) (Some j) s k h = let a = leb-true (s + max i j) k h in le-leb (s + i) k (omega (arith, a))

right_fits : (o u : Option ℕ) (s k : ℕ) → fits_asset (under s (greater o u)) k ≡ true → fits_asset (under s u) k ≡ true
right_fits None u s k h = h
right_fits (Some i) None s k h = refl
right_fits (Some i) (Some j) s k h = let a = leb-true (s + max i j) k h in le-leb (s + j) k (omega (arith, a))

regrouped : (o : Option ℕ) (s e : ℕ) → under (s + e) o ≡ under s (under e o)
regrouped None s e = refl
regrouped (Some t) s e = ap (λ (n : ℕ). Some n) (omega arith)

under_none : (o : Option ℕ) → under 0 o ≡ o
under_none None = refl
under_none (Some t) = ap (λ (n : ℕ). Some n) (zero-add t)

no_greater_fits : (o u : Option ℕ) (k : ℕ) → NoGreater o u → fits_asset u k ≡ true → fits_asset o k ≡ true
no_greater_fits None u k h g = refl
no_greater_fits (Some i) None k h g = absurd h
no_greater_fits (Some i) (Some j) k h g = let a = leb-true j k g in le-leb i k (omega (arith, a, h))

pub no_greater-refl : (o : Option ℕ) → NoGreater o o
no_greater-refl None = tt
no_greater-refl (Some i) = omega arith

pub no_greater-trans : (o u v : Option ℕ) → NoGreater o u → NoGreater u v → NoGreater o v
no_greater-trans None u v h g = tt
no_greater-trans (Some i) None v h g = absurd h
no_greater-trans (Some i) (Some j) None h g = absurd g
no_greater-trans (Some i) (Some j) (Some k) h g = omega (arith, h, g)

pub no_greater-left : (o u : Option ℕ) → NoGreater o (greater o u)
no_greater-left None u = tt
no_greater-left (Some i) None = omega arith
no_greater-left (Some i) (Some j) = omega arith

pub no_greater-right : (o u : Option ℕ) → NoGreater u (greater o u)
no_greater-right None u = no_greater-refl u
no_greater-right (Some i) None = tt
no_greater-right (Some i) (Some j) = omega arith

pub no_greater-both : (o u o' u' : Option ℕ) → NoGreater o o' → NoGreater u u' → NoGreater (greater o u) (greater o' u')
no_greater-both None u o' u' h g = no_greater-trans u u' (greater o' u') g (no_greater-right o' u')
no_greater-both (Some i) None o' u' h g = no_greater-trans (Some i) o' (greater o' u') h (no_greater-left o' u')
no_greater-both (Some i) (Some j) None u' h g = absurd h
no_greater-both (Some i) (Some j) (Some k) None h g = absurd g
no_greater-both (Some i) (Some j) (Some k) (Some l) h g = omega (arith, h, g)

pub no_greater-under : (i e : ℕ) (o u : Option ℕ) → i ≤ e → NoGreater o u → NoGreater (option_map (λ t. i + t) o) (option_map (λ t. e + t) u)
no_greater-under i e None u l h = tt
no_greater-under i e (Some s) None l h = absurd h
no_greater-under i e (Some s) (Some t) l h = omega (arith, l, h)

pub no_greater-same : (o u : Option ℕ) → o ≡ u → NoGreater o u
no_greater-same o u e = subst (λ (v : Option ℕ). NoGreater o v) e (no_greater-refl o)

-- ---- the test on assets, asset by asset, and payment by payment

abbrev EachFits : Declarations → Contract → List Kind → ℕ → Type 0
EachFits d c ks s = (a : ℕ) → fits_asset (under s (scale_in_asset d c ks a)) (decimals_of d a) ≡ true

paid : (d : Declarations) (b a s : ℕ) → nat_le s (decimals_of d b) ≡ true → fits_asset (under s (if b == a then Some 0 else None)) (decimals_of d a) ≡ true
paid d b a s h = elim (cases_Bool (b == a)) [
  | inl e ↦
      let same : b ≡ a = grind (arith, nat_tests, e) in
      let fits : nat_le (s + 0) (decimals_of d a) ≡ true = subst (λ (i : ℕ). nat_le i (decimals_of d a) ≡ true) (omega arith) (subst (λ (i : ℕ). nat_le s (decimals_of d i) ≡ true) same h) in
      subst (λ (t : Bool). fits_asset (under s (if t then Some 0 else None)) (decimals_of d a) ≡ true) (sym e) fits
  | inr e ↦ subst (λ (t : Bool). fits_asset (under s (if t then Some 0 else None)) (decimals_of d a) ≡ true) (sym e) refl
]

each_fits : (d : Declarations) (c : Contract) (ks : List Kind) (s : ℕ) → payments_fit d c ks s ≡ true → EachFits d c ks s
each_fits d Zero ks s h a = refl
each_fits d (Pay b p q) ks s h a = paid d b a s h
each_fits d (Both x y) ks s h a =
    let t = and_parts (payments_fit d x ks s) (payments_fit d y ks s) h in
    both_fit (scale_in_asset d x ks a) (scale_in_asset d y ks a) s (decimals_of d a) (each_fits d x ks s t.0 a) (each_fits d y ks s t.1 a)
each_fits d (Scale e c) ks s h a =
    subst (λ (o : Option ℕ). fits_asset o (decimals_of d a) ≡ true) (regrouped (scale_in_asset d c ks a) s (scale_of d e ks)) (each_fits d c ks (s + scale_of d e ks) h a)
each_fits d (After n c) ks s h a = each_fits d c ks s h a
each_fits d (Let e c) ks s h a = each_fits d c (kind_or (kind_of d e ks) ∷ ks) s h a
each_fits d (Within e n x y) ks s h a =
    let t = and_parts (payments_fit d x ks s) (payments_fit d y ks s) h in
    both_fit (scale_in_asset d x ks a) (scale_in_asset d y ks a) s (decimals_of d a) (each_fits d x ks s t.0 a) (each_fits d y ks s t.1 a)

itself : (b : ℕ) → (b == b) ≡ true
itself b = grind (arith, nat_tests)

all_fit : (d : Declarations) (c : Contract) (ks : List Kind) (s : ℕ) → EachFits d c ks s → payments_fit d c ks s ≡ true
all_fit d Zero ks s h = refl
all_fit d (Pay b p q) ks s h =
    let fits : nat_le (s + 0) (decimals_of d b) ≡ true = subst (λ (t : Bool). fits_asset (under s (if t then Some 0 else None)) (decimals_of d b) ≡ true) (itself b) (h b) in
    subst (λ (i : ℕ). nat_le i (decimals_of d b) ≡ true) (omega arith) fits
all_fit d (Both x y) ks s h =
    and_from _ _
    (all_fit d x ks s (λ a. left_fits (scale_in_asset d x ks a) (scale_in_asset d y ks a) s (decimals_of d a) (h a)))
    (all_fit d y ks s (λ a. right_fits (scale_in_asset d x ks a) (scale_in_asset d y ks a) s (decimals_of d a) (h a)))
all_fit d (Scale e c) ks s h =
    all_fit d c ks (s + scale_of d e ks) (λ a. subst (λ (o : Option ℕ). fits_asset o (decimals_of d a) ≡ true) (sym (regrouped (scale_in_asset d c ks a) s (scale_of d e ks))) (h a))
all_fit d (After n c) ks s h = all_fit d c ks s h
all_fit d (Let e c) ks s h = all_fit d c (kind_or (kind_of d e ks) ∷ ks) s h
all_fit d (Within e n x y) ks s h =
    and_from _ _
    (all_fit d x ks s (λ a. left_fits (scale_in_asset d x ks a) (scale_in_asset d y ks a) s (decimals_of d a) (h a)))
    (all_fit d y ks s (λ a. right_fits (scale_in_asset d x ks a) (scale_in_asset d y ks a) s (decimals_of d a) (h a)))

-- what holds of each asset that stands in a contract holds of an asset, or the contract pays none of it
none_or : (x y : Option ℕ) (t : Bool) → (x ≡ None) ⊎ (t ≡ true) → (y ≡ None) ⊎ (t ≡ true) → (greater x y ≡ None) ⊎ (t ≡ true)
none_or x y t (inl e) (inl i) = inl (subst (λ (o : Option ℕ). greater o y ≡ None) (sym e) i)
none_or x y t (inl e) (inr h) = inr h
none_or x y t (inr h) w = inr h

paid_or_true : (d : Declarations) (c : Contract) (ks : List Kind) (p : ℕ → Bool) (a : ℕ) → list_all p (assets_in c) ≡ true → (scale_in_asset d c ks a ≡ None) ⊎ (p a ≡ true)
paid_or_true d Zero ks p a h = inl refl
paid_or_true d (Pay b x y) ks p a h = elim (cases_Bool (b == a)) [
  | inl e ↦ let same : b ≡ a = grind (arith, nat_tests, e) in inr (subst (λ (i : ℕ). p i ≡ true) same (and_parts (p b) true h).0)
  | inr e ↦ inl (ap (λ (t : Bool). if t then Some 0 else None) e)
]
paid_or_true d (Both x y) ks p a h =
    let t = and_parts _ _ (sym (list_all-append p (assets_in x) (assets_in y)) ∙ h) in
    none_or (scale_in_asset d x ks a) (scale_in_asset d y ks a) (p a) (paid_or_true d x ks p a t.0) (paid_or_true d y ks p a t.1)
paid_or_true d (Scale e c) ks p a h = raised (paid_or_true d c ks p a h)
  where
    raised : (scale_in_asset d c ks a ≡ None) ⊎ (p a ≡ true) → (scale_in_asset d (Scale e c) ks a ≡ None) ⊎ (p a ≡ true)
    raised (inl i) = inl (ap (λ (o : Option ℕ). option_map (λ t. scale_of d e ks + t) o) i)
    raised (inr i) = inr i
paid_or_true d (After n c) ks p a h = paid_or_true d c ks p a h
paid_or_true d (Let e c) ks p a h = paid_or_true d c (kind_or (kind_of d e ks) ∷ ks) p a h
paid_or_true d (Within e n x y) ks p a h =
    let t = and_parts _ _ (sym (list_all-append p (assets_in x) (assets_in y)) ∙ h) in
    none_or (scale_in_asset d x ks a) (scale_in_asset d y ks a) (p a) (paid_or_true d x ks p a t.0) (paid_or_true d y ks p a t.1)

pub each_asset_fits : (d : Declarations) (c : Contract) (ks : List Kind) → assets_are_scaled d c ks ≡ true → (a : ℕ) → fits_asset (scale_in_asset d c ks a) (decimals_of d a) ≡ true
each_asset_fits d c ks h a = by (paid_or_true d c ks (λ b. fits_asset (scale_in_asset d c ks b) (decimals_of d b)) a h)
  where
    by : (scale_in_asset d c ks a ≡ None) ⊎ (fits_asset (scale_in_asset d c ks a) (decimals_of d a) ≡ true) → fits_asset (scale_in_asset d c ks a) (decimals_of d a) ≡ true
    by (inl e) = subst (λ (o : Option ℕ). fits_asset o (decimals_of d a) ≡ true) (sym e) refl
    by (inr i) = i

each_true : (p : ℕ → Bool) (xs : List ℕ) → ((a : ℕ) → p a ≡ true) → list_all p xs ≡ true
each_true p [] h = refl
each_true p (x ∷ xs) h = and_from _ _ (h x) (each_true p xs h)

pub all_assets_fit : (d : Declarations) (c : Contract) (ks : List Kind) → ((a : ℕ) → fits_asset (scale_in_asset d c ks a) (decimals_of d a) ≡ true) → assets_are_scaled d c ks ≡ true
all_assets_fit d c ks h = each_true (λ a. fits_asset (scale_in_asset d c ks a) (decimals_of d a)) (assets_in c) h

same_tests : (a b : Bool) → (a ≡ true → b ≡ true) → (b ≡ true → a ≡ true) → a ≡ b
same_tests true b h g = sym (h refl)
same_tests false true h g = g refl
same_tests false false h g = refl

pub by_payments : AssetsAreScaledByPayments
by_payments d c ks =
    same_tests (assets_are_scaled d c ks) (payments_fit d c ks 0)
    (λ h. all_fit d c ks 0 (λ a. subst (λ (o : Option ℕ). fits_asset o (decimals_of d a) ≡ true) (sym (under_none (scale_in_asset d c ks a))) (each_asset_fits d c ks h a)))
    (λ h. all_assets_fit d c ks (λ a. subst (λ (o : Option ℕ). fits_asset o (decimals_of d a) ≡ true) (under_none (scale_in_asset d c ks a)) (each_fits d c ks 0 h a)))

-- ---- what keeps the test

pub assets_kept : (d : Declarations) (y x : Contract) (ks : List Kind) → HasNoGreaterScales d ks y x → assets_are_scaled d x ks ≡ true → assets_are_scaled d y ks ≡ true
assets_kept d y x ks h t =
    all_assets_fit d y ks (λ a. no_greater_fits (scale_in_asset d y ks a) (scale_in_asset d x ks a) (decimals_of d a) (h a) (each_asset_fits d x ks t a))

-- both halves of the rule at one node
pub node_kept : (d : Declarations) (s : Site) (y x : Contract) → scale_of_contract d y (kinds_round d s.layers) ≤ scale_of_contract d x (kinds_round d s.layers) → HasNoGreaterScales d (kinds_round d s.layers) y x → part_is_scaled d s (OfContract x) ≡ true → part_is_scaled d s (OfContract y) ≡ true
node_kept d s y x l h t =
    let ks = kinds_round d s.layers in
    let halves = and_parts (nat_le (scale_of_contract d x ks) d.amounts) (assets_are_scaled d x ks) t in
    let whole = leb-true (scale_of_contract d x ks) d.amounts halves.0 in
    and_from _ _ (le-leb (scale_of_contract d y ks) d.amounts (omega (arith, l, whole))) (assets_kept d y x ks h halves.1)

-- equal scales in each asset, among whatever names
pub assets_alike : (d : Declarations) (y x : Contract) (hs ks : List Kind) → ((a : ℕ) → scale_in_asset d y hs a ≡ scale_in_asset d x ks a) → assets_are_scaled d x ks ≡ true → assets_are_scaled d y hs ≡ true
assets_alike d y x hs ks h t =
    all_assets_fit d y hs (λ a. subst (λ (o : Option ℕ). fits_asset o (decimals_of d a) ≡ true) (sym (h a)) (each_asset_fits d x ks t a))

pub no_greater_in_let : (d : Declarations) (ks : List Kind) (i e : Expression) (y x : Contract) → kind_of d i ks ≡ kind_of d e ks → HasNoGreaterScales d (kind_or (kind_of d e ks) ∷ ks) y x → HasNoGreaterScales d ks (Let i y) (Let e x)
no_greater_in_let d ks i e y x same h a =
    subst (λ (o : Option Kind). NoGreater (scale_in_asset d y (kind_or o ∷ ks) a) (scale_in_asset d x (kind_or (kind_of d e ks) ∷ ks) a)) (sym same) (h a)

pub scales_kept : ScalesAreKept
scales_kept =
    record {
      node = node_kept;
      test = assets_kept;
      both = λ d ks y x v u h g a. no_greater-both (scale_in_asset d y ks a) (scale_in_asset d v ks a) (scale_in_asset d x ks a) (scale_in_asset d u ks a) (h a) (g a);
      scale = λ d ks i e y x l h a. no_greater-under (scale_of d i ks) (scale_of d e ks) (scale_in_asset d y ks a) (scale_in_asset d x ks a) l (h a);
      let_ = no_greater_in_let;
      within = λ d ks i e n m y x v u h g a. no_greater-both (scale_in_asset d y ks a) (scale_in_asset d v ks a) (scale_in_asset d x ks a) (scale_in_asset d u ks a) (h a) (g a);
    }

-- ---- one scale for all assets

one_scale : (d : Declarations) (c : Contract) (ks : List Kind) (s : ℕ) → ((a : ℕ) → decimals_of d a ≡ d.amounts) → s + scale_of_contract d c ks ≤ d.amounts → payments_fit d c ks s ≡ true
one_scale d Zero ks s h l = refl
one_scale d (Pay a p q) ks s h l = le-leb s (decimals_of d a) (omega (arith, h a, l))
one_scale d (Both x y) ks s h l = and_from _ _ (one_scale d x ks s h (omega (arith, l))) (one_scale d y ks s h (omega (arith, l)))
one_scale d (Scale e c) ks s h l = one_scale d c ks (s + scale_of d e ks) h (omega (arith, l))
one_scale d (After n c) ks s h l = one_scale d c ks s h l
one_scale d (Let e c) ks s h l = one_scale d c (kind_or (kind_of d e ks) ∷ ks) s h l
one_scale d (Within e n x y) ks s h l = and_from _ _ (one_scale d x ks s h (omega (arith, l))) (one_scale d y ks s h (omega (arith, l)))

pub one_scale_decides : OneScaleDecides
one_scale_decides d c ks h l = by_payments d c ks ∙ one_scale d c ks 0 h (omega (arith, l))

-- where each entry has so many decimals, so has each index
abbrev with_decimals : ℕ → List (Name × ℕ) → List (Name × ℕ)
with_decimals k entries = map (λ entry. (entry.0, k)) entries

one_decimals : (k : ℕ) (entries : List (Name × ℕ)) (a : ℕ) → decimals_or (slice_get (with_decimals k entries) a) k ≡ k
one_decimals k [] a = refl
one_decimals k (e ∷ es) zero = refl
one_decimals k (e ∷ es) (suc a) = one_decimals k es a

pub has_one_scale : (d : Declarations) (a : ℕ) → decimals_of (at_one_scale d) a ≡ d.amounts
has_one_scale d a = one_decimals d.amounts d.assets a
