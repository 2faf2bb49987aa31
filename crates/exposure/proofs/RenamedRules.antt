-- No rule of acceptance and no redex looks at a party, so a renamed contract has the verdict and the facts of the contract.
use Rattle.std.proofs.Common.{◌≡◌, ℕ, ℤ, pos, ◌-ℤ◌, ◌+◌, ◌-◌, ◌*◌, ◌^◌, ◌<◌, max, length, Bool, true, false, ◌&&◌, ◌||◌, not, ◌==◌, nat_le, if◌then◌else◌, IsTrue, IsFalse, Option, Some, None, List, [], ◌∷◌, ◌++◌, refl, ap, ap₂, sym, subst, ◌∙◌}
use Rattle.std.specs.Prelude.{◌↔◌, option_map}
use Rattle.std.specs.List.{list_all}
use Rattle.term_model.specs.Declarations.{Declarations, decimals_of}
use Rattle.term_model.specs.declared.values.Kind.{Kind}
use Rattle.term_model.specs.declared.rules.Rule.{Rule}
use Rattle.term_model.specs.declared.rules.Rule.TheVariants.{Sort, Time, Scale as ScaleRule, Size, Bound}
use Rattle.term_model.specs.Terms.{Contract, Zero, Pay, Both, Scale, After, Let, Within}
use Rattle.term_model.specs.Environments.{Environment}
use Rattle.term_model.specs.Flows.{count_of, scale_of_contract}
use Rattle.term_model.specs.Kinds.{kind_of, scale_of}
use Rattle.term_model.specs.Values.{kind_or}
use Rattle.term_model.specs.AssetScales.{assets_are_scaled, assets_in, fits_asset, greater, scale_in_asset}
use Rattle.term_model.specs.Sites.{Layer, Naming, Later, Undated, Site, Trial, Once, OfContract, contract_at, sites_of, sites_of_contract, AllPass, kinds_round}
use Rattle.term_model.specs.Sorts.{is_sorted}
use Rattle.term_model.specs.Times.{TypedContract, IsStart, lowered_by}
use Rattle.term_model.specs.Sizes.{nodes, height, past, work, nodes_of_contract, height_of_contract, reach, past_of_contract, work_of_contract}
use Rattle.term_model.specs.Smallness.{days_of_contract, within_limits}
use Rattle.term_model.specs.Bounds.{Range, range_of, range_kinds, ranges_round, interval_of, greatest_size, greatest_total, total_of, aligned_total}
use Rattle.term_model.specs.Horizons.{delayed, horizon_of}
use Rattle.term_model.specs.Acceptance.{Passes, trial_of}
use Rattle.term_model.specs.Redexes.{Redex, EmptyLeft, EmptyRight, ScaledNothing, ZeroFactor, NoDelay, TwoDelays, DelayedNothing, UnusedName, LiteralName, NothingEither, DecidedTest, LiteralOperands, DecidedChoice, FixedPlace, NoSteps, FixedSteps, frame_round, is_redex, uses, uses_in_contract}
use Rattle.exposure.specs.LiteralLists.{Literal, literals_of}
use Rattle.exposure.specs.Renaming.{renamed_party, renamed, RulesAreKept, AcceptanceIsKept, FactsAreKept, SizesAreKept, LiteralsAreKept, LimitsAreKept, NumbersAreKept, FormIsKept, RedexesAreKept}
use Rattle.exposure.proofs.RenamingFacts.{scale_renamed}

-- ---- sizes

nodes_renamed : (c : Contract) (old new : ℕ) → nodes_of_contract (renamed old new c) ≡ nodes_of_contract c
nodes_renamed Zero old new = refl
nodes_renamed (Pay a p q) old new = refl
nodes_renamed (Both a b) old new = ap₂ (λ (x y : ℕ). x + y + 1) (nodes_renamed a old new) (nodes_renamed b old new)
nodes_renamed (Scale e c) old new = ap (λ (x : ℕ). nodes e + x + 1) (nodes_renamed c old new)
nodes_renamed (After n c) old new = ap (λ (x : ℕ). x + 1) (nodes_renamed c old new)
nodes_renamed (Let e c) old new = ap (λ (x : ℕ). nodes e + x + 1) (nodes_renamed c old new)
nodes_renamed (Within e n a b) old new = ap₂ (λ (x y : ℕ). nodes e + x + y + 1) (nodes_renamed a old new) (nodes_renamed b old new)

height_renamed : (c : Contract) (old new : ℕ) → height_of_contract (renamed old new c) ≡ height_of_contract c
height_renamed Zero old new = refl
height_renamed (Pay a p q) old new = refl
height_renamed (Both a b) old new = ap₂ (λ (x y : ℕ). max x y + 1) (height_renamed a old new) (height_renamed b old new)
height_renamed (Scale e c) old new = ap (λ (x : ℕ). max (height e) x + 1) (height_renamed c old new)
height_renamed (After n c) old new = ap (λ (x : ℕ). x + 1) (height_renamed c old new)
height_renamed (Let e c) old new = ap (λ (x : ℕ). max (height e) x + 1) (height_renamed c old new)
height_renamed (Within e n a b) old new = ap₂ (λ (x y : ℕ). max (height e) (max x y) + 1) (height_renamed a old new) (height_renamed b old new)

days_renamed : (c : Contract) (old new : ℕ) → days_of_contract (renamed old new c) ≡ days_of_contract c
days_renamed Zero old new = refl
days_renamed (Pay a p q) old new = refl
days_renamed (Both a b) old new = refl
days_renamed (Scale e c) old new = refl
days_renamed (After n c) old new = refl
days_renamed (Let e c) old new = refl
days_renamed (Within e n a b) old new = refl

reach_renamed : (c : Contract) (old new : ℕ) → reach (renamed old new c) ≡ reach c
reach_renamed Zero old new = refl
reach_renamed (Pay a p q) old new = refl
reach_renamed (Both a b) old new = ap₂ (λ (x y : ℕ). max x y) (reach_renamed a old new) (reach_renamed b old new)
reach_renamed (Scale e c) old new = reach_renamed c old new
reach_renamed (After n c) old new = ap (λ (x : ℕ). count_of n + x) (reach_renamed c old new)
reach_renamed (Let e c) old new = reach_renamed c old new
reach_renamed (Within e n a b) old new = ap₂ (λ (x y : ℕ). count_of n + max x y) (reach_renamed a old new) (reach_renamed b old new)

past_renamed : (c : Contract) (old new : ℕ) → past_of_contract (renamed old new c) ≡ past_of_contract c
past_renamed Zero old new = refl
past_renamed (Pay a p q) old new = refl
past_renamed (Both a b) old new = ap₂ (λ (x y : ℕ). max x y) (past_renamed a old new) (past_renamed b old new)
past_renamed (Scale e c) old new = ap (λ (x : ℕ). max (past e) x) (past_renamed c old new)
past_renamed (After n c) old new = past_renamed c old new
past_renamed (Let e c) old new = ap (λ (x : ℕ). max (past e) x) (past_renamed c old new)
past_renamed (Within e n a b) old new = ap₂ (λ (x y : ℕ). max (past e) (max x y)) (past_renamed a old new) (past_renamed b old new)

work_renamed : (c : Contract) (old new : ℕ) → work_of_contract (renamed old new c) ≡ work_of_contract c
work_renamed Zero old new = refl
work_renamed (Pay a p q) old new = refl
work_renamed (Both a b) old new = ap₂ (λ (x y : ℕ). x + y) (work_renamed a old new) (work_renamed b old new)
work_renamed (Scale e c) old new = ap (λ (x : ℕ). work e + x) (work_renamed c old new)
work_renamed (After n c) old new = work_renamed c old new
work_renamed (Let e c) old new = ap (λ (x : ℕ). work e + x) (work_renamed c old new)
work_renamed (Within e n a b) old new = ap₂ (λ (x y : ℕ). (count_of n + 1) * work e + x + y) (work_renamed a old new) (work_renamed b old new)

horizon_renamed : (c : Contract) (old new : ℕ) → horizon_of (renamed old new c) ≡ horizon_of c
horizon_renamed Zero old new = refl
horizon_renamed (Pay a p q) old new = refl
horizon_renamed (Both a b) old new = ap₂ (λ (x y : ℕ). max x y) (horizon_renamed a old new) (horizon_renamed b old new)
horizon_renamed (Scale e c) old new = horizon_renamed c old new
horizon_renamed (After n c) old new = ap (λ (x : ℕ). delayed (count_of n) x) (horizon_renamed c old new)
horizon_renamed (Let e c) old new = horizon_renamed c old new
horizon_renamed (Within e n a b) old new = ap₂ (λ (x y : ℕ). delayed (count_of n) (max x y)) (horizon_renamed a old new) (horizon_renamed b old new)

total_renamed : (d : Declarations) (c : Contract) (g : List Range) (old new : ℕ) → total_of d (renamed old new c) g ≡ total_of d c g
total_renamed d Zero g old new = refl
total_renamed d (Pay a p q) g old new = refl
total_renamed d (Both a b) g old new =
    let i = scale_of_contract d a (range_kinds g) in
    let j = scale_of_contract d b (range_kinds g) in
    ap₂ (λ (s t : ℕ). total_of d (renamed old new a) g * 10 ^ (max s t - s) + total_of d (renamed old new b) g * 10 ^ (max s t - t)) (scale_renamed d a (range_kinds g) old new) (scale_renamed d b (range_kinds g) old new)
    ∙ ap₂ (λ (x y : ℕ). x * 10 ^ (max i j - i) + y * 10 ^ (max i j - j)) (total_renamed d a g old new) (total_renamed d b g old new)
total_renamed d (Scale e c) g old new = ap (λ (x : ℕ). x * greatest_size (interval_of d e g)) (total_renamed d c g old new)
total_renamed d (After n c) g old new = total_renamed d c g old new
total_renamed d (Let e c) g old new = total_renamed d c (range_of d e g ∷ g) old new
total_renamed d (Within e n a b) g old new =
    let i = scale_of_contract d a (range_kinds g) in
    let j = scale_of_contract d b (range_kinds g) in
    ap₂ (λ (s t : ℕ). max (total_of d (renamed old new a) g * 10 ^ (max s t - s)) (total_of d (renamed old new b) g * 10 ^ (max s t - t))) (scale_renamed d a (range_kinds g) old new) (scale_renamed d b (range_kinds g) old new)
    ∙ ap₂ (λ (x y : ℕ). max (x * 10 ^ (max i j - i)) (y * 10 ^ (max i j - j))) (total_renamed d a g old new) (total_renamed d b g old new)

aligned_renamed : (d : Declarations) (c : Contract) (g : List Range) (old new : ℕ) → aligned_total d (renamed old new c) g ≡ aligned_total d c g
aligned_renamed d c g old new =
    ap₂ (λ (x s : ℕ). x * 10 ^ (d.amounts - s)) (total_renamed d c g old new) (scale_renamed d c (range_kinds g) old new)

pub sizes_are_kept : SizesAreKept
sizes_are_kept c old new = (reach_renamed c old new, nodes_renamed c old new, height_renamed c old new)

-- ---- times

typed_to : (g : List ℤ) (c : Contract) (t : ℤ) (old new : ℕ) → TypedContract g (renamed old new c) t → TypedContract g c t
typed_to g Zero t old new h = tt
typed_to g (Pay a p q) t old new h = h
typed_to g (Both a b) t old new h = (typed_to g a t old new h.0, typed_to g b t old new h.1)
typed_to g (Scale e c) t old new h = (h.0, h.1, h.2, typed_to g c h.0 old new h.3)
typed_to g (After n c) t old new h = typed_to (lowered_by (count_of n) g) c (t -ℤ pos (count_of n)) old new h
typed_to g (Let e c) t old new h = (h.0, h.1, typed_to (h.0 ∷ g) c t old new h.2)
typed_to g (Within e n a b) t old new h =
    (h.0, typed_to g a t old new h.1, typed_to (lowered_by (count_of n) g) b (t -ℤ pos (count_of n)) old new h.2)

typed_from : (g : List ℤ) (c : Contract) (t : ℤ) (old new : ℕ) → TypedContract g c t → TypedContract g (renamed old new c) t
typed_from g Zero t old new h = tt
typed_from g (Pay a p q) t old new h = h
typed_from g (Both a b) t old new h = (typed_from g a t old new h.0, typed_from g b t old new h.1)
typed_from g (Scale e c) t old new h = (h.0, h.1, h.2, typed_from g c h.0 old new h.3)
typed_from g (After n c) t old new h = typed_from (lowered_by (count_of n) g) c (t -ℤ pos (count_of n)) old new h
typed_from g (Let e c) t old new h = (h.0, h.1, typed_from (h.0 ∷ g) c t old new h.2)
typed_from g (Within e n a b) t old new h =
    (h.0, typed_from g a t old new h.1, typed_from (lowered_by (count_of n) g) b (t -ℤ pos (count_of n)) old new h.2)

start_kept : (c : Contract) (old new : ℕ) (s : Option ℤ) → IsStart (renamed old new c) s ↔ IsStart c s
start_kept c old new None = ((λ h t. typed_to [] c t old new (h t)), (λ h t. typed_from [] c t old new (h t)))
start_kept c old new (Some t) = (
  (λ h. (typed_to [] c t old new h.0, λ u k. h.1 u (typed_from [] c u old new k))),
  (λ h. (typed_from [] c t old new h.0, λ u k. h.1 u (typed_to [] c u old new k))),
)

-- ---- a rule that holds of each node exactly where it holds of the renamed one

abbrev LooksAtNoParty : (Site → Type 0) → Type 0
LooksAtNoParty P = (k : ℕ) (r : List Layer) (c : Contract) (old new : ℕ) → P (contract_at k r (renamed old new c)) ↔ P (contract_at k r c)

append : (P : Site → Type 0) (xs ys : List Site) → AllPass P xs → AllPass P ys → AllPass P (xs ++ ys)
append P [] ys h k = k
append P (s ∷ xs) ys h k = (h.0, append P xs ys h.1 k)

left : (P : Site → Type 0) (xs ys : List Site) → AllPass P (xs ++ ys) → AllPass P xs
left P [] ys h = tt
left P (s ∷ xs) ys h = (h.0, left P xs ys h.1)

right : (P : Site → Type 0) (xs ys : List Site) → AllPass P (xs ++ ys) → AllPass P ys
right P [] ys h = h
right P (s ∷ xs) ys h = right P xs ys h.1

both : (P : Site → Type 0) (xs ys us vs : List Site) → AllPass P xs ↔ AllPass P us → AllPass P ys ↔ AllPass P vs → AllPass P (xs ++ ys) ↔ AllPass P (us ++ vs)
both P xs ys us vs h k = (
  (λ all. append P us vs (h.0 (left P xs ys all)) (k.0 (right P xs ys all))),
  (λ all. append P xs ys (h.1 (left P us vs all)) (k.1 (right P us vs all))),
)

same : (P : Site → Type 0) (xs ys vs : List Site) → AllPass P ys ↔ AllPass P vs → AllPass P (xs ++ ys) ↔ AllPass P (xs ++ vs)
same P xs ys vs h = both P xs ys xs vs ((λ all. all), (λ all. all)) h

last : (P : Site → Type 0) (s t : Site) → P s ↔ P t → AllPass P (s ∷ []) ↔ AllPass P (t ∷ [])
last P s t h = ((λ all. (h.0 all.0, tt)), (λ all. (h.1 all.0, tt)))

-- from a place on that depends on the nodes before
placed : (P : Site → Type 0) (w : Trial) (c : Contract) (r : List Layer) (k l : ℕ) (old new : ℕ) → k ≡ l → AllPass P (sites_of_contract w (renamed old new c) r l) ↔ AllPass P (sites_of_contract w c r l) → AllPass P (sites_of_contract w (renamed old new c) r k) ↔ AllPass P (sites_of_contract w c r l)
placed P w c r k l old new e h =
    subst (λ (n : ℕ). AllPass P (sites_of_contract w (renamed old new c) r n) ↔ AllPass P (sites_of_contract w c r l)) (sym e) h

passes : (P : Site → Type 0) → LooksAtNoParty P → (w : Trial) (c : Contract) (r : List Layer) (k : ℕ) (old new : ℕ) → AllPass P (sites_of_contract w (renamed old new c) r k) ↔ AllPass P (sites_of_contract w c r k)
passes P h w Zero r k old new = last P _ _ (h k r Zero old new)
passes P h w (Pay a p q) r k old new = last P _ _ (h k r (Pay a p q) old new)
passes P h w (Both a b) r k old new =
    both P (sites_of_contract w (renamed old new a) r (k + 1)) _ (sites_of_contract w a r (k + 1)) _ (passes P h w a r (k + 1) old new)
    (both P (sites_of_contract w (renamed old new b) r (k + 1 + nodes_of_contract (renamed old new a))) _ (sites_of_contract w b r (k + 1 + nodes_of_contract a)) _
    (placed P w b r (k + 1 + nodes_of_contract (renamed old new a)) (k + 1 + nodes_of_contract a) old new (ap (λ (n : ℕ). k + 1 + n) (nodes_renamed a old new)) (passes P h w b r (k + 1 + nodes_of_contract a) old new))
    (last P _ _ (h k r (Both a b) old new)))
passes P h w (Scale e c) r k old new =
    same P (sites_of w e r (k + 1)) _ _
    (both P (sites_of_contract w (renamed old new c) r (k + 1 + nodes e)) _ (sites_of_contract w c r (k + 1 + nodes e)) _ (passes P h w c r (k + 1 + nodes e) old new)
    (last P _ _ (h k r (Scale e c) old new)))
passes P h w (After n c) r k old new =
    both P (sites_of_contract w (renamed old new c) (Later (count_of n) ∷ r) (k + 1)) _ (sites_of_contract w c (Later (count_of n) ∷ r) (k + 1)) _ (passes P h w c (Later (count_of n) ∷ r) (k + 1) old new)
    (last P _ _ (h k r (After n c) old new))
passes P h w (Let e c) r k old new =
    same P (sites_of w e r (k + 1)) _ _
    (both P (sites_of_contract w (renamed old new c) (Naming e ∷ r) (k + 1 + nodes e)) _ (sites_of_contract w c (Naming e ∷ r) (k + 1 + nodes e)) _ (passes P h w c (Naming e ∷ r) (k + 1 + nodes e) old new)
    (last P _ _ (h k r (Let e c) old new)))
passes P h w (Within e n a b) r k old new =
    same P (sites_of w e (Undated ∷ r) (k + 1)) _ _
    (both P (sites_of_contract w (renamed old new a) (Undated ∷ r) (k + 1 + nodes e)) _ (sites_of_contract w a (Undated ∷ r) (k + 1 + nodes e)) _ (passes P h w a (Undated ∷ r) (k + 1 + nodes e) old new)
    (both P (sites_of_contract w (renamed old new b) (Later (count_of n) ∷ r) (k + 1 + nodes e + nodes_of_contract (renamed old new a))) _ (sites_of_contract w b (Later (count_of n) ∷ r) (k + 1 + nodes e + nodes_of_contract a)) _
    (placed P w b (Later (count_of n) ∷ r) (k + 1 + nodes e + nodes_of_contract (renamed old new a)) (k + 1 + nodes e + nodes_of_contract a) old new (ap (λ (m : ℕ). k + 1 + nodes e + m) (nodes_renamed a old new)) (passes P h w b (Later (count_of n) ∷ r) (k + 1 + nodes e + nodes_of_contract a) old new))
    (last P _ _ (h k r (Within e n a b) old new))))

-- ---- the five rules

tests_alike : (a b : Bool) → a ≡ b → IsTrue a ↔ IsTrue b
tests_alike a b e = (subst (λ (x : Bool). IsTrue x) e, subst (λ (x : Bool). IsTrue x) (sym e))

sorted_alike : (d : Declarations) (k : ℕ) (r : List Layer) (c : Contract) (old new : ℕ) → is_sorted d (contract_at k r (renamed old new c)) ≡ is_sorted d (contract_at k r c)
sorted_alike d k r Zero old new = refl
sorted_alike d k r (Pay a p q) old new = refl
sorted_alike d k r (Both a b) old new = refl
sorted_alike d k r (Scale e c) old new = refl
sorted_alike d k r (After n c) old new = refl
sorted_alike d k r (Let e c) old new = refl
sorted_alike d k r (Within e n a b) old new = refl

six : (h n y far back steps h' n' y' far' back' steps' : ℕ) → h ≡ h' → n ≡ n' → y ≡ y' → far ≡ far' → back ≡ back' → steps ≡ steps' → within_limits h n y far back steps ≡ within_limits h' n' y' far' back' steps'
six h n y far back steps h' n' y' far' back' steps' p q r s t u =
    ap₂ (λ (a b : ℕ). within_limits a b y far back steps) p q
    ∙ ap₂ (λ (a b : ℕ). within_limits h' n' a b back steps) r s
    ∙ ap₂ (λ (a b : ℕ). within_limits h' n' y' far' a b) t u

-- the same assets are paid, each at the same scale
assets_renamed : (c : Contract) (old new : ℕ) → assets_in (renamed old new c) ≡ assets_in c
assets_renamed Zero old new = refl
assets_renamed (Pay a p q) old new = refl
assets_renamed (Both a b) old new = ap₂ (λ (xs ys : List ℕ). xs ++ ys) (assets_renamed a old new) (assets_renamed b old new)
assets_renamed (Scale e c) old new = assets_renamed c old new
assets_renamed (After n c) old new = assets_renamed c old new
assets_renamed (Let e c) old new = assets_renamed c old new
assets_renamed (Within e n a b) old new = ap₂ (λ (xs ys : List ℕ). xs ++ ys) (assets_renamed a old new) (assets_renamed b old new)

in_asset_renamed : (d : Declarations) (c : Contract) (ks : List Kind) (a old new : ℕ) → scale_in_asset d (renamed old new c) ks a ≡ scale_in_asset d c ks a
in_asset_renamed d Zero ks a old new = refl
in_asset_renamed d (Pay b p q) ks a old new = refl
in_asset_renamed d (Both x y) ks a old new =
    ap₂ (λ (s t : Option ℕ). greater s t) (in_asset_renamed d x ks a old new) (in_asset_renamed d y ks a old new)
in_asset_renamed d (Scale e c) ks a old new = ap (λ (o : Option ℕ). option_map (λ s. scale_of d e ks + s) o) (in_asset_renamed d c ks a old new)
in_asset_renamed d (After n c) ks a old new = in_asset_renamed d c ks a old new
in_asset_renamed d (Let e c) ks a old new = in_asset_renamed d c (kind_or (kind_of d e ks) ∷ ks) a old new
in_asset_renamed d (Within e n x y) ks a old new =
    ap₂ (λ (s t : Option ℕ). greater s t) (in_asset_renamed d x ks a old new) (in_asset_renamed d y ks a old new)

assets_scaled : (d : Declarations) (c : Contract) (ks : List Kind) (old new : ℕ) → assets_are_scaled d (renamed old new c) ks ≡ assets_are_scaled d c ks
assets_scaled d c ks old new =
    ap (λ (xs : List ℕ). list_all (λ a. fits_asset (scale_in_asset d (renamed old new c) ks a) (decimals_of d a)) xs) (assets_renamed c old new)
    ∙ ap (λ (h : ℕ → Bool). list_all h (assets_in c)) (λ i a. fits_asset (in_asset_renamed d c ks a old new i) (decimals_of d a))

rule_looks : (d : Declarations) (rule : Rule) → LooksAtNoParty (Passes d rule)
rule_looks d Sort k r c old new = tests_alike _ _ (sorted_alike d k r c old new)
rule_looks d Time k r c old new =
    ((λ h. (h.0, h.1, h.2, typed_to h.0 c h.1 old new h.3)), (λ h. (h.0, h.1, h.2, typed_from h.0 c h.1 old new h.3)))
rule_looks d ScaleRule k r c old new =
    let ks = kinds_round d r in
    tests_alike _ _ (ap₂ (λ (s : ℕ) (b : Bool). nat_le s d.amounts && b) (scale_renamed d c ks old new) (assets_scaled d c ks old new))
rule_looks d Size k r c old new =
    tests_alike _ _ (six _ _ _ _ _ _ _ _ _ _ _ _ (height_renamed c old new) (nodes_renamed c old new) (days_renamed c old new) (reach_renamed c old new) (past_renamed c old new) (work_renamed c old new))
rule_looks d Bound k r c old new =
    tests_alike _ _ (ap₂ (λ (x y : ℕ). nat_le x greatest_total && nat_le y greatest_total) (total_renamed d c (ranges_round d r) old new) (aligned_renamed d c (ranges_round d r) old new))

pub rules_are_kept : RulesAreKept
rules_are_kept d rule c old new = passes (Passes d rule) (rule_looks d rule) (trial_of rule) c [] 0 old new

pub acceptance_is_kept : AcceptanceIsKept
acceptance_is_kept d c old new = (
  (λ h. record {
    sorts = (rules_are_kept d Sort c old new).0 h.sorts;
    times = (rules_are_kept d Time c old new).0 h.times;
    scales = (rules_are_kept d ScaleRule c old new).0 h.scales;
    sizes = (rules_are_kept d Size c old new).0 h.sizes;
    bounds = (rules_are_kept d Bound c old new).0 h.bounds;
  }),
  (λ h. record {
    sorts = (rules_are_kept d Sort c old new).1 h.sorts;
    times = (rules_are_kept d Time c old new).1 h.times;
    scales = (rules_are_kept d ScaleRule c old new).1 h.scales;
    sizes = (rules_are_kept d Size c old new).1 h.sizes;
    bounds = (rules_are_kept d Bound c old new).1 h.bounds;
  }),
)

pub facts_are_kept : FactsAreKept
facts_are_kept d c old new facts = (
  (λ h. record {
    right_start = (start_kept c old new facts.start).0 h.right_start;
    right_scale = h.right_scale ∙ scale_renamed d c [] old new;
    right_total = h.right_total ∙ aligned_renamed d c [] old new;
    right_horizon = h.right_horizon ∙ horizon_renamed c old new;
  }),
  (λ h. record {
    right_start = (start_kept c old new facts.start).1 h.right_start;
    right_scale = h.right_scale ∙ sym (scale_renamed d c [] old new);
    right_total = h.right_total ∙ sym (aligned_renamed d c [] old new);
    right_horizon = h.right_horizon ∙ sym (horizon_renamed c old new);
  }),
)

-- ---- literals, day counts and names

pub literals_are_kept : LiteralsAreKept
literals_are_kept Zero old new = refl
literals_are_kept (Pay a p q) old new = refl
literals_are_kept (Both a b) old new = ap₂ (λ (xs ys : List Literal). xs ++ ys) (literals_are_kept a old new) (literals_are_kept b old new)
literals_are_kept (Scale e c) old new = ap (λ (xs : List Literal). literals_of e ++ xs) (literals_are_kept c old new)
literals_are_kept (After n c) old new = literals_are_kept c old new
literals_are_kept (Let e c) old new = ap (λ (xs : List Literal). literals_of e ++ xs) (literals_are_kept c old new)
literals_are_kept (Within e n a b) old new =
    ap₂ (λ (xs ys : List Literal). literals_of e ++ (xs ++ ys)) (literals_are_kept a old new) (literals_are_kept b old new)

pub limits_are_kept : LimitsAreKept
limits_are_kept Zero old new h = tt
limits_are_kept (Pay a p q) old new h = tt
limits_are_kept (Both a b) old new h = (limits_are_kept a old new h.0, limits_are_kept b old new h.1)
limits_are_kept (Scale e c) old new h = (h.0, limits_are_kept c old new h.1)
limits_are_kept (After n c) old new h = limits_are_kept c old new h
limits_are_kept (Let e c) old new h = (h.0, limits_are_kept c old new h.1)
limits_are_kept (Within e n a b) old new h = (h.0, limits_are_kept a old new h.1, limits_are_kept b old new h.2)

pub numbers_are_kept : NumbersAreKept
numbers_are_kept Zero old new h = tt
numbers_are_kept (Pay a p q) old new h = tt
numbers_are_kept (Both a b) old new h = (numbers_are_kept a old new h.0, numbers_are_kept b old new h.1)
numbers_are_kept (Scale e c) old new h = numbers_are_kept c old new h
numbers_are_kept (After n c) old new h = (h.0, numbers_are_kept c old new h.1)
numbers_are_kept (Let e c) old new h = numbers_are_kept c old new h
numbers_are_kept (Within e n a b) old new h = (h.0, numbers_are_kept a old new h.1, numbers_are_kept b old new h.2)

declared_party : (old new p n : ℕ) → new < n → p < n → renamed_party old new p < n
declared_party old new p n h k = by (p == old)
  where
    by : (b : Bool) → (if b then new else p) < n
    by true = h
    by false = k

pub form_is_kept : FormIsKept
form_is_kept d k Zero old new h w = tt
form_is_kept d k (Pay a p q) old new h w =
    (w.0, declared_party old new p (length d.parties) h w.1, declared_party old new q (length d.parties) h w.2)
form_is_kept d k (Both a b) old new h w = (form_is_kept d k a old new h w.0, form_is_kept d k b old new h w.1)
form_is_kept d k (Scale e c) old new h w = (w.0, form_is_kept d k c old new h w.1)
form_is_kept d k (After n c) old new h w = (w.0, form_is_kept d k c old new h w.1)
form_is_kept d k (Let e c) old new h w = (w.0, form_is_kept d (k + 1) c old new h w.1)
form_is_kept d k (Within e n a b) old new h w =
    (w.0, w.1, form_is_kept d k a old new h w.2, form_is_kept d k b old new h w.3)

-- ---- redexes

uses_renamed : (c : Contract) (k : ℕ) (old new : ℕ) → uses_in_contract k (renamed old new c) ≡ uses_in_contract k c
uses_renamed Zero k old new = refl
uses_renamed (Pay a p q) k old new = refl
uses_renamed (Both a b) k old new = ap₂ (λ (x y : Bool). x || y) (uses_renamed a k old new) (uses_renamed b k old new)
uses_renamed (Scale e c) k old new = ap (λ (x : Bool). uses k e || x) (uses_renamed c k old new)
uses_renamed (After n c) k old new = uses_renamed c k old new
uses_renamed (Let e c) k old new = ap (λ (x : Bool). uses k e || x) (uses_renamed c (k + 1) old new)
uses_renamed (Within e n a b) k old new =
    ap₂ (λ (x y : Bool). uses k e || (x || y)) (uses_renamed a k old new) (uses_renamed b k old new)

redex_alike : (d : Declarations) (fixings : Environment) (f : Option ℤ) (old new : ℕ) (kind : Redex) (c : Contract) → is_redex d fixings f kind (OfContract (renamed old new c)) ≡ is_redex d fixings f kind (OfContract c)
redex_alike d fixings f old new EmptyLeft (Both Zero c) = refl
redex_alike d fixings f old new EmptyLeft Zero = refl
redex_alike d fixings f old new EmptyLeft (Pay a p q) = refl
redex_alike d fixings f old new EmptyLeft (Both a b) = refl
redex_alike d fixings f old new EmptyLeft (Scale e c) = refl
redex_alike d fixings f old new EmptyLeft (After n c) = refl
redex_alike d fixings f old new EmptyLeft (Let e c) = refl
redex_alike d fixings f old new EmptyLeft (Within e n a b) = refl
redex_alike d fixings f old new EmptyRight (Both c Zero) = refl
redex_alike d fixings f old new EmptyRight Zero = refl
redex_alike d fixings f old new EmptyRight (Pay a p q) = refl
redex_alike d fixings f old new EmptyRight (Both a b) = refl
redex_alike d fixings f old new EmptyRight (Scale e c) = refl
redex_alike d fixings f old new EmptyRight (After n c) = refl
redex_alike d fixings f old new EmptyRight (Let e c) = refl
redex_alike d fixings f old new EmptyRight (Within e n a b) = refl
redex_alike d fixings f old new ScaledNothing (Scale e Zero) = refl
redex_alike d fixings f old new ScaledNothing Zero = refl
redex_alike d fixings f old new ScaledNothing (Pay a p q) = refl
redex_alike d fixings f old new ScaledNothing (Both a b) = refl
redex_alike d fixings f old new ScaledNothing (Scale e c) = refl
redex_alike d fixings f old new ScaledNothing (After n c) = refl
redex_alike d fixings f old new ScaledNothing (Let e c) = refl
redex_alike d fixings f old new ScaledNothing (Within e n a b) = refl
redex_alike d fixings f old new ZeroFactor Zero = refl
redex_alike d fixings f old new ZeroFactor (Pay a p q) = refl
redex_alike d fixings f old new ZeroFactor (Both a b) = refl
redex_alike d fixings f old new ZeroFactor (Scale e c) = refl
redex_alike d fixings f old new ZeroFactor (After n c) = refl
redex_alike d fixings f old new ZeroFactor (Let e c) = refl
redex_alike d fixings f old new ZeroFactor (Within e n a b) = refl
redex_alike d fixings f old new NoDelay Zero = refl
redex_alike d fixings f old new NoDelay (Pay a p q) = refl
redex_alike d fixings f old new NoDelay (Both a b) = refl
redex_alike d fixings f old new NoDelay (Scale e c) = refl
redex_alike d fixings f old new NoDelay (After n c) = refl
redex_alike d fixings f old new NoDelay (Let e c) = refl
redex_alike d fixings f old new NoDelay (Within e n a b) = refl
redex_alike d fixings f old new TwoDelays (After m (After n c)) = refl
redex_alike d fixings f old new TwoDelays Zero = refl
redex_alike d fixings f old new TwoDelays (Pay a p q) = refl
redex_alike d fixings f old new TwoDelays (Both a b) = refl
redex_alike d fixings f old new TwoDelays (Scale e c) = refl
redex_alike d fixings f old new TwoDelays (After n c) = refl
redex_alike d fixings f old new TwoDelays (Let e c) = refl
redex_alike d fixings f old new TwoDelays (Within e n a b) = refl
redex_alike d fixings f old new DelayedNothing (After m Zero) = refl
redex_alike d fixings f old new DelayedNothing Zero = refl
redex_alike d fixings f old new DelayedNothing (Pay a p q) = refl
redex_alike d fixings f old new DelayedNothing (Both a b) = refl
redex_alike d fixings f old new DelayedNothing (Scale e c) = refl
redex_alike d fixings f old new DelayedNothing (After n c) = refl
redex_alike d fixings f old new DelayedNothing (Let e c) = refl
redex_alike d fixings f old new DelayedNothing (Within e n a b) = refl
redex_alike d fixings f old new UnusedName (Let e c) = ap not (uses_renamed c 0 old new)
redex_alike d fixings f old new UnusedName Zero = refl
redex_alike d fixings f old new UnusedName (Pay a p q) = refl
redex_alike d fixings f old new UnusedName (Both a b) = refl
redex_alike d fixings f old new UnusedName (Scale e c) = refl
redex_alike d fixings f old new UnusedName (After n c) = refl
redex_alike d fixings f old new UnusedName (Within e n a b) = refl
redex_alike d fixings f old new LiteralName Zero = refl
redex_alike d fixings f old new LiteralName (Pay a p q) = refl
redex_alike d fixings f old new LiteralName (Both a b) = refl
redex_alike d fixings f old new LiteralName (Scale e c) = refl
redex_alike d fixings f old new LiteralName (After n c) = refl
redex_alike d fixings f old new LiteralName (Let e c) = refl
redex_alike d fixings f old new LiteralName (Within e n a b) = refl
redex_alike d fixings f old new NothingEither (Within e n Zero Zero) = refl
redex_alike d fixings f old new NothingEither Zero = refl
redex_alike d fixings f old new NothingEither (Pay a p q) = refl
redex_alike d fixings f old new NothingEither (Both a b) = refl
redex_alike d fixings f old new NothingEither (Scale e c) = refl
redex_alike d fixings f old new NothingEither (After n c) = refl
redex_alike d fixings f old new NothingEither (Let e c) = refl
redex_alike d fixings f old new NothingEither (Within e n a b) = refl
redex_alike d fixings f old new DecidedTest Zero = refl
redex_alike d fixings f old new DecidedTest (Pay a p q) = refl
redex_alike d fixings f old new DecidedTest (Both a b) = refl
redex_alike d fixings f old new DecidedTest (Scale e c) = refl
redex_alike d fixings f old new DecidedTest (After n c) = refl
redex_alike d fixings f old new DecidedTest (Let e c) = refl
redex_alike d fixings f old new DecidedTest (Within e n a b) = refl
redex_alike d fixings f old new LiteralOperands c = refl
redex_alike d fixings f old new DecidedChoice c = refl
redex_alike d fixings f old new FixedPlace c = refl
redex_alike d fixings f old new NoSteps c = refl
redex_alike d fixings f old new FixedSteps c = refl

faults_alike : (a b : Bool) → a ≡ b → IsFalse a ↔ IsFalse b
faults_alike a b e = (subst (λ (x : Bool). IsFalse x) e, subst (λ (x : Bool). IsFalse x) (sym e))

redex_looks : (d : Declarations) (fixings : Environment) (f : ℤ) (kind : Redex) → LooksAtNoParty (λ s. IsFalse (is_redex d fixings (frame_round (Some f) s.layers) kind s.part))
redex_looks d fixings f kind k r c old new = faults_alike _ _ (redex_alike d fixings (frame_round (Some f) r) old new kind c)

pub redexes_are_kept : RedexesAreKept
redexes_are_kept d c old new fixings f = (
  (λ h kind. (passes _ (redex_looks d fixings f kind) Once c [] 0 old new).0 (h kind)),
  (λ h kind. (passes _ (redex_looks d fixings f kind) Once c [] 0 old new).1 (h kind)),
)
