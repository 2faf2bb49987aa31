-- The rules of acceptance by structure: an accepted contract meets each at each node, among the ranges of its names.
use Rattle.std.proofs.Common.{◌≡◌, ℕ, Bool, ◌&&◌, nat_le, List, [], ◌∷◌, refl, ap, sym, ◌∙◌}
use Rattle.term_model.specs.Declarations.{Declarations}
use Rattle.term_model.specs.declared.values.Kind.{Kind}
use Rattle.term_model.specs.declared.rules.Rule.TheVariants.{Sort, Scale as ScaleRule, Bound}
use Rattle.term_model.specs.Terms.{Expression, Lit, Yes, Var, Obs, Neg, Num, Cmp, Not, Logic, Cond, Widen, Round, Div, Acc}
use Rattle.term_model.specs.Terms.{Contract, Zero, Pay, Both, Scale, After, Let, Within}
use Rattle.term_model.specs.Kinds.{kind_of, scale_of}
use Rattle.term_model.specs.Values.{kind_or}
use Rattle.term_model.specs.Sites.{Layer, Naming, Counting, Later, Earlier, Undated, Part, OfExpression, OfContract, Once, EachDay, kinds_round}
use Rattle.term_model.specs.Sorts.{is_sorted}
use Rattle.term_model.specs.Scales.{greatest_scale, is_scaled, parts_are_scaled}
use Rattle.term_model.specs.Bounds.{range_kinds, ranges_round}
use Rattle.term_model.specs.Acceptance.{Passes, Meets}
use Rattle.interval_check.specs.Nodes.{is_sorted_part, is_scaled_part, has_scaled_parts, IsSortedPart, IsScaledPart, IsBoundedPart, IsSortedContract, IsScaledContract, IsBoundedContract}
use Rattle.interval_check.proofs.NodeFacts.{contract_nodes_hold, contract_nodes_pass}

-- the kinds of the names round a node are those of their ranges
pub kinds_of_ranges : (d : Declarations) (r : List Layer) → kinds_round d r ≡ range_kinds (ranges_round d r)
kinds_of_ranges d [] = refl
kinds_of_ranges d (Naming e ∷ r) = ap (λ (ks : List Kind). kind_or (kind_of d e ks) ∷ ks) (kinds_of_ranges d r)
kinds_of_ranges d (Counting body n first ∷ r) = ap (λ (ks : List Kind). kind_or (kind_of d first ks) ∷ ks) (kinds_of_ranges d r)
kinds_of_ranges d (Later n ∷ r) = kinds_of_ranges d r
kinds_of_ranges d (Earlier n ∷ r) = kinds_of_ranges d r
kinds_of_ranges d (Undated ∷ r) = kinds_of_ranges d r

sorted_same : (d : Declarations) (k : ℕ) (r : List Layer) (part : Part) → is_sorted d (record { number = k; part = part; layers = r }) ≡ is_sorted_part d (kinds_round d r) part
sorted_same d k r (OfExpression e) = refl
sorted_same d k r (OfContract Zero) = refl
sorted_same d k r (OfContract (Pay a p q)) = refl
sorted_same d k r (OfContract (Both a b)) = refl
sorted_same d k r (OfContract (Scale e c)) = refl
sorted_same d k r (OfContract (After n c)) = refl
sorted_same d k r (OfContract (Let e c)) = refl
sorted_same d k r (OfContract (Within e n a b)) = refl

scaled_parts_same : (d : Declarations) (k : ℕ) (r : List Layer) (e : Expression) → parts_are_scaled d (record { number = k; part = OfExpression e; layers = r }) e ≡ has_scaled_parts d (kinds_round d r) e
scaled_parts_same d k r (Lit m s) = refl
scaled_parts_same d k r (Yes b) = refl
scaled_parts_same d k r (Var back) = refl
scaled_parts_same d k r (Obs l t) = refl
scaled_parts_same d k r (Neg e) = refl
scaled_parts_same d k r (Num op a b) = refl
scaled_parts_same d k r (Cmp op a b) = refl
scaled_parts_same d k r (Not e) = refl
scaled_parts_same d k r (Logic op a b) = refl
scaled_parts_same d k r (Cond t a b) = refl
scaled_parts_same d k r (Widen s e) = refl
scaled_parts_same d k r (Round mode s e) = refl
scaled_parts_same d k r (Div mode s a b) = refl
scaled_parts_same d k r (Acc body n first) = refl

scaled_same : (d : Declarations) (k : ℕ) (r : List Layer) (part : Part) → is_scaled d (record { number = k; part = part; layers = r }) ≡ is_scaled_part d (kinds_round d r) part
scaled_same d k r (OfExpression e) = ap (λ (b : Bool). nat_le (scale_of d e (kinds_round d r)) greatest_scale && b) (scaled_parts_same d k r e)
scaled_same d k r (OfContract c) = refl

-- the tests of a site, and those of a part among ranges
pub sorted_is : (d : Declarations) (k : ℕ) (r : List Layer) (part : Part) → is_sorted d (record { number = k; part = part; layers = r }) ≡ is_sorted_part d (range_kinds (ranges_round d r)) part
sorted_is d k r part = sorted_same d k r part ∙ ap (λ (ks : List Kind). is_sorted_part d ks part) (kinds_of_ranges d r)

pub scaled_is : (d : Declarations) (k : ℕ) (r : List Layer) (part : Part) → is_scaled d (record { number = k; part = part; layers = r }) ≡ is_scaled_part d (range_kinds (ranges_round d r)) part
scaled_is d k r part = scaled_same d k r part ∙ ap (λ (ks : List Kind). is_scaled_part d ks part) (kinds_of_ranges d r)

pub sorts_hold : (d : Declarations) (c : Contract) → Meets d Sort c → IsSortedContract d c []
sorts_hold d c h =
    contract_nodes_hold d (Passes d Sort) (IsSortedPart d) (λ k r part p. sym (sorted_is d k r part) ∙ p) Once c [] 0 h

pub scales_hold : (d : Declarations) (c : Contract) → Meets d ScaleRule c → IsScaledContract d c []
scales_hold d c h =
    contract_nodes_hold d (Passes d ScaleRule) (IsScaledPart d) (λ k r part p. sym (scaled_is d k r part) ∙ p) Once c [] 0 h

pub bounds_hold : (d : Declarations) (c : Contract) → Meets d Bound c → IsBoundedContract d c []
bounds_hold d c h = contract_nodes_hold d (Passes d Bound) (IsBoundedPart d) (λ k r part p. p) EachDay c [] 0 h

pub sorts_are_met : (d : Declarations) (c : Contract) → IsSortedContract d c [] → Meets d Sort c
sorts_are_met d c h = contract_nodes_pass d (Passes d Sort) (IsSortedPart d) (λ k r part p. sorted_is d k r part ∙ p) Once c [] 0 h

pub scales_are_met : (d : Declarations) (c : Contract) → IsScaledContract d c [] → Meets d ScaleRule c
scales_are_met d c h =
    contract_nodes_pass d (Passes d ScaleRule) (IsScaledPart d) (λ k r part p. scaled_is d k r part ∙ p) Once c [] 0 h

pub bounds_are_met : (d : Declarations) (c : Contract) → IsBoundedContract d c [] → Meets d Bound c
bounds_are_met d c h = contract_nodes_pass d (Passes d Bound) (IsBoundedPart d) (λ k r part p. p) EachDay c [] 0 h
