-- The total and the scale of a contract, or the place of its first node that breaks the rule on bounds, counted from
-- the contract's own first node. This goes by structure, each part once; proofs/TotalFacts shows that it finds what the
-- rule says.
use Rattle.std.specs.Prelude.{ℕ, ◌+◌, ◌-◌, ◌*◌, ◌^◌, ◌≤◌, max, ◌&&◌, Bool, nat_le, List, ◌∷◌, Result, Ok, Err, if◌then◌else◌}
use Rattle.term_model.specs.declared.values.Kind.{Kind}
use Rattle.term_model.specs.Declarations.{Declarations}
use Rattle.term_model.specs.Terms.{Contract, Zero, Pay, Both, Scale, After, Let, Within}
use Rattle.term_model.specs.Kinds.{scale_of_kind}
use Rattle.term_model.specs.Sizes.{nodes, nodes_of_contract}
use Rattle.term_model.specs.Bounds.{Range, greatest_size, greatest_total}
use Rattle.term_core.specs.Trying.{then_do, moved}
use Rattle.interval_check.specs.RangeTrials.{scale_in, range_tried, kind_found, AreScaled}

-- the most that a contract can pay, in units of its scale
pub record Total : Type 0 where
  pub amount : ℕ
  pub scale : ℕ

abbrev pub Answer : Type 0
Answer = Result Total ℕ

-- at a count of decimals that is not less than its scale
abbrev pub at_decimals : ℕ → Total → ℕ
at_decimals k t = t.amount * 10 ^ (k - t.scale)

-- it is at most 10^27, as it is and at the portfolio's decimals
abbrev pub total_fits : ℕ → Total → Bool
total_fits k t = nat_le t.amount greatest_total && nat_le (at_decimals k t) greatest_total

-- a total that fits, else a fault here
abbrev pub total_here : ℕ → Total → Answer
total_here k t = if total_fits k t then Ok t else Err 0

abbrev pub of_both : Total → Total → Total
of_both t u =
    let s = max t.scale u.scale in
    record { amount = at_decimals s t + at_decimals s u; scale = s }

abbrev pub of_either : Total → Total → Total
of_either t u =
    let s = max t.scale u.scale in
    record { amount = max (at_decimals s t) (at_decimals s u); scale = s }

abbrev pub of_scaled : Range → Total → Total
of_scaled r t = record { amount = t.amount * greatest_size r.interval; scale = scale_in r + t.scale }

abbrev pub total_tried : Declarations → Contract → List Range → Answer
total_tried d Zero g = total_here d.amounts (record { amount = 0; scale = 0 })
total_tried d (Pay a p q) g = total_here d.amounts (record { amount = 1; scale = 0 })
total_tried d (Both a b) g =
    then_do (moved 1 (total_tried d a g))
    (λ t. then_do (moved (1 + nodes_of_contract a) (total_tried d b g)) (λ u. total_here d.amounts (of_both t u)))
total_tried d (Scale e c) g =
    then_do (moved 1 (range_tried d e g))
    (λ r. then_do (moved (1 + nodes e) (total_tried d c g)) (λ t. total_here d.amounts (of_scaled r t)))
total_tried d (After n c) g = moved 1 (total_tried d c g)
total_tried d (Let e c) g =
    then_do (moved 1 (range_tried d e g)) (λ r. moved (1 + nodes e) (total_tried d c (r ∷ g)))
total_tried d (Within e n a b) g =
    then_do (moved 1 (range_tried d e g))
    (λ _. then_do (moved (1 + nodes e) (total_tried d a g))
    (λ t. then_do (moved (nodes e) (moved (1 + nodes_of_contract a) (total_tried d b g)))
    (λ u. total_here d.amounts (of_either t u))))

-- The scale that the trial answers, and the scales that the rule on scales gives it.

abbrev pub scale_found : Declarations → Contract → List Kind → ℕ
scale_found d Zero ks = 0
scale_found d (Pay a p q) ks = 0
scale_found d (Both a b) ks = max (scale_found d a ks) (scale_found d b ks)
scale_found d (Scale e c) ks = scale_of_kind (kind_found d e ks) + scale_found d c ks
scale_found d (After n c) ks = scale_found d c ks
scale_found d (Let e c) ks = scale_found d c (kind_found d e ks ∷ ks)
scale_found d (Within e n a b) ks = max (scale_found d a ks) (scale_found d b ks)

-- every scale of an expression is at most 27, and every contract has at most the portfolio's decimals
abbrev pub AreTotalsScaled : Declarations → Contract → List Kind → Type 0
AreTotalsScaled d Zero ks = Unit {0}
AreTotalsScaled d (Pay a p q) ks = Unit {0}
AreTotalsScaled d (Both a b) ks = AreTotalsScaled d a ks × AreTotalsScaled d b ks
AreTotalsScaled d (Scale e c) ks =
    AreScaled d e ks × AreTotalsScaled d c ks × (scale_of_kind (kind_found d e ks) + scale_found d c ks ≤ d.amounts)
AreTotalsScaled d (After n c) ks = AreTotalsScaled d c ks
AreTotalsScaled d (Let e c) ks = AreScaled d e ks × AreTotalsScaled d c (kind_found d e ks ∷ ks)
AreTotalsScaled d (Within e n a b) ks = AreScaled d e ks × AreTotalsScaled d a ks × AreTotalsScaled d b ks
