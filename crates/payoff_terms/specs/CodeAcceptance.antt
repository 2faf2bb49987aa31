-- Which payoff code is accepted at a setting: that which meets the rules on sorts, scales, sizes and bounds, in this
-- order. For value expressions the rules are those of the undated expression, but that each date has to be within its range.
use Rattle.std.specs.Prelude.{ℕ, ℤ, pos, neg_ℤ, ◌+◌, Bool, true, ◌&&◌, nat_le, int_le, List, [], IsTrue}
use Rattle.term_model.specs.Declarations.{Declarations}
use Rattle.term_model.specs.declared.rules.Rule.{Rule}
use Rattle.term_model.specs.declared.rules.Rule.TheVariants.{Sort, Time, Scale, Size, Bound}
use Rattle.term_model.specs.Terms.{Expression, Obs}
use Rattle.term_model.specs.Kinds.{kind_of}
use Rattle.term_model.specs.Sizes.{nodes, height, work}
use Rattle.term_model.specs.Smallness.{days_of}
use Rattle.term_model.specs.Sites.{Once, EachDay, Part, OfExpression, OfContract, kinds_round}
use Rattle.term_model.specs.Sorts.{is_sorted, is_number, is_truth}
use Rattle.term_model.specs.Scales.{is_scaled}
use Rattle.term_model.specs.Bounds.{is_bounded, ranges_round}
use Rattle.term_model.specs.Limits.{greatest_mantissa, most_height_of_code, most_nodes_of_code, most_work}
use Rattle.payoff_terms.specs.TemplateDates.{day_of}
use Rattle.payoff_terms.specs.Dating.{undated}
use Rattle.payoff_terms.specs.Code.{PayoffCode, PayOn, ScaleBy, Loop, Cut}
use Rattle.payoff_terms.specs.CodeValues.{scale_of_code}
use Rattle.payoff_terms.specs.CodeSizes.{nodes_of_code, height_of_code, work_of_code, loop_days}
use Rattle.payoff_terms.specs.CodeTotals.{total_of_code, aligned_code_total}
use Rattle.payoff_terms.specs.CodeSites.{CodeSite, InValue, AtCode, sites_of_code, AllPassInCode, FirstFaultInCode}

abbrev pub code_is_sorted : Declarations → CodeSite → Bool
code_is_sorted d (InValue s) = is_sorted d s
code_is_sorted d (AtCode n (ScaleBy v k) r) = is_number (kind_of d (undated v) (kinds_round d r))
code_is_sorted d (AtCode n (Loop v x k l) r) = is_truth (kind_of d (undated v) (kinds_round d r))
code_is_sorted d (AtCode n _ r) = true

abbrev pub code_is_scaled : Declarations → CodeSite → Bool
code_is_scaled d (InValue s) = is_scaled d s
code_is_scaled d (AtCode n k r) = nat_le (scale_of_code d k (kinds_round d r)) (d.amounts + 9)

abbrev pub is_date : ℤ → Bool
is_date t = int_le (neg_ℤ (pos 2_000_000)) t && int_le t (pos 2_000_000)

abbrev pub is_upto : ℤ → Bool
is_upto t = int_le (pos 0) t && int_le t (pos 100_000)

-- the date that a node holds
abbrev pub date_in_range : Expression → Bool
date_in_range (Obs l t) = is_date t
date_in_range _ = true

abbrev pub dates_in_range : List ℕ → PayoffCode → Bool
dates_in_range xs (PayOn x a p q) = is_date (day_of xs x)
dates_in_range xs (Cut x k) = is_date (day_of xs x)
dates_in_range xs (Loop v x k l) = is_upto (day_of xs x)
dates_in_range xs _ = true

-- a height, a number of nodes and a work
abbrev pub within_code_limits : ℕ → ℕ → ℕ → Bool
within_code_limits h n steps = nat_le h most_height_of_code && (nat_le n most_nodes_of_code && nat_le steps most_work)

abbrev pub value_is_small : Part → Bool
value_is_small (OfExpression e) =
    within_code_limits (height e) (nodes e) (work e) && (nat_le (days_of e) 100_000 && date_in_range e)
value_is_small (OfContract c) = true

abbrev pub code_is_small : List ℕ → CodeSite → Bool
code_is_small xs (InValue s) = value_is_small s.part
code_is_small xs (AtCode n k r) =
    within_code_limits (height_of_code k) (nodes_of_code k) (work_of_code xs k) && (nat_le (loop_days xs k) 100_000 && dates_in_range xs k)

abbrev pub code_is_bounded : Declarations → CodeSite → Bool
code_is_bounded d (InValue s) = is_bounded d s
code_is_bounded d (AtCode n k r) =
    nat_le (total_of_code d k (ranges_round d r)) greatest_mantissa && nat_le (aligned_code_total d k (ranges_round d r)) greatest_mantissa

-- a rule at the setting; there is none on times
abbrev pub MeetsInCode : Declarations → List ℕ → Rule → PayoffCode → Type 0
MeetsInCode d xs Sort k = AllPassInCode (λ s. IsTrue (code_is_sorted d s)) (sites_of_code Once (λ _. pos 0) k [] 0)
MeetsInCode d xs Time k = Unit {0}
MeetsInCode d xs Scale k = AllPassInCode (λ s. IsTrue (code_is_scaled d s)) (sites_of_code Once (λ _. pos 0) k [] 0)
MeetsInCode d xs Size k = AllPassInCode (λ s. IsTrue (code_is_small xs s)) (sites_of_code Once (day_of xs) k [] 0)
MeetsInCode d xs Bound k = AllPassInCode (λ s. IsTrue (code_is_bounded d s)) (sites_of_code EachDay (λ _. pos 0) k [] 0)

abbrev pub FailsInCode : Declarations → List ℕ → Rule → PayoffCode → ℕ → Type 0
FailsInCode d xs Sort k n = FirstFaultInCode (λ s. IsTrue (code_is_sorted d s)) (sites_of_code Once (λ _. pos 0) k [] 0) n
FailsInCode d xs Time k n = ⊥
FailsInCode d xs Scale k n = FirstFaultInCode (λ s. IsTrue (code_is_scaled d s)) (sites_of_code Once (λ _. pos 0) k [] 0) n
FailsInCode d xs Size k n = FirstFaultInCode (λ s. IsTrue (code_is_small xs s)) (sites_of_code Once (day_of xs) k [] 0) n
FailsInCode d xs Bound k n = FirstFaultInCode (λ s. IsTrue (code_is_bounded d s)) (sites_of_code EachDay (λ _. pos 0) k [] 0) n

pub record IsAcceptedCode (d : Declarations) (xs : List ℕ) (k : PayoffCode) : Type 0 where
  pub sorts : MeetsInCode d xs Sort k
  pub scales : MeetsInCode d xs Scale k
  pub sizes : MeetsInCode d xs Size k
  pub bounds : MeetsInCode d xs Bound k

abbrev pub IsCodeRefusal : Declarations → List ℕ → PayoffCode → Rule → ℕ → Type 0
IsCodeRefusal d xs k Sort n = FailsInCode d xs Sort k n
IsCodeRefusal d xs k Time n = ⊥
IsCodeRefusal d xs k Scale n = MeetsInCode d xs Sort k × FailsInCode d xs Scale k n
IsCodeRefusal d xs k Size n = MeetsInCode d xs Sort k × MeetsInCode d xs Scale k × FailsInCode d xs Size k n
IsCodeRefusal d xs k Bound n =
    MeetsInCode d xs Sort k × MeetsInCode d xs Scale k × MeetsInCode d xs Size k × FailsInCode d xs Bound k n
