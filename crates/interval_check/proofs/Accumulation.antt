-- The days of an accumulator: the first day at fault is the fault of all, and a day that changes nothing is followed by
-- such days alone.
use Rattle.std.proofs.Common.{◌≡◌, ℕ, zero, suc, ◌≤◌, ◌<◌, inl, inr, Ok, Err, ap, ◌∙◌, sym, arith}
use Rattle.std.proofs.lemmas.Bool.{cases_lt}
use Rattle.term_model.specs.Bounds.{Range}
use Rattle.term_core.specs.Trying.{then_do}
use Rattle.interval_check.specs.RangeTrials.{Answer, days_tried}

pub days_stop : (n i : ℕ) (step : Range → Answer) (x y : Range) (j : ℕ) → i < n → days_tried i step x ≡ Ok y → step y ≡ Err j → days_tried n step x ≡ Err j
days_stop zero i step x y j h e f = absurd (omega arith)
days_stop (suc n) i step x y j h e f =
    elim (cases_lt i n) [
      | inl less ↦ ap (λ (a : Answer). then_do a step) (days_stop n i step x y j less e f)
      | inr most ↦
          let same : i ≡ n = omega arith in
          ap (λ (k : ℕ). then_do (days_tried k step x) step) (sym same) ∙ ap (λ (a : Answer). then_do a step) e ∙ f
    ]

later : (n i : ℕ) (step : Range → Answer) (x y : Range) → i < n → days_tried i step x ≡ Ok y → step y ≡ Ok y → days_tried n step x ≡ Ok y
later zero i step x y h e f = absurd (omega arith)
later (suc n) i step x y h e f =
    elim (cases_lt i n) [
      | inl less ↦ ap (λ (a : Answer). then_do a step) (later n i step x y less e f) ∙ f
      | inr most ↦
          let same : i ≡ n = omega arith in
          ap (λ (k : ℕ). then_do (days_tried k step x) step) (sym same) ∙ ap (λ (a : Answer). then_do a step) e ∙ f
    ]

pub days_stay : (n i : ℕ) (step : Range → Answer) (x y : Range) → i ≤ n → days_tried i step x ≡ Ok y → step y ≡ Ok y → days_tried n step x ≡ Ok y
days_stay n i step x y h e f =
    elim (cases_lt i n) [
      | inl less ↦ later n i step x y less e f
      | inr most ↦ let same : i ≡ n = omega arith in ap (λ (k : ℕ). days_tried k step x) (sym same) ∙ e
    ]
