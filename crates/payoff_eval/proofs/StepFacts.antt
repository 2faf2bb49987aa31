-- Steps of the walk over code: a payment fits, and the days of a test.
use Rattle.std.proofs.Common.{◌≡◌, ℕ, suc, ℤ, pos, ◌*ℤ◌, ◌≤◌, ◌+◌, ◌-◌, ◌^◌, unsigned_abs, Option, Some, Ok, Result, ap, subst, sym, ◌∙◌, arith}
use Rattle.std.proofs.lemmas.Int.{unsigned_abs-mul}
use Rattle.decimal.specs.Rounding.{raised}
use Rattle.decimal.proofs.PowerFacts.{ten_most}
use Rattle.term_model.specs.declared.values.Value.{Value}
use Rattle.term_model.specs.declared.values.Missing.{Missing}
use Rattle.expr_eval.specs.Trials.{first_tried}
use Rattle.interval_check.proofs.TurnoverFacts.{product_at_most}
use Rattle.interval_check.proofs.MultipleFacts.{times-size}
use Rattle.payoff_eval.specs.declared.walk.Worth.{Worth}
use Rattle.payoff_eval.specs.Walks.{then_branch, tries}

pub pay_small : (x : ℤ) (decimals : ℕ) → unsigned_abs x ≤ 10 ^ 10 → 9 ≤ decimals → decimals ≤ 21 → unsigned_abs (raised x (decimals - 9)) ≤ 10 ^ 37
pay_small x decimals h low high =
    let power = ten_most (decimals - 9) 12 (omega arith) in
    let most = product_at_most (unsigned_abs x) (10 ^ (decimals - 9)) (10 ^ 10) (10 ^ 12) h power in
    omega (arith, times-size x (10 ^ (decimals - 9)), most)

pub unit_times : (f u : ℤ) → unsigned_abs f ≤ 10 ^ 10 → unsigned_abs u ≤ 1 → unsigned_abs (f *ℤ u) ≤ 10 ^ 10
unit_times f u h k =
    let most = product_at_most (unsigned_abs f) (unsigned_abs u) (10 ^ 10) 1 h k in
    omega (arith, unsigned_abs-mul f u, most)

-- the branch that a loop enters on a day
pub loop_some : (n : ℕ) (z : ℤ) (answers : ℕ → Result Value Missing) (hit : ℕ → Result Worth Missing) (miss r : Result Worth Missing) (o : Result (Option ℕ) Missing) (k : ℕ) → pos n ≡ z → o ≡ first_tried (n + 1) answers → o ≡ Ok (Some k) → r ≡ hit k → r ≡ then_branch (first_tried (tries z) answers) hit miss
loop_some n z answers hit miss r o k days tried found entered =
    let more : n + 1 ≡ suc n = omega arith in
    let known : first_tried (suc n) answers ≡ Ok (Some k) = ap (λ (m : ℕ). first_tried m answers) (sym more) ∙ sym tried ∙ found in
    subst (λ (m : ℤ). r ≡ then_branch (first_tried (tries m) answers) hit miss) days (entered ∙ ap (λ (t : Result (Option ℕ) Missing). then_branch t hit miss) (sym known))
