use Rattle.std.proofs.Common.{◌≤◌, ◌^◌, ℕ, List, arith, length, subst}
use Rattle.std.proofs.lemmas.List.{take_all}
use Rattle.flow_eval.specs.declared.payments.Payment.{Payment}
use Rattle.report.proofs.RunningFacts.{small_total, total}
use Rattle.report.proofs.sums.can_be_netted.Goals as goal

pub returns : goal.returns
returns c = λ _.
    let payments = c.args.payments.now in
    let i = c.loop-payment.payment-index in
    let h : length payments ≤ i = omega arith in
    let small = subst (λ (n : ℕ). n ≤ 10 ^ 36) c.loop-payment.invariant.0 c.loop-payment.invariant.1 in
    small_total payments (subst (λ (ps : List Payment). total ps ≤ 10 ^ 36) (take_all i payments h) small)
