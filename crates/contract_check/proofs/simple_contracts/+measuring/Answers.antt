use Rattle.std.proofs.Common.{◌+◌, ◌≤◌, ◌-◌, refl, arith}
use Rattle.term_model.specs.Declarations.{declarations, decimals_of}
use Rattle.term_model.specs.DayCounts.{Num}
use Rattle.term_model.specs.Terms.{contract, expression, Pay, Both, Scale, After}
use Rattle.contract_check.specs.SimpleContracts.{payment, joined, multiplied, delayed, IsMeasured}
use Rattle.contract_check.proofs.HorizonFacts.{horizon_most}
use Rattle.contract_check.proofs.SimpleFacts.{nothing_measured, payment_measured, both_measured, scaled_measured, delayed_measured, measured_kept, measured_if}
use Rattle.contract_check.proofs.simple_contracts.+measuring.Goals as goal

pub measure_of-returns-in-Zero : goal.measure_of-returns-in-Zero
measure_of-returns-in-Zero t c =
    let d = declarations c.args.decls.now in
    rw c.nothing.ensures (rw c.in-Zero.is (nothing_measured d c.args.above c.requires.few c.requires.within))

pub measure_of-returns-in-Pay : goal.measure_of-returns-in-Pay
measure_of-returns-in-Pay t c =
    let d = declarations c.args.decls.now in
    rw c.in-Pay.is (measured_if (IsMeasured d c.args.above (Pay c.in-Pay.asset c.in-Pay.from c.in-Pay.to)) (c.args.above ≤ decimals_of d c.in-Pay.asset) (payment (d.amounts - c.args.above)) c.payment.result c.payment.ensures.payment c.payment.ensures.fits
    (λ fits. payment_measured d c.args.above c.in-Pay.asset c.in-Pay.from c.in-Pay.to c.requires.few c.requires.within c.args.decls.now.amounts_in fits))

pub measure_both-returns : goal.measure_both-returns
measure_both-returns t c =
    let d = declarations c.args.decls.now in
    let a = contract c.args.left.now in
    let b = contract c.args.right.now in
    let x = c.in_ok-one.one in
    let y = c.in_ok-other.other in
    measured_kept (IsMeasured d c.args.above (Both a b)) (joined x y) c.joined.result c.kept.result c.joined.ensures c.kept.ensures.same c.kept.ensures.within
    (λ within. both_measured d c.args.above a b x y c.requires.few c.in_ok-one.ensures c.in_ok-other.ensures within)

pub measure_scaled-returns : goal.measure_scaled-returns
measure_scaled-returns t c =
    let d = declarations c.args.decls.now in
    let e = expression c.args.factor.now in
    let b = contract c.args.body.now in
    let f = c.in_ok-factor.factor in
    let x = c.in_ok-measured.measured in
    let few : c.args.above + f.scale ≤ 9 = omega (arith, c.if-factor-min.false, c.min.ensures, c.requires.few) in
    measured_kept (IsMeasured d c.args.above (Scale e b)) (multiplied f x) (multiplied f x) c.multiplied.result refl c.multiplied.ensures.same c.multiplied.ensures.within
    (λ within. scaled_measured d c.args.above e f b x few c.in_ok-factor.ensures c.in_ok-measured.ensures within)

pub measure_later-delayed-requires-clause-horizon : goal.measure_later-delayed-requires-clause-horizon
measure_later-delayed-requires-clause-horizon t c =
    let h = c.in_ok-measured.ensures.1 in
    omega (arith, h.horizon, h.reach, horizon_most (contract c.args.body.now))

pub measure_later-returns : goal.measure_later-returns
measure_later-returns t c =
    let d = declarations c.args.decls.now in
    let b = contract c.args.body.now in
    let x = c.in_ok-measured.measured in
    measured_kept (IsMeasured d c.args.above (After (Num c.args.days) b)) (delayed c.args.days x) c.delayed.result c.kept.result c.delayed.ensures c.kept.ensures.same c.kept.ensures.within
    (λ within. delayed_measured d c.args.above (Num c.args.days) b x c.requires.few c.in_ok-measured.ensures within)
