use Rattle.std.proofs.Common.{◌≡◌, ◌++◌, take, drop, map}
use Rattle.flow_eval.specs.Payments.{times}
use Rattle.flow_eval.proofs.payments.multiply.Given as goal

abbrev pub invariant-loop-payment : goal.invariant-loop-payment
invariant-loop-payment l = l.payments ≡ map (times l.factor) (take l.payment-index l.initial.payments) ++ drop l.payment-index l.initial.payments
