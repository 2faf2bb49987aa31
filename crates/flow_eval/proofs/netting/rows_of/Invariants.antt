use Rattle.std.proofs.Common.{◌≡◌, ◌++◌, ◌∷◌, drop}
use Rattle.flow_eval.specs.Netting.{CanBeNetted, rows_from}
use Rattle.flow_eval.proofs.netting.rows_of.Given as goal

abbrev pub invariant-loop-payment : goal.invariant-loop-payment
invariant-loop-payment l = record {
  same : l.rows.items ++ rows_from l.sum (drop l.payment-index l.rest) ≡ rows_from l.initial.sum l.rest;
  fits : CanBeNetted (l.sum ∷ drop l.payment-index l.rest);
}
