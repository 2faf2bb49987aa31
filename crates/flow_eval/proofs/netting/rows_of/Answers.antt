use Rattle.std.proofs.Common.{◌∙◌, ◌+◌, ◌-◌, ◌++◌, List, ap, sym, drop, get_or, length, pos, subst, take, ◌∷◌}
use Rattle.std.proofs.lemmas.List.{drop_more}
use Rattle.flow_eval.specs.Netting.{CanBeNetted, rows_from}
use Rattle.flow_eval.specs.declared.flow_table.FlowRow.{FlowRow}
use Rattle.flow_eval.specs.declared.payments.Payment.{Payment}
use Rattle.flow_eval.proofs.SizeFacts.{fits_first, fits_next, fits_rest, fits_split, fits_step}
use Rattle.flow_eval.proofs.netting.rows_of.Goals as goal

abbrev others : List Payment → List Payment
others ps = take (length ps - 1) (drop 1 ps)

-- what stands past the end of a list
abbrev nothing : Payment
nothing = record { slot = record { day = pos 0; asset = 0; lower = 0; higher = 0 }; amount = pos 0 }

pub loop-payment-init : goal.loop-payment-init
loop-payment-init c = record {
  same = ap (λ (rows : List FlowRow). rows ++ rows_from (get_or c.args.payments.now 0 nothing) (others c.args.payments.now)) c.in_ok-rows.ensures.items;
  fits = fits_split c.args.payments.now nothing c.in-len1-up.len_at_least c.requires;
}

pub take_in-requires-clause-sum : goal.take_in-requires-clause-sum
take_in-requires-clause-sum c = fits_first c.loop-payment.sum (drop c.loop-payment.payment-index (others c.args.payments.now)) c.loop-payment.invariant.fits

pub take_in-requires-clause-payment : goal.take_in-requires-clause-payment
take_in-requires-clause-payment c =
    let rest = others c.args.payments.now in
    let i = c.loop-payment.payment-index in
    fits_first (get_or rest i nothing) (drop (i + 1) rest) (fits_rest c.loop-payment.sum (get_or rest i nothing ∷ drop (i + 1) rest) (fits_step rest i nothing c.loop-payment.sum c.loop-payment-test.true c.loop-payment.invariant.fits))

pub loop-payment-preserved : goal.loop-payment-preserved
loop-payment-preserved c =
    let rest = others c.args.payments.now in
    let i = c.loop-payment.payment-index in
    record {
      same = c.in_ok-sum.ensures.rows (drop (i + 1) rest) ∙ ap (λ (xs : List Payment). c.loop-payment.rows.items ++ rows_from c.loop-payment.sum xs) (sym (drop_more rest i nothing c.loop-payment-test.true)) ∙ c.loop-payment.invariant.same;
      fits = subst (λ (next : Payment). CanBeNetted (next ∷ drop (i + 1) rest)) (sym c.in_ok-sum.ensures.next) (fits_next c.loop-payment.sum (get_or rest i nothing) (drop (i + 1) rest) (fits_step rest i nothing c.loop-payment.sum c.loop-payment-test.true c.loop-payment.invariant.fits));
    }

pub close-requires : goal.close-requires
close-requires c = fits_first c.loop-payment.sum (drop c.loop-payment.payment-index (others c.args.payments.now)) c.loop-payment.invariant.fits
