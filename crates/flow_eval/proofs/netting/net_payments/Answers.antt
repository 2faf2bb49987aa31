use Rattle.std.proofs.Common.{List, subst, sym}
use Rattle.flow_eval.specs.Netting.{CanBeNetted}
use Rattle.flow_eval.specs.declared.payments.Payment.{Payment}
use Rattle.flow_eval.proofs.SizeFacts.{fits_moved}
use Rattle.flow_eval.proofs.netting.net_payments.Goals as goal

pub rows_of-requires : goal.rows_of-requires
rows_of-requires c =
    subst (λ (ps : List Payment). CanBeNetted ps) (sym c.deref.ensures.value) (fits_moved c.args.payments.now.items c.sort.new.payments.items c.sort.ensures.moved c.requires)
