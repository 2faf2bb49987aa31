use Rattle.std.proofs.Common.{◌∙◌, List, ap, map, subst, sym}
use Rattle.flow_eval.specs.Netting.{CanBeNetted}
use Rattle.flow_eval.specs.declared.flow_table.FlowRow.{FlowRow}
use Rattle.flow_eval.specs.declared.payments.Payment.{Payment}
use Rattle.sample.specs.Days.{undated}
use Rattle.sample.proofs.OverDays.{can_be_netted, over_days_answers}
use Rattle.sample.proofs.days.over_days.Goals as goal

pub netted-requires : goal.netted-requires
netted-requires c =
    subst (λ (ps : List Payment). CanBeNetted ps) (sym (c.in_ok-payments.ensures ∙ ap (λ (rows : List FlowRow). map undated rows) c.deref.ensures.value)) (can_be_netted c.args.table.now c.requires.summable c.requires.due)

pub returns : goal.returns
returns c =
    over_days_answers c.args.table.now.rows.items c.in_ok-payments.payments.items c.netted.result (c.in_ok-payments.ensures ∙ ap (λ (rows : List FlowRow). map undated rows) c.deref.ensures.value) c.netted.ensures
