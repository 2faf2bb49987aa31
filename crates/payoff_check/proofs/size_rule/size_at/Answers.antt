use Rattle.std.proofs.Common.{pos, ap, sym, ◌∙◌, arith}
use Rattle.payoff_terms.specs.TemplateDates.{day_of}
use Rattle.payoff_terms.specs.Code.{value_expression}
use Rattle.payoff_terms.specs.Dating.{at_setting}
use Rattle.payoff_check.specs.declared.part_sizes.ValueSize.{ValueSize}
use Rattle.payoff_check.proofs.DateFreeFacts.{size_any, nodes_undated}
use Rattle.payoff_check.proofs.ValueSizeFacts.{size_there}
use Rattle.payoff_check.proofs.size_rule.size_at.Goals as goal

pub size_of_value-requires : goal.size_of_value-requires
size_of_value-requires c =
    let same = nodes_undated c.args.setting.now (value_expression c.args.v.now) in
    omega (arith, same, c.requires)

pub overflow_add-result : goal.overflow_add-result
overflow_add-result c =
    let same = nodes_undated c.args.setting.now (value_expression c.args.v.now) in
    omega (arith, same, c.requires, c.in-Err.ensures.below)

pub returns-in-Ok-clause-nodes : goal.returns-in-Ok-clause-nodes
returns-in-Ok-clause-nodes c =
    let xs = c.args.setting.now in
    let v = value_expression c.args.v.now in
    ap (λ (s : ValueSize). s.nodes) (size_there (at_setting xs v) c.in-Ok.size (sym c.in-Ok.ensures.size) ∙ size_any (day_of xs) (λ _. pos 0) v)
