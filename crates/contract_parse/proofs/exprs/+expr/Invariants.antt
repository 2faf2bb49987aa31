use Rattle.std.proofs.Common.{◌-◌, ◌+◌, ◌*◌}
use Rattle.contract_parse.proofs.exprs.+expr.Given as goal

abbrev pub decreases-read_boxed : goal.decreases-read_boxed
decreases-read_boxed g l = 7 * (401 - l.frame.now.depth) + 2

abbrev pub decreases-read_behind : goal.decreases-read_behind
decreases-read_behind g l = 7 * (401 - l.frame.now.depth) + 3

abbrev pub decreases-read_operand : goal.decreases-read_operand
decreases-read_operand g l = 7 * (401 - l.frame.now.depth) + 4

abbrev pub decreases-read_pair : goal.decreases-read_pair
decreases-read_pair g l = 7 * (401 - l.frame.now.depth) + 4

abbrev pub decreases-read_neg : goal.decreases-read_neg
decreases-read_neg g l = 7 * (401 - l.frame.now.depth) + 5

abbrev pub decreases-read_not : goal.decreases-read_not
decreases-read_not g l = 7 * (401 - l.frame.now.depth) + 5

abbrev pub decreases-read_min : goal.decreases-read_min
decreases-read_min g l = 7 * (401 - l.frame.now.depth) + 5

abbrev pub decreases-read_max : goal.decreases-read_max
decreases-read_max g l = 7 * (401 - l.frame.now.depth) + 5

abbrev pub decreases-read_infix : goal.decreases-read_infix
decreases-read_infix g l = 7 * (401 - l.frame.now.depth) + 5

abbrev pub decreases-read_choice : goal.decreases-read_choice
decreases-read_choice g l = 7 * (401 - l.frame.now.depth) + 5

abbrev pub decreases-read_widen : goal.decreases-read_widen
decreases-read_widen g l = 7 * (401 - l.frame.now.depth) + 5

abbrev pub decreases-read_round : goal.decreases-read_round
decreases-read_round g l = 7 * (401 - l.frame.now.depth) + 5

abbrev pub decreases-read_div : goal.decreases-read_div
decreases-read_div g l = 7 * (401 - l.frame.now.depth) + 5

abbrev pub decreases-read_acc : goal.decreases-read_acc
decreases-read_acc g l = 7 * (401 - l.frame.now.depth) + 5

abbrev pub decreases-read_expr : goal.decreases-read_expr
decreases-read_expr g l = 7 * (401 - l.frame.now.depth) + 1

abbrev pub decreases-read_any_expr : goal.decreases-read_any_expr
decreases-read_any_expr g l = 7 * (401 - l.frame.now.depth)

abbrev pub decreases-read_behind_first : goal.decreases-read_behind_first
decreases-read_behind_first g l = 7 * (401 - l.frame.now.depth) + 6
