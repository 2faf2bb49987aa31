use Rattle.std.proofs.Common.{◌-◌, ◌+◌, ◌*◌}
use Rattle.payoff_lang.proofs.reading.+amount.Given as goal

abbrev pub decreases-read_boxed : goal.decreases-read_boxed
decreases-read_boxed l = 6 * (401 - l.frame.now.depth) + 1

abbrev pub decreases-read_behind_mark : goal.decreases-read_behind_mark
decreases-read_behind_mark l = 6 * (401 - l.frame.now.depth) + 2

abbrev pub decreases-read_behind_word : goal.decreases-read_behind_word
decreases-read_behind_word l = 6 * (401 - l.frame.now.depth) + 2

abbrev pub decreases-read_branches : goal.decreases-read_branches
decreases-read_branches l = 6 * (401 - l.frame.now.depth) + 3

abbrev pub decreases-read_add : goal.decreases-read_add
decreases-read_add l = 6 * (401 - l.frame.now.depth) + 4

abbrev pub decreases-read_scaled : goal.decreases-read_scaled
decreases-read_scaled l = 6 * (401 - l.frame.now.depth) + 4

abbrev pub decreases-read_let : goal.decreases-read_let
decreases-read_let l = 6 * (401 - l.frame.now.depth) + 4

abbrev pub decreases-read_loop : goal.decreases-read_loop
decreases-read_loop l = 6 * (401 - l.frame.now.depth) + 4

abbrev pub decreases-read_cut : goal.decreases-read_cut
decreases-read_cut l = 6 * (401 - l.frame.now.depth) + 4

abbrev pub decreases-read_amount : goal.decreases-read_amount
decreases-read_amount l = 6 * (401 - l.frame.now.depth)

abbrev pub decreases-read_behind_amount : goal.decreases-read_behind_amount
decreases-read_behind_amount l = 6 * (401 - l.frame.now.depth) + 5
