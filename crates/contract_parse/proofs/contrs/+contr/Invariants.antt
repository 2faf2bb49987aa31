use Rattle.std.proofs.Common.{◌-◌, ◌+◌, ◌*◌}
use Rattle.contract_parse.proofs.contrs.+contr.Given as goal

abbrev pub decreases-read_boxed : goal.decreases-read_boxed
decreases-read_boxed l = 7 * (401 - l.frame.now.depth) + 2

abbrev pub decreases-read_behind_mark : goal.decreases-read_behind_mark
decreases-read_behind_mark l = 7 * (401 - l.frame.now.depth) + 3

abbrev pub decreases-read_behind_word : goal.decreases-read_behind_word
decreases-read_behind_word l = 7 * (401 - l.frame.now.depth) + 3

abbrev pub decreases-read_branches : goal.decreases-read_branches
decreases-read_branches l = 7 * (401 - l.frame.now.depth) + 4

abbrev pub decreases-read_both : goal.decreases-read_both
decreases-read_both l = 7 * (401 - l.frame.now.depth) + 5

abbrev pub decreases-read_scaled : goal.decreases-read_scaled
decreases-read_scaled l = 7 * (401 - l.frame.now.depth) + 5

abbrev pub decreases-read_after : goal.decreases-read_after
decreases-read_after l = 7 * (401 - l.frame.now.depth) + 5

abbrev pub decreases-read_let : goal.decreases-read_let
decreases-read_let l = 7 * (401 - l.frame.now.depth) + 5

abbrev pub decreases-read_within : goal.decreases-read_within
decreases-read_within l = 7 * (401 - l.frame.now.depth) + 5

abbrev pub decreases-read_contr : goal.decreases-read_contr
decreases-read_contr l = 7 * (401 - l.frame.now.depth) + 1

abbrev pub decreases-read_any_contr : goal.decreases-read_any_contr
decreases-read_any_contr l = 7 * (401 - l.frame.now.depth)

abbrev pub decreases-read_behind_head : goal.decreases-read_behind_head
decreases-read_behind_head l = 7 * (401 - l.frame.now.depth) + 6
