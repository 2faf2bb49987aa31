use Rattle.std.proofs.Common.{◌≡◌, ◌-◌, drop, length}
use Rattle.payoff_terms.specs.TemplateDates.{insert_names}
use Rattle.payoff_compile.proofs.dates.with_names.Given as goal

-- the last of the further names stand among the others
abbrev pub invariant-loop-i : goal.invariant-loop-i
invariant-loop-i l = l.all.items ≡ insert_names (drop (length l.more - l.i) l.more) l.names
