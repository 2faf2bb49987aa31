use Rattle.std.proofs.Common.{◌+◌, ◌*◌, max}
use Rattle.term_model.specs.declared.terms.Contr.{size-Contr}
use Rattle.payoff_compile.proofs.compiling.+compiling.Given as goal

abbrev pub decreases-compile_at : goal.decreases-compile_at
decreases-compile_at l = 5 * size-Contr l.c

abbrev pub decreases-compile_boxed : goal.decreases-compile_boxed
decreases-compile_boxed l = 5 * size-Contr l.c.value + 1

abbrev pub decreases-compile_both : goal.decreases-compile_both
decreases-compile_both l = 5 * max (size-Contr l.left.value) (size-Contr l.right.value) + 2

abbrev pub decreases-compile_scale : goal.decreases-compile_scale
decreases-compile_scale l = 5 * size-Contr l.body.value + 2

abbrev pub decreases-compile_after : goal.decreases-compile_after
decreases-compile_after l = 5 * size-Contr l.body.value + 2

abbrev pub decreases-compile_let : goal.decreases-compile_let
decreases-compile_let l = 5 * size-Contr l.body.value + 2

abbrev pub decreases-compile_later : goal.decreases-compile_later
decreases-compile_later l = 5 * size-Contr l.body.value + 2

abbrev pub decreases-compile_within : goal.decreases-compile_within
decreases-compile_within l = 5 * max (size-Contr l.hit.value) (size-Contr l.miss.value) + 4

abbrev pub decreases-compile_branches : goal.decreases-compile_branches
decreases-compile_branches l = 5 * max (size-Contr l.hit.value) (size-Contr l.miss.value) + 3
