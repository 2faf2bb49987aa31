use Rattle.std.proofs.Common.{◌≡◌, ◌+◌, ◌*◌, max, Ok}
use Rattle.term_model.specs.declared.terms.Expr.{size-Expr}
use Rattle.term_model.specs.Declarations.{declarations}
use Rattle.term_model.specs.Terms.{expression}
use Rattle.interval_check.specs.Ranges.{range, IsFit}
use Rattle.interval_check.specs.RangeScopes.{ranges_in}
use Rattle.interval_check.specs.RangeTrials.{days_tried, day_tried, range_tried}
use Rattle.interval_check.proofs.range_rule.+ranging.Given as goal

abbrev pub decreases-range_of : goal.decreases-range_of
decreases-range_of l = 6 * size-Expr l.e.now

abbrev pub decreases-range_of_part : goal.decreases-range_of_part
decreases-range_of_part l = 6 * size-Expr l.e.now + 1

abbrev pub decreases-range_of_negative : goal.decreases-range_of_negative
decreases-range_of_negative l = 6 * size-Expr l.of.now + 1

abbrev pub decreases-range_of_not : goal.decreases-range_of_not
decreases-range_of_not l = 6 * size-Expr l.of.now + 1

abbrev pub decreases-range_of_widened : goal.decreases-range_of_widened
decreases-range_of_widened l = 6 * size-Expr l.of.now + 1

abbrev pub decreases-range_of_rounded : goal.decreases-range_of_rounded
decreases-range_of_rounded l = 6 * size-Expr l.of.now + 1

abbrev pub decreases-range_of_num : goal.decreases-range_of_num
decreases-range_of_num l = 6 * max (size-Expr l.left.now) (size-Expr l.right.now) + 3

abbrev pub decreases-range_of_cmp : goal.decreases-range_of_cmp
decreases-range_of_cmp l = 6 * max (size-Expr l.left.now) (size-Expr l.right.now) + 3

abbrev pub decreases-range_of_logic : goal.decreases-range_of_logic
decreases-range_of_logic l = 6 * max (size-Expr l.left.now) (size-Expr l.right.now) + 3

abbrev pub decreases-range_of_quotient : goal.decreases-range_of_quotient
decreases-range_of_quotient l = 6 * max (size-Expr l.top.now) (size-Expr l.below.now) + 3

abbrev pub decreases-range_of_choice : goal.decreases-range_of_choice
decreases-range_of_choice l =
    6 * max (size-Expr l.test.now) (max (size-Expr l.yes.now) (size-Expr l.no.now)) + 4

abbrev pub decreases-ranges_of : goal.decreases-ranges_of
decreases-ranges_of l = 6 * max (size-Expr l.left.now) (size-Expr l.right.now) + 2

abbrev pub decreases-ranges_after : goal.decreases-ranges_after
decreases-ranges_after l = 6 * max (size-Expr l.left.now) (size-Expr l.right.now) + 3

abbrev pub decreases-range_of_body : goal.decreases-range_of_body
decreases-range_of_body l = 6 * size-Expr l.body.now + 2

abbrev pub decreases-range_of_day : goal.decreases-range_of_day
decreases-range_of_day l = 6 * size-Expr l.body.now + 3

abbrev pub decreases-added_up : goal.decreases-added_up
decreases-added_up l = 6 * size-Expr l.body.now + 3

abbrev pub decreases-range_of_acc : goal.decreases-range_of_acc
decreases-range_of_acc l = 6 * max (size-Expr l.body.now) (size-Expr l.first.now) + 5

abbrev pub decreases-accumulated : goal.decreases-accumulated
decreases-accumulated l = 6 * size-Expr l.body.now + 4

abbrev pub invariant-accumulated-loop-day : goal.invariant-accumulated-loop-day
invariant-accumulated-loop-day l = record {
  days : days_tried l._day (day_tried (λ g. range_tried (declarations l.decls) (expression l.body) g) (ranges_in l.scope)) (range l.fn.start) ≡ Ok (range l.so_far);
  fit : IsFit (range l.so_far);
  kind : l.so_far.kind ≡ l.fn.start.kind;
}
