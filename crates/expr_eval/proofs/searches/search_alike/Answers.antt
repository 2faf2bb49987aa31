use Rattle.std.proofs.Common.{sym, ◌∙◌}
use Rattle.expr_eval.proofs.SearchFacts.{alike_lacks, alike_met, alike_never}
use Rattle.expr_eval.proofs.searches.search_alike.Goals as goal

pub returns-then-is_wanted : goal.returns-then-is_wanted
returns-then-is_wanted c =
    alike_met c.args.wanted c.args.found c.args.days c.if-days-eq0.false c.in-Ok.found c.in-Ok.is (sym c.is_wanted.ensures ∙ c.if-is_wanted.true)

pub returns-else-is_wanted : goal.returns-else-is_wanted
returns-else-is_wanted c =
    alike_never c.args.wanted c.args.found c.args.days c.if-days-eq0.false c.in-Ok.found c.in-Ok.is (sym c.is_wanted.ensures ∙ c.if-is_wanted.false)

pub returns-in-Err : goal.returns-in-Err
returns-in-Err c = alike_lacks c.args.wanted c.args.found c.args.days c.if-days-eq0.false c.in-Err.missing c.in-Err.is
