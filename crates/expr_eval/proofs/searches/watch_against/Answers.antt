use Rattle.std.proofs.Common.{rules, w32}
use Rattle.std.proofs.lemmas.Int.{to_z-of_z}
use Rattle.expr_eval.proofs.WatchFacts.{against_found}
use Rattle.expr_eval.proofs.searches.watch_against.Goals as goal

pub returns : goal.returns
returns c =
    against_found c.args.decls.now c.args.op c.args.label c.args.offset _ c.args.bound c.args.wanted _ _ c.kind_observed.result c.scale-i.result c.scale-j.result c.factors_of-by.result
    (to_z-of_z w32 c.args.offset c.ranges.offset) c.kind_observed.ensures c.scale-i.ensures c.scale-j.ensures c.factors_of-by.ensures (search rules) (search rules)
