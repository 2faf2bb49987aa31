use Rattle.term_model.specs.Terms.{expression}
use Rattle.expr_eval.specs.Evaluations.{comparison_over}
use Rattle.expr_eval.specs.Watching.{IsWatched}
use Rattle.expr_eval.proofs.WatchFacts.{left_watched, right_watched, some_too}
use Rattle.expr_eval.proofs.searches.watch_of.Goals as goal

pub returns-in-Some : goal.returns-in-Some
returns-in-Some c =
    some_too c.watch_side.result _ (λ w. IsWatched c.args.decls.now (comparison_over c.args.op c.args.left.now c.args.right.now) c.args.wanted c.args.names.now w)
    (λ w is. left_watched c.args.decls.now c.args.op (expression c.args.left.now) (expression c.args.right.now) c.args.wanted c.args.names.now c.in-Some.bound w c.in-Some.ensures is)
    c.watch_side.ensures

pub returns-in_ok-bound-in-None : goal.returns-in_ok-bound-in-None
returns-in_ok-bound-in-None c =
    some_too c.watch_side-in-None.result _ (λ w. IsWatched c.args.decls.now (comparison_over c.args.op c.args.left.now c.args.right.now) c.args.wanted c.args.names.now w)
    (λ w is. right_watched c.args.decls.now c.args.op c.turned.result (expression c.args.left.now) (expression c.args.right.now) c.args.wanted c.args.names.now c.in_ok-bound-in-None.bound w c.turned.ensures c.in_ok-bound-in-None.ensures is)
    c.watch_side-in-None.ensures
