use Rattle.std.proofs.Common.{sym, refl}
use Rattle.term_model.specs.Declarations.{declarations}
use Rattle.term_model.specs.Terms.{contract}
use Rattle.time_types.proofs.TimeFaults.{times_meet, times_fail, start_is_greatest}
use Rattle.time_types.proofs.time_rule.times.Goals as goal

pub returns-in-Ok : goal.returns-in-Ok
returns-in-Ok c =
    let d = declarations c.args.decls.now in
    let e = contract c.args.c.now in
    (times_meet d e c.in-Ok.start c.requires.closed (sym c.in-Ok.ensures.start), start_is_greatest d e c.in-Ok.start c.requires.closed (sym c.in-Ok.ensures.start))

pub returns-in-Err : goal.returns-in-Err
returns-in-Err c =
    (refl, times_fail (declarations c.args.decls.now) (contract c.args.c.now) c.in-Err.node c.requires.closed (sym c.in-Err.ensures.start))
