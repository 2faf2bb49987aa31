use Rattle.term_model.specs.Declarations.{declarations}
use Rattle.term_model.specs.Terms.{expression}
use Rattle.specialise.specs.Specialised.{day_of, IsSpecialised, Specialises}
use Rattle.specialise.proofs.CallFacts.{on_ok, stands_for}
use Rattle.specialise.proofs.calls.specialise_expr.Goals as goal

pub returns : goal.returns
returns c =
    let d = declarations c.args.decls.now in
    let F = c.args.fixings.now in
    let o = day_of c.args.frame in
    let e = expression c.args.e.now in
    on_ok (λ r. IsSpecialised d F o (expression r) e) (λ r. Specialises d F o (expression r) e) c.expr_on.result
    (λ r h. stands_for d F o (expression r) e h c.requires.admitted c.requires.place) c.expr_on.ensures
