use Rattle.std.proofs.Common.{◌∙◌, sym, ap, w64, arith}
use Rattle.std.proofs.lemmas.Int.{to_z-of_z}
use Rattle.term_model.specs.Declarations.{declarations}
use Rattle.term_model.specs.Terms.{expression}
use Rattle.expr_eval.specs.Rooms.{Room}
use Rattle.specialise.proofs.StandingFacts.{is_low}
use Rattle.specialise.proofs.AccumulatorFacts.{lacking_stays, value_told}
use Rattle.specialise.proofs.expressions.accumulated.Goals as goal

pub names_within-requires : goal.names_within-requires
names_within-requires c =
    let low = is_low (declarations c.args.decls.now) (expression c.args.e.now) c.requires.place in
    omega (arith, low)

pub for_expr-requires : goal.for_expr-requires
for_expr-requires c =
    let low = is_low (declarations c.args.decls.now) (expression c.args.e.now) c.requires.place in
    record { low = omega (arith, low) }

pub returns-in-Ok : goal.returns-in-Ok
returns-in-Ok c =
    c.literal.ensures.literal
    ∙ value_told (declarations c.args.decls.now) c.args.fixings.now c.args.day (expression c.args.e.now) _ _ c.kind_of.result c.in-Ok.value c.eval.result _ c.requires.steps c.in_ok-scratch.ensures.empty (ap (λ (r : Room). r.entries) c.eval.ensures.same) c.in-Ok.is (sym c.names_within.ensures ∙ c.if-names_within.true) (to_z-of_z w64 c.args.day c.ranges.day) c.eval.ensures.answer.answer c.kind_of.ensures.kind

pub returns-then-names_within : goal.returns-then-names_within
returns-then-names_within c =
    lacking_stays (declarations c.args.decls.now) c.args.fixings.now c.args.day (expression c.args.e.now) _ c.in-Err.field-0 c.eval.result _ c.requires.steps c.in_ok-scratch.ensures.empty c.in-Err.is (to_z-of_z w64 c.args.day c.ranges.day) c.eval.ensures.answer.answer
