use Rattle.std.proofs.Common.{pos, arith, w64}
use Rattle.std.proofs.lemmas.Int.{ints, to_z-of_z}
use Rattle.term_model.specs.Factors.{IsCurve, IsFactor}
use Rattle.fixing_files.specs.Curves.{rows_of}
use Rattle.fixing_files.proofs.CurveFacts.{answers_factor}
use Rattle.fixing_files.proofs.curves.Curve.at.Goals as goal

pub returns-clause-within : goal.returns-clause-within
returns-clause-within c =
    let steps = c.deref.result.now in
    let curve : IsCurve (rows_of steps) = rw c.deref.ensures.value c.self.invariant.curve in
    let unit : IsFactor (pos 1_000_000_000) = (omega (arith, ints), omega (arith, ints)) in
    let is = rw (to_z-of_z w64 c.args.offset c.ranges.offset) at c.factor_at.ensures in
    let factor : IsFactor c.factor_at.result = answers_factor c.curves_answer_factors.ensures steps (pos 1_000_000_000) c.args.offset c.factor_at.result curve unit is in
    (omega (arith, ints, factor.0), omega (arith, ints, factor.1))
