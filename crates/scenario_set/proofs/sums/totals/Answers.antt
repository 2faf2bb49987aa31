use Rattle.std.proofs.Common.{◌∙◌, sym, w64}
use Rattle.std.specs.Int.{w128}
use Rattle.std.proofs.lemmas.Int.{to_z-of_z}
use Rattle.scenario_set.specs.Surveys.{CanBeSurveyed}
use Rattle.scenario_set.specs.Totals.{inquiry_of}
use Rattle.scenario_set.proofs.SumFacts.{are_few}
use Rattle.scenario_set.proofs.sums.totals.Goals as goal

pub totals_in-requires : goal.totals_in-requires
totals_in-requires c =
    let q = inquiry_of c.args.file.now c.args.setting.now c.args.curve.now c.args.at c.args.from c.args.to c.args.asset in
    let told = rw (to_z-of_z w128 c.args.bound c.ranges.bound) at c.is_too_many.ensures in
    let can : CanBeSurveyed q c.args.set.now = record {
      asked = c.requires.inquiry;
      admitted = c.requires.admitted;
      few = are_few q c.args.set.now c.count-count.result c.args.bound c.count-count.ensures.count c.requires.bound (sym told ∙ c.if-is_too_many.false);
    } in
    rw (to_z-of_z w64 c.args.at c.ranges.at) can

pub returns-clause-answer : goal.returns-clause-answer
returns-clause-answer c = rw (to_z-of_z w64 c.args.at c.ranges.at) at c.totals_in.ensures.answer
