use Rattle.std.proofs.Common.{◌≡◌, pos, rules, to_z, of_z, w64}
use Rattle.std.proofs.lemmas.Int.{to_z-of_z}
use Rattle.term_model.specs.Declarations.{declarations}
use Rattle.payoff_terms.specs.Code.{payoff_code}
use Rattle.payoff_eval.specs.Questions.{asked_on}
use Rattle.payoff_eval.specs.CodeAnswers.{IsCodeValue}
use Rattle.payoff_eval.proofs.FitFacts.{accepted_code_fits}
use Rattle.payoff_eval.proofs.LawFacts.{answered, asked_fits, value_is_small}
use Rattle.payoff_eval.proofs.SizeFacts.{curve_fits, face_is_factor}
use Rattle.payoff_eval.proofs.values.value_layered.Goals as goal

pub walk-requires-clause-fits : goal.walk-requires-clause-fits
walk-requires-clause-fits c =
    let d = declarations c.args.file.now.decls in
    let k = payoff_code c.args.file.now.code in
    let xs = c.args.setting.now.days.items in
    let a = asked_on c.args.curve.now c.args.at c.args.from c.args.to c.args.asset in
    let start = c.args.file.now.decls.start_in in
    let base : to_z w64 c.args.file.now.decls.start ≡ pos c.args.file.now.decls.start = search rules in
    asked_fits d k c.args.fixings.now c.args.curve.now c.args.from c.args.to c.args.asset c.scratch.inside.names.entries xs c.as_slice.result.now c.args.at (to_z w64 (of_z w64 c.args.at)) (pos c.args.file.now.decls.start) (to_z w64 c.args.file.now.decls.start)
    c.scratch.invariant c.as_slice.ensures.value (to_z-of_z w64 c.args.at c.ranges.at) base
    (accepted_code_fits d xs c.args.fixings.now k a (pos c.args.file.now.decls.start) c.args.file.now.decls.labels_in c.args.file.now.decls.amounts_in c.requires.code.setting c.requires.code.closed c.requires.code.accepted c.requires.admitted (curve_fits a c.rises.ensures.curve face_is_factor) start)

found : (c : goal.After-amount_of) → IsCodeValue (declarations c.args.file.now.decls) (payoff_code c.args.file.now.code) c.args.setting.now.days.items c.args.fixings.now (asked_on c.args.curve.now c.args.at c.args.from c.args.to c.args.asset) (pos c.args.file.now.decls.start) c.amount_of.result
found c =
    let start = c.args.file.now.decls.start_in in
    let base : to_z w64 c.args.file.now.decls.start ≡ pos c.args.file.now.decls.start = search rules in
    answered (declarations c.args.file.now.decls) (payoff_code c.args.file.now.code) c.args.fixings.now c.args.curve.now c.args.from c.args.to c.args.asset c.scratch.inside.names.entries c.args.setting.now.days.items c.as_slice.result.now c.args.at (to_z w64 (of_z w64 c.args.at)) (pos c.args.file.now.decls.start) (to_z w64 c.args.file.now.decls.start) c.walk.result c.amount_of.result
    c.scratch.invariant c.as_slice.ensures.value (to_z-of_z w64 c.args.at c.ranges.at) base c.requires.code.accepted c.walk.ensures.worth c.amount_of.ensures

pub returns-clause-answer : goal.returns-clause-answer
returns-clause-answer c =
    let d = declarations c.args.file.now.decls in
    let k = payoff_code c.args.file.now.code in
    let a = asked_on c.args.curve.now c.args.at c.args.from c.args.to c.args.asset in
    record {
      value = found c;
      small = value_is_small d k c.args.setting.now.days.items c.args.fixings.now a (pos c.args.file.now.decls.start) c.amount_of.result c.args.file.now.decls.labels_in c.requires.code.accepted c.requires.admitted c.rises.ensures.curve face_is_factor (found c);
    }
