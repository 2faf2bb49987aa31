use Rattle.std.proofs.Common.{◌∙◌, ℤ, of_z, subst, sym, to_z, w64}
use Rattle.std.specs.Prelude.{Err}
use Rattle.std.specs.Int.{w128}
use Rattle.std.proofs.lemmas.Int.{to_z-of_z}
use Rattle.term_model.specs.Declarations.{declarations}
use Rattle.payoff_terms.specs.CodeBooks.{code_book}
use Rattle.payoff_eval.specs.Questions.{IsQuestion, asked_on}
use Rattle.scenario_set.specs.Totals.{AnswersTotals, AreTotals, Inquiry, inquiry_of as asked_of}
use Rattle.valuation_commands.specs.ScenarioParts.{by_factors}
use Rattle.valuation_commands.specs.ValueParts.{flow_of, inquiry_of}
use Rattle.valuation_commands.specs.ValuePromise.{question}
use Rattle.valuation_commands.proofs.ScenarioParts.{lacks_in_one, without_totals}
use Rattle.valuation_commands.proofs.ValueParts.{day_fits, most_fits}
use Rattle.valuation_commands.proofs.scenarios.totals_of.Goals as goal

pub totals-requires-clause-bound : goal.totals-requires-clause-bound
totals-requires-clause-bound c =
    let b = code_book c.args.file.now in
    let most = c.args.asking.now.most in
    to_z-of_z w128 most (most_fits b c.args.asking.now.setting.days.items most (record { accepted = c.requires.asks.accepted; is_most = c.requires.most })) ∙ c.requires.most

pub totals-requires-clause-inquiry : goal.totals-requires-clause-inquiry
totals-requires-clause-inquiry c =
    let d = declarations c.args.file.now.decls in
    let p = c.args.asking.now.parties in
    let day = c.args.asking.now.day in
    let curve = c.args.curve.now in
    let h = c.requires.asks.is_question curve in
    record {
      code = record { setting = c.requires.asks.setting; closed = c.requires.readable.closed; accepted = c.requires.asks.accepted };
      question = subst (λ (t : ℤ). IsQuestion d (asked_on curve t p.from p.to p.asset)) (sym (day_fits d (question day curve (flow_of p)) h)) h;
    }

pub returns-in-Ok : goal.returns-in-Ok
returns-in-Ok c =
    let d = declarations c.args.file.now.decls in
    let p = c.args.asking.now.parties in
    let day = c.args.asking.now.day in
    let curve = c.args.curve.now in
    let asked : ℤ → Inquiry = λ t. asked_of c.args.file.now c.args.asking.now.setting curve t p.from p.to p.asset in
    let same = day_fits d (question day curve (flow_of p)) (c.requires.asks.is_question curve) in
    record {
      are_totals = subst (λ (t : ℤ). AreTotals (asked t) c.args.set.now c.in-Ok.totals) same c.in-Ok.ensures.answer;
      small = c.in-Ok.ensures.small;
    }

pub stop_of_totals-requires : goal.stop_of_totals-requires
stop_of_totals-requires c =
    let p = c.args.asking.now.parties in
    lacks_in_one (asked_of c.args.file.now c.args.asking.now.setting c.args.curve.now (to_z w64 (of_z w64 c.args.asking.now.day)) p.from p.to p.asset) c.args.set.now c.in-Err.error c.in-Err.ensures.answer

pub returns-in-Err : goal.returns-in-Err
returns-in-Err c =
    let d = declarations c.args.file.now.decls in
    let p = c.args.asking.now.parties in
    let day = c.args.asking.now.day in
    let curve = c.args.curve.now in
    let asked : ℤ → Inquiry = λ t. asked_of c.args.file.now c.args.asking.now.setting curve t p.from p.to p.asset in
    let same = day_fits d (question day curve (flow_of p)) (c.requires.asks.is_question curve) in
    without_totals (by_factors (inquiry_of c.args.file.now c.args.asking.now) curve) c.args.set.now c.in-Err.error c.stop_of_totals.result
    (subst (λ (t : ℤ). AnswersTotals (asked t) c.args.set.now (Err c.in-Err.error)) same c.in-Err.ensures.answer) c.stop_of_totals.ensures
