-- What code is worth over the same tables has one text, by `value` and by `scenarios`.
use Rattle.std.proofs.Common.{◌≡◌, ◌∙◌, ◌+◌, ℕ, ℤ, List, ap, subst, sym}
use Rattle.std.specs.Prelude.{Some}
use Rattle.term_model.specs.Environments.{Environment}
use Rattle.term_model.specs.Factors.{CurveRow}
use Rattle.term_model.specs.Flows.{Flow}
use Rattle.fixing_files.specs.Tables.{table_of}
use Rattle.fixing_files.proofs.CurveLawFacts.{one_curve}
use Rattle.payoff_terms.specs.CodeBooks.{CodeBook}
use Rattle.payoff_terms.specs.CodeValues.{Asked as Question}
use Rattle.scenario_set.specs.LawsTotals.{at_setting}
use Rattle.scenario_set.specs.Totals.{Inquiry}
use Rattle.scenario_set.proofs.TableLawFacts.{one_set}
use Rattle.report.specs.ValueLines.{value_text}
use Rattle.command_words.specs.Commands.{ScenariosAsked, ValueAsked}
use Rattle.command_courses.specs.Course.{Tells}
use Rattle.command_courses.specs.declared.status.Status.{Status}
use Rattle.command_courses.proofs.DayFacts.{one_day}
use Rattle.command_courses.proofs.FixingFacts.{HoldSame, hold_same}
use Rattle.valuation_commands.specs.ScenariosCourse.{scenarios_on}
use Rattle.valuation_commands.specs.ScenariosPromise.{AreTotalLines, asked_by}
use Rattle.valuation_commands.specs.ValueCourse.{numbers, value_on}
use Rattle.valuation_commands.specs.ValuePromise.{IsWorth, question}
use Rattle.valuation_commands.proofs.ScenarioFacts.{one_total}
use Rattle.valuation_commands.proofs.SoundValues.{one_flow}
use Rattle.valuation_commands.proofs.ValueReads.{same_value}

same_question : (m n : ℤ) (curve other : List CurveRow) (flow same : Flow) → m ≡ n → curve ≡ other → flow ≡ same → question m curve flow ≡ question n other same
same_question m n curve other flow same h k e =
    ap (λ (x : ℤ). question x curve flow) h ∙ ap (λ (x : List CurveRow). question n x flow) k ∙ ap (λ (x : Flow). question n other x) e

one_worth : (b : CodeBook) (setting : List ℕ) (fixings others : Environment) (asks : Question) (one other : List ℕ)
    → HoldSame fixings others → IsWorth b setting fixings asks one → IsWorth b setting others asks other → one ≡ other
one_worth b setting fixings others asks one other same h k =
    h.line ∙ ap (λ (m : ℤ). value_text m (b.declarations.amounts + 9)) (same_value b setting asks fixings others same h.amount k.amount h.is_value k.is_value) ∙ sym k.line

pub told_of_value : (asked : ValueAsked) (b : CodeBook) (table curve : List ℕ) (s t : Status) (one other : List ℕ)
    → Tells (value_on asked b table curve) s one → Tells (value_on asked b table curve) t other → one ≡ other
told_of_value asked b table curve s t one other (flow, names, (day, is, (a, all, (fixings, are, (factors, hold, (e, fixed, (done, worth)))))))
    (way, knows, (end, was, (x, each, (others, were, (rows, held, (y, fixes, (ended, more))))))) =
    let d = b.declarations in
    let same = hold_same d (Some table) fixings others are were in
    let asks = same_question end day rows factors way flow (one_day d asked.at end day was is)
    (one_curve (table_of curve) rows factors held hold) (one_flow d asked.between way flow knows.between names.between) in
    one_worth b (numbers b asked) fixings others (question day factors flow) one other same worth (subst (λ (q : Question). IsWorth b (numbers b asked) others q other) asks more)

same_asked : (b : CodeBook) (asked : ValueAsked) (m n : ℤ) (curve other : List CurveRow) (flow same : Flow) → m ≡ n → curve ≡ other → flow ≡ same → asked_by b asked m curve flow ≡ asked_by b asked n other same
same_asked b asked m n curve other flow same h k e = ap (λ (asks : Question). at_setting b (numbers b asked) asks) (same_question m n curve other flow same h k e)

pub told_of_scenarios : (asked : ScenariosAsked) (b : CodeBook) (table curve : List ℕ) (s t : Status) (one other : List ℕ)
    → Tells (scenarios_on asked b table curve) s one → Tells (scenarios_on asked b table curve) t other → one ≡ other
told_of_scenarios asked b table curve s t one other (flow, names, (day, is, (a, all, (set, are, (factors, hold, (c, few, (e, fixed, (done, lines))))))))
    (way, knows, (end, was, (x, each, (others, were, (rows, held, (v, fewer, (y, fixes, (ended, more)))))))) =
    let d = b.declarations in
    let same = one_set d (table_of table) set others are were in
    let asks = same_asked b asked.value end day rows factors way flow (one_day d asked.value.at end day was is)
    (one_curve (table_of curve) rows factors held hold) (one_flow d asked.value.between way flow knows.between names.between) in
    one_total (asked_by b asked.value day factors flow) set others same asked.mean one other lines
    (subst (λ (q : Inquiry). AreTotalLines q others asked.mean other) asks more)
