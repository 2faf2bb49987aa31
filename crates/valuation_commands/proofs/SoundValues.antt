-- The courses of `value` and `scenarios` are sound: their stages exclude one another, what passes on something else has a course that is
-- alike, and their statuses are those of commands.
use Rattle.std.proofs.Common.{◌≡◌, ◌∙◌, ℕ, ℤ, List, ap, refl, sym}
use Rattle.std.specs.Prelude.{Some}
use Rattle.decimal.specs.declared.rounding.Mode.{Mode}
use Rattle.term_model.specs.Declarations.{Declarations}
use Rattle.term_model.specs.Environments.{Environment}
use Rattle.term_model.specs.Factors.{CurveRow}
use Rattle.term_model.specs.Flows.{Flow}
use Rattle.fixing_files.specs.Tables.{table_of}
use Rattle.fixing_files.proofs.CurveLawFacts.{one_curve}
use Rattle.payoff_terms.specs.CodeBooks.{CodeBook}
use Rattle.payoff_terms.specs.CodeValues.{Asked as Question}
use Rattle.payoff_lang.proofs.OneCode.{one_code_text}
use Rattle.scenario_set.specs.Scenarios.{NamedMap}
use Rattle.scenario_set.specs.Totals.{Inquiry}
use Rattle.scenario_set.proofs.TableLawFacts.{one_set}
use Rattle.command_words.specs.Commands.{Between, ScenariosAsked, ValueAsked}
use Rattle.command_courses.specs.Course.{Course, behind, tells}
use Rattle.command_courses.specs.Days.{day_of_word}
use Rattle.command_courses.specs.FixingTables.{fixed_by}
use Rattle.command_courses.specs.Inputs.{file_at}
use Rattle.command_courses.specs.declared.status.Status.TheVariants as status
use Rattle.command_courses.proofs.CourseFacts.{Alike, OfCommand, Sound, alike_behind, alike_ends, one_next, onward, same_stage, sound_tells}
use Rattle.command_courses.proofs.DayFacts.{one_day}
use Rattle.command_courses.proofs.FixingFacts.{HoldSame, hold_same}
use Rattle.command_courses.proofs.StageFacts.{day_is, fixed_by_is, some_same}
use Rattle.valuation_commands.specs.ScenarioStages.{few_scenarios, fixed_in_all, scenarios_of}
use Rattle.valuation_commands.specs.ScenariosCourse.{scenarios_course, scenarios_on, total_told}
use Rattle.valuation_commands.specs.ScenariosPromise.{AreTotalLines, asked_by}
use Rattle.valuation_commands.specs.ValueCourse.{asks_code, numbers, value_course, value_on}
use Rattle.valuation_commands.specs.ValuePromise.{AreBetween, IsWorth, question}
use Rattle.valuation_commands.specs.ValueStages.{accepted_code, code_fixed, code_of, curve_of, names_of_value}
use Rattle.valuation_commands.proofs.ScenarioFacts.{few_is, fixed_is, scenarios_is, total_alike}
use Rattle.valuation_commands.proofs.StageFacts.{accepted_code_is, code_fixed_is, code_is, curve_is, names_is}
use Rattle.valuation_commands.proofs.ValueReads.{same_missing_of_code}

-- ---- `value`

pub one_flow : (d : Declarations) (between : Between) (one other : Flow) → AreBetween d between one → AreBetween d between other → one ≡ other
one_flow d between one other h k =
    ap (λ (x : ℕ). let f : Flow = record { from = x; to = one.to; asset = one.asset } in f) (some_same one.from other.from (sym h.from ∙ k.from))
    ∙ ap (λ (x : ℕ). let f : Flow = record { from = other.from; to = x; asset = one.asset } in f) (some_same one.to other.to (sym h.to ∙ k.to))
    ∙ ap (λ (x : ℕ). let f : Flow = record { from = other.from; to = other.to; asset = x } in f) (some_same one.asset other.asset (sym h.asset ∙ k.asset))

code_alike : (b : CodeBook) (setting : List ℕ) (one other : Environment) (asks : Question) (next more : Course) → HoldSame one other → Alike next more
    → Alike (behind (code_fixed b setting one asks) (λ _. next)) (behind (code_fixed b setting other asks) (λ _. more))
code_alike b setting one other asks next more same alike =
    let e = same_missing_of_code b.declarations b.code setting asks one other same in
    alike_behind (Unit {0}) (code_fixed b setting one asks) (code_fixed b setting other asks) (λ _. next) (λ _. more)
    (record {
      status = refl;
      passes = λ a p. sym e ∙ p;
      back = λ a p. e ∙ p;
      faults = λ f h. record { place = h.place; first = sym e ∙ h.first; fault_is = h.fault_is };
    }) (λ a p. alike)

-- any command that asks for the value of code, whatever it tells of it
sound_asks : (asked : ValueAsked) (b : CodeBook) (next : Flow → ℤ → Course) → ((flow : Flow) (day : ℤ) → Sound OfCommand (next flow day)) → Sound OfCommand (asks_code asked b next)
sound_asks asked b next sound =
    let d = b.declarations in
    one_next OfCommand Flow (names_of_value d asked) _ tt (names_is d asked) (λ one other p q. one_flow d asked.between one other p.between q.between) (λ flow p.
    one_next OfCommand ℤ (day_of_word d asked.at) _ tt (day_is d asked.at) (one_day d asked.at) (λ day q.
    onward OfCommand (accepted_code b (numbers b asked)) (next flow day) tt (accepted_code_is b (numbers b asked)) (sound flow day)))

sound_value : (asked : ValueAsked) (b : CodeBook) (table curve : List ℕ) → Sound OfCommand (value_on asked b table curve)
sound_value asked b table curve =
    let d = b.declarations in
    let setting = numbers b asked in
    let last : ℤ → Flow → Environment → List CurveRow → Course = λ day flow fixings factors. behind (code_fixed b setting fixings (question day factors flow)) (λ _. tells (IsWorth b setting fixings (question day factors flow))) in
    sound_asks asked b (λ flow day. behind (fixed_by d (Some table) 2) (λ fixings. behind (curve_of curve 3) (λ factors. last day flow fixings factors))) (λ flow day. (
      tt,
      fixed_by_is d (Some table) 2,
      λ one other h k. (let same = hold_same d (Some table) one other h k in
          alike_behind (List CurveRow) (curve_of curve 3) (curve_of curve 3) (last day flow one) (last day flow other) (same_stage (List CurveRow) (curve_of curve 3))
          (λ factors r. code_alike b setting one other (question day factors flow) (tells (IsWorth b setting one (question day factors flow))) (tells (IsWorth b setting other (question day factors flow))) same
          (alike_ends (λ s. s ≡ status.Done) (IsWorth b setting one (question day factors flow)) (IsWorth b setting other (question day factors flow))))),
      λ fixings h.
          one_next OfCommand (List CurveRow) (curve_of curve 3) (last day flow fixings) tt (curve_is curve 3) (one_curve (table_of curve)) (λ factors r.
          onward OfCommand (code_fixed b setting fixings (question day factors flow)) (tells (IsWorth b setting fixings (question day factors flow))) tt
          (code_fixed_is b setting fixings (question day factors flow)) (sound_tells (IsWorth b setting fixings (question day factors flow)))),
    ))

-- ---- `scenarios`

sound_total : (q : Inquiry) (set : List NamedMap) (mean : Mode) → Sound OfCommand (total_told q set mean)
sound_total q set mean =
    onward OfCommand (few_scenarios q set) (behind (fixed_in_all q set) (λ _. tells (AreTotalLines q set mean))) tt (few_is q set)
    (onward OfCommand (fixed_in_all q set) (tells (AreTotalLines q set mean)) tt (fixed_is q set) (sound_tells (AreTotalLines q set mean)))

sound_scenarios : (asked : ScenariosAsked) (b : CodeBook) (table curve : List ℕ) → Sound OfCommand (scenarios_on asked b table curve)
sound_scenarios asked b table curve =
    let d = b.declarations in
    let last : ℤ → Flow → List NamedMap → List CurveRow → Course = λ day flow set factors. total_told (asked_by b asked.value day factors flow) set asked.mean in
    sound_asks asked.value b (λ flow day. behind (scenarios_of d table 2) (λ set. behind (curve_of curve 3) (λ factors. last day flow set factors))) (λ flow day. (
      tt,
      scenarios_is d table 2,
      λ one other h k. (let same = one_set d (table_of table) one other h k in
          alike_behind (List CurveRow) (curve_of curve 3) (curve_of curve 3) (last day flow one) (last day flow other) (same_stage (List CurveRow) (curve_of curve 3))
          (λ factors r. total_alike (asked_by b asked.value day factors flow) one other same asked.mean)),
      λ set h.
          one_next OfCommand (List CurveRow) (curve_of curve 3) (last day flow set) tt (curve_is curve 3) (one_curve (table_of curve)) (λ factors r.
          sound_total (asked_by b asked.value day factors flow) set asked.mean),
    ))

-- ---- the whole commands, over the bytes of their files

pub sound_value_course : (asked : ValueAsked) (inputs : List (List ℕ)) → Sound OfCommand (value_course asked inputs)
sound_value_course asked inputs =
    let bytes = file_at inputs 0 in
    one_next OfCommand CodeBook (code_of bytes) _ tt (code_is bytes) (one_code_text bytes) (λ b p. sound_value asked b (file_at inputs 1) (file_at inputs 2))

pub sound_scenarios_course : (asked : ScenariosAsked) (inputs : List (List ℕ)) → Sound OfCommand (scenarios_course asked inputs)
sound_scenarios_course asked inputs =
    let bytes = file_at inputs 0 in
    one_next OfCommand CodeBook (code_of bytes) _ tt (code_is bytes) (one_code_text bytes) (λ b p. sound_scenarios asked b (file_at inputs 1) (file_at inputs 2))
