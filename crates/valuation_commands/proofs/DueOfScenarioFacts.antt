-- What the law of statuses says of `scenarios`: each cause makes its status due, and what stops the course has its cause.
use Rattle.std.proofs.Common.{◌≡◌, inl, inr, ℕ, ℤ, List, refl, subst, sym}
use Rattle.term_model.specs.Flows.{Flow}
use Rattle.fixing_files.specs.Tables.{table_of}
use Rattle.fixing_files.proofs.CurveLawFacts as curves
use Rattle.payoff_check.proofs.VerdictFacts.{accepted_not_refused}
use Rattle.payoff_terms.specs.CodeBooks.{CodeBook}
use Rattle.scenario_set.proofs.TableLawFacts.{faulty_hold_none}
use Rattle.report.specs.declared.fault_lines.Fault.{Fault}
use Rattle.command_words.specs.Commands.{ScenariosAsked}
use Rattle.command_courses.specs.Course.{Course, IsDue, Stops, behind}
use Rattle.valuation_commands.specs.DueOfScenarios.{CauseOfScenarios, DueOfScenarios, HasBadScenarioRow, of_factors, of_scenarios}
use Rattle.valuation_commands.specs.DueOfValue.{IsAcceptedAtSetting}
use Rattle.command_courses.specs.Days.{greatest_day}
use Rattle.valuation_commands.specs.ScenariosCourse.{scenarios_on, total_told}
use Rattle.valuation_commands.specs.ScenarioStages.{scenarios_of}
use Rattle.valuation_commands.specs.ScenariosPromise.{AsksInScenarios, asked_by, inquiry_in}
use Rattle.valuation_commands.specs.ValueStages.{accepted_code, curve_of}
use Rattle.command_courses.specs.Statuses.{status_of}
use Rattle.valuation_commands.specs.ValueCourse.{numbers}
use Rattle.valuation_commands.specs.ValuePromise.{WordsFitCode, first_unknown}
use Rattle.command_courses.specs.declared.status.Status.{Status}
use Rattle.command_courses.specs.declared.status.Status.TheVariants as status
use Rattle.valuation_commands.proofs.NamePlaces.{declared_names_have_places}
use Rattle.command_courses.proofs.DayFacts.{in_range_or_not}
use Rattle.valuation_commands.proofs.ScenarioFacts.{all_or_lack, few_or_many}
use Rattle.command_courses.proofs.StageFacts.{none_or_some}

module _ (asked : ScenariosAsked) (table curve : List ℕ) (b : CodeBook) where
  -- what is left of the course behind the words
  abbrev behind_words : Flow → ℤ → Course
  behind_words flow day =
      behind (accepted_code b (numbers b asked.value)) (λ _. behind (scenarios_of b.declarations table 2) (λ set. behind (curve_of curve 3) (λ factors.
      total_told (asked_by b asked.value day factors flow) set asked.mean)))

  at_words : (s : Status) (day : ℤ) → WordsFitCode b.declarations asked.value day → ((flow : Flow) → IsDue (behind_words flow day) s) → IsDue (scenarios_on asked b table curve) s
  at_words s day fit due =
      let flow = declared_names_have_places b.declarations asked.value fit.known in
      inr (flow.0, record { known = fit.known; between = flow.1 }, inr (day, fit.is_day, due flow.0))

  row_is_due : (day : ℤ) → WordsFitCode b.declarations asked.value day → IsAcceptedAtSetting asked.value b → HasBadScenarioRow b.declarations table curve → IsDue (scenarios_on asked b table curve) status.BadRow
  row_is_due day fit accepted (of_scenarios row first) =
      at_words status.BadRow day fit (λ flow. inr (tt, accepted, inl (refl, λ set p. faulty_hold_none b.declarations (table_of table) row set first p)))
  row_is_due day fit accepted (of_factors set holds row first) =
      at_words status.BadRow day fit (λ flow. inr (tt, accepted, inr (set, holds, inl (refl, λ factors p. curves.faulty_hold_none (table_of curve) row factors first p))))

  -- a status that is due behind the tables
  behind_tables : (s : Status) (asks : AsksInScenarios b asked.value table curve) → IsDue (total_told (inquiry_in asks) asks.set asked.mean) s → IsDue (scenarios_on asked b table curve) s
  behind_tables s asks due =
      inr (asks.flow, record { known = asks.fit.known; between = asks.between }, inr (asks.day, asks.fit.is_day, inr (tt, asks.accepted, inr (asks.set, asks.holds, inr (asks.curve, asks.is_curve, due)))))

  total_is_due : (s : Status) → CauseOfScenarios s asked.value table curve b → IsDue (scenarios_on asked b table curve) s
  total_is_due status.UnknownName h = inl (refl, λ flow p. none_or_some (first_unknown b.declarations asked.value) h.0 p.known h.1)
  total_is_due status.DayRange h =
      let flow = declared_names_have_places b.declarations asked.value h.known in
      inr (flow.0, record { known = h.known; between = flow.1 }, inl (refl, λ day p. in_range_or_not b.declarations greatest_day asked.value.at day p h.out))
  total_is_due status.Refused h = at_words status.Refused h.day h.fit (λ flow. inl (refl, λ a p. h.refused p))
  total_is_due status.BadRow h = row_is_due h.day h.fit h.accepted h.bad
  total_is_due status.TooMany h = behind_tables status.TooMany h.asks (inl (refl, λ a p. few_or_many _ _ p h.many))
  total_is_due status.Missing h = behind_tables status.Missing h.asks (inr (tt, h.few, inl (refl, λ a p. h.unfixed p)))
  total_is_due status.Done h = behind_tables status.Done h.asks (inr (tt, h.few, inr (tt, h.fixed, refl)))
  total_is_due _ h = absurd h

  by_fault : (f g : Fault) → f ≡ g → CauseOfScenarios (status_of g) asked.value table curve b → CauseOfScenarios (status_of f) asked.value table curve b
  by_fault f g is h = subst (λ (x : Fault). CauseOfScenarios (status_of x) asked.value table curve b) (sym is) h

  cause_of_scenarios : (f : Fault) → Stops (scenarios_on asked b table curve) f → CauseOfScenarios (status_of f) asked.value table curve b
  cause_of_scenarios f (inl h) = by_fault f _ h.fault_is (h.name, h.first)
  cause_of_scenarios f (inr (flow, names, inl h)) = by_fault f _ h.fault_is (record { known = names.known; out = h.out })
  cause_of_scenarios f (inr (flow, names, inr (day, is, inl h))) =
      by_fault f _ h.fault_is (record {
        day = day;
        fit = record { known = names.known; is_day = is };
        refused = λ accepted. accepted_not_refused b.declarations (numbers b asked.value) b.code h.rule h.node accepted h.refusal;
      })
  cause_of_scenarios f (inr (flow, names, inr (day, is, inr (a, all, inl h)))) =
      by_fault f _ h.fault_is (record {
        day = day;
        fit = record { known = names.known; is_day = is };
        accepted = all;
        bad = of_scenarios h.row h.first;
      })
  cause_of_scenarios f (inr (flow, names, inr (day, is, inr (a, all, inr (set, are, inl h))))) =
      by_fault f _ h.fault_is (record {
        day = day;
        fit = record { known = names.known; is_day = is };
        accepted = all;
        bad = of_factors set are h.row h.first;
      })
  cause_of_scenarios f (inr (flow, names, inr (day, is, inr (a, all, inr (set, are, inr (factors, hold, inl h)))))) =
      by_fault f _ h.fault_is (record {
        asks = record {
          day = day;
          fit = record { known = names.known; is_day = is };
          flow = flow;
          between = names.between;
          accepted = all;
          set = set;
          holds = are;
          curve = factors;
          is_curve = hold;
        };
        many = h.many;
      })
  cause_of_scenarios f (inr (flow, names, inr (day, is, inr (a, all, inr (set, are, inr (factors, hold, inr (c, few, inl h))))))) =
      by_fault f _ h.fault_is (record {
        asks = record {
          day = day;
          fit = record { known = names.known; is_day = is };
          flow = flow;
          between = names.between;
          accepted = all;
          set = set;
          holds = are;
          curve = factors;
          is_curve = hold;
        };
        few = few;
        unfixed = λ fixed. all_or_lack (asked_by b asked.value day factors flow) set h.number h.place fixed h.first;
      })
  cause_of_scenarios f (inr (flow, names, inr (day, is, inr (a, all, inr (set, are, inr (factors, hold, inr (c, few, inr (e, fixed, none)))))))) = absurd none

pub due_of_scenarios : DueOfScenarios
due_of_scenarios asked table curve b = record { due = total_is_due asked table curve b; cause = cause_of_scenarios asked table curve b }
