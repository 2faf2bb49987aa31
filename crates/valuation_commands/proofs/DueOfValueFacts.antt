-- What the law of statuses says of `value`: each cause makes its status due, and what stops the course has its cause.
use Rattle.std.proofs.Common.{◌≡◌, inl, inr, ℕ, ℤ, List, refl, subst, sym}
use Rattle.std.specs.Prelude.{Some}
use Rattle.term_model.specs.Flows.{Flow}
use Rattle.fixing_files.specs.Tables.{IsFirstFault, table_of}
use Rattle.fixing_files.proofs.CurveLawFacts.{faulty_hold_none}
use Rattle.fixing_files.proofs.LawFacts.{faulty_hold_nothing}
use Rattle.payoff_terms.specs.CodeBooks.{CodeBook}
use Rattle.payoff_check.proofs.VerdictFacts.{accepted_not_refused}
use Rattle.report.specs.declared.fault_lines.Fault.{Fault}
use Rattle.command_words.specs.Commands.{ValueAsked}
use Rattle.command_courses.specs.Course.{Course, IsDue, Stops, behind, tells}
use Rattle.command_courses.specs.Days.{greatest_day}
use Rattle.command_courses.specs.FixingTables.{fixed_by}
use Rattle.command_courses.specs.Statuses.{status_of}
use Rattle.command_courses.specs.declared.status.Status.{Status}
use Rattle.command_courses.specs.declared.status.Status.TheVariants as status
use Rattle.command_courses.proofs.DayFacts.{in_range_or_not}
use Rattle.command_courses.proofs.StageFacts.{none_or_some}
use Rattle.valuation_commands.specs.DueOfValue.{CauseOfValue, DueOfValue, HasBadRow, IsAcceptedAtSetting, missing_at_setting, of_curve, of_fixings}
use Rattle.valuation_commands.specs.ValueCourse.{numbers, value_on}
use Rattle.valuation_commands.specs.ValuePromise.{IsWorth, WordsFitCode, first_unknown, question}
use Rattle.valuation_commands.specs.ValueStages.{accepted_code, code_fixed, curve_of}
use Rattle.valuation_commands.proofs.NamePlaces.{declared_names_have_places}

module _ (asked : ValueAsked) (table curve : List ℕ) (b : CodeBook) where
  -- what is left of the course behind the words
  abbrev behind_words : Flow → ℤ → Course
  behind_words flow day =
      behind (accepted_code b (numbers b asked)) (λ _. behind (fixed_by b.declarations (Some table) 2) (λ fixings. behind (curve_of curve 3) (λ factors.
      behind (code_fixed b (numbers b asked) fixings (question day factors flow)) (λ _. tells (IsWorth b (numbers b asked) fixings (question day factors flow))))))

  at_words : (s : Status) (day : ℤ) → WordsFitCode b.declarations asked day → ((flow : Flow) → IsDue (behind_words flow day) s) → IsDue (value_on asked b table curve) s
  at_words s day fit due =
      let flow = declared_names_have_places b.declarations asked fit.known in
      inr (flow.0, record { known = fit.known; between = flow.1 }, inr (day, fit.is_day, due flow.0))

  row_is_due : (day : ℤ) → WordsFitCode b.declarations asked day → IsAcceptedAtSetting asked b → HasBadRow b.declarations table curve → IsDue (value_on asked b table curve) status.BadRow
  row_is_due day fit accepted (of_fixings row first) =
      at_words status.BadRow day fit (λ flow. inr (tt, accepted, inl (refl, λ fixings p. faulty_hold_nothing b.declarations (table_of table) row fixings first p)))
  row_is_due day fit accepted (of_curve fixings are row first) =
      at_words status.BadRow day fit (λ flow. inr (tt, accepted, inr (fixings, are, inl (refl, λ factors p. faulty_hold_none (table_of curve) row factors first p))))

  value_is_due : (s : Status) → CauseOfValue s asked table curve b → IsDue (value_on asked b table curve) s
  value_is_due status.UnknownName h = inl (refl, λ flow p. none_or_some (first_unknown b.declarations asked) h.0 p.known h.1)
  value_is_due status.DayRange h =
      let flow = declared_names_have_places b.declarations asked h.known in
      inr (flow.0, record { known = h.known; between = flow.1 }, inl (refl, λ day p. in_range_or_not b.declarations greatest_day asked.at day p h.out))
  value_is_due status.Refused h = at_words status.Refused h.day h.fit (λ flow. inl (refl, λ a p. h.refused p))
  value_is_due status.BadRow h = row_is_due h.day h.fit h.accepted h.bad
  value_is_due status.Missing h =
      inr (h.flow, record { known = h.fit.known; between = h.between }, inr (h.day, h.fit.is_day, inr (tt, h.accepted, inr (h.fixings, h.are_fixings, inr (h.factors, h.are_factors, inl (refl, λ a p. h.unfixed p))))))
  value_is_due status.Done h =
      inr (h.flow, record { known = h.fit.known; between = h.between }, inr (h.day, h.fit.is_day, inr (tt, h.accepted, inr (h.fixings, h.are_fixings, inr (h.curve, h.is_curve, inr (tt, h.fixed, refl))))))
  value_is_due _ h = absurd h

  by_fault_of_value : (f g : Fault) → f ≡ g → CauseOfValue (status_of g) asked table curve b → CauseOfValue (status_of f) asked table curve b
  by_fault_of_value f g is h = subst (λ (x : Fault). CauseOfValue (status_of x) asked table curve b) (sym is) h

  cause_of_value : (f : Fault) → Stops (value_on asked b table curve) f → CauseOfValue (status_of f) asked table curve b
  cause_of_value f (inl h) = by_fault_of_value f _ h.fault_is (h.name, h.first)
  cause_of_value f (inr (flow, names, inl h)) = by_fault_of_value f _ h.fault_is (record { known = names.known; out = h.out })
  cause_of_value f (inr (flow, names, inr (day, is, inl h))) =
      by_fault_of_value f _ h.fault_is (record {
        day = day;
        fit = record { known = names.known; is_day = is };
        refused = λ accepted. accepted_not_refused b.declarations (numbers b asked) b.code h.rule h.node accepted h.refusal;
      })
  cause_of_value f (inr (flow, names, inr (day, is, inr (a, all, inl h)))) =
      by_fault_of_value f _ h.fault_is (record {
        day = day;
        fit = record { known = names.known; is_day = is };
        accepted = all;
        bad = of_fixings h.row (subst (λ (x : List ℕ). IsFirstFault b.declarations (table_of x) h.row) (let e : Some h.bytes ≡ Some table = sym h.named in cc) h.first);
      })
  cause_of_value f (inr (flow, names, inr (day, is, inr (a, all, inr (fixings, are, inl h))))) =
      by_fault_of_value f _ h.fault_is (record {
        day = day;
        fit = record { known = names.known; is_day = is };
        accepted = all;
        bad = of_curve fixings are h.row h.first;
      })
  cause_of_value f (inr (flow, names, inr (day, is, inr (a, all, inr (fixings, are, inr (factors, hold, inl h)))))) =
      by_fault_of_value f _ h.fault_is (record {
        day = day;
        fit = record { known = names.known; is_day = is };
        flow = flow;
        between = names.between;
        accepted = all;
        fixings = fixings;
        are_fixings = are;
        factors = factors;
        are_factors = hold;
        unfixed = λ fixed. none_or_some (missing_at_setting asked b fixings (question day factors flow)) h.place fixed h.first;
      })
  cause_of_value f (inr (flow, names, inr (day, is, inr (a, all, inr (fixings, are, inr (factors, hold, inr (e, fixed, none))))))) = absurd none

pub due_of_value : DueOfValue
due_of_value asked table curve b = record { due = value_is_due asked table curve b; cause = cause_of_value asked table curve b }
