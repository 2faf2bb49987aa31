-- The parts of `scenarios`: why scenarios have no total, what totals can be written, and that what stops a part stops the course.
use Rattle.std.proofs.Common.{◌∙◌, ◌<◌, inl, inr, ℕ, ℤ, List, length, ap, refl, subst, sym}
use Rattle.std.specs.Prelude.{Err}
use Rattle.std.proofs.lemmas.List.{length-map}
use Rattle.std.proofs.lemmas.Option.{slice_get_within}
use Rattle.decimal.specs.declared.rounding.Mode.{Mode}
use Rattle.scenario_set.specs.Scenarios.{NamedMap}
use Rattle.scenario_set.specs.TotalLines.{CanBeWritten}
use Rattle.scenario_set.specs.Totals.{AnswersTotals, Inquiry}
use Rattle.scenario_set.specs.declared.outcomes.Totals.{Totals}
use Rattle.scenario_set.specs.declared.outcomes.TotalsErr.{TotalsErr}
use Rattle.scenario_set.specs.declared.outcomes.TotalsErr.TheVariants.{TooMany, Missing, NoMemory}
use Rattle.report.specs.declared.fault_lines.Fault.{Fault}
use Rattle.report.specs.declared.fault_lines.Fault.TheVariants as fault
use Rattle.command_courses.specs.Course.{Stops}
use Rattle.valuation_commands.specs.ScenarioParts.{AnswersTotalsOf, AreTotalsFound, HaveNoTotal, IsStopOfTotals, LacksInOne}
use Rattle.valuation_commands.specs.ScenariosCourse.{total_told}
use Rattle.command_courses.specs.declared.stop.Stop.{Stop}

module _ (q : Inquiry) (set : List NamedMap) where
  -- the scenario that lacks a place is one of the set
  pub lacks_in_one : (e : TotalsErr) → AnswersTotals q set (Err e) → LacksInOne set e
  lacks_in_one (TooMany count) h = tt
  lacks_in_one (Missing number label day) h = slice_get_within set number h.lacks.scenario h.lacks.stands
  lacks_in_one NoMemory h = tt

  pub without_totals : (e : TotalsErr) (s : Stop) → AnswersTotals q set (Err e) → IsStopOfTotals q.book.declarations set e s → AnswersTotalsOf q set (Err s)
  without_totals (TooMany count) s h is =
      subst (λ (x : Stop). AnswersTotalsOf q set (Err x)) (sym is) (inl (record { many = h.0; fault_is = ap (λ (n : ℕ). fault.Scenarios n) h.1 }))
  without_totals (Missing number label day) s h (inl is) =
      subst (λ (x : Stop). AnswersTotalsOf q set (Err x)) (sym is) (inr (record { number = number; place = record { label = label; day = day }; first = h; fault_is = refl }))
  without_totals (Missing number label day) s h (inr is) = subst (λ (x : Stop). AnswersTotalsOf q set (Err x)) (sym is) tt
  without_totals NoMemory s h is = subst (λ (x : Stop). AnswersTotalsOf q set (Err x)) (sym is) tt

  pub can_be_written : (t : Totals) → AreTotalsFound q set t → CanBeWritten set t
  can_be_written t h =
      let each = ap (λ (vs : List ℤ). length vs) h.are_totals.values ∙ length-map set _ in
      record {
        each = each;
        values = h.small.values;
        total = h.small.total;
        least = subst (λ (n : ℕ). t.least < n) each h.are_totals.least.within;
        greatest = subst (λ (n : ℕ). t.greatest < n) each h.are_totals.greatest.within;
      }

  -- scenarios without a total stop what is left of the course
  pub no_total : (mean : Mode) (f : Fault) → HaveNoTotal q set f → Stops (total_told q set mean) f
  no_total mean f (inl many) = inl many
  no_total mean f (inr lack) = inr (tt, lack.first.few, inl lack)
