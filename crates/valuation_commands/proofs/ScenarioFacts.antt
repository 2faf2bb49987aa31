-- The stages of `scenarios` exclude one another; and over two lists of the same scenarios a command goes alike, and tells one text.
use Rattle.std.proofs.Common.{◌≡◌, ◌∙◌, ◌*◌, ◌+◌, ◌^◌, ◌<◌, ◌≤◌, ℕ, ℤ, pos, List, [], ◌∷◌, ◌++◌, length, map, ap, ap₂, arith, refl, subst, sym}
use Rattle.std.specs.Prelude.{Option, Some, None, Ok, Err, option_map, slice_get, unwrap_or}
use Rattle.std.specs.List.{flat_map}
use Rattle.std.proofs.lemmas.Option.{slice_get-map, slice_get_within}
use Rattle.decimal.specs.declared.rounding.Mode.{Mode}
use Rattle.term_model.specs.Declarations.{Declarations}
use Rattle.term_model.specs.Environments.{Place, held}
use Rattle.fixing_files.specs.Tables.{table_of}
use Rattle.fixing_files.specs.declared.faults.RowFault.{RowFault}
use Rattle.payoff_terms.proofs.CodeAlikeFacts.{code_stays}
use Rattle.payoff_eval.proofs.SameFacts.{same_lacked}
use Rattle.scenario_set.specs.LawsTotals.{SameTotals}
use Rattle.scenario_set.specs.Scenarios.{NamedMap, SameScenarios}
use Rattle.scenario_set.specs.TotalLines.{ends_text, name_at, name_or_none, named_value, named_values, sums_text, total_text, value_line}
use Rattle.scenario_set.specs.Totals.{Inquiry, IsFirstLack, IsFixedIn, LacksIn, lacked_in, mean_of, most_worth, value_at}
use Rattle.scenario_set.specs.declared.outcomes.Totals.{Totals}
use Rattle.scenario_set.specs.declared.outcomes.TotalsErr.TheVariants.{Missing}
use Rattle.scenario_set.proofs.OneTotalFacts.{answers_same, opposite, same_back, same_count, totals_are_one}
use Rattle.scenario_set.proofs.TableLawFacts.{faults_unique, faulty_hold_none}
use Rattle.report.specs.declared.fault_lines.Fault.TheVariants as fault
use Rattle.command_courses.specs.Course.{behind, tells}
use Rattle.command_courses.specs.Names.{label_name}
use Rattle.valuation_commands.specs.ScenarioStages.{AreAllFixedIn, few_scenarios, fixed_in_all, missing_in, scenarios_of}
use Rattle.valuation_commands.specs.ScenariosCourse.{total_told}
use Rattle.valuation_commands.specs.ScenariosPromise.{AreTotalLines}
use Rattle.command_courses.specs.Statuses.{status_of}
use Rattle.command_courses.specs.declared.status.Status.TheVariants as status
use Rattle.command_courses.proofs.CourseFacts.{Alike, IsStage, SameStage, alike_behind, alike_ends}
use Rattle.command_courses.proofs.StageFacts.{none_or_some, some_same}

-- ---- the stages

pub scenarios_is : (d : Declarations) (bytes : List ℕ) (place : ℕ) → IsStage (List NamedMap) (scenarios_of d bytes place)
scenarios_is d bytes place = record {
  excludes = λ set f p h. faulty_hold_none d (table_of bytes) h.row set h.first p;
  one_fault = λ f g h k. h.fault_is ∙ ap (λ (x : RowFault). fault.Row place x) (faults_unique d (table_of bytes) h.row k.row h.first k.first) ∙ sym k.fault_is;
  status_is = λ f h. ap status_of h.fault_is;
}

pub few_or_many : (count most : ℕ) → count * most ≤ 10 ^ 37 → 10 ^ 37 < count * most → ⊥
few_or_many count most few many = omega (arith, few, many)

module _ (q : Inquiry) (set : List NamedMap) where
  pub few_is : IsStage (Unit {0}) (few_scenarios q set)
  few_is = record {
    excludes = λ a f p h. few_or_many (length set) (most_worth q) p h.many;
    one_fault = λ f g h k. h.fault_is ∙ sym k.fault_is;
    status_is = λ f h. ap status_of h.fault_is;
  }

  fixed_or_lacks : (i : ℕ) (p : Place) → IsFixedIn q set i → LacksIn q set i p → ⊥
  fixed_or_lacks i p f l =
      let is = some_same f.scenario l.scenario (sym f.stands ∙ l.stands) in
      let fixed = subst (λ (s : NamedMap). lacked_in q.book q.setting q.asked s.map ≡ None) is f.fixed in
      none_or_some (lacked_in q.book q.setting q.asked l.scenario.map) p fixed l.lacked

  pub all_or_lack : (i : ℕ) (p : Place) → AreAllFixedIn q set → IsFirstLack q set i p → ⊥
  all_or_lack i p all lack = fixed_or_lacks i p (all i (slice_get_within set i lack.lacks.scenario lack.lacks.stands)) lack.lacks

  same_set : SameScenarios set set
  same_set = record {
    names = refl;
    maps = λ i s t e f. (let is = some_same s t (sym e ∙ f) in subst (λ (x : NamedMap). (at : Place) → held s.map at ≡ held x.map at) is (λ at. refl));
  }

  -- the first lack is one
  one_lack : (i j : ℕ) (p r : Place) → IsFirstLack q set i p → IsFirstLack q set j r → missing_in q.book.declarations set i p ≡ missing_in q.book.declarations set j r
  one_lack i j p r h k =
      let same : Missing i p.label p.day ≡ Missing j r.label r.day = totals_are_one code_stays q set set (Err (Missing i p.label p.day)) (Err (Missing j r.label r.day)) same_set h k in
      let number : i ≡ j = cc in
      let label : p.label ≡ r.label = cc in
      let day : p.day ≡ r.day = cc in
      ap (λ (n : ℕ). missing_in q.book.declarations set n p) number
      ∙ ap (λ (l : ℕ). fault.MissingIn (label_name q.book.declarations l) p.day (name_at set j)) label
      ∙ ap (λ (t : ℤ). fault.MissingIn (label_name q.book.declarations r.label) t (name_at set j)) day

  pub fixed_is : IsStage (Unit {0}) (fixed_in_all q set)
  fixed_is = record {
    excludes = λ a f p h. all_or_lack h.number h.place p h.first;
    one_fault = λ f g h k. h.fault_is ∙ one_lack h.number k.number h.place k.place h.first k.first ∙ sym k.fault_is;
    status_is = λ f h. ap status_of h.fault_is;
  }

-- ---- over the same scenarios

abbrev names : List NamedMap → List (List ℕ)
names set = map (λ (s : NamedMap). s.name) set

name_of : (o : Option NamedMap) → name_or_none o ≡ unwrap_or (option_map (λ (s : NamedMap). s.name) o) []
name_of None = refl
name_of (Some s) = refl

named_same : (one other : List NamedMap) (values : List ℤ) → names one ≡ names other → named_values one values ≡ named_values other values
named_same [] [] values same = refl
named_same [] (y ∷ other) values same = absurd (let no : ◌≡◌ {A = List (List ℕ)} [] (y.name ∷ names other) = same in cc)
named_same (x ∷ one) [] values same = absurd (let no : ◌≡◌ {A = List (List ℕ)} (x.name ∷ names one) [] = same in cc)
named_same (x ∷ one) (y ∷ other) [] same = refl
named_same (x ∷ one) (y ∷ other) (v ∷ values) same =
    let whole : x.name ∷ names one ≡ y.name ∷ names other = same in
    let head : x.name ≡ y.name = cc in
    let rest : names one ≡ names other = cc in
    ap₂ (λ (n : List ℕ) (ls : List (List ℕ × ℤ)). (n, v) ∷ ls) head (named_same one other values rest)

module _ (one other : List NamedMap) (same : SameScenarios one other) where
  name_same : (i : ℕ) → name_at one i ≡ name_at other i
  name_same i =
      name_of (slice_get one i)
      ∙ ap (λ (o : Option (List ℕ)). unwrap_or o []) (sym (slice_get-map (λ (s : NamedMap). s.name) one i) ∙ ap (λ (ns : List (List ℕ)). slice_get ns i) same.names ∙ slice_get-map (λ (s : NamedMap). s.name) other i)
      ∙ sym (name_of (slice_get other i))

  module _ (q : Inquiry) where
    few_same : SameStage (Unit {0}) (few_scenarios q one) (few_scenarios q other)
    few_same = record {
      status = refl;
      passes = λ a p. subst (λ (n : ℕ). n * most_worth q ≤ 10 ^ 37) (same_count one other same) p;
      back = λ a p. subst (λ (n : ℕ). n * most_worth q ≤ 10 ^ 37) (sym (same_count one other same)) p;
      faults = λ f h. record {
        many = subst (λ (n : ℕ). 10 ^ 37 < n * most_worth q) (same_count one other same) h.many;
        fault_is = h.fault_is ∙ ap (λ (n : ℕ). fault.Scenarios n) (same_count one other same);
      };
    }

-- what is fixed in one is fixed in the other
fixed_there : (q : Inquiry) (one other : List NamedMap) → SameScenarios one other → AreAllFixedIn q one → AreAllFixedIn q other
fixed_there q one other same all i within =
    let f = all i (subst (λ (n : ℕ). i < n) (sym (same_count one other same)) within) in
    let there = opposite one other (same_count one other same) i f.scenario f.stands in
    let d = q.book.declarations in
    record {
      scenario = there.0;
      stands = there.1;
      fixed = sym (same_lacked d q.book.code q.setting q.asked (pos d.start) f.scenario.map there.0.map (same.maps i f.scenario there.0 f.stands there.1)) ∙ f.fixed;
    }

module _ (q : Inquiry) (one other : List NamedMap) (same : SameScenarios one other) where
  fixed_same : SameStage (Unit {0}) (fixed_in_all q one) (fixed_in_all q other)
  fixed_same = record {
    status = refl;
    passes = λ a p. fixed_there q one other same p;
    back = λ a p. fixed_there q other one (same_back one other same) p;
    faults = λ f h. record {
      number = h.number;
      place = h.place;
      first = answers_same code_stays q one other (Err (Missing h.number h.place.label h.place.day)) same h.first;
      fault_is = h.fault_is ∙ ap (λ (name : List ℕ). fault.MissingIn (label_name q.book.declarations h.place.label) h.place.day name) (name_same one other same h.number);
    };
  }

  pub total_alike : (mean : Mode) → Alike (total_told q one mean) (total_told q other mean)
  total_alike mean =
      let next = behind (fixed_in_all q one) (λ _. tells (AreTotalLines q one mean)) in
      let more = behind (fixed_in_all q other) (λ _. tells (AreTotalLines q other mean)) in
      alike_behind (Unit {0}) (few_scenarios q one) (few_scenarios q other) (λ _. next) (λ _. more) (few_same one other same q) (λ a p.
      alike_behind (Unit {0}) (fixed_in_all q one) (fixed_in_all q other) (λ _. tells (AreTotalLines q one mean)) (λ _. tells (AreTotalLines q other mean)) fixed_same (λ b r.
      alike_ends (λ s. s ≡ status.Done) (AreTotalLines q one mean) (AreTotalLines q other mean)))

-- ---- the text of totals

abbrev text_by : Mode → ℕ → List (List ℕ × ℤ) → ℤ → ℕ → List ℕ × ℤ → List ℕ × ℤ → List ℕ
text_by mode scale values total count least greatest =
    flat_map (value_line scale) values ++ (sums_text total (mean_of mode total count) scale ++ ends_text least greatest scale)

module _ (one other : List NamedMap) (same : SameScenarios one other) (t u : Totals) (alike : SameTotals t u) (mode : Mode) (scale : ℕ) where
  lines_same : named_values one t.values.items ≡ named_values other u.values.items
  lines_same = named_same one other t.values.items same.names ∙ ap (λ (vs : List ℤ). named_values other vs) alike.values

  named_at : (i j : ℕ) → i ≡ j → named_value one t.values.items i ≡ named_value other u.values.items j
  named_at i j is =
      ap (λ (n : List ℕ). (n, value_at t.values.items i)) (name_same one other same i)
      ∙ ap (λ (vs : List ℤ). (name_at other i, value_at vs i)) alike.values
      ∙ ap (λ (k : ℕ). named_value other u.values.items k) is

  pub one_total_text : total_text one t mode scale ≡ total_text other u mode scale
  one_total_text =
      let least = named_value one t.values.items t.least in
      let greatest = named_value one t.values.items t.greatest in
      ap (λ (ls : List (List ℕ × ℤ)). text_by mode scale ls t.total (length one) least greatest) lines_same
      ∙ ap (λ (m : ℤ). text_by mode scale (named_values other u.values.items) m (length one) least greatest) alike.total
      ∙ ap (λ (n : ℕ). text_by mode scale (named_values other u.values.items) u.total n least greatest) (same_count one other same)
      ∙ ap (λ (p : List ℕ × ℤ). text_by mode scale (named_values other u.values.items) u.total (length other) p greatest) (named_at t.least u.least alike.least)
      ∙ ap (λ (p : List ℕ × ℤ). text_by mode scale (named_values other u.values.items) u.total (length other) (named_value other u.values.items u.least) p) (named_at t.greatest u.greatest alike.greatest)

-- the same scenarios have one text
pub one_total : (q : Inquiry) (set others : List NamedMap) → SameScenarios set others → (mean : Mode) (one other : List ℕ)
    → AreTotalLines q set mean one → AreTotalLines q others mean other → one ≡ other
one_total q set others same mean one other h k =
    h.lines
    ∙ one_total_text set others same h.totals k.totals (totals_are_one code_stays q set others (Ok h.totals) (Ok k.totals) same h.are_totals k.are_totals) mean (q.book.declarations.amounts + 9)
    ∙ sym k.lines
