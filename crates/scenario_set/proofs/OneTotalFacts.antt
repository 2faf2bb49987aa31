-- What is asked of scenarios has one answer, and scenarios with the same names and maps have the same.
use Rattle.std.proofs.Common.{◌≡◌, ◌∙◌, ℕ, zero, suc, ◌+◌, ◌-◌, ◌*◌, ◌^◌, ◌≤◌, ◌<◌, ℤ, pos, List, [], ◌∷◌, length, map, Option, Some, None, Result, Ok, Err, slice_get, refl, sym, ap, subst, inl, inr, arith}
use Rattle.std.proofs.lemmas.Bool.{cases_lt}
use Rattle.std.proofs.lemmas.Int.{ints}
use Rattle.std.proofs.lemmas.List.{length-map}
use Rattle.std.proofs.lemmas.Option.{slice_get_within}
use Rattle.decimal.specs.Rounding.{raised}
use Rattle.term_model.specs.Declarations.{Declarations}
use Rattle.term_model.specs.Environments.{Environment, Extends, Place}
use Rattle.fixing_files.specs.Layers.{HoldSame}
use Rattle.payoff_terms.specs.CodeValues.{scale_of_code}
use Rattle.payoff_terms.specs.LawsCode.{CodeValuesAreFixed}
use Rattle.payoff_eval.proofs.SameFacts.{extends_same, same_lacked}
use Rattle.scenario_set.specs.LawsTotals.{SameAnswer, SameTotals, TotalsAreOne}
use Rattle.scenario_set.specs.Scenarios.{AreAdmitted, NamedMap, SameScenarios}
use Rattle.scenario_set.specs.Totals.{AnswersTotals, AreFew, AreTotals, Inquiry, IsFirstGreatest, IsFirstLack, IsFirstLeast, IsFixedIn, LacksIn, lacked_in, most_worth, total_of, values_in, worth_in}
use Rattle.scenario_set.specs.declared.outcomes.Totals.{Totals}
use Rattle.scenario_set.specs.declared.outcomes.TotalsErr.{TotalsErr}
use Rattle.scenario_set.specs.declared.outcomes.TotalsErr.TheVariants.{TooMany, Missing, NoMemory}

-- ---- the scenarios of two lists that are the same

abbrev names : List NamedMap → List (List ℕ)
names set = map (λ (s : NamedMap). s.name) set

pub same_back : (one other : List NamedMap) → SameScenarios one other → SameScenarios other one
same_back one other same = record { names = sym same.names; maps = λ i s t e f q. sym (same.maps i t s f e q) }

pub same_count : (one other : List NamedMap) → SameScenarios one other → length one ≡ length other
same_count one other same =
    sym (length-map one (λ (s : NamedMap). s.name)) ∙ ap length same.names ∙ length-map other (λ (s : NamedMap). s.name)

-- the scenario that stands at the place of another
pub opposite : (one other : List NamedMap) → length one ≡ length other → (i : ℕ) (s : NamedMap) → slice_get one i ≡ Some s → (t : NamedMap) × (slice_get other i ≡ Some t)
opposite [] other long i s e = absurd (cc)
opposite (x ∷ one) [] long i s e = absurd (omega (arith, long))
opposite (x ∷ one) (y ∷ other) long zero s e = (y, refl)
opposite (x ∷ one) (y ∷ other) long (suc i) s e = opposite one other (omega (arith, long)) i s e

same_tail : (x y : NamedMap) (one other : List NamedMap) → SameScenarios (x ∷ one) (y ∷ other) → SameScenarios one other
same_tail x y one other same = record {
  names = let whole : x.name ∷ names one ≡ y.name ∷ names other = same.names in cc;
  maps = λ i s t e f. same.maps (suc i) s t e f;
}

pub admitted_same : (d : Declarations) (one other : List NamedMap) → SameScenarios one other → AreAdmitted d other → AreAdmitted d one
admitted_same d one other same admitted i s e q v h =
    let there = opposite one other (same_count one other same) i s e in
    admitted i there.0 there.1 q v (sym (same.maps i s there.0 e there.1 q) ∙ h)

-- ---- what is found in them

module _ (stay : CodeValuesAreFixed) (q : Inquiry) where
  lacked_same : (one other : Environment) → HoldSame one other → lacked_in q.book q.setting q.asked one ≡ lacked_in q.book q.setting q.asked other
  lacked_same one other same =
      same_lacked q.book.declarations q.book.code q.setting q.asked (pos q.book.declarations.start) one other same

  -- where nothing is lacked, the value is the same in every environment that holds what the map does
  pub worth_stays : (one env : Environment) → lacked_in q.book q.setting q.asked one ≡ None → Extends one env → worth_in q.book q.setting q.asked env ≡ worth_in q.book q.setting q.asked one
  worth_stays one env fixed x =
      let d = q.book.declarations in
      ap (λ (m : ℤ). raised m (d.amounts + 9 - scale_of_code d q.book.code []))
      (stay d q.book.code one env q.setting q.asked (pos d.start) x fixed)

  fixed_same : (one other : List NamedMap) → SameScenarios one other → (i : ℕ) → IsFixedIn q one i → IsFixedIn q other i
  fixed_same one other same i f =
      let there = opposite one other (same_count one other same) i f.scenario f.stands in
      record {
        scenario = there.0;
        stands = there.1;
        fixed = sym (lacked_same f.scenario.map there.0.map (same.maps i f.scenario there.0 f.stands there.1)) ∙ f.fixed;
      }

  lacks_same : (one other : List NamedMap) → SameScenarios one other → (i : ℕ) (p : Place) → LacksIn q one i p → LacksIn q other i p
  lacks_same one other same i p l =
      let there = opposite one other (same_count one other same) i l.scenario l.stands in
      record {
        scenario = there.0;
        stands = there.1;
        lacked = sym (lacked_same l.scenario.map there.0.map (same.maps i l.scenario there.0 l.stands there.1)) ∙ l.lacked;
      }

  fixed_tail : (x : NamedMap) (set : List NamedMap) → ((i : ℕ) → i < length (x ∷ set) → IsFixedIn q (x ∷ set) i) → (i : ℕ) → i < length set → IsFixedIn q set i
  fixed_tail x set all i within =
      let f = all (suc i) (omega arith) in record { scenario = f.scenario; stands = f.stands; fixed = f.fixed }

  values_same : (one other : List NamedMap) → SameScenarios one other → ((i : ℕ) → i < length one → IsFixedIn q one i) → values_in q.book q.setting q.asked one ≡ values_in q.book q.setting q.asked other
  values_same [] [] same all = refl
  values_same [] (y ∷ other) same all = let count : 0 ≡ length (y ∷ other) = same_count [] (y ∷ other) same in absurd (omega (arith, count))
  values_same (x ∷ one) [] same all = let count : length (x ∷ one) ≡ 0 = same_count (x ∷ one) [] same in absurd (omega (arith, count))
  values_same (x ∷ one) (y ∷ other) same all =
      let here = all 0 (omega arith) in
      let is : x ≡ here.scenario = (let stands : slice_get (x ∷ one) 0 ≡ Some here.scenario = here.stands in cc) in
      let fixed : lacked_in q.book q.setting q.asked x.map ≡ None = subst (λ (s : NamedMap). lacked_in q.book q.setting q.asked s.map ≡ None) (sym is) here.fixed in
      let first : worth_in q.book q.setting q.asked x.map ≡ worth_in q.book q.setting q.asked y.map =
      sym (worth_stays x.map y.map fixed (extends_same x.map y.map (same.maps 0 x y refl refl))) in
      let rest = values_same one other (same_tail x y one other same) (fixed_tail x one all) in
      ap (λ (v : ℤ). v ∷ values_in q.book q.setting q.asked one) first ∙ ap (λ (vs : List ℤ). worth_in q.book q.setting q.asked y.map ∷ vs) rest

  few_same : (one other : List NamedMap) → SameScenarios one other → AreFew q one → AreFew q other
  few_same one other same few = subst (λ (n : ℕ). n * most_worth q ≤ 10 ^ 37) (same_count one other same) few

  -- the answer is that of every list of the same scenarios
  pub answers_same : (one other : List NamedMap) (r : Result Totals TotalsErr) → SameScenarios one other → AnswersTotals q one r → AnswersTotals q other r
  answers_same one other (Ok t) same h = record {
    few = few_same one other same h.few;
    fixed = λ i within. fixed_same one other same i (h.fixed i (subst (λ (n : ℕ). i < n) (sym (same_count one other same)) within));
    values = h.values ∙ values_same one other same h.fixed;
    total = h.total;
    least = h.least;
    greatest = h.greatest;
  }
  answers_same one other (Err (TooMany count)) same h = (
    subst (λ (n : ℕ). 10 ^ 37 < n * most_worth q) (same_count one other same) h.0,
    h.1 ∙ same_count one other same,
  )
  answers_same one other (Err (Missing i l t)) same h = record {
    few = few_same one other same h.few;
    before = λ j below. fixed_same one other same j (h.before j below);
    lacks = lacks_same one other same i (record { label = l; day = t }) h.lacks;
  }
  answers_same one other (Err NoMemory) same h = tt

-- ---- one answer

module _ (q : Inquiry) where
  not_fixed : (set : List NamedMap) (i : ℕ) (p : Place) → IsFixedIn q set i → LacksIn q set i p → ⊥
  not_fixed set i p f l =
      let at : ◌≡◌ {A = Option NamedMap} (Some f.scenario) (Some l.scenario) = sym f.stands ∙ l.stands in
      let is : f.scenario ≡ l.scenario = cc in
      let fixed : lacked_in q.book q.setting q.asked l.scenario.map ≡ None = subst (λ (s : NamedMap). lacked_in q.book q.setting q.asked s.map ≡ None) is f.fixed in
      let wrong : ◌≡◌ {A = Option Place} None (Some p) = sym fixed ∙ l.lacked in
      absurd (cc)

  one_place : (set : List NamedMap) (i : ℕ) (p r : Place) → LacksIn q set i p → LacksIn q set i r → p ≡ r
  one_place set i p r l m =
      let at : ◌≡◌ {A = Option NamedMap} (Some l.scenario) (Some m.scenario) = sym l.stands ∙ m.stands in
      let is : l.scenario ≡ m.scenario = cc in
      let first : lacked_in q.book q.setting q.asked m.scenario.map ≡ Some p = subst (λ (s : NamedMap). lacked_in q.book q.setting q.asked s.map ≡ Some p) is l.lacked in
      let same : ◌≡◌ {A = Option Place} (Some p) (Some r) = sym first ∙ m.lacked in
      cc

  one_lack : (set : List NamedMap) (i j : ℕ) (p r : Place) → IsFirstLack q set i p → IsFirstLack q set j r → i ≡ j
  one_lack set i j p r h k = elim (cases_lt i j) [
    | inl before ↦ absurd (not_fixed set i p (k.before i before) h.lacks)
    | inr over ↦ elim (cases_lt j i) [
      | inl before ↦ absurd (not_fixed set j r (h.before j before) k.lacks)
      | inr under ↦ omega arith
    ]
  ]

  lacks_within : (set : List NamedMap) (i : ℕ) (p : Place) → LacksIn q set i p → i < length set
  lacks_within set i p l = slice_get_within set i l.scenario l.stands

one_least : (values : List ℤ) (i j : ℕ) → IsFirstLeast values i → IsFirstLeast values j → i ≡ j
one_least values i j h k = elim (cases_lt i j) [
  | inl before ↦ let below = k.first i before in let above = h.least j k.within in absurd (omega (arith, ints, below, above))
  | inr over ↦ elim (cases_lt j i) [
    | inl before ↦ let below = h.first j before in let above = k.least i h.within in absurd (omega (arith, ints, below, above))
    | inr under ↦ omega arith
  ]
]

one_greatest : (values : List ℤ) (i j : ℕ) → IsFirstGreatest values i → IsFirstGreatest values j → i ≡ j
one_greatest values i j h k = elim (cases_lt i j) [
  | inl before ↦ let below = k.first i before in let above = h.greatest j k.within in absurd (omega (arith, ints, below, above))
  | inr over ↦ elim (cases_lt j i) [
    | inl before ↦ let below = h.first j before in let above = k.greatest i h.within in absurd (omega (arith, ints, below, above))
    | inr under ↦ omega arith
  ]
]

same_totals : (q : Inquiry) (set : List NamedMap) (s t : Totals) → AreTotals q set s → AreTotals q set t → SameTotals s t
same_totals q set s t h k =
    let values : s.values.items ≡ t.values.items = h.values ∙ sym k.values in
    record {
      values = values;
      total = h.total ∙ ap total_of values ∙ sym k.total;
      least = one_least t.values.items s.least t.least (subst (λ (vs : List ℤ). IsFirstLeast vs s.least) values h.least) k.least;
      greatest = one_greatest t.values.items s.greatest t.greatest (subst (λ (vs : List ℤ). IsFirstGreatest vs s.greatest) values h.greatest) k.greatest;
    }

one_answer : (q : Inquiry) (set : List NamedMap) (r s : Result Totals TotalsErr) → AnswersTotals q set r → AnswersTotals q set s → SameAnswer r s
one_answer q set (Ok s) (Ok t) h k = same_totals q set s t h k
one_answer q set (Ok s) (Err (TooMany n)) h k = let few = h.few in absurd (omega (arith, few, k.0))
one_answer q set (Ok s) (Err (Missing i l t)) h k =
    absurd (not_fixed q set i (record { label = l; day = t }) (h.fixed i (lacks_within q set i (record { label = l; day = t }) k.lacks)) k.lacks)
one_answer q set (Ok s) (Err NoMemory) h k = tt
one_answer q set (Err (TooMany n)) (Ok t) h k = let few = k.few in absurd (omega (arith, few, h.0))
one_answer q set (Err (TooMany n)) (Err (TooMany m)) h k = ap (λ (c : ℕ). TooMany c) (h.1 ∙ sym k.1)
one_answer q set (Err (TooMany n)) (Err (Missing i l t)) h k = let few = k.few in absurd (omega (arith, few, h.0))
one_answer q set (Err (TooMany n)) (Err NoMemory) h k = tt
one_answer q set (Err (Missing i l t)) (Ok s) h k =
    absurd (not_fixed q set i (record { label = l; day = t }) (k.fixed i (lacks_within q set i (record { label = l; day = t }) h.lacks)) h.lacks)
one_answer q set (Err (Missing i l t)) (Err (TooMany m)) h k = let few = h.few in absurd (omega (arith, few, k.0))
one_answer q set (Err (Missing i l t)) (Err (Missing j m u)) h k =
    let p : Place = record { label = l; day = t } in
    let r : Place = record { label = m; day = u } in
    let number : i ≡ j = one_lack q set i j p r h k in
    let place : p ≡ r = one_place q set j p r (subst (λ (n : ℕ). LacksIn q set n p) number h.lacks) k.lacks in
    λ x. Missing (number x) (place x).label (place x).day
one_answer q set (Err (Missing i l t)) (Err NoMemory) h k = tt
one_answer q set (Err NoMemory) s h k = tt

pub totals_are_one : CodeValuesAreFixed → TotalsAreOne
totals_are_one stay q one other r s same h k = one_answer q other r s (answers_same stay q one other r same h) k
