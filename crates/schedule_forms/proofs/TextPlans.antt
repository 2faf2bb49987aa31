-- A plan of a text is within its limits, and names only what is declared.
use Rattle.std.proofs.Common.{◌≡◌, ℕ, zero, suc, ℤ, ◌+◌, ◌-◌, ◌*◌, ◌<◌, ◌≤◌, nat_le, Bool, true, Option, Some, None, Result, Ok, Err, All, List, [], length, refl, sym, subst, inl, inr, arith}
use Rattle.std.specs.Map.{keys_of}
use Rattle.std.proofs.lemmas.Bool.{cases_Bool}
use Rattle.std.proofs.lemmas.Bool.Decides.{nat_tests}
use Rattle.std.proofs.lemmas.List.{length-map}
use Rattle.std.proofs.lemmas.List.Elements.{All-nil, All-push}
use Rattle.term_model.specs.Declarations.{Declarations}
use Rattle.term_model.specs.Environments.{label_of}
use Rattle.term_model.specs.declared.label.Label.{Label}
use Rattle.term_model.specs.declared.label.Label.TheVariants.{Number as NumberLabel, Flag}
use Rattle.contract_grammar.specs.Tokens.{Tok}
use Rattle.contract_grammar.specs.Words.{Bytes}
use Rattle.contract_grammar.specs.Judgements.{integer_at, literal_at, use_at}
use Rattle.contract_grammar.specs.Statements.{Entry, Repeat, none, more}
use Rattle.contract_grammar.specs.declared.faults.TextKind.{TextKind}
use Rattle.contract_grammar.proofs.TextNumbers.{by_value, integer_within, use_within}
use Rattle.contract_print.proofs.NumbersWithin.{literal_within}
use Rattle.schedule_forms.specs.declared.plans.Size.{Size}
use Rattle.schedule_forms.specs.declared.plans.Size.TheVariants.{Fixed, Fixing}
use Rattle.schedule_forms.specs.declared.plans.Leg.{Leg}
use Rattle.schedule_forms.specs.declared.plans.Plan.{Plan}
use Rattle.schedule_forms.specs.declared.plans.Plan.TheVariants.{Leg as LegPlan, Swap, Guarded}
use Rattle.schedule_forms.specs.PlanLimits.{IsDecimalOfTexts, IsLegWithinLimits, IsSizeOfTexts, IsSizeWithinLimits}
use Rattle.schedule_forms.specs.DeclaredPlans.{IsFlagLabel, IsLegOver, IsNumberLabel, IsPlanOfTexts, IsSizeOver}
use Rattle.schedule_forms.specs.PlanJudgements.{count_at, flag_at, from_one, in_time, is_flag_label, is_number_label, number_label_at, of_sort, times_at}
use Rattle.schedule_forms.specs.PlanSpelling.{decimal_part, definition_part, leg_part, plan_line, size_part}
use Rattle.schedule_forms.specs.LawsTexts.{PlansOfTextsAreExpandable}

-- ---- numbers

from_one_in : (most n : ℕ) (r : Result ℕ TextKind) → ((k : ℕ) → r ≡ Ok k → k ≤ most) → from_one r ≡ Ok n → (0 < n) × (n ≤ most)
from_one_in most n (Ok zero) few h = absurd (cc)
from_one_in most n (Ok (suc k)) few h =
    let same : suc k ≡ n = cc in
    let low = few (suc k) refl in
    (omega arith, omega arith)
from_one_in most n (Err kind) few h = absurd (cc)

count_in : (most : ℕ) (t : Tok) (n : ℕ) → count_at most t ≡ Ok n → (0 < n) × (n ≤ most)
count_in most t n h = from_one_in most n (integer_at most t) (λ k e. integer_within most t k e) h

in_time_in : (most first every n : ℕ) (r : Result ℕ TextKind) → ((k : ℕ) → r ≡ Ok k → (0 < k) × (k ≤ most)) → in_time first every r ≡ Ok n → (0 < n) × (n ≤ most) × (first + (n - 1) * every ≤ 100_000)
in_time_in most first every n (Ok k) few h = elim (cases_Bool (nat_le (first + (k - 1) * every) 100_000)) [
  | inl is ↦
      let e = rw is at h in
      let same : k ≡ n = cc in
      let low = few k refl in
      let last : first + (k - 1) * every ≤ 100_000 = grind (arith, nat_tests) in
      subst (λ (i : ℕ). (0 < i) × (i ≤ most) × (first + (i - 1) * every ≤ 100_000)) same (low.0, low.1, last)
  | inr other ↦ let e = rw other at h in absurd cc
]
in_time_in most first every n (Err kind) few h = absurd (cc)

times_in : (most first every : ℕ) (t : Tok) (n : ℕ) → times_at most first every t ≡ Ok n → (0 < n) × (n ≤ most) × (first + (n - 1) * every ≤ 100_000)
times_in most first every t n h = in_time_in most first every n (count_at most t) (λ k e. count_in most t k e) h

decimal_in : (mant : ℤ) (scale : ℕ) (ts rest : List Tok) → decimal_part mant scale ts rest → IsDecimalOfTexts mant scale
decimal_in mant scale ts rest x =
    by_value (literal_at x.negative) (record { mant = mant; scale = scale }) _ _ _ (λ t e. literal_within x.negative t (record { mant = mant; scale = scale }) e) x.spelled.two

-- ---- observables

sort_in : (sort : Option Label → Bool) (d : Declarations) (r : Result ℕ TextKind) (i : ℕ) → ((j : ℕ) → r ≡ Ok j → j < length d.labels) → of_sort sort d r ≡ Ok i → (i < length d.labels) × (sort (label_of d i) ≡ true)
sort_in sort d (Err kind) i within h = absurd (cc)
sort_in sort d (Ok j) i within h = elim (cases_Bool (sort (label_of d j))) [
  | inl is ↦
      let e = rw is at h in
      let same : j ≡ i = cc in
      subst (λ (k : ℕ). (k < length d.labels) × (sort (label_of d k) ≡ true)) same (within j refl, is)
  | inr other ↦ let e = rw other at h in absurd cc
]

-- a declared name of a map has an index in it
use_in : {V : Type 0} (entries : List (Bytes × V)) (t : Tok) (i : ℕ) → use_at (keys_of entries) t ≡ Ok i → i < length entries
use_in {V = V} entries t i e =
    subst (λ (n : ℕ). i < n) (length-map entries (λ (entry : Bytes × V). entry.0)) (use_within (keys_of entries) t i e)

label_in : (sort : Option Label → Bool) (d : Declarations) (t : Tok) (i : ℕ) → of_sort sort d (use_at (keys_of d.labels) t) ≡ Ok i → (i < length d.labels) × (sort (label_of d i) ≡ true)
label_in sort d t i e = sort_in sort d (use_at (keys_of d.labels) t) i (λ j is. use_in d.labels t j is) e

a_number : (o : Option Label) → is_number_label o ≡ true → IsNumberLabel o
a_number None h = absurd (cc)
a_number (Some Flag) h = absurd (cc)
a_number (Some (NumberLabel scale low high)) h = tt

a_flag : (o : Option Label) → is_flag_label o ≡ true → IsFlagLabel o
a_flag None h = absurd (cc)
a_flag (Some Flag) h = tt
a_flag (Some (NumberLabel scale low high)) h = absurd (cc)

-- ---- plans

record SizeIn (d : Declarations) (size : Size) : Type 0 where
  within : IsSizeWithinLimits size
  numbers : IsSizeOfTexts size
  over : IsSizeOver d size

size_in : (d : Declarations) (size : Size) (ts rest : List Tok) → size_part d size ts rest → SizeIn d size
size_in d (Fixed mant scale) ts rest x = record { within = tt; numbers = decimal_in mant scale ts rest x; over = tt }
size_in d (Fixing mode scale label lag mant mant_scale) ts rest x =
    let y = x.two.two.one.two in
    let named = by_value (number_label_at d) label _ _ _ (λ t e. label_in is_number_label d t label e) y.one in
    record {
      within = by_value (integer_at 1_000_000) lag _ _ _ (λ t e. integer_within 1_000_000 t lag e) y.two.two;
      numbers = (
        decimal_in mant mant_scale _ _ x.two.two.two.two.one,
        by_value (integer_at 27) scale _ _ _ (λ t e. integer_within 27 t scale e) x.two.one.two.two.two,
      );
      over = (named.0, a_number (label_of d label) named.1);
    }

record LegIn (d : Declarations) (most : ℕ) (leg : Leg) : Type 0 where
  within : IsLegWithinLimits most leg
  numbers : IsSizeOfTexts leg.size
  over : IsLegOver d leg

leg_in : (d : Declarations) (most : ℕ) (leg : Leg) (ts rest : List Tok) → leg_part d most leg ts rest → LegIn d most leg
leg_in d most leg ts rest x =
    let size = size_in d leg.size _ _ x.one in
    let route = x.two.one in
    let days = x.two.two in
    let every = by_value (count_at 100_000) leg.every _ _ _ (λ t e. count_in 100_000 t leg.every e) days.two.one.two in
    let times = by_value (times_at most leg.first leg.every) leg.times _ _ _ (λ t e. times_in most leg.first leg.every t leg.times e) days.two.two.two in
    record {
      within = record {
        size_in = size.within;
        first_in = by_value (integer_at 100_000) leg.first _ _ _ (λ t e. integer_within 100_000 t leg.first e) days.one.two;
        some_days = every.0;
        every_in = every.1;
        some_times = times.0;
        few_times = times.1;
        last_in = times.2;
      };
      numbers = size.numbers;
      over = record {
        size_over = size.over;
        asset_in = by_value (use_at (keys_of d.assets)) leg.asset _ _ _ (λ t e. use_in d.assets t leg.asset e) route.one.two;
        from_in = by_value (use_at d.parties) leg.from _ _ _ (λ t e. use_within d.parties t leg.from e) route.two.one.two;
        to_in = by_value (use_at d.parties) leg.to _ _ _ (λ t e. use_within d.parties t leg.to e) route.two.two.two;
      };
    }

definition_in : (d : Declarations) (plan : Plan) (ts rest : List Tok) → definition_part d plan ts rest → IsPlanOfTexts d plan
definition_in d (LegPlan leg) ts rest x =
    let only = leg_in d 5_000 leg ts rest x in
    record { within = only.within; numbers = only.numbers; over = only.over }
definition_in d (Swap one two) ts rest x =
    let left = leg_in d 5_000 one _ _ x.one in
    let right = leg_in d 5_000 two _ _ x.two.two in
    record { within = (left.within, right.within); numbers = (left.numbers, right.numbers); over = (left.over, right.over) }
definition_in d (Guarded leg flag mant scale) ts rest x =
    let guarded = leg_in d 60 leg _ _ x.one in
    let named = by_value (flag_at d) flag _ _ _ (λ t e. label_in is_flag_label d t flag e) x.two.one.two in
    record {
      within = guarded.within;
      numbers = (guarded.numbers, decimal_in mant scale _ _ x.two.two.two);
      over = (guarded.over, named.0, a_flag (label_of d flag) named.1);
    }

lines_in : (d : Declarations) (a b : List (Bytes × Plan)) (ts rest : List Tok) → All (λ entry. IsPlanOfTexts d entry.1) a → Repeat (Entry (plan_line d)) a b ts rest → All (λ entry. IsPlanOfTexts d entry.1) b
lines_in d a b ts rest all none = all
lines_in d a b ts rest all (more {b = c} {between = k} x xs) =
    let sound = definition_in d x.value _ _ x.spelled.two.two.two.one in
    lines_in d c b k rest (subst (λ es. All (λ entry. IsPlanOfTexts d entry.1) es) (sym x.is) (All-push (λ entry. IsPlanOfTexts d entry.1) a (x.name, x.value) all sound)) xs

pub texts_expandable : PlansOfTextsAreExpandable
texts_expandable bytes b text =
    lines_in b.declarations [] b.plans _ _ (All-nil (λ entry. IsPlanOfTexts b.declarations entry.1)) text.spelled.two.one
