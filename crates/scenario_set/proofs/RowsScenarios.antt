-- Worked rows: what a single record of scenarios says by itself, the mean by each mode, the first of the least and of the
-- greatest, and how many scenarios are too many.
use Rattle.std.proofs.Common.{◌≡◌, ◌<◌, ◌≤◌, ◌*◌, ◌^◌, ℕ, zero, suc, ℤ, pos, List, [], ◌∷◌, Some, None, Result, Ok, Err, refl, arith, subst, sym, true}
use Rattle.std.specs.Prelude.{◌≤ℤ◌, ◌<ℤ◌, codes}
use Rattle.std.proofs.lemmas.Int.{ints}
use Rattle.decimal.specs.Reading.{read_of}
use Rattle.decimal.specs.Rounding.{divided}
use Rattle.decimal.specs.declared.rounding.Mode.TheVariants.{HalfEven, HalfAway, Floor, Ceil}
use Rattle.term_model.specs.Dates.{epoch_day_of, parts_of}
use Rattle.term_model.specs.Declarations.{Declarations}
use Rattle.term_model.specs.declared.label.Label.TheVariants.{Number, Flag}
use Rattle.term_model.specs.declared.values.Value.{Value as Reading}
use Rattle.term_model.specs.declared.values.Value.TheVariants.{Num as Amount, Truth}
use Rattle.fixing_files.specs.Days.{day_named, day_of}
use Rattle.fixing_files.specs.Records.{said}
use Rattle.fixing_files.specs.declared.faults.RowKind.{RowKind}
use Rattle.fixing_files.specs.declared.faults.RowKind.TheVariants.{Shape, Label, Day, Value, Bounds}
use Rattle.scenario_set.specs.Scopes.{Scope}
use Rattle.scenario_set.specs.ScenarioRecords.{Told, told}
use Rattle.scenario_set.specs.Scenarios.{NamedMap}
use Rattle.scenario_set.specs.Totals.{AreFew, AreTooMany, Inquiry, IsFirstGreatest, IsFirstLeast, mean_of, most_worth, value_at}

abbrev declared : Declarations
declared =
    record {
      version = 1;
      amounts = 2;
      origin = None;
      start = 0;
      parties = [];
      assets = [];
      labels = (codes "FX", Number 4 (pos 5000) (pos 20000)) ∷ (codes "F", Flag) ∷ [];
      templates = [];
    }

unfoldable plain : List ℕ → List ℕ → List ℕ → List ℕ → Result Told RowKind
plain scenario label day value = told declared (scenario ∷ label ∷ day ∷ value ∷ [])

abbrev at : Scope → ℕ → ℤ → Reading → Result Told RowKind
at s l t v = Ok (record { scope = s; place = record { label = l; day = t }; value = v })

-- ---- a record

of_a_scenario : plain (codes "a") (codes "FX") (codes "90") (codes "1.1000") ≡ at (Some (codes "a")) 0 (pos 90) (Amount (pos 11000))
unfolding plain told said day_of day_named read_of
of_a_scenario = refl

of_each : plain (codes "*") (codes "F") (codes "0") (codes "true") ≡ at None 1 (pos 0) (Truth true)
unfolding plain told said day_of day_named read_of
of_each = refl

reserved_word : plain (codes "let") (codes "FX") (codes "90") (codes "1.1000") ≡ Err Shape
unfolding plain told said day_of day_named read_of
reserved_word = refl

two_stars : plain (codes "**") (codes "FX") (codes "90") (codes "1.1000") ≡ Err Shape
unfolding plain told said day_of day_named read_of
two_stars = refl

no_scenario : plain [] (codes "FX") (codes "90") (codes "1.1000") ≡ Err Shape
unfolding plain told said day_of day_named read_of
no_scenario = refl

-- the shape counts before the label
shape_first : plain (codes "**") (codes "GX") (codes "x") (codes "x") ≡ Err Shape
unfolding plain told said day_of day_named read_of
shape_first = refl

three_fields : told declared (codes "GX" ∷ codes "90" ∷ codes "1.1000" ∷ []) ≡ Err Shape
unfolding told
three_fields = refl

five_fields : told declared (codes "a" ∷ codes "GX" ∷ codes "90" ∷ codes "1.1000" ∷ [] ∷ []) ≡ Err Shape
unfolding told
five_fields = refl

other_label : plain (codes "a") (codes "GX") (codes "x") (codes "x") ≡ Err Label
unfolding plain told said day_of day_named read_of
other_label = refl

no_day : plain (codes "a") (codes "FX") (codes "x") (codes "x") ≡ Err Day
unfolding plain told said day_of day_named read_of epoch_day_of parts_of
no_day = refl

no_value : plain (codes "a") (codes "FX") (codes "90") (codes "x") ≡ Err Value
unfolding plain told said day_of day_named read_of
no_value = refl

out_of_bounds : plain (codes "a") (codes "FX") (codes "90") (codes "2.0001") ≡ Err Bounds
unfolding plain told said day_of day_named read_of
out_of_bounds = refl

-- ---- the mean

mean_half_even : mean_of HalfEven (pos 1_000_000_000_000) 3 ≡ pos 333_333_333_333
unfolding divided
mean_half_even = refl

mean_half_away : mean_of HalfAway (pos 1_000_000_000_000) 3 ≡ pos 333_333_333_333
unfolding divided
mean_half_away = refl

mean_floor : mean_of Floor (pos 1_000_000_000_000) 3 ≡ pos 333_333_333_333
unfolding divided
mean_floor = refl

mean_ceil : mean_of Ceil (pos 1_000_000_000_000) 3 ≡ pos 333_333_333_334
unfolding divided
mean_ceil = refl

-- ---- the least and the greatest

abbrev three_values : List ℤ
three_values = pos 0 ∷ pos 1_000_000_000_000 ∷ pos 0 ∷ []

first_is_least : IsFirstLeast three_values 0
first_is_least = record {
  within = omega arith;
  least = at_each;
  first = λ j h. absurd (omega (arith, h));
}
  where
    at_each : (j : ℕ) → j < 3 → pos 0 ≤ℤ value_at three_values j
    at_each zero h = omega (arith, ints)
    at_each (suc zero) h = omega (arith, ints)
    at_each (suc (suc zero)) h = omega (arith, ints)
    at_each (suc (suc (suc j))) h = absurd (omega (arith, h))

second_is_greatest : IsFirstGreatest three_values 1
second_is_greatest = record {
  within = omega arith;
  greatest = at_each;
  first = at_first;
}
  where
    at_each : (j : ℕ) → j < 3 → value_at three_values j ≤ℤ pos 1_000_000_000_000
    at_each zero h = omega (arith, ints)
    at_each (suc zero) h = omega (arith, ints)
    at_each (suc (suc zero)) h = omega (arith, ints)
    at_each (suc (suc (suc j))) h = absurd (omega (arith, h))

    at_first : (j : ℕ) → j < 1 → value_at three_values j <ℤ pos 1_000_000_000_000
    at_first zero h = omega (arith, ints)
    at_first (suc j) h = absurd (omega (arith, h))

-- ---- how many, where the code can be worth 10^37

one_is_few : (q : Inquiry) (a : NamedMap) → most_worth q ≡ 10 ^ 37 → AreFew q (a ∷ [])
one_is_few q a most = subst (λ (n : ℕ). 1 * n ≤ 10 ^ 37) (sym most) (omega arith)

two_are_too_many : (q : Inquiry) (a b : NamedMap) → most_worth q ≡ 10 ^ 37 → AreTooMany q (a ∷ b ∷ [])
two_are_too_many q a b most = subst (λ (n : ℕ). 10 ^ 37 < 2 * n) (sym most) (omega arith)
