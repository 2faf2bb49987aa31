-- The lines of a total: one for each scenario with its value, then the total, the mean, and the first scenarios of the least and
-- of the greatest value.
use Rattle.std.specs.Prelude.{◌≡◌, ◌<◌, All, ℕ, ℤ, List, [], ◌∷◌, ◌++◌, length, codes, Option, Some, None, slice_get}
use Rattle.std.specs.List.{flat_map}
use Rattle.decimal.specs.Text.{text_of}
use Rattle.decimal.specs.declared.rounding.Mode.{Mode}
use Rattle.interval_check.specs.Safety.{IsSmall}
use Rattle.scenario_set.specs.Scenarios.{NamedMap}
use Rattle.scenario_set.specs.Totals.{mean_of, value_at}
use Rattle.scenario_set.specs.declared.line_parts.NamedValue.{NamedValue}
use Rattle.scenario_set.specs.declared.outcomes.Totals.{Totals}

-- a value for each scenario, which can be written
pub record AreValuesOf (set : List NamedMap) (values : List ℤ) : Type 0 where
  pub each : length values ≡ length set
  pub small : All IsSmall values

-- totals with a value for each scenario, which can be written
pub record CanBeWritten (set : List NamedMap) (totals : Totals) : Type 0 where
  pub each : length totals.values.items ≡ length set
  pub values : All IsSmall totals.values.items
  pub total : IsSmall totals.total
  pub least : totals.least < length set
  pub greatest : totals.greatest < length set

-- words and a comma
abbrev pub words_text : List ℕ → List ℕ
words_text words = words ++ codes ","

-- words, a comma, a number with its decimals, and the end of the line
abbrev pub line_text : List ℕ → ℤ → ℕ → List ℕ
line_text words mantissa scale = words_text words ++ (text_of mantissa scale ++ codes "\n")

-- a word, and a line behind it
abbrev pub marked_text : List ℕ → List ℕ → ℤ → ℕ → List ℕ
marked_text word words mantissa scale = words_text word ++ line_text words mantissa scale

-- the names with their values
abbrev pub named_values : List NamedMap → List ℤ → List (List ℕ × ℤ)
named_values (s ∷ set) (v ∷ values) = (s.name, v) ∷ named_values set values
named_values _ _ = []

abbrev pub value_line : ℕ → List ℕ × ℤ → List ℕ
value_line scale p = line_text p.0 p.1 scale

abbrev pub values_text : List NamedMap → List ℤ → ℕ → List ℕ
values_text set values scale = flat_map (value_line scale) (named_values set values)

abbrev pub name_or_none : Option NamedMap → List ℕ
name_or_none None = []
name_or_none (Some s) = s.name

abbrev pub name_at : List NamedMap → ℕ → List ℕ
name_at set i = name_or_none (slice_get set i)

-- the total and the mean
abbrev pub sums_text : ℤ → ℤ → ℕ → List ℕ
sums_text total mean scale = line_text (codes "total") total scale ++ line_text (codes "mean") mean scale

abbrev pub valued : NamedValue → List ℕ × ℤ
valued v = (v.name.now, v.value)

-- the least and the greatest, each with its name
abbrev pub ends_text : List ℕ × ℤ → List ℕ × ℤ → ℕ → List ℕ
ends_text least greatest scale =
    marked_text (codes "least") least.0 least.1 scale ++ marked_text (codes "greatest") greatest.0 greatest.1 scale

abbrev pub named_value : List NamedMap → List ℤ → ℕ → List ℕ × ℤ
named_value set values i = (name_at set i, value_at values i)

abbrev pub last_text : List NamedMap → Totals → Mode → ℕ → List ℕ
last_text set t mode scale =
    sums_text t.total (mean_of mode t.total (length set)) scale
    ++ ends_text (named_value set t.values.items t.least) (named_value set t.values.items t.greatest) scale

abbrev pub total_text : List NamedMap → Totals → Mode → ℕ → List ℕ
total_text set t mode scale = values_text set t.values.items scale ++ last_text set t mode scale
