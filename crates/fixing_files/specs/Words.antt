-- The words that a text begins with: digits, a day before a comma, a decimal. These are for the private steps of
-- reading plain rows.
use Rattle.std.specs.Prelude.{◌≡◌, ◌<◌, ◌≤◌, ◌^◌, ℕ, ℤ, Option, Some, false, List, ◌∷◌, ◌++◌, length, take}
use Rattle.std.specs.List.{list_any}
use Rattle.std.specs.Str.Parse.{AllDigits, digits_value_after}
use Rattle.csv.specs.Writing.{default_writer, needs_byte}
use Rattle.decimal.specs.Mantissas.{decimal_of}
use Rattle.fixing_files.specs.Records.{day_said, mantissa_at}

-- a field that csv writes without quotation marks
pub record IsBare (word : List ℕ) : Type 0 where
  pub needs_none : list_any (needs_byte default_writer) word ≡ false

-- a text begins with this many digits, which behind those of another number write n
pub record BeginsWithDigits (before : ℕ) (text : List ℕ) (n count : ℕ) : Type 0 where
  pub within : count ≤ length text
  pub digits : AllDigits 10 (take count text)
  pub value : n ≡ digits_value_after 10 before (take count text)
  pub few : n < 10 ^ 18

-- a text begins with a day, counted from the origin, and a comma
pub record BeginsWithDay (origin : Option ℤ) (text : List ℕ) (t : ℤ) (rest : List ℕ) : Type 0 where
  pub word : List ℕ
  pub split : text ≡ word ++ 44 ∷ rest
  pub bare : IsBare word
  pub said : day_said origin word ≡ Some t

-- a text begins with a decimal whose mantissa at the scale is m
pub record BeginsWithMantissa (scale : ℕ) (text : List ℕ) (m : ℤ) (rest : List ℕ) : Type 0 where
  pub word : List ℕ
  pub split : text ≡ word ++ rest
  pub bare : IsBare word
  pub mantissa : mantissa_at scale (decimal_of word) ≡ Some m
