-- Worked rows: what a single record says by itself.
use Rattle.std.proofs.Common.{◌≡◌, ℕ, ℤ, pos, neg_ℤ, List, [], ◌∷◌, Option, Some, None, Result, Ok, Err, true, false, refl}
use Rattle.std.specs.Prelude.{codes}
use Rattle.decimal.specs.Reading.{read_of}
use Rattle.term_model.specs.Declarations.{Declarations}
use Rattle.term_model.specs.Dates.{epoch_day_of, parts_of, two_of}
use Rattle.term_model.specs.Environments.{Place}
use Rattle.term_model.specs.declared.label.Label.TheVariants.{Number, Flag}
use Rattle.term_model.specs.declared.values.Value.{Value as Reading}
use Rattle.term_model.specs.declared.values.Value.TheVariants.{Num as Amount, Truth}
use Rattle.fixing_files.specs.Days.{day_named, day_of}
use Rattle.fixing_files.specs.Records.{Fields, said}
use Rattle.fixing_files.specs.declared.faults.RowKind.{RowKind}
use Rattle.fixing_files.specs.declared.faults.RowKind.TheVariants.{Shape, Label, Day, Value, Bounds}

abbrev with_origin : Option ℤ → Declarations
with_origin origin =
    record {
      version = 1;
      amounts = 2;
      origin = origin;
      start = 0;
      parties = [];
      assets = [];
      labels = (codes "FX", Number 4 (pos 5000) (pos 20000)) ∷ (codes "Default", Flag) ∷ [];
      templates = [];
    }

abbrev Said : Type 0
Said = Result (Place × Reading) RowKind

abbrev three : List ℕ → List ℕ → List ℕ → Fields
three name day value = name ∷ day ∷ value ∷ []

unfoldable plain : List ℕ → List ℕ → List ℕ → Said
plain name day value = said (with_origin None) (three name day value)

unfoldable dated : List ℕ → List ℕ → List ℕ → Said
dated name day value = said (with_origin (Some (pos 19737))) (three name day value)

abbrev at : ℕ → ℤ → Reading → Said
at l t v = Ok (record { label = l; day = t }, v)

four_decimals : plain (codes "FX") (codes "0") (codes "1.0000") ≡ at 0 (pos 0) (Amount (pos 10000))
unfolding plain said day_of day_named read_of
four_decimals = refl

one_decimal : plain (codes "FX") (codes "0") (codes "1.0") ≡ at 0 (pos 0) (Amount (pos 10000))
unfolding plain said day_of day_named read_of
one_decimal = refl

above_bound : plain (codes "FX") (codes "0") (codes "2.0001") ≡ Err Bounds
unfolding plain said day_of day_named read_of
above_bound = refl

five_decimals : plain (codes "FX") (codes "0") (codes "1.00000") ≡ Err Value
unfolding plain said day_of day_named read_of
five_decimals = refl

other_label : plain (codes "GX") (codes "x") (codes "1.0") ≡ Err Label
unfolding plain said day_of day_named read_of
other_label = refl

flag : plain (codes "Default") (codes "-7") (codes "true") ≡ at 1 (neg_ℤ (pos 7)) (Truth true)
unfolding plain said day_of day_named read_of
flag = refl

flag_word : plain (codes "Default") (codes "-7") (codes "True") ≡ Err Value
unfolding plain said day_of day_named read_of
flag_word = refl

last_day : plain (codes "Default") (codes "3000000") (codes "false") ≡ at 1 (pos 3_000_000) (Truth false)
unfolding plain said day_of day_named read_of
last_day = refl

past_last_day : plain (codes "Default") (codes "3000001") (codes "false") ≡ Err Day
unfolding plain said day_of day_named read_of
past_last_day = refl

ten_digits : plain (codes "FX") (codes "0000000001") (codes "9.0") ≡ Err Day
unfolding plain said day_of day_named read_of epoch_day_of parts_of two_of
ten_digits = refl

date_without_origin : plain (codes "FX") (codes "2024-01-16") (codes "1.0") ≡ Err Day
unfolding plain said day_of day_named read_of epoch_day_of parts_of two_of
date_without_origin = refl

no_date : dated (codes "FX") (codes "2023-02-29") (codes "1.0") ≡ Err Day
unfolding dated said day_of day_named read_of epoch_day_of parts_of two_of
no_date = refl

one_field : said (with_origin None) (codes "FX" ∷ []) ≡ Err Shape
unfolding said
one_field = refl
