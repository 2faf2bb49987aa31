-- The limits that numbers keep: a version is 1 or 2, an asset has at most the decimals of the amounts, in version 1 just
-- as many, the offset of an observable is at most 1,000,000 days, an origin is an epoch day from
-- 1900-01-01 to 2999-12-31, a label's scale is at most 18 and its bounds are in order and of at most 10^37 in size, and
-- a template's number is at most 100,000.
use Rattle.std.specs.Prelude.{ℕ, ℤ, pos, neg_ℤ, ◌≤ℤ◌, ◌==◌, Bool, true, ◌&&◌, ◌||◌, nat_le, int_le, unsigned_abs, List, Option, Some, None}
use Rattle.std.specs.List.{list_all}
pub use Rattle.decimal.specs.Mantissas.{greatest_mantissa}
use Rattle.term_model.specs.declared.name.Name.{Name}
use Rattle.term_model.specs.declared.label.Label.{Label}
use Rattle.term_model.specs.declared.label.Label.TheVariants.{Number, Flag}

-- days: the last on which contracts may stand, the greatest count and number of a template, the greatest offset of an
-- observable, the epoch days that may be day 0, the last that may be fixed, the greatest offset of a curve
abbrev pub last_start : ℕ
last_start = 1_000_000

abbrev pub most_days : ℕ
most_days = 100_000

abbrev pub greatest_offset : ℕ
greatest_offset = 1_000_000

abbrev pub first_origin : ℤ
first_origin = neg_ℤ (pos 25_567)

abbrev pub last_origin : ℤ
last_origin = pos 376_199

abbrev pub last_fixed_day : ℕ
last_fixed_day = 3_000_000

abbrev pub last_curve_offset : ℕ
last_curve_offset = 2_000_000

-- texts and terms: the bytes of the longest file, the number as which a greater height or number of nodes is counted, the
-- most nodes of a contract and of code, the most days of reach and past together, the most steps, and the greatest height
-- of a contract and of code
abbrev pub longest_file : ℕ
longest_file = 16_777_216

abbrev pub most_counted : ℕ
most_counted = 1_000_000

abbrev pub most_nodes : ℕ
most_nodes = 100_000

abbrev pub most_nodes_of_code : ℕ
most_nodes_of_code = 200_000

abbrev pub most_reach_and_past : ℕ
most_reach_and_past = 1_000_000

abbrev pub most_work : ℕ
most_work = 10_000_000

abbrev pub most_height : ℕ
most_height = 200

abbrev pub most_height_of_code : ℕ
most_height_of_code = 400

abbrev pub is_a_version : ℕ → Bool
is_a_version v = (v == 1) || (v == 2)

abbrev pub has_decimals : ℕ → ℕ → ℕ → Bool
has_decimals version amounts decimals = nat_le decimals amounts && ((version == 2) || (decimals == amounts))

abbrev pub have_decimals : ℕ → ℕ → List (Name × ℕ) → Bool
have_decimals version amounts entries = list_all (λ entry. has_decimals version amounts entry.1) entries

abbrev pub is_origin : Option ℤ → Bool
is_origin None = true
is_origin (Some day) = int_le first_origin day && int_le day last_origin

abbrev pub is_label : Label → Bool
is_label Flag = true
is_label (Number scale low high) =
    nat_le scale 18 && (int_le low high && (nat_le (unsigned_abs low) greatest_mantissa && nat_le (unsigned_abs high) greatest_mantissa))

abbrev pub are_labels : List (Name × Label) → Bool
are_labels entries = list_all (λ entry. is_label entry.1) entries

abbrev pub are_numbers : List (Name × ℕ) → Bool
are_numbers entries = list_all (λ entry. nat_le entry.1 most_days) entries

abbrev pub IsOffset : ℤ → Type 0
IsOffset t = (neg_ℤ (pos greatest_offset) ≤ℤ t) × (t ≤ℤ pos greatest_offset)
