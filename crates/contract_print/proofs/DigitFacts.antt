-- The digits of numbers that texts are made of.
use Rattle.std.proofs.Common.{◌≡◌, ℕ, suc, ◌+◌, ◌/◌, ◌%◌, ◌^◌, ◌≤◌, ◌<◌, ◌⊎◌, List, [], ◌∷◌, ◌++◌, map, Ok, Bool, false, pos, length, inl, inr, ap, sym, ◌∙◌, refl, arith}
use Rattle.std.proofs.lemmas.Bool.Decides.{nat_tests}
use Rattle.std.proofs.lemmas.Bool.{cases_lt}
use Rattle.std.proofs.lemmas.Int.Digits.{length-digits_of-le}
use Rattle.std.specs.Prelude.{if◌then◌else◌, int_lt}
use Rattle.std.specs.Int.Digits.{digits_of}
use Rattle.std.specs.Str.Parse.{IsNumeral, AllDigits, digits_value}
use Rattle.decimal.specs.DecimalText.{after_point}
use Rattle.decimal.specs.Reading.{read_of}
use Rattle.decimal.specs.Text.{last_digits, whole_digits, unsigned_text, text_of}
use Rattle.decimal.proofs.ReadingFacts.{reads}
use Rattle.decimal.proofs.TextLawFacts.{last_numeral, reads_back, unsigned_spelled, unsigned_value, whole_numeral, whole_some, whole_none}

-- the text of n at s decimals is digits, and perhaps a point and digits
pub record Digits (text : List ℕ) (n s : ℕ) : Type 0 where
  pub whole : List ℕ
  pub decimals : List ℕ
  pub is : text ≡ whole ++ after_point decimals
  pub numeral : IsNumeral 10 whole
  pub digits : AllDigits 10 decimals
  pub count : length decimals ≡ s
  pub value : digits_value 10 (whole ++ decimals) ≡ n

pub digits_of_text : (n s : ℕ) → Digits (unsigned_text n s) n s
digits_of_text n s = record {
  whole = whole_digits (n / 10 ^ s);
  decimals = last_digits s (n % 10 ^ s);
  is = unsigned_spelled n s;
  numeral = (whole_numeral (n / 10 ^ s)).0;
  digits = (last_numeral s (n % 10 ^ s)).0;
  count = (last_numeral s (n % 10 ^ s)).1;
  value = unsigned_value n s;
}

-- what is not negative has no sign
pub unsigned : (n s : ℕ) → text_of (pos n) s ≡ unsigned_text n s
unfolding text_of
unsigned n s = let whole : int_lt (pos n) (pos 0) ≡ false = grind (arith, nat_tests) in ap (λ (b : Bool). (if b then 45 ∷ [] else []) ++ unsigned_text n s) whole

pub read_unsigned : (n s : ℕ) → n ≤ 10 ^ 37 → s ≤ 27 → read_of (unsigned_text n s) ≡ Ok (record { mant = pos n; scale = s })
read_unsigned n s size scale =
    ap read_of (sym (unsigned n s)) ∙ reads_back (pos n) s (read_of (text_of (pos n) s)) size scale (reads (text_of (pos n) s))

-- ---- a small number has few digits

length-written : (ds : List ℕ) → length (map (λ d. 48 + d) ds) ≡ length ds
length-written [] = refl
length-written (d ∷ ds) = ap suc (length-written ds)

pub few_digits : (n : ℕ) → n < 1000 → length (whole_digits n) ≤ 3
few_digits n h = by (cases_lt 0 n)
  where
    by : (0 < n) ⊎ (n ≤ 0) → length (whole_digits n) ≤ 3
    by (inl p) = omega (arith, ap length (whole_some n p), length-written (digits_of 10 n), length-digits_of-le 10 3 n (omega arith) (omega arith))
    by (inr p) = omega (arith, ap length (whole_none n p))
