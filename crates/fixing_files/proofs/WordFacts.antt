-- The words that a text begins with: their digits, and that csv writes them without quotation marks.
use Rattle.std.proofs.Common.{Bor, MatchOption, ◌≡◌, ◌∙◌, ℕ, zero, suc, ◌+◌, ◌-◌, ◌*◌, ◌^◌, ◌<◌, ◌≤◌, ◌==◌, ◌||◌, ℤ, pos, Bool, true, false, List, [], ◌∷◌, ◌++◌, length, take, drop, get_or, Option, Some, None, refl, sym, ap, subst, arith, neg_ℤ, add-one, append_assoc, unsigned_abs, drop-cons}
use Rattle.std.specs.Char.{digit_value}
use Rattle.std.specs.Cmp.Lexicographic.{pointwise}
use Rattle.std.proofs.lemmas.Slice.Eq.{bytes_eq-Decides}
use Rattle.std.specs.List.{list_any}
use Rattle.std.specs.Str.Parse.{AllDigits, digits_value, digits_value_after}
use Rattle.std.proofs.lemmas.Bool.Decides.{nat_tests}
use Rattle.std.proofs.lemmas.Int.Digits.{digits_more}
use Rattle.std.proofs.lemmas.List.Folds.{list_any-append}
use Rattle.std.proofs.lemmas.List.{append-nil, length-take, take-append-drop}
use Rattle.std.proofs.lemmas.Int.{unsigned_abs-mul}
use Rattle.std.proofs.Math.Nat.{mul-le-mul, pow-le-pow_right}
use Rattle.std.specs.Prelude.{IfSome, nat_eq, int_le, nat_le, ◌&&◌, option_map}
use Rattle.csv.specs.Writing.{default_writer, needs_byte}
use Rattle.decimal.specs.DecimalText.{IsDecimalText, after_point, minus_sign, signed}
use Rattle.decimal.proofs.ReadingFacts.{value_after_append, value_of_digit}
use Rattle.decimal.specs.Reading.{all_digits, digits_of, is_digit, is_number}
use Rattle.decimal.specs.Rounding.{raised}
use Rattle.fixing_files.specs.Days.{count_of, day_named, day_of, number_of}
use Rattle.fixing_files.specs.Laws.{Writes}
use Rattle.fixing_files.specs.Records.{day_said, within_days}
use Rattle.fixing_files.specs.Words.{BeginsWithDay, BeginsWithDigits, BeginsWithMantissa, IsBare}
use Rattle.fixing_files.proofs.DecimalFacts.{mantissas_written}

-- a word that a text begins with
pub prefix_found : (o : Option (Bor (List ℕ))) (word text : List ℕ)
    → MatchOption o (pointwise nat_eq (take (length word) text) word ≡ false)
    (λ rest. (pointwise nat_eq (take (length word) text) word ≡ true) × (rest.now ≡ drop (length word) text) × (length rest.now + length word ≡ length text))
    → IfSome o (λ rest. text ≡ word ++ rest.now)
prefix_found None word text h = tt
prefix_found (Some rest) word text h =
    let same : take (length word) text ≡ word = (bytes_eq-Decides (take (length word) text) word).0 h.0 in
    sym (take-append-drop (length word) text) ∙ ap (λ (w : List ℕ). w ++ drop (length word) text) same ∙ ap (λ (r : List ℕ). word ++ r) (sym h.1)

-- digits

pub digits_none : (before : ℕ) (text : List ℕ) → before < 10 ^ 18 → BeginsWithDigits before text before 0
digits_none before text few = record { within = omega arith; digits = tt; value = refl; few = few }

value_step : (n : ℕ) (text : List ℕ) (k : ℕ) → k < length text
    → digits_value_after 10 n (take (suc k) text) ≡ digits_value_after 10 n (take k text) * 10 + digit_value (get_or text k 0)
value_step n [] k h = absurd (omega arith)
value_step n (c ∷ cs) zero h = refl
value_step n (c ∷ cs) (suc k) h = value_step (n * 10 + digit_value c) cs k (omega arith)

pub digits_one_more : (before : ℕ) (text : List ℕ) (n m k i : ℕ) → k ≡ i → BeginsWithDigits before text n k → i < length text
    → digit_value (get_or text i 0) < 10 → m ≡ n * 10 + (get_or text i 0 - 48) → n < 10 ^ 17
    → BeginsWithDigits before text m (k + 1)
digits_one_more before text n m k i same h within digit is few =
    let b = get_or text i 0 in
    let value : b - 48 ≡ digit_value b = sym (value_of_digit b digit) in
    let at : get_or text k 0 ≡ b = ap (λ (j : ℕ). get_or text j 0) same in
    let here : digit_value (get_or text k 0) < 10 = subst (λ (x : ℕ). digit_value x < 10) (sym at) digit in
    let more : m ≡ n * 10 + digit_value (get_or text k 0) = is ∙ ap (λ (x : ℕ). n * 10 + x) (value ∙ ap digit_value (sym at)) in
    record {
      within = omega arith;
      digits = digits_more 10 text k (omega arith) h.digits here;
      value =
          more ∙ ap (λ (x : ℕ). x * 10 + digit_value (get_or text k 0)) h.value ∙ sym (value_step before text k (omega arith))
          ∙ ap (λ (j : ℕ). digits_value_after 10 before (take j text)) (sym (add-one k));
      few = omega arith;
    }

-- words without quotation marks

pub bare_none : IsBare []
bare_none = record { needs_none = refl }

neither : (a b : Bool) → a ≡ false → b ≡ false → (a || b) ≡ false
neither a b p q = cc

pub bare_both : (xs ys : List ℕ) → IsBare xs → IsBare ys → IsBare (xs ++ ys)
bare_both xs ys h k = record {
  needs_none = list_any-append (needs_byte default_writer) xs ys ∙ neither _ _ h.needs_none k.needs_none;
}

digit_is_bare : (b : ℕ) → digit_value b < 10 → needs_byte default_writer b ≡ false
digit_is_bare b h = grind (arith, nat_tests)

pub bare_digits : (ds : List ℕ) → AllDigits 10 ds → IsBare ds
bare_digits [] h = bare_none
bare_digits (d ∷ ds) h = record {
  needs_none = neither _ _ (digit_is_bare d h.0) (bare_digits ds h.1).needs_none;
}

pub bare_sign : (negative : Bool) → IsBare (minus_sign negative)
bare_sign true = record { needs_none = refl }
bare_sign false = bare_none

pub bare_point : (ds : List ℕ) → AllDigits 10 ds → IsBare (after_point ds)
bare_point [] h = bare_none
bare_point (d ∷ ds) h = bare_both (46 ∷ []) (d ∷ ds) (record { needs_none = refl }) (bare_digits (d ∷ ds) h)

-- the bytes behind a bare one
pub bare_step : (word : List ℕ) (i : ℕ) → i < length word → needs_byte default_writer (get_or word i 0) ≡ false
    → list_any (needs_byte default_writer) (drop (i + 1) word) ≡ list_any (needs_byte default_writer) (drop i word)
bare_step word i h bare = rw (add-one i, drop-cons word i 0 h, bare) refl

-- a number of days

digit_test : (b : ℕ) → digit_value b < 10 → is_digit b ≡ true
digit_test b h = grind (arith, nat_tests)

both_true : (a b : Bool) → a ≡ true → b ≡ true → (a && b) ≡ true
both_true a b p q = cc

all_tests : (ds : List ℕ) → AllDigits 10 ds → all_digits ds ≡ true
all_tests [] h = refl
all_tests (d ∷ ds) h = both_true (is_digit d) (all_digits ds) (digit_test d h.0) (all_tests ds h.1)

number_test : (ds : List ℕ) → 0 < length ds → AllDigits 10 ds → is_number ds ≡ true
number_test [] some h = absurd (omega arith)
number_test (d ∷ ds) some h = all_tests (d ∷ ds) h

count_said : (ds : List ℕ) → 0 < length ds → length ds ≤ 9 → AllDigits 10 ds → count_of ds ≡ Some (digits_value 10 ds)
count_said ds some few h =
    let short : nat_le (length ds) 9 ≡ true = grind (arith, nat_tests) in
    let number : digits_of ds ≡ Some (digits_value 10 ds) = rw (number_test ds some h) refl in
    rw short number

number_said : (negative : Bool) (ds : List ℕ) → 0 < length ds → length ds ≤ 9 → AllDigits 10 ds
    → number_of (minus_sign negative ++ ds) ≡ Some (signed negative (digits_value 10 ds))
number_said true ds some few h = ap (option_map (λ n. neg_ℤ (pos n))) (count_said ds some few h)
number_said false [] some few h = absurd (omega arith)
number_said false (d ∷ ds) some few h =
    let plain : (d == 45) ≡ false = grind (arith, nat_tests, h.0) in
    rw plain (ap (option_map (λ n. pos n)) (count_said (d ∷ ds) some few h))

within : (negative : Bool) (n : ℕ) → n ≤ 3000000 → within_days (signed negative n) ≡ Some (signed negative n)
within false n h = let below : int_le (pos n) (pos 3000000) ≡ true = grind (arith, nat_tests) in rw below refl
within true zero h = refl
within true (suc n) h = let above : int_le (neg_ℤ (pos 3000000)) (neg_ℤ (pos (suc n))) ≡ true = grind (arith, nat_tests) in rw above refl

day_is : (origin : Option ℤ) (word : List ℕ) (t : ℤ) → number_of word ≡ Some t → within_days t ≡ Some t → day_said origin word ≡ Some t
unfolding day_of day_named
day_is origin word t number fits = rw number fits

-- the digits that a text begins with, and what follows them
front_of : (text : List ℕ) (count : ℕ) (rest : List ℕ) → rest ≡ drop count text → text ≡ take count text ++ rest
front_of text count rest is = sym (take-append-drop count text) ∙ ap (λ (r : List ℕ). take count text ++ r) (sym is)

front_long : (text : List ℕ) (count : ℕ) → count ≤ length text → length (take count text) ≡ count
front_long text count h = omega (arith, length-take count text)

pub day_begins : (origin : Option ℤ) (negative : Bool) (text digits rest : List ℕ) (n count : ℕ) → text ≡ minus_sign negative ++ digits → BeginsWithDigits 0 digits n count
    → 0 < count → count ≤ 9 → n ≤ 3000000 → 44 ∷ rest ≡ drop count digits → BeginsWithDay origin text (signed negative n) rest
day_begins origin negative text digits rest n count sign h some few small behind =
    let ds = take count digits in
    let long = front_long digits count h.within in
    let number = number_said negative ds (omega arith) (omega arith) h.digits ∙ ap (λ (k : ℕ). Some (signed negative k)) (sym h.value) in
    record {
      word = minus_sign negative ++ ds;
      split = sign ∙ ap (λ (r : List ℕ). minus_sign negative ++ r) (front_of digits count (44 ∷ rest) behind) ∙ sym (append_assoc (minus_sign negative) ds (44 ∷ rest));
      bare = bare_both (minus_sign negative) ds (bare_sign negative) (bare_digits ds h.digits);
      said = day_is origin (minus_sign negative ++ ds) (signed negative n) number (within negative n small);
    }

-- a decimal

size_of_signed : (negative : Bool) (n : ℕ) → unsigned_abs (signed negative n) ≡ n
size_of_signed false n = refl
size_of_signed true zero = refl
size_of_signed true (suc n) = refl

pub raised_small : (negative : Bool) (n more : ℕ) → n < 10 ^ 18 → more ≤ 18 → unsigned_abs (raised (signed negative n) more) ≤ 10 ^ 37
raised_small negative n more small few =
    let size = unsigned_abs-mul (signed negative n) (pos (10 ^ more)) in
    let own = size_of_signed negative n in
    let power : 10 ^ more ≤ 10 ^ 18 = pow-le-pow_right (omega arith) few in
    let product : n * 10 ^ more ≤ 10 ^ 18 * 10 ^ 18 = mul-le-mul {n₁ = n} {m₁ = 10 ^ more} {n₂ = 10 ^ 18} {m₂ = 10 ^ 18} (omega arith) power in
    subst (λ (x : ℕ). x ≤ 10 ^ 37) (sym (size ∙ ap (λ (x : ℕ). x * 10 ^ more) own)) (omega arith)

point_before : (ds : List ℕ) → 0 < length ds → after_point ds ≡ 46 ∷ ds
point_before [] h = absurd (omega arith)
point_before (d ∷ ds) h = refl

-- a decimal of few digits has its mantissa at a scale
decimal_begins : (negative : Bool) (text whole decimals rest : List ℕ) (n scale : ℕ) → text ≡ minus_sign negative ++ (whole ++ (after_point decimals ++ rest))
    → 0 < length whole → AllDigits 10 whole → AllDigits 10 decimals → n ≡ digits_value 10 (whole ++ decimals) → n < 10 ^ 18 → length decimals ≤ scale → scale ≤ 18
    → BeginsWithMantissa scale text (raised (signed negative n) (scale - length decimals)) rest
decimal_begins negative text whole decimals rest n scale split some w d value small few most =
    let word = minus_sign negative ++ (whole ++ after_point decimals) in
    let m = raised (signed negative n) (scale - length decimals) in
    let written : IsDecimalText word (signed negative n) (length decimals) = record {
      negative = negative;
      whole = whole;
      decimals = decimals;
      spelled = refl;
      whole_digits = (some, w);
      decimal_digits = d;
      mantissa = ap (signed negative) value;
      scale = refl;
    } in
    let writes : Writes word scale m = record {
      mantissa = signed negative n;
      decimals = length decimals;
      written = written;
      few = few;
      widened = refl;
      limited = raised_small negative n (scale - length decimals) small (omega arith);
    } in
    record {
      word = word;
      split =
          split ∙ ap (λ (r : List ℕ). minus_sign negative ++ r) (sym (append_assoc whole (after_point decimals) rest))
          ∙ sym (append_assoc (minus_sign negative) (whole ++ after_point decimals) rest);
      bare = bare_both (minus_sign negative) (whole ++ after_point decimals) (bare_sign negative) (bare_both whole (after_point decimals) (bare_digits whole w) (bare_point decimals d));
      mantissa = (mantissas_written word scale m most).1 writes;
    }

pub whole_begins : (negative : Bool) (text digits rest : List ℕ) (n count scale : ℕ) → text ≡ minus_sign negative ++ digits → BeginsWithDigits 0 digits n count
    → 0 < count → rest ≡ drop count digits → scale ≤ 18 → BeginsWithMantissa scale text (raised (signed negative n) scale) rest
whole_begins negative text digits rest n count scale sign h some behind most =
    let ds = take count digits in
    let long = front_long digits count h.within in
    let all : scale - 0 ≡ scale = omega arith in
    subst (λ (k : ℕ). BeginsWithMantissa scale text (raised (signed negative n) k) rest) all
    (decimal_begins negative text ds [] rest n scale (sign ∙ ap (λ (r : List ℕ). minus_sign negative ++ r) (front_of digits count rest behind)) (omega arith) h.digits tt
    (h.value ∙ ap (digits_value 10) (sym (append-nil ds))) h.few (omega arith) most)

pub pointed_begins : (negative : Bool) (text digits fraction : List ℕ) (n count m more scale : ℕ) → text ≡ minus_sign negative ++ digits → BeginsWithDigits 0 digits n count
    → 0 < count → 46 ∷ fraction ≡ drop count digits → BeginsWithDigits n fraction m more → 0 < more → more ≤ scale → scale ≤ 18
    → BeginsWithMantissa scale text (raised (signed negative m) (scale - more)) (drop more fraction)
pointed_begins negative text digits fraction n count m more scale sign h some behind f few within most =
    let ds = take count digits in
    let es = take more fraction in
    let rest = drop more fraction in
    let long = front_long digits count h.within in
    let long_fraction = front_long fraction more f.within in
    let point : 46 ∷ fraction ≡ after_point es ++ rest =
    ap (λ (r : List ℕ). 46 ∷ r) (front_of fraction more rest refl) ∙ ap (λ (r : List ℕ). r ++ rest) (sym (point_before es (omega arith))) in
    let split : digits ≡ ds ++ (after_point es ++ rest) = front_of digits count (46 ∷ fraction) behind ∙ ap (λ (r : List ℕ). ds ++ r) point in
    let value : m ≡ digits_value 10 (ds ++ es) = f.value ∙ ap (λ (k : ℕ). digits_value_after 10 k es) h.value ∙ sym (value_after_append 0 ds es) in
    subst (λ (k : ℕ). BeginsWithMantissa scale text (raised (signed negative m) (scale - k)) rest) long_fraction
    (decimal_begins negative text ds es rest m scale (sign ∙ ap (λ (r : List ℕ). minus_sign negative ++ r) split) (omega arith) h.digits f.digits value f.few (omega arith) most)
