-- Numbers that begin a text: digits, and perhaps a point and digits behind it.
use Rattle.std.proofs.Common.{to_z, w32, ◌≡◌, ◌≢◌, ℕ, suc, ◌+◌, ◌*◌, ◌-◌, ◌≤◌, ◌<◌, ◌^◌, Bool, true, false, cond, ◌&&◌, List, [], ◌∷◌, ◌++◌, Some, Result, Ok, Err, length, take, drop, refl, sym, ap, subst, ◌∙◌, inl, inr, arith, append_assoc}
use Rattle.std.specs.Prelude.{◌==◌, codes, ℤ, pos, nat_le, nat_lt, not}
use Rattle.std.specs.List.{prefix_len, list_all}
use Rattle.std.specs.Char.{digit_value}
use Rattle.std.specs.Str.{bytes_eq}
use Rattle.std.specs.Str.Parse.{IsNumeral, AllDigits}
use Rattle.std.proofs.Math.ListN.{get_or}
use Rattle.std.proofs.lemmas.Int.{to_z_pos}
use mir.Syntax.{w128}
use Rattle.std.proofs.lemmas.Bool.{cases_Bool, false≢true}
use Rattle.std.proofs.lemmas.Bool.Decides.{nat_tests}
use Rattle.std.proofs.lemmas.List.{append-nil, drop_at, get_or_at, length-append, take_all}
use Rattle.decimal.specs.DecimalText.{after_point}
use Rattle.decimal.specs.Mantissas.{decimal_of}
use Rattle.decimal.specs.Reading.{number_after, up_to}
use Rattle.decimal.proofs.AnswerFacts.{read_is}
use Rattle.decimal.proofs.ReadingFacts.{number_of_both}
use Rattle.contract_grammar.specs.declared.token.LexemeKind.{LexemeKind}
use Rattle.contract_grammar.specs.declared.token.LexemeKind.TheVariants.{Word, Number, Date, Mark, End, Stray}
use Rattle.contract_grammar.specs.Tokens.{Tok, after_gap, begins_with_date, digits_extent, extent_at, fraction_len, is_blank, is_digit, is_letter, is_word_byte, mark_extent, mark_len, number_len, tokens, word_extent}
use Rattle.contract_grammar.specs.Words.{Bytes, is_integer, is_mark_kind, is_number_kind, is_the_mark}
use Rattle.contract_grammar.specs.Names.{DeclaredNames}
use Rattle.contract_grammar.specs.Judgements.{days_at, integer_at, literal_at, offset_at, or_fault, signed_decimal, signed_result}
use Rattle.contract_grammar.specs.Spelling.{valued}
use Rattle.contract_grammar.specs.declared.faults.TextKind.{TextKind}
use Rattle.contract_grammar.specs.declared.faults.TextKind.TheVariants as kind
use Rattle.term_model.specs.DayCounts.{Num}
use Rattle.contract_grammar.proofs.DateShape.{begins_date}
use Rattle.contract_grammar.proofs.EntryFacts.{and_parts}
use Rattle.contract_grammar.proofs.NameFacts.{days_number}
use Rattle.contract_parse.specs.Expecting.{Expected, Next, OffsetAt, judged, step}
use Rattle.contract_parse.specs.AtOnce.{after_digits, ends_integer, number_written}
use Rattle.contract_parse.proofs.WordsAtOnce.{is_first, prefix_all, token}

-- ---- the digits that a text begins with

test_from_digit : (b : ℕ) → digit_value b < 10 → is_digit b ≡ true
test_from_digit b h = grind (arith, nat_tests)

digit_from_test : (b : ℕ) → is_digit b ≡ true → digit_value b < 10
digit_from_test b h = grind (arith, nat_tests)

all_digits : (ds : List ℕ) → AllDigits 10 ds → list_all is_digit ds ≡ true
all_digits [] h = refl
all_digits (d ∷ ds) h = rw (test_from_digit d h.0) (all_digits ds h.1)

record Begins (n : ℕ) (bytes : List ℕ) : Type 0 where
  digits : List ℕ
  is : bytes ≡ digits ++ after_digits bytes
  all : AllDigits 10 digits
  number : number_written n bytes ≡ number_after n digits

begins : (n : ℕ) (bytes : List ℕ) → Begins n bytes
begins n [] = record { digits = []; is = refl; all = tt; number = refl }
begins n (b ∷ bs) = elim (cases_Bool (is_digit b)) [
  | inl digit ↦
      let more = begins (n * 10 + (b - 48)) bs in
      record {
        digits = b ∷ more.digits;
        is = rw digit (ap (λ (xs : List ℕ). b ∷ xs) more.is);
        all = (digit_from_test b digit, more.all);
        number = rw digit more.number;
      }
  | inr other ↦ record { digits = []; is = rw other refl; all = tt; number = rw other refl }
]

head_same : (b c : ℕ) (bs cs : List ℕ) → c ∷ cs ≡ b ∷ bs → c ≡ b
head_same b c bs cs e = ap (λ (xs : List ℕ). get_or xs 0 0) e

-- what is behind them is no digit
behind_no_digit : (bytes : List ℕ) (c : ℕ) (cs : List ℕ) → c ∷ cs ≡ after_digits bytes → is_digit c ≡ false
behind_no_digit [] c cs e = absurd cc
behind_no_digit (b ∷ bs) c cs e = elim (cases_Bool (is_digit b)) [
  | inl digit ↦ behind_no_digit bs c cs (e ∙ ap (λ (t : Bool). cond t (after_digits bs) (b ∷ bs)) digit)
  | inr other ↦ ap is_digit (head_same b c bs cs (e ∙ ap (λ (t : Bool). cond t (after_digits bs) (b ∷ bs)) other)) ∙ other
]

-- ---- the token that they are

-- a date has four digits and a hyphen
no_date : (w : List ℕ) (c : ℕ) (cs : List ℕ) → list_all is_digit w ≡ true → is_digit c ≡ false → c ≢ 45 → begins_with_date (w ++ c ∷ cs) ≡ false
no_date w c cs all none other = elim (cases_Bool (begins_with_date (w ++ c ∷ cs))) [
  | inl is ↦
      let date = begins_date (w ++ c ∷ cs) is in
      let four : length w ≡ 4 = sym (prefix_all is_digit w c cs all none) ∙ date.year in
      absurd (other (sym (get_or_at w c cs 0 4 four) ∙ date.hyphen))
  | inr no' ↦ no'
]

-- what may stand behind a number: behind a point's digits all but a digit
abbrev Ends : List ℕ → ℕ → Type 0
Ends [] c = (is_digit c ≡ false) × (c ≢ 45) × ((c == 46) ≡ false)
Ends (d ∷ ds) c = is_digit c ≡ false

fraction_some : (d c : ℕ) (ds cs : List ℕ) → AllDigits 10 (d ∷ ds) → is_digit c ≡ false → fraction_len (46 ∷ (d ∷ ds) ++ c ∷ cs) ≡ suc (suc (length ds))
fraction_some d c ds cs all none =
    let n : prefix_len is_digit ((d ∷ ds) ++ c ∷ cs) ≡ suc (length ds) = prefix_all is_digit (d ∷ ds) c cs (all_digits (d ∷ ds) all) none in
    ap (λ k. cond (nat_lt 0 k) (1 + k) 0) n ∙ some (length ds)
  where
    some : (k : ℕ) → cond (nat_lt 0 (suc k)) (1 + suc k) 0 ≡ suc (suc k)
    some k = grind (arith, nat_tests)

record NumberEnds (bytes : List ℕ) (len : ℕ) : Type 0 where
  no_date' : begins_with_date bytes ≡ false
  all : number_len bytes ≡ len

number_by : (w f bytes : List ℕ) (len : ℕ) → bytes ≡ w ++ f → prefix_len is_digit bytes ≡ length w → fraction_len f ≡ len → number_len bytes ≡ length w + len
number_by w f bytes len is whole fraction =
    ap (λ k. k + fraction_len (drop k bytes)) whole
    ∙ ap (λ (r : List ℕ). length w + fraction_len r) (ap (λ (b : List ℕ). drop (length w) b) is ∙ drop_at w f (length w) refl)
    ∙ ap (λ k. length w + k) fraction

number_ends : (w ds : List ℕ) (c : ℕ) (cs : List ℕ) → list_all is_digit w ≡ true → AllDigits 10 ds → Ends ds c → NumberEnds (w ++ (after_point ds ++ c ∷ cs)) (length (w ++ after_point ds))
number_ends w [] c cs digits frac s =
    record {
      no_date' = no_date w c cs digits s.0 s.1;
      all = number_by w (c ∷ cs) (w ++ c ∷ cs) 0 refl (prefix_all is_digit w c cs digits s.0) (rw (s.2) refl) ∙ omega (arith, length-append w []);
    }
number_ends w (d ∷ ds) c cs digits frac s =
    let rest = (d ∷ ds) ++ c ∷ cs in
    record {
      no_date' = no_date w 46 rest digits refl (λ e. absurd (omega (arith, e)));
      all = number_by w (46 ∷ rest) (w ++ 46 ∷ rest) (suc (suc (length ds))) refl (prefix_all is_digit w 46 rest digits refl) (fraction_some d c ds cs frac s) ∙ omega (arith, length-append w (46 ∷ d ∷ ds));
    }

digit_no_letter : (b : ℕ) → is_digit b ≡ true → is_letter b ≡ false
digit_no_letter b h = grind (arith, nat_tests)

digit_no_gap : (b : ℕ) (bs : List ℕ) → is_digit b ≡ true → after_gap false (b ∷ bs) ≡ b ∷ bs
digit_no_gap b bs digit =
    let blank : is_blank b ≡ false = grind (arith, nat_tests) in
    let hash : (b == 35) ≡ false = grind (arith, nat_tests) in
    rw (blank, hash) refl

number_extent : (b : ℕ) (bs : List ℕ) (len : ℕ) → is_digit b ≡ true → NumberEnds (b ∷ bs) len → extent_at (b ∷ bs) ≡ record { kind = Number; len = len }
unfolding extent_at
number_extent b bs len digit ends =
    let bytes = b ∷ bs in
    ap (λ (t : Bool). cond t (word_extent (prefix_len is_word_byte bytes)) (cond (is_digit b) (digits_extent bytes) (mark_extent (mark_len bytes)))) (digit_no_letter b digit)
    ∙ ap (λ (t : Bool). cond t (digits_extent bytes) (mark_extent (mark_len bytes))) digit
    ∙ ap (λ (t : Bool). cond t (record { kind = Date; len = 10 }) (record { kind = Number; len = number_len bytes })) ends.no_date'
    ∙ ap (λ (n : ℕ). record { kind = Number; len = n }) ends.all

digits_token : (w ds : List ℕ) (c : ℕ) (cs : List ℕ) → IsNumeral 10 w → AllDigits 10 ds → Ends ds c
    → tokens ((w ++ after_point ds) ++ c ∷ cs) ≡ token Number (w ++ after_point ds) (length ((w ++ after_point ds) ++ c ∷ cs)) ∷ tokens (c ∷ cs)
digits_token [] ds c cs numeral frac stop = absurd (omega (arith, numeral.0))
digits_token (x ∷ xs) ds c cs numeral frac stop =
    let w = x ∷ xs in
    let text = w ++ after_point ds in
    let digits = all_digits w numeral.1 in
    let digit = (and_parts (is_digit x) (list_all is_digit xs) digits).0 in
    let ends = subst (λ (b : List ℕ). NumberEnds b (length text)) (sym (append_assoc w (after_point ds) (c ∷ cs))) (number_ends w ds c cs digits frac stop) in
    is_first text (c ∷ cs) Number (length text) refl (digit_no_gap x ((xs ++ after_point ds) ++ c ∷ cs) digit) (number_extent x ((xs ++ after_point ds) ++ c ∷ cs) (length text) digit ends) refl

integer_token : (w : List ℕ) (c : ℕ) (cs : List ℕ) → IsNumeral 10 w → Ends [] c → tokens (w ++ c ∷ cs) ≡ token Number w (length (w ++ c ∷ cs)) ∷ tokens (c ∷ cs)
integer_token w c cs numeral ends =
    subst (λ (text : List ℕ). tokens (text ++ c ∷ cs) ≡ token Number text (length (text ++ c ∷ cs)) ∷ tokens (c ∷ cs)) (append-nil w) (digits_token w [] c cs numeral tt ends)

-- ---- what the grammar makes of it

-- digits have no point
no_point : (ds : List ℕ) → AllDigits 10 ds → list_all (λ b. not (b == 46)) ds ≡ true
no_point [] h = refl
no_point (d ∷ ds) h =
    let other : (d == 46) ≡ false = grind (arith, nat_tests, h.0) in
    rw other (no_point ds h.1)

fits : (most n : ℕ) → n ≤ most → up_to most n ≡ Some n
fits most n h = let t : nat_le n most ≡ true = grind (arith, nat_tests) in rw t refl

module _ (most : ℕ) (w : List ℕ) (left : ℕ) where
  integer_is : (n : ℕ) → AllDigits 10 w → n ≡ number_after 0 w → n ≤ most → integer_at most (token Number w left) ≡ Ok n
  integer_is n digits is low =
      ap (λ b. cond b (or_fault kind.Number (up_to most (number_after 0 w))) (Err kind.Syntax)) (no_point w digits)
      ∙ ap (λ m. or_fault kind.Number (up_to most m)) (sym is)
      ∙ ap (or_fault kind.Number) (fits most n low)

no_point_next : (c : ℕ) → is_digit c ≡ false → (not (c == 45) && not (c == 46)) ≡ true → Ends [] c
no_point_next c stop more = (stop, λ e. grind (arith, nat_tests), grind (arith, nat_tests))

-- a number without a point that begins a text
pub integer_valued : (most n : ℕ) (start after : List ℕ) → n ≡ number_written 0 start → after ≡ after_digits start → length after < length start → n ≤ most
    → ends_integer after ≡ true → valued (integer_at most) n (tokens start) (tokens after)
integer_valued most n start [] is rest some low more = absurd (false≢true more)
integer_valued most n start (c ∷ cs) is rest some low more = by s.digits s.is s.all s.number
  where
    s : Begins 0 start
    s = begins 0 start

    by : (ds : List ℕ) → start ≡ ds ++ after_digits start → AllDigits 10 ds → number_written 0 start ≡ number_after 0 ds → valued (integer_at most) n (tokens start) (tokens (c ∷ cs))
    by [] split all number = absurd (omega (arith, some, ap length (split ∙ sym rest)))
    by (d ∷ ds) split all number =
        let text = d ∷ ds in
        let here : start ≡ text ++ c ∷ cs = split ∙ ap (λ (r : List ℕ). text ++ r) (sym rest) in
        let left = length (text ++ c ∷ cs) in
        subst (λ (b : List ℕ). valued (integer_at most) n (tokens b) (tokens (c ∷ cs))) (sym here)
        (token Number text left, integer_token text c cs (omega arith, all) (no_point_next c (behind_no_digit start c cs rest) more), integer_is most text left n all (is ∙ number) low)

small_mantissa : (n : ℕ) → n ≤ 10 ^ 19 → n ≤ 10 ^ 37
small_mantissa n low = omega (arith, low)

-- the decimal that digits on both sides of a point are, or digits alone
decimal_is : (w ds : List ℕ) (n : ℕ) → IsNumeral 10 w → AllDigits 10 ds → n ≡ number_after (number_after 0 w) ds → n ≤ 10 ^ 19 → length ds ≤ 27
    → Some (record { mant = pos n; scale = length ds }) ≡ decimal_of (w ++ after_point ds)
decimal_is w ds n numeral digits is low short =
    read_is (w ++ after_point ds) (Ok (record { mant = pos n; scale = length ds })) (
      record {
        negative = false;
        whole = w;
        decimals = ds;
        spelled = refl;
        whole_digits = numeral;
        decimal_digits = digits;
        mantissa = ap pos (is ∙ number_of_both w ds numeral.1 digits);
        scale = refl;
      },
      small_mantissa n low,
      short,
    )

wide : (n : ℕ) → n ≤ 10 ^ 19 → to_z w128 n ≡ pos n
wide n low = to_z_pos w128 n (omega (arith, low))

-- a literal that begins a text, of these digits
literal_here : (w ds : List ℕ) (c : ℕ) (cs start : List ℕ) (n k : ℕ) → IsNumeral 10 w → AllDigits 10 ds → Ends ds c → start ≡ (w ++ after_point ds) ++ c ∷ cs
    → n ≡ number_after (number_after 0 w) ds → n ≤ 10 ^ 19 → k ≡ length ds → k ≤ 27
    → valued (literal_at false) (record { mant = to_z w128 n; scale = k }) (tokens start) (tokens (c ∷ cs))
literal_here w ds c cs start n k numeral digits ends split is low scale short =
    let text = w ++ after_point ds in
    let V = λ (m : ℤ) (j : ℕ) (b : List ℕ). valued (literal_at false) (record { mant = m; scale = j }) (tokens b) (tokens (c ∷ cs)) in
    let short' : length ds ≤ 27 = omega (arith, scale, short) in
    let here : V (pos n) (length ds) (text ++ c ∷ cs) =
    (token Number text (length (text ++ c ∷ cs)), digits_token w ds c cs numeral digits ends, ap (λ o. signed_decimal false o) (sym (decimal_is w ds n numeral digits is low short'))) in
    subst (λ (b : List ℕ). V (to_z w128 n) k b) (sym split) (subst (λ (j : ℕ). V (to_z w128 n) j (text ++ c ∷ cs)) (sym scale) (subst (λ (m : ℤ). V m (length ds) (text ++ c ∷ cs)) (sym (wide n low)) here))

pub whole_valued : (n : ℕ) (start after : List ℕ) → n ≡ number_written 0 start → after ≡ after_digits start → length after < length start → n ≤ 10 ^ 19
    → ends_integer after ≡ true → valued (literal_at false) (record { mant = to_z w128 n; scale = 0 }) (tokens start) (tokens after)
whole_valued n start [] is rest some low more = absurd (false≢true more)
whole_valued n start (c ∷ cs) is rest some low more = by s.digits s.is s.all s.number
  where
    s : Begins 0 start
    s = begins 0 start

    by : (ds : List ℕ) → start ≡ ds ++ after_digits start → AllDigits 10 ds → number_written 0 start ≡ number_after 0 ds → valued (literal_at false) (record { mant = to_z w128 n; scale = 0 }) (tokens start) (tokens (c ∷ cs))
    by [] split all number = absurd (omega (arith, some, ap length (split ∙ sym rest)))
    by (d ∷ ds) split all number =
        let text = d ∷ ds in
        let here : start ≡ (text ++ []) ++ c ∷ cs = split ∙ ap (λ (r : List ℕ). text ++ r) (sym rest) ∙ ap (λ (t : List ℕ). t ++ c ∷ cs) (sym (append-nil text)) in
        literal_here text [] c cs start n 0 (omega arith, all) tt (no_point_next c (behind_no_digit start c cs rest) more) here (is ∙ number) low refl (omega arith)

-- a point and what is behind it
pub point_here : (start after : List ℕ) → after ≡ after_digits start → 1 ≤ length after → get_or after 0 0 ≡ 46 → after_digits start ≡ 46 ∷ take (length after - 1) (drop 1 after)
point_here start [] is some point = absurd (omega arith)
point_here start (c ∷ cs) is some point =
    sym is ∙ ap (λ b. b ∷ cs) point ∙ ap (λ (r : List ℕ). 46 ∷ r) (sym (take_all (suc (length cs) - 1) cs (omega arith)))

-- the same with a point and digits behind it: `more` is what is behind the point
pub point_valued : (whole n k : ℕ) (start more after : List ℕ) → whole ≡ number_written 0 start → after_digits start ≡ 46 ∷ more → suc (length more) < length start
    → n ≡ number_written whole more → after ≡ after_digits more → length after < length more → n ≤ 10 ^ 19 → k ≡ length more - length after → k ≤ 27 → 0 < length after
    → valued (literal_at false) (record { mant = to_z w128 n; scale = k }) (tokens start) (tokens after)
point_valued whole n k start more [] first rest some is behind fewer low scale short left = absurd (omega arith)
point_valued whole n k start more (c ∷ cs) first rest some is behind fewer low scale short left = by s.digits s.is s.all s.number f.digits f.is f.all f.number
  where
    s : Begins 0 start
    s = begins 0 start

    f : Begins whole more
    f = begins whole more

    by : (w : List ℕ) → start ≡ w ++ after_digits start → AllDigits 10 w → number_written 0 start ≡ number_after 0 w
        → (ds : List ℕ) → more ≡ ds ++ after_digits more → AllDigits 10 ds → number_written whole more ≡ number_after whole ds
        → valued (literal_at false) (record { mant = to_z w128 n; scale = k }) (tokens start) (tokens (c ∷ cs))
    by [] split all number ds split' all' number' = absurd (omega (arith, some, ap length (split ∙ rest)))
    by (x ∷ xs) split all number [] split' all' number' = absurd (omega (arith, fewer, ap length (split' ∙ sym behind)))
    by (x ∷ xs) split all number (d ∷ ds) split' all' number' =
        let w = x ∷ xs in
        let es = d ∷ ds in
        let tail : more ≡ es ++ c ∷ cs = split' ∙ ap (λ (r : List ℕ). es ++ r) (sym behind) in
        let here : start ≡ (w ++ after_point es) ++ c ∷ cs = split ∙ ap (λ (r : List ℕ). w ++ r) (rest ∙ ap (λ (r : List ℕ). 46 ∷ r) tail) ∙ sym (append_assoc w (46 ∷ es) (c ∷ cs)) in
        let long : k ≡ length es = omega (arith, scale, ap length tail, length-append es (c ∷ cs)) in
        literal_here w es c cs start n k (omega arith, all) all' (behind_no_digit more c cs behind) here
        (is ∙ number' ∙ ap (λ m. number_after m es) (first ∙ number)) low long short

-- ---- what else a number without a point is

-- it is no mark
integer_no_mark : (k : LexemeKind) (b : Bool) → (is_number_kind k && b) ≡ true → is_mark_kind k ≡ false
integer_no_mark Number b e = refl
integer_no_mark Word b e = absurd cc
integer_no_mark Date b e = absurd cc
integer_no_mark Mark b e = absurd cc
integer_no_mark End b e = absurd cc
integer_no_mark Stray b e = absurd cc

integer_so : (b : Bool) (o : Result ℕ TextKind) (n : ℕ) → cond b o (Err kind.Syntax) ≡ Ok n → b ≡ true
integer_so true o n e = refl
integer_so false o n e = absurd cc

is_integer_token : (most n : ℕ) (t : Tok) → integer_at most t ≡ Ok n → is_integer t ≡ true
is_integer_token most n t e = integer_so (is_integer t) (or_fault kind.Number (up_to most (number_after 0 t.text))) n e

pub count_valued : (names : List Bytes) (n : ℕ) (ts rest : List Tok) → valued (integer_at 100_000) n ts rest → valued (days_at names) (Num n) ts rest
count_valued names n ts rest (t, is, e) = (t, is, sym (days_number names t n (sym (is_integer_token 100_000 n t e)) (sym e)))

pub offset_valued : (n : ℕ) (ts rest : List Tok) → n ≤ 1_000_000 → valued (integer_at 1_000_000) n ts rest → valued (offset_at false) (to_z w32 n) ts rest
offset_valued n ts rest low (t, is, e) = rw (to_z_pos w32 n (omega (arith, low))) (t, is, ap (signed_result false) e)

pub offset_step : (s : DeclaredNames) (ps : List Expected) (n : ℕ) (t : Tok) → integer_at 1_000_000 t ≡ Ok n → step s (OffsetAt ∷ ps) t ≡ Next s ps
offset_step s ps n t e =
    let plain : is_the_mark (codes "-") t ≡ false = ap (λ b. b && bytes_eq t.text (codes "-")) (integer_no_mark t.kind (list_all (λ b. not (b == 46)) t.text) (is_integer_token 1_000_000 n t e)) in
    rw plain (ap (λ o. judged (signed_result false o) (λ m. Next s ps)) e)
