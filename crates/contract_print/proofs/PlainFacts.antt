-- Texts that a comment may hold: ASCII with no line feed, as are names, numbers and dates.
use Rattle.std.proofs.Common.{◌≡◌, ◌≢◌, ℕ, suc, ℤ, pos, negsuc, Bool, true, ◌&&◌, not, List, [], ◌∷◌, ◌++◌, refl, sym, subst, ◌∙◌, arith}
use Rattle.std.specs.Prelude.{◌==◌, nat_lt}
use Rattle.std.specs.List.{AllByRecursion, list_all}
use Rattle.std.specs.Str.Parse.{AllDigits}
use Rattle.std.proofs.lemmas.Bool.{false≢true}
use Rattle.std.proofs.lemmas.Bool.Decides.{nat_tests}
use Rattle.std.proofs.lemmas.List.Elements.{All-from_recursion}
use Rattle.std.proofs.lemmas.List.Folds.{list_all-append}
use Rattle.std.proofs.lemmas.Str.{IsUtf8-from_ascii}
use Rattle.decimal.specs.DecimalText.{after_point}
use Rattle.decimal.specs.Text.{text_of, unsigned_text}
use Rattle.contract_grammar.specs.NameTexts.{is_name_text, is_word_text}
use Rattle.contract_grammar.specs.Names.{is_declared}
use Rattle.contract_grammar.specs.Tokens.{is_digit, is_letter, is_word_byte}
use Rattle.contract_grammar.specs.Words.{Bytes}
use Rattle.term_model.specs.Dates.{parts_of}
use Rattle.contract_grammar.proofs.DateShape.{are_date}
use Rattle.contract_grammar.proofs.EntryFacts.{and_parts}
use Rattle.contract_print.specs.Comments.{IsCommentText}
use Rattle.contract_print.specs.Spellable.{are_names, are_new}
use Rattle.contract_print.proofs.DateTokens.{IsDate}
use Rattle.contract_print.proofs.DigitFacts.{digits_of_text, unsigned}
use Rattle.contract_print.proofs.ExprPieces.{ascii_of}
use Rattle.contract_print.proofs.TokenTexts.{all_digits}

abbrev pub is_plain : ℕ → Bool
is_plain b = nat_lt b 128 && not (b == 10)

abbrev pub IsPlain : Bytes → Type 0
IsPlain bytes = list_all is_plain bytes ≡ true

pub plain_append : (a b : Bytes) → IsPlain a → IsPlain b → IsPlain (a ++ b)
plain_append a b x y = list_all-append is_plain a b ∙ rw (x, y) refl

all_plain : (p : ℕ → Bool) → ((b : ℕ) → p b ≡ true → is_plain b ≡ true) → (bytes : Bytes) → list_all p bytes ≡ true → IsPlain bytes
all_plain p each [] all = refl
all_plain p each (b ∷ bytes) all = let q = and_parts (p b) (list_all p bytes) all in rw (each b q.0, all_plain p each bytes q.1) refl

-- ---- a comment may hold it

small_bytes : (bytes : Bytes) → IsPlain bytes → list_all (λ b. nat_lt b 128) bytes ≡ true
small_bytes [] all = refl
small_bytes (b ∷ bytes) all =
    let p = and_parts (is_plain b) (list_all is_plain bytes) all in
    rw ((and_parts (nat_lt b 128) (not (b == 10)) p.0).0, small_bytes bytes p.1) refl

no_line_feed : (b : ℕ) → is_plain b ≡ true → b ≢ 10
no_line_feed b plain e = grind (arith, nat_tests)

no_line_feeds : (bytes : Bytes) → IsPlain bytes → AllByRecursion (λ b. b ≢ 10) bytes
no_line_feeds [] all = tt
no_line_feeds (b ∷ bytes) all = let p = and_parts (is_plain b) (list_all is_plain bytes) all in (no_line_feed b p.0, no_line_feeds bytes p.1)

pub plain_comment : (bytes : Bytes) → IsPlain bytes → IsCommentText bytes
plain_comment bytes all = record {
  utf8 = IsUtf8-from_ascii bytes (ascii_of bytes (small_bytes bytes all));
  one_line = All-from_recursion (λ b. b ≢ 10) bytes (no_line_feeds bytes all);
}

-- ---- names, numbers and dates

word_byte_plain : (b : ℕ) → is_word_byte b ≡ true → is_plain b ≡ true
word_byte_plain b e = grind (arith, nat_tests)

digit_plain : (b : ℕ) → is_digit b ≡ true → is_plain b ≡ true
digit_plain b e = grind (arith, nat_tests)

letter_plain : (b : ℕ) → is_letter b ≡ true → is_plain b ≡ true
letter_plain b e = grind (arith, nat_tests)

pub word_plain : (word : Bytes) → is_word_text word ≡ true → IsPlain word
word_plain [] is = absurd (false≢true is)
word_plain (b ∷ bytes) is =
    let p = and_parts (is_letter b) _ is in
    rw (letter_plain b p.0, all_plain is_word_byte word_byte_plain bytes (and_parts (list_all is_word_byte bytes) _ p.1).0) refl

digits_plain : (ds : Bytes) → AllDigits 10 ds → IsPlain ds
digits_plain ds h = all_plain is_digit digit_plain ds (all_digits ds h)

point_plain : (ds : Bytes) → AllDigits 10 ds → IsPlain (after_point ds)
point_plain [] h = refl
point_plain (d ∷ ds) h = digits_plain (d ∷ ds) h

unsigned_plain : (n s : ℕ) → IsPlain (unsigned_text n s)
unsigned_plain n s =
    let d = digits_of_text n s in
    subst IsPlain (sym d.is) (plain_append d.whole (after_point d.decimals) (digits_plain d.whole d.numeral.1) (point_plain d.decimals d.digits))

pub number_plain : (m : ℤ) (s : ℕ) → IsPlain (text_of m s)
unfolding text_of
number_plain (pos n) s = subst IsPlain (sym (unsigned n s)) (unsigned_plain n s)
number_plain (negsuc n) s = unsigned_plain (suc n) s

pub date_plain : (text : Bytes) → IsDate text → IsPlain text
unfolding parts_of
date_plain (a ∷ b ∷ c ∷ d ∷ h ∷ e ∷ f ∷ i ∷ g ∷ j ∷ []) is =
    let date = are_date a b c d h e f i g j is in
    rw (digit_plain a date.year.0, digit_plain b date.year.1, digit_plain c date.year.2, digit_plain d date.year.3, date.hyphens.0, digit_plain e date.month.0, digit_plain f date.month.1, date.hyphens.1, digit_plain g date.day.0, digit_plain j date.day.1) refl
date_plain _ is = absurd (false≢true is)

-- ---- declared names

new_plain : (before names : List Bytes) → are_new before names ≡ true → AllByRecursion IsPlain names
new_plain before [] all = tt
new_plain before (name ∷ names) all =
    let p = and_parts (is_name_text name && not (is_declared before name)) (are_new (before ++ name ∷ []) names) all in
    let q = and_parts (is_name_text name) (not (is_declared before name)) p.0 in
    (word_plain name (and_parts (is_word_text name) _ q.0).0, new_plain (before ++ name ∷ []) names p.1)

pub names_plain : (names : List Bytes) → are_names names ≡ true → AllByRecursion IsPlain names
names_plain names all = new_plain [] names all
