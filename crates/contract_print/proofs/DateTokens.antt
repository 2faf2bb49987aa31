-- The text of a day is one token.
use Rattle.std.proofs.Common.{◌≡◌, ℕ, ℤ, Bool, true, cond, List, [], ◌∷◌, ◌++◌, length, Option, Some, None, refl, ap, ◌∙◌, arith}
use Rattle.std.specs.Prelude.{is_some, nat_lt, option_and_then}
use Rattle.std.specs.List.{prefix_len}
use Rattle.std.specs.Str.{IsAscii}
use Rattle.std.proofs.lemmas.Bool.{false≢true}
use Rattle.std.proofs.lemmas.Bool.Decides.{nat_tests}
use Rattle.term_model.specs.Dates.{Parts, day_of, epoch_day_of, parts_of}
use Rattle.contract_grammar.specs.declared.token.LexemeKind.TheVariants.{Date, Number}
use Rattle.contract_grammar.specs.Tokens.{begins_with_date, digits_extent, extent_at, is_digit, is_word_byte, mark_extent, mark_len, number_len, tokens, word_extent}
use Rattle.contract_grammar.proofs.DateShape.{are_date}
use Rattle.contract_print.specs.Spelled.{is_stop, stops}
use Rattle.contract_print.proofs.ExprPieces.{ascii_of}
use Rattle.contract_print.proofs.TokenTexts.{digit_no_gap, digit_no_letter, is_first, stop_no_digit, token}

-- a text `dddd-dd-dd`
abbrev pub IsDate : List ℕ → Type 0
IsDate text = is_some (parts_of text) ≡ true

by_parts : (parts : Option Parts) (day : ℤ) → option_and_then day_of parts ≡ Some day → is_some parts ≡ true
by_parts (Some p) day is = refl
by_parts None day is = absurd cc

pub is_date_text : (text : List ℕ) (day : ℤ) → epoch_day_of text ≡ Some day → IsDate text
unfolding epoch_day_of
is_date_text text day is = by_parts (parts_of text) day is

digit_small : (b : ℕ) → is_digit b ≡ true → nat_lt b 128 ≡ true
digit_small b is = grind (arith, nat_tests)

pub date_ascii : (text : List ℕ) → IsDate text → IsAscii text
unfolding parts_of
date_ascii (a ∷ b ∷ c ∷ d ∷ h ∷ e ∷ f ∷ i ∷ g ∷ j ∷ []) is =
    let date = are_date a b c d h e f i g j is in
    ascii_of (a ∷ b ∷ c ∷ d ∷ h ∷ e ∷ f ∷ i ∷ g ∷ j ∷ [])
    (rw (digit_small a date.year.0, digit_small b date.year.1, digit_small c date.year.2, digit_small d date.year.3, date.hyphens.0, digit_small e date.month.0, digit_small f date.month.1, date.hyphens.1, digit_small g date.day.0, digit_small j date.day.1) refl)
date_ascii _ is = absurd (false≢true is)

module _ (a b c d h e f i g j z : ℕ) (zs : List ℕ) (is : IsDate (a ∷ b ∷ c ∷ d ∷ h ∷ e ∷ f ∷ i ∷ g ∷ j ∷ [])) (stop : is_stop z ≡ true) where
  abbrev bytes : List ℕ
  bytes = a ∷ b ∷ c ∷ d ∷ h ∷ e ∷ f ∷ i ∷ g ∷ j ∷ z ∷ zs

  begins : begins_with_date bytes ≡ true
  begins = rw (is, (stop_no_digit z stop).0) refl

  extent : extent_at bytes ≡ record { kind = Date; len = 10 }
  unfolding extent_at
  extent =
      let digit = (are_date a b c d h e f i g j is).year.0 in
      ap (λ (t : Bool). cond t (word_extent (prefix_len is_word_byte bytes)) (cond (is_digit a) (digits_extent bytes) (mark_extent (mark_len bytes)))) (digit_no_letter a digit)
      ∙ ap (λ (t : Bool). cond t (digits_extent bytes) (mark_extent (mark_len bytes))) digit
      ∙ ap (λ (t : Bool). cond t (record { kind = Date; len = 10 }) (record { kind = Number; len = number_len bytes })) begins

  dated : tokens bytes ≡ token Date (a ∷ b ∷ c ∷ d ∷ h ∷ e ∷ f ∷ i ∷ g ∷ j ∷ []) (length bytes) ∷ tokens (z ∷ zs)
  dated =
      let digit = (are_date a b c d h e f i g j is).year.0 in
      is_first (a ∷ b ∷ c ∷ d ∷ h ∷ e ∷ f ∷ i ∷ g ∷ j ∷ []) (z ∷ zs) Date 10 refl (digit_no_gap a (b ∷ c ∷ d ∷ h ∷ e ∷ f ∷ i ∷ g ∷ j ∷ z ∷ zs) digit) extent refl

pub date_token : (text more : List ℕ) → IsDate text → stops more ≡ true → tokens (text ++ more) ≡ token Date text (length (text ++ more)) ∷ tokens more
unfolding parts_of
date_token text [] is stop = absurd (false≢true stop)
date_token (a ∷ b ∷ c ∷ d ∷ h ∷ e ∷ f ∷ i ∷ g ∷ j ∷ []) (z ∷ zs) is stop = dated a b c d h e f i g j z zs is stop
date_token _ (z ∷ zs) is stop = absurd (false≢true is)
