-- The tokens of a text: words, dates, numbers and marks, and the end. Between them stand blanks and comments. The
-- longest token is taken, and a date comes before a number. A sign is a mark of its own.
use Rattle.std.specs.Prelude.{ℕ, zero, suc, ◌+◌, ◌==◌, ◌&&◌, ◌||◌, not, Bool, true, false, List, [], ◌∷◌, length, take, drop, is_some, nat_le, nat_lt, if◌then◌else◌}
use Rattle.std.specs.List.{prefix_len}
pub use Rattle.decimal.specs.Reading.{is_digit}
use Rattle.term_model.specs.Dates.{parts_of}
use Rattle.contract_grammar.specs.declared.token.LexemeKind.{LexemeKind}
use Rattle.contract_grammar.specs.declared.token.LexemeKind.TheVariants.{Word, Number, Date, Mark, End, Stray}
use Rattle.contract_grammar.specs.declared.token.Extent.{Extent}

-- a token: its kind, its text, and how many bytes are left where it begins
pub record Tok : Type 0 where
  pub kind : LexemeKind
  pub text : List ℕ
  pub left : ℕ

abbrev pub is_letter : ℕ → Bool
is_letter b = (nat_le 97 b && nat_le b 122) || (nat_le 65 b && nat_le b 90) || (b == 95)

abbrev pub is_word_byte : ℕ → Bool
is_word_byte b = is_letter b || is_digit b

-- space, tab, carriage return and line feed
abbrev pub is_blank : ℕ → Bool
is_blank b = (b == 32) || (b == 9) || (b == 13) || (b == 10)

-- the bytes from the next token on; a comment, once open, ends before a line feed
abbrev pub after_gap : Bool → List ℕ → List ℕ
after_gap in_comment [] = []
after_gap true (b ∷ bs) = after_gap (not (b == 10)) bs
after_gap false (b ∷ bs) = if is_blank b then after_gap false bs else if b == 35 then after_gap true bs else b ∷ bs

-- a point and the digits directly after it, if there are any
abbrev pub fraction_len : List ℕ → ℕ
fraction_len [] = 0
fraction_len (b ∷ bs) = if (b == 46) && nat_lt 0 (prefix_len is_digit bs) then 1 + prefix_len is_digit bs else 0

abbrev pub number_len : List ℕ → ℕ
number_len bytes = prefix_len is_digit bytes + fraction_len (drop (prefix_len is_digit bytes) bytes)

abbrev pub begins_with_digit : List ℕ → Bool
begins_with_digit [] = false
begins_with_digit (b ∷ bs) = is_digit b

-- a text `dddd-dd-dd`, and no digit after
abbrev pub begins_with_date : List ℕ → Bool
begins_with_date bytes = is_some (parts_of (take 10 bytes)) && not (begins_with_digit (drop 10 bytes))

-- `<=`, `>=`, `!=` and `..`
abbrev pub is_long_mark : ℕ → ℕ → Bool
is_long_mark a b = (((a == 60) || (a == 62) || (a == 33)) && (b == 61)) || ((a == 46) && (b == 46))

-- `;` `,` `:` `=` `(` `)` `+` `-` `*` `<` `>` `&` `|`
abbrev pub is_short_mark : ℕ → Bool
is_short_mark a =
    (a == 59) || (a == 44) || (a == 58) || (a == 61) || (a == 40) || (a == 41) || (a == 43) || (a == 45) || (a == 42) || (a == 60)
    || (a == 62) || (a == 38) || (a == 124)

abbrev pub mark_len : List ℕ → ℕ
mark_len [] = 0
mark_len (a ∷ []) = if is_short_mark a then 1 else 0
mark_len (a ∷ b ∷ bs) = if is_long_mark a b then 2 else if is_short_mark a then 1 else 0

-- a word has at most 64 bytes: a longer run is no token
abbrev pub word_extent : ℕ → Extent
word_extent n = if nat_lt 64 n then record { kind = Stray; len = 0 } else record { kind = Word; len = n }

abbrev pub mark_extent : ℕ → Extent
mark_extent n = if n == 0 then record { kind = Stray; len = 0 } else record { kind = Mark; len = n }

-- a date comes before a number
abbrev pub digits_extent : List ℕ → Extent
digits_extent bytes = if begins_with_date bytes then record { kind = Date; len = 10 } else record { kind = Number; len = number_len bytes }

-- what begins at the first byte, and how many bytes it has
unfoldable pub extent_at : List ℕ → Extent
extent_at [] = record { kind = End; len = 0 }
extent_at (b ∷ bs) =
    if is_letter b then word_extent (prefix_len is_word_byte (b ∷ bs))
    else if is_digit b then digits_extent (b ∷ bs)
    else mark_extent (mark_len (b ∷ bs))

abbrev pub token_at : List ℕ → Tok
token_at bytes = record { kind = (extent_at bytes).kind; text = take (extent_at bytes).len bytes; left = length bytes }

-- the next token, and the bytes after it
unfoldable pub next_lexeme : List ℕ → Tok × List ℕ
next_lexeme bytes = let start = after_gap false bytes in (token_at start, drop (extent_at start).len start)

-- no token follows the end, nor a byte at which none begins
abbrev pub is_last : LexemeKind → Bool
is_last End = true
is_last Stray = true
is_last Word = false
is_last Number = false
is_last Date = false
is_last Mark = false

unfoldable pub tokens_from : ℕ → List ℕ → List Tok
tokens_from zero bytes = []
tokens_from (suc fuel) bytes =
    (next_lexeme bytes).0 ∷ (if is_last (next_lexeme bytes).0.kind then [] else tokens_from fuel (next_lexeme bytes).1)

-- the tokens of a text, up to the end or to the byte at which none begins
unfoldable pub tokens : List ℕ → List Tok
tokens bytes = tokens_from (suc (length bytes)) bytes
