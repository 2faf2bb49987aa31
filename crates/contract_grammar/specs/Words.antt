-- What a token is to the grammar: a word, a mark, a name, a number, a date, the end.
use Rattle.std.specs.Prelude.{ℕ, Bool, true, false, ◌&&◌, ◌||◌, ◌==◌, not, List, [], ◌∷◌, ◌++◌, codes}
use Rattle.std.specs.List.{list_any, list_all}
use Rattle.std.specs.Str.{bytes_eq}
use Rattle.contract_grammar.specs.Tokens.{Tok}
use Rattle.contract_grammar.specs.declared.token.LexemeKind.{LexemeKind}
use Rattle.contract_grammar.specs.declared.token.LexemeKind.TheVariants.{Word, Number, Date, Mark, End, Stray}

-- what a token or a name is written with
abbrev pub Bytes : Type 0
Bytes = List ℕ

abbrev pub is_word_kind : LexemeKind → Bool
is_word_kind Word = true
is_word_kind Number = false
is_word_kind Date = false
is_word_kind Mark = false
is_word_kind End = false
is_word_kind Stray = false

abbrev pub is_number_kind : LexemeKind → Bool
is_number_kind Word = false
is_number_kind Number = true
is_number_kind Date = false
is_number_kind Mark = false
is_number_kind End = false
is_number_kind Stray = false

abbrev pub is_date_kind : LexemeKind → Bool
is_date_kind Word = false
is_date_kind Number = false
is_date_kind Date = true
is_date_kind Mark = false
is_date_kind End = false
is_date_kind Stray = false

abbrev pub is_mark_kind : LexemeKind → Bool
is_mark_kind Word = false
is_mark_kind Number = false
is_mark_kind Date = false
is_mark_kind Mark = true
is_mark_kind End = false
is_mark_kind Stray = false

abbrev pub is_end_kind : LexemeKind → Bool
is_end_kind Word = false
is_end_kind Number = false
is_end_kind Date = false
is_end_kind Mark = false
is_end_kind End = true
is_end_kind Stray = false

-- `(`, `)`, `,` and `;` are marks whatever stands behind them
abbrev pub is_whole_mark : ℕ → Bool
is_whole_mark b = (b == 40) || (b == 41) || (b == 44) || (b == 59)

abbrev pub is_the_word : Bytes → Tok → Bool
is_the_word w t = is_word_kind t.kind && bytes_eq t.text w

abbrev pub is_the_mark : Bytes → Tok → Bool
is_the_mark m t = is_mark_kind t.kind && bytes_eq t.text m

abbrev pub is_number : Tok → Bool
is_number t = is_number_kind t.kind

-- a number without a point
abbrev pub is_integer : Tok → Bool
is_integer t = is_number_kind t.kind && list_all (λ b. not (b == 46)) t.text

abbrev pub is_date : Tok → Bool
is_date t = is_date_kind t.kind

abbrev pub is_end : Tok → Bool
is_end t = is_end_kind t.kind

abbrev pub reserved_of_two : List Bytes
reserved_of_two = codes "in" ∷ codes "if" ∷ []

abbrev pub reserved_of_three : List Bytes
reserved_of_three =
    codes "num" ∷ codes "pay" ∷ codes "let" ∷ codes "obs" ∷ codes "neg" ∷ codes "not" ∷ codes "min" ∷ codes "max" ∷ codes "div"
    ∷ codes "acc" ∷ codes "add" ∷ codes "cut" ∷ []

abbrev pub reserved_of_four : List Bytes
reserved_of_four =
    codes "flag" ∷ codes "code" ∷ codes "zero" ∷ codes "both" ∷ codes "then" ∷ codes "else" ∷ codes "true" ∷ codes "none" ∷ codes "loop"
    ∷ codes "upto" ∷ codes "ceil" ∷ []

abbrev pub reserved_of_five : List Bytes
reserved_of_five =
    codes "start" ∷ codes "party" ∷ codes "asset" ∷ codes "scale" ∷ codes "after" ∷ codes "false" ∷ codes "widen" ∷ codes "round"
    ∷ codes "model" ∷ codes "floor" ∷ []

abbrev pub reserved_of_more : List Bytes
reserved_of_more =
    codes "payoff" ∷ codes "origin" ∷ codes "within" ∷ codes "amounts" ∷ codes "template" ∷ codes "contract" ∷ codes "portfolio"
    ∷ codes "half_even" ∷ codes "half_away" ∷ []

-- the reserved words, by their length
abbrev pub reserved : List Bytes
reserved = reserved_of_two ++ reserved_of_three ++ reserved_of_four ++ reserved_of_five ++ reserved_of_more

abbrev pub is_reserved : Bytes → Bool
is_reserved text = list_any (λ w. bytes_eq text w) reserved

-- a word that is not reserved
abbrev pub is_name : Tok → Bool
is_name t = is_word_kind t.kind && not (is_reserved t.text)
