-- Texts that can be names: a letter or `_`, then letters, digits and `_`, in all at most 64 bytes, but no reserved word.
use Rattle.std.specs.Prelude.{Bool, false, ◌&&◌, not, nat_lt, length, [], ◌∷◌}
use Rattle.std.specs.List.{list_all}
use Rattle.contract_grammar.specs.Tokens.{is_letter, is_word_byte}
use Rattle.contract_grammar.specs.Words.{Bytes, is_reserved}

abbrev pub is_word_tail : Bytes → Bool
is_word_tail bs = list_all is_word_byte bs && nat_lt (length bs) 64

abbrev pub is_word_text : Bytes → Bool
is_word_text [] = false
is_word_text (b ∷ bs) = is_letter b && is_word_tail bs

abbrev pub is_name_text : Bytes → Bool
is_name_text text = is_word_text text && not (is_reserved text)
