-- Words that begin a text, and what is left of a text behind a gap.
use Rattle.std.proofs.Common.{◌≡◌, ℕ, suc, ◌≤◌, ◌<◌, Bool, true, false, cond, ◌&&◌, List, [], ◌∷◌, ◌++◌, length, take, drop, refl, sym, ap, ◌∙◌, inl, inr, arith}
use Rattle.std.specs.Prelude.{◌==◌, nat_lt, not, get_or}
use Rattle.std.specs.List.{prefix_len, list_all}
use Rattle.std.specs.Str.{bytes_eq}
use Rattle.std.proofs.lemmas.Bool.{cases_Bool, false≢true}
use Rattle.std.proofs.lemmas.Bool.Decides.{nat_tests}
use Rattle.std.proofs.lemmas.List.{take_at, drop_at, take-append-drop}
use Rattle.std.proofs.lemmas.Slice.Eq.{bytes_eq-Decides}
use Rattle.contract_grammar.specs.declared.token.LexemeKind.{LexemeKind}
use Rattle.contract_grammar.specs.declared.token.LexemeKind.TheVariants.{Word, Stray}
use Rattle.contract_grammar.specs.declared.token.Extent.{Extent}
use Rattle.contract_grammar.specs.Tokens.{Tok, after_gap, digits_extent, extent_at, is_blank, is_digit, is_last, is_letter, is_word_byte, mark_extent, mark_len, next_lexeme, token_at, tokens, word_extent}
use Rattle.contract_grammar.specs.Words.{is_the_word}
use Rattle.contract_grammar.specs.NameTexts.{is_word_text}
use Rattle.contract_grammar.proofs.EntryFacts.{and_parts}
use Rattle.contract_grammar.proofs.TokenFacts.{tokens_next}
use Rattle.contract_parse.specs.AtOnce.{word_here}

-- ---- gaps

gap_again : (c : Bool) (bytes : List ℕ) → after_gap false (after_gap c bytes) ≡ after_gap c bytes
gap_again true [] = refl
gap_again false [] = refl
gap_again true (b ∷ bs) = gap_again (not (b == 10)) bs
gap_again false (b ∷ bs) = elim (cases_Bool (is_blank b)) [
  | inl blank ↦ rw blank (gap_again false bs)
  | inr other ↦ elim (cases_Bool (b == 35)) [
    | inl hash ↦ rw (other, hash) (gap_again true bs)
    | inr none ↦ rw (other, none) (rw (other, none) refl)
  ]
]

-- the tokens from the first one on are all
pub tokens_behind_gap : (bytes : List ℕ) → tokens (after_gap false bytes) ≡ tokens bytes
unfolding next_lexeme
tokens_behind_gap bytes =
    let F = λ (p : Tok × List ℕ). p.0 ∷ cond (is_last p.0.kind) [] (tokens p.1) in
    tokens_next (after_gap false bytes)
    ∙ ap (λ (start : List ℕ). F (token_at start, drop (extent_at start).len start)) (gap_again false bytes)
    ∙ sym (tokens_next bytes)

-- ---- words

pub prefix_all : (p : ℕ → Bool) (xs : List ℕ) (b : ℕ) (bs : List ℕ) → list_all p xs ≡ true → p b ≡ false → prefix_len p (xs ++ b ∷ bs) ≡ length xs
prefix_all p [] b bs all none = rw none refl
prefix_all p (x ∷ xs) b bs all none =
    let parts = and_parts (p x) (list_all p xs) all in
    rw (parts.0) (omega (arith, prefix_all p xs b bs parts.1 none))

letter_no_gap : (b : ℕ) (bs : List ℕ) → is_letter b ≡ true → after_gap false (b ∷ bs) ≡ b ∷ bs
letter_no_gap b bs letter =
    let blank : is_blank b ≡ false = grind (arith, nat_tests) in
    let hash : (b == 35) ≡ false = grind (arith, nat_tests) in
    rw (blank, hash) refl

letter_word : (b : ℕ) → is_letter b ≡ true → is_word_byte b ≡ true
letter_word b h = rw h refl

word_extent_is : (b c : ℕ) (bs cs : List ℕ) → is_letter b ≡ true → list_all is_word_byte bs ≡ true → suc (length bs) ≤ 64 → is_word_byte c ≡ false → extent_at ((b ∷ bs) ++ c ∷ cs) ≡ record { kind = Word; len = suc (length bs) }
unfolding extent_at
word_extent_is b c bs cs letter all short ends =
    let bytes = (b ∷ bs) ++ c ∷ cs in
    let short' : nat_lt 64 (suc (length bs)) ≡ false = grind (arith, nat_tests) in
    ap (λ (t : Bool). cond t (word_extent (prefix_len is_word_byte bytes)) (cond (is_digit b) (digits_extent bytes) (mark_extent (mark_len bytes)))) letter
    ∙ ap word_extent (prefix_all is_word_byte (b ∷ bs) c cs (rw (letter_word b letter) all) ends)
    ∙ ap (λ (t : Bool). cond t (record { kind = Stray; len = 0 }) (record { kind = Word; len = suc (length bs) })) short'

abbrev pub token : LexemeKind → List ℕ → ℕ → Tok
token k text left = record { kind = k; text = text; left = left }

at_start : (text more : List ℕ) (k : LexemeKind) (len : ℕ) → len ≡ length text → extent_at (text ++ more) ≡ record { kind = k; len = len } → token_at (text ++ more) ≡ token k text (length (text ++ more))
at_start text more k len is e =
    ap (λ (x : Extent). token x.kind (take x.len (text ++ more)) (length (text ++ more))) e
    ∙ ap (λ (t : List ℕ). token k t (length (text ++ more))) (take_at text more len (sym is))

-- what begins at the first byte is the first token, where no gap stands before it
pub is_first : (text more : List ℕ) (k : LexemeKind) (len : ℕ) → len ≡ length text → after_gap false (text ++ more) ≡ text ++ more → extent_at (text ++ more) ≡ record { kind = k; len = len } → is_last k ≡ false
    → tokens (text ++ more) ≡ token k text (length (text ++ more)) ∷ tokens more
unfolding next_lexeme
is_first text more k len is no_gap e goes_on =
    let bytes = text ++ more in
    let pair : next_lexeme bytes ≡ (token k text (length bytes), more) =
    ap (λ (start : List ℕ). (token_at start, drop (extent_at start).len start)) no_gap
    ∙ ap (λ (x : Extent). (token_at bytes, drop x.len bytes)) e
    ∙ ap (λ (t : Tok). (t, drop len bytes)) (at_start text more k len is e)
    ∙ ap (λ (rest : List ℕ). (token k text (length bytes), rest)) (drop_at text more len (sym is)) in
    tokens_next bytes
    ∙ ap (λ (p : Tok × List ℕ). p.0 ∷ cond (is_last p.0.kind) [] (tokens p.1)) pair
    ∙ ap (λ (b : Bool). token k text (length bytes) ∷ cond b [] (tokens more)) goes_on

word_before : (text : List ℕ) (c : ℕ) (cs : List ℕ) → is_word_text text ≡ true → is_word_byte c ≡ false → word_here text (text ++ c ∷ cs) (c ∷ cs)
word_before [] c cs is ends = absurd (false≢true is)
word_before (b ∷ bs) c cs is ends =
    let first = and_parts (is_letter b) (list_all is_word_byte bs && nat_lt (length bs) 64) is in
    let more = and_parts (list_all is_word_byte bs) (nat_lt (length bs) 64) first.1 in
    let short : suc (length bs) ≤ 64 = grind (arith, nat_tests, more.1) in
    is_first (b ∷ bs) (c ∷ cs) Word (suc (length bs)) refl (letter_no_gap b (bs ++ c ∷ cs) first.0) (word_extent_is b c bs cs first.0 more.0 short ends) refl

-- the same of slices: a text that begins with the word, and what is behind that
pub word_at_once : (start word text after : List ℕ) → is_word_text word ≡ true → text ≡ take (length word) start → after ≡ drop (length word) start → true ≡ bytes_eq text word → 0 < length after
    → is_word_byte (get_or after 0 0) ≡ false → word_here word start after
word_at_once start word text [] is front back same some ends = absurd (omega arith)
word_at_once start word text (c ∷ cs) is front back same some ends =
    let begins : text ≡ word = (bytes_eq-Decides text word).0 (sym same) in
    let split : start ≡ word ++ c ∷ cs = sym (take-append-drop (length word) start) ∙ ap (λ (r : List ℕ). take (length word) start ++ r) (sym back) ∙ ap (λ (t : List ℕ). t ++ c ∷ cs) (sym front ∙ begins) in
    rw split (word_before word c cs is ends)

-- the same from before the gap
pub from_start : (start rest word after : List ℕ) → tokens start ≡ tokens rest → word_here word start after → tokens rest ≡ token Word word (length start) ∷ tokens after
from_start start rest word after same here = sym same ∙ here

pub same_word : (w : List ℕ) (left : ℕ) → true ≡ is_the_word w (token Word w left)
same_word w left = sym ((bytes_eq-Decides w w).1 refl)
