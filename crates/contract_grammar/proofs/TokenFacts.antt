-- The list of tokens, one at a time.
use Rattle.std.proofs.Common.{◌≡◌, ℕ, zero, suc, ◌<◌, ◌≤◌, Bool, true, false, cond, List, [], ◌∷◌, length, lit<, refl, sym, ap, ◌∙◌, inl, inr, arith, length-drop}
use Rattle.std.specs.List.{prefix_len}
use Rattle.std.specs.Prelude.{◌==◌, nat_lt, not}
use Rattle.std.proofs.lemmas.Bool.{cases_Bool, false≢true}
use Rattle.std.proofs.lemmas.Bool.Decides.{nat_tests}
use Rattle.contract_grammar.specs.declared.token.LexemeKind.TheVariants.{Word, Number, Date, Mark, Stray}
use Rattle.contract_grammar.specs.declared.token.Extent.{Extent}
use Rattle.contract_grammar.specs.Tokens.{Tok, after_gap, begins_with_date, digits_extent, extent_at, is_blank, is_digit, is_last, is_letter, is_word_byte, mark_extent, mark_len, next_lexeme, number_len, tokens, tokens_from, word_extent}

one_of_three : (blank hash : Bool) (x y z : List ℕ) (n : ℕ) → length x ≤ n → length y ≤ n → length z ≤ suc n → length (cond blank x (cond hash y z)) ≤ suc n
one_of_three true hash x y z n p q r = omega arith
one_of_three false true x y z n p q r = omega arith
one_of_three false false x y z n p q r = r

pub gap_shorter : (c : Bool) (bytes : List ℕ) → length (after_gap c bytes) ≤ length bytes
gap_shorter true [] = omega arith
gap_shorter false [] = omega arith
gap_shorter true (b ∷ bs) = omega (arith, gap_shorter (not (b == 10)) bs)
gap_shorter false (b ∷ bs) = one_of_three (is_blank b) (b == 35) (after_gap false bs) (after_gap true bs) (b ∷ bs) (length bs) (gap_shorter false bs) (gap_shorter true bs) (omega arith)

-- a token that is not the last has a byte
abbrev pub Has : Extent → Type 0
Has e = is_last e.kind ≡ false → 0 < e.len

has_word : (b : Bool) (n : ℕ) → 0 < n → Has (cond b (record { kind = Stray; len = 0 }) (record { kind = Word; len = n }))
has_word true n h e = absurd (false≢true (sym e))
has_word false n h e = h

has_digits : (b : Bool) (n : ℕ) → 0 < n → Has (cond b (record { kind = Date; len = 10 }) (record { kind = Number; len = n }))
has_digits true n h e = lit< tt
has_digits false n h e = h

not_zero : (n : ℕ) → (n == 0) ≡ false → 0 < n
not_zero n h = grind (arith, nat_tests)

has_test : (b : Bool) (n : ℕ) → (b ≡ false → 0 < n) → Has (cond b (record { kind = Stray; len = 0 }) (record { kind = Mark; len = n }))
has_test true n h e = absurd (false≢true (sym e))
has_test false n h e = h refl

has_mark : (n : ℕ) → Has (mark_extent n)
has_mark n = has_test (n == 0) n (not_zero n)

has_one : (letter digit : Bool) (w d m : Extent) → (letter ≡ true → Has w) → (digit ≡ true → Has d) → Has m → Has (cond letter w (cond digit d m))
has_one true digit w d m p q r = p refl
has_one false true w d m p q r = q refl
has_one false false w d m p q r = r

pub has_byte : (bytes : List ℕ) → Has (extent_at bytes)
unfolding extent_at
has_byte [] = λ e. absurd (false≢true (sym e))
has_byte (b ∷ bs) = has_one (is_letter b) (is_digit b) (word_extent (prefix_len is_word_byte (b ∷ bs))) (digits_extent (b ∷ bs)) (mark_extent (mark_len (b ∷ bs)))
    (λ l. has_word (nat_lt 64 (prefix_len is_word_byte (b ∷ bs))) (prefix_len is_word_byte (b ∷ bs)) (rw l (omega arith)))
    (λ d. has_digits (begins_with_date (b ∷ bs)) (number_len (b ∷ bs)) (rw d (omega arith)))
    (has_mark (mark_len (b ∷ bs)))

not_empty : (bytes : List ℕ) → is_last (extent_at bytes).kind ≡ false → 0 < length bytes
unfolding extent_at
not_empty [] e = absurd (false≢true (sym e))
not_empty (b ∷ bs) e = omega arith

pub shorter : (bytes : List ℕ) → is_last (next_lexeme bytes).0.kind ≡ false → length (next_lexeme bytes).1 < length bytes
unfolding next_lexeme
shorter bytes e =
    let start = after_gap false bytes in
    omega (arith, has_byte start e, not_empty start e, length-drop (extent_at start).len start, gap_shorter false bytes)

pub within : (bytes : List ℕ) → length (next_lexeme bytes).1 ≤ length bytes
unfolding next_lexeme
within bytes =
    let start = after_gap false bytes in
    omega (arith, length-drop (extent_at start).len start, gap_shorter false bytes)

-- the bytes behind such a token are fewer than those from it on
pub behind_shorter : (bytes : List ℕ) → is_last (next_lexeme bytes).0.kind ≡ false → length (next_lexeme bytes).1 < (next_lexeme bytes).0.left
unfolding next_lexeme
behind_shorter bytes e =
    let start = after_gap false bytes in
    omega (arith, has_byte start e, not_empty start e, length-drop (extent_at start).len start)

-- how many tokens are asked for does not matter where they are enough
enough : (m n : ℕ) (bytes : List ℕ) → length bytes < m → length bytes < n → tokens_from m bytes ≡ tokens_from n bytes
unfolding tokens_from
enough zero n bytes p q = absurd (omega arith)
enough (suc m) zero bytes p q = absurd (omega arith)
enough (suc m) (suc n) bytes p q = elim (cases_Bool (is_last (next_lexeme bytes).0.kind)) [
  | inl last ↦ rw last refl
  | inr more ↦ rw more (ap (λ ts. (next_lexeme bytes).0 ∷ ts) (enough m n (next_lexeme bytes).1 (omega (arith, shorter bytes more)) (omega (arith, shorter bytes more))))
]

pub tokens_next : (bytes : List ℕ) → tokens bytes ≡ (next_lexeme bytes).0 ∷ cond (is_last (next_lexeme bytes).0.kind) [] (tokens (next_lexeme bytes).1)
unfolding tokens tokens_from
tokens_next bytes = elim (cases_Bool (is_last (next_lexeme bytes).0.kind)) [
  | inl last ↦ rw last refl
  | inr more ↦ rw more (ap (λ ts. (next_lexeme bytes).0 ∷ ts) (enough (length bytes) (suc (length (next_lexeme bytes).1)) (next_lexeme bytes).1 (shorter bytes more) (omega arith)))
]

pub within_pair : (bytes : List ℕ) (p : Tok × List ℕ) → next_lexeme bytes ≡ p → length p.1 ≤ length bytes
within_pair bytes p is = omega (arith, within bytes, ap (λ (q : Tok × List ℕ). length q.1) is)

pub shorter_pair : (bytes : List ℕ) (p : Tok × List ℕ) → next_lexeme bytes ≡ p → is_last p.0.kind ≡ false → length p.1 < length bytes
shorter_pair bytes p is more =
    let at : is_last (next_lexeme bytes).0.kind ≡ false = ap (λ (q : Tok × List ℕ). is_last q.0.kind) is ∙ more in
    omega (arith, shorter bytes at, ap (λ (q : Tok × List ℕ). length q.1) is)

-- the bytes of words are ASCII
pub word_small : (b : ℕ) → is_word_byte b ≡ true → b < 128
word_small b e = grind (arith, nat_tests)
