-- The position behind a token is between two characters: its last byte is ASCII, or it is the end of the text.
use Rattle.std.proofs.Common.{◌≡◌, ℕ, zero, suc, ◌+◌, ◌-◌, ◌<◌, ◌≤◌, ◌⊎◌, inl, inr, Bool, true, false, cond, ◌&&◌, List, [], ◌∷◌, length, drop, get_or, refl, sym, subst, arith, length-drop}
use Rattle.std.specs.Prelude.{◌==◌, nat_lt}
use Rattle.std.specs.List.{prefix_len}
use Rattle.std.specs.Str.{IsCharBoundary, IsUtf8}
use Rattle.std.proofs.lemmas.Bool.{cond_both, false≢true}
use Rattle.std.proofs.lemmas.Bool.Decides.{nat_tests}
use Rattle.std.proofs.lemmas.List.{get_or-drop}
use Rattle.std.proofs.lemmas.List.Sums.{prefix_len_passes}
use Rattle.std.proofs.lemmas.Str.{IsCharBoundary-after_ascii}
use Rattle.contract_grammar.specs.declared.token.LexemeKind.{LexemeKind}
use Rattle.contract_grammar.specs.declared.token.LexemeKind.TheVariants.{Word, Number, Date, Mark, End, Stray}
use Rattle.contract_grammar.specs.declared.token.Extent.{Extent}
use Rattle.contract_grammar.specs.Tokens.{Tok, begins_with_date, digits_extent, extent_at, fraction_len, is_digit, is_last, is_letter, is_long_mark, is_short_mark, is_word_byte, mark_extent, mark_len, next_lexeme, number_len, word_extent}
use Rattle.contract_grammar.proofs.EntryFacts.{and_parts}
use Rattle.contract_parse.specs.Cursors.{NextToken}
use Rattle.contract_grammar.proofs.DateShape.{begins_date}
use Rattle.contract_grammar.proofs.TokenFacts.{has_byte, shorter, word_small}
use Rattle.contract_parse.proofs.TokenPositions.{behind, behind_rest, is_next, rest_position, rest_short, start, start_rest}

-- ---- the bytes of tokens are ASCII

digit_small : (b : ℕ) → is_digit b ≡ true → b < 128
digit_small b e = grind (arith, nat_tests)

short_small : (b : ℕ) → is_short_mark b ≡ true → b < 128
short_small b e = grind (arith, nat_tests)

long_small : (a b : ℕ) → is_long_mark a b ≡ true → b < 128
long_small a b e = grind (arith, nat_tests)

-- ---- the last byte of what begins at the first

abbrev LastSmall : List ℕ → Extent → Type 0
LastSmall bytes e = is_last e.kind ≡ false → 0 < e.len → get_or bytes (e.len - 1) 0 < 128

stray_small : (bytes : List ℕ) → LastSmall bytes (record { kind = Stray; len = 0 })
stray_small bytes e more = absurd (omega arith)

prefix_small : (p : ℕ → Bool) (bytes : List ℕ) → ((b : ℕ) → p b ≡ true → b < 128) → 0 < prefix_len p bytes → get_or bytes (prefix_len p bytes - 1) 0 < 128
prefix_small p bytes small more = small _ (prefix_len_passes p bytes (prefix_len p bytes - 1) 0 (omega arith))

fraction_small : (bytes : List ℕ) → 0 < fraction_len bytes → get_or bytes (fraction_len bytes - 1) 0 < 128
fraction_small [] = λ more. absurd (omega arith)
fraction_small (b ∷ bs) = cond_both ((b == 46) && nat_lt 0 (prefix_len is_digit bs)) (1 + prefix_len is_digit bs) 0 (λ n. 0 < n → get_or (b ∷ bs) (n - 1) 0 < 128)
    (λ point more.
    let some : 0 < prefix_len is_digit bs = digits_follow (prefix_len is_digit bs) (and_parts (b == 46) (nat_lt 0 (prefix_len is_digit bs)) point).1 in
    let e : 1 + prefix_len is_digit bs - 1 ≡ suc (prefix_len is_digit bs - 1) = omega arith in
    rw e (prefix_small is_digit bs digit_small some))
    (λ none more. absurd (omega arith))
  where
    digits_follow : (n : ℕ) → nat_lt 0 n ≡ true → 0 < n
    digits_follow n e = grind (arith, nat_tests)

-- by how many bytes the fraction has
number_by : (bytes : List ℕ) (n : ℕ) → fraction_len (drop (prefix_len is_digit bytes) bytes) ≡ n → 0 < number_len bytes → get_or bytes (number_len bytes - 1) 0 < 128
number_by bytes zero e more =
    let whole : number_len bytes - 1 ≡ prefix_len is_digit bytes - 1 = omega (arith, e) in
    rw whole (prefix_small is_digit bytes digit_small (omega (arith, e, more)))
number_by bytes (suc n) e more =
    let digits = prefix_len is_digit bytes in
    let position : number_len bytes - 1 ≡ digits + (fraction_len (drop digits bytes) - 1) = omega (arith, e) in
    rw (position, sym (get_or-drop digits bytes (fraction_len (drop digits bytes) - 1) 0)) (fraction_small (drop digits bytes) (omega (arith, e)))

number_small : (bytes : List ℕ) → 0 < number_len bytes → get_or bytes (number_len bytes - 1) 0 < 128
number_small bytes more = number_by bytes (fraction_len (drop (prefix_len is_digit bytes) bytes)) refl more

date_small : (bytes : List ℕ) → begins_with_date bytes ≡ true → get_or bytes 9 0 < 128
date_small bytes is = digit_small (get_or bytes 9 0) (begins_date bytes is).last

mark_small : (bytes : List ℕ) → 0 < mark_len bytes → get_or bytes (mark_len bytes - 1) 0 < 128
mark_small [] = λ more. absurd (omega arith)
mark_small (a ∷ []) = cond_both (is_short_mark a) 1 0 (λ n. 0 < n → get_or (a ∷ []) (n - 1) 0 < 128) (λ is more. short_small a is) (λ no more. absurd (omega arith))
mark_small (a ∷ b ∷ bs) = cond_both (is_long_mark a b) 2 (cond (is_short_mark a) 1 0) (λ n. 0 < n → get_or (a ∷ b ∷ bs) (n - 1) 0 < 128)
    (λ is more. long_small a b is)
    (λ no. cond_both (is_short_mark a) 1 0 (λ n. 0 < n → get_or (a ∷ b ∷ bs) (n - 1) 0 < 128) (λ is more. short_small a is) (λ none more. absurd (omega arith)))

last_small : (bytes : List ℕ) → LastSmall bytes (extent_at bytes)
unfolding extent_at
last_small [] = λ e. absurd (false≢true (sym e))
last_small (b ∷ bs) = cond_both (is_letter b) (word_extent (prefix_len is_word_byte (b ∷ bs))) (cond (is_digit b) (digits_extent (b ∷ bs)) (mark_extent (mark_len (b ∷ bs)))) (LastSmall (b ∷ bs))
    (λ letter. cond_both (nat_lt 64 (prefix_len is_word_byte (b ∷ bs))) (record { kind = Stray; len = 0 }) (record { kind = Word; len = prefix_len is_word_byte (b ∷ bs) }) (LastSmall (b ∷ bs))
    (λ long. stray_small (b ∷ bs))
    (λ short kind more. prefix_small is_word_byte (b ∷ bs) word_small more))
    (λ other. cond_both (is_digit b) (digits_extent (b ∷ bs)) (mark_extent (mark_len (b ∷ bs))) (LastSmall (b ∷ bs))
    (λ digit. cond_both (begins_with_date (b ∷ bs)) (record { kind = Date; len = 10 }) (record { kind = Number; len = number_len (b ∷ bs) }) (LastSmall (b ∷ bs))
    (λ date kind more. date_small (b ∷ bs) date)
    (λ number kind more. number_small (b ∷ bs) more))
    (λ no. cond_both (mark_len (b ∷ bs) == 0) (record { kind = Stray; len = 0 }) (record { kind = Mark; len = mark_len (b ∷ bs) }) (LastSmall (b ∷ bs))
    (λ none. stray_small (b ∷ bs))
    (λ some kind more. mark_small (b ∷ bs) more)))

-- ---- the end, and a byte at which nothing begins

-- what the kinds say of the lengths
record Edges (bytes : List ℕ) (e : Extent) : Type 0 where
  end : e.kind ≡ End → length bytes ≡ 0
  stray : e.kind ≡ Stray → e.len ≡ 0

edges : (bytes : List ℕ) → Edges bytes (extent_at bytes)
unfolding extent_at
edges [] = record { end = λ e. refl; stray = λ e. refl }
edges (b ∷ bs) = cond_both (is_letter b) (word_extent (prefix_len is_word_byte (b ∷ bs))) (cond (is_digit b) (digits_extent (b ∷ bs)) (mark_extent (mark_len (b ∷ bs)))) (Edges (b ∷ bs))
    (λ letter. cond_both (nat_lt 64 (prefix_len is_word_byte (b ∷ bs))) (record { kind = Stray; len = 0 }) (record { kind = Word; len = prefix_len is_word_byte (b ∷ bs) }) (Edges (b ∷ bs))
    (λ long. record { end = λ e. absurd cc; stray = λ e. refl })
    (λ short. record { end = λ e. absurd cc; stray = λ e. absurd cc }))
    (λ other. cond_both (is_digit b) (digits_extent (b ∷ bs)) (mark_extent (mark_len (b ∷ bs))) (Edges (b ∷ bs))
    (λ digit. cond_both (begins_with_date (b ∷ bs)) (record { kind = Date; len = 10 }) (record { kind = Number; len = number_len (b ∷ bs) }) (Edges (b ∷ bs))
    (λ date. record { end = λ e. absurd cc; stray = λ e. absurd cc })
    (λ number. record { end = λ e. absurd cc; stray = λ e. absurd cc }))
    (λ no. cond_both (mark_len (b ∷ bs) == 0) (record { kind = Stray; len = 0 }) (record { kind = Mark; len = mark_len (b ∷ bs) }) (Edges (b ∷ bs))
    (λ none. record { end = λ e. absurd cc; stray = λ e. refl })
    (λ some. record { end = λ e. absurd cc; stray = λ e. absurd cc })))

not_stray : (k : LexemeKind) → (k ≡ Stray → ⊥) → (is_last k ≡ false) ⊎ (k ≡ End)
not_stray Word n = inl refl
not_stray Number n = inl refl
not_stray Date n = inl refl
not_stray Mark n = inl refl
not_stray End n = inr refl
not_stray Stray n = absurd (n refl)

-- ---- the position behind the next token

module _ (bytes : List ℕ) (at : ℕ) (inside : at ≤ length bytes) where
  abbrev first : List ℕ
  first = start bytes at inside

  abbrev after : List ℕ
  after = behind bytes at inside

  last_byte : length bytes - length after < length bytes → is_last (extent_at first).kind ≡ false → get_or bytes (length bytes - length after - 1) 0 < 128
  last_byte within more =
      let len = (extent_at first).len in
      let has : 0 < len = has_byte first more in
      let sizes : length after ≡ length first - len = length-drop len first in
      let position : length bytes - length after - 1 ≡ length bytes - length first + (len - 1) = omega (arith, has, sizes, within, rest_short bytes first (start_rest bytes at inside)) in
      rw (position, sym (get_or-drop (length bytes - length first) bytes (len - 1) 0), rest_position bytes first (start_rest bytes at inside)) (last_small first more has)

  behind_token : IsUtf8 bytes → is_last (extent_at first).kind ≡ false → IsCharBoundary bytes (length bytes - length after)
  behind_token utf8 more = (omega arith, λ within high. (at_last within).1 within high)
    where
      at_last : length bytes - length after < length bytes → IsCharBoundary bytes (length bytes - length after)
      at_last within =
          let small = last_byte within more in
          let has : 0 < (extent_at first).len = has_byte first more in
          let some : 0 < length bytes - length after = omega (arith, has, length-drop (extent_at first).len first, within, rest_short bytes first (start_rest bytes at inside)) in
          let e : length bytes - length after - 1 + 1 ≡ length bytes - length after = omega arith in
          subst (λ (n : ℕ). IsCharBoundary bytes n) e (IsCharBoundary-after_ascii bytes (length bytes - length after - 1) utf8 (omega arith) small)

  at_end : (extent_at first).kind ≡ End → IsCharBoundary bytes (length bytes - length after)
  at_end is =
      let e : length bytes - length after ≡ length bytes = omega (arith, length-drop (extent_at first).len first, (edges first).end is) in
      rw e (omega arith, λ within. absurd (omega arith))

  boundary : IsUtf8 bytes → ((next_lexeme (drop at bytes)).0.kind ≡ Stray → ⊥) → IsCharBoundary bytes (length bytes - length (next_lexeme (drop at bytes)).1)
  unfolding next_lexeme
  boundary utf8 other = elim (not_stray (extent_at first).kind other) [
    | inl more ↦ behind_token utf8 more
    | inr end ↦ at_end end
  ]

  stays : (next_lexeme (drop at bytes)).0.kind ≡ Stray → length bytes - (next_lexeme (drop at bytes)).0.left ≡ length bytes - length (next_lexeme (drop at bytes)).1
  unfolding next_lexeme
  stays is = let none = (edges first).stray is in omega (arith, none, length-drop (extent_at first).len first)

-- what is said of the next token and of the bytes behind it
pub record Found (bytes : List ℕ) (at : ℕ) (p : Tok × List ℕ) : Type 0 where
  pub left : p.0.left ≤ length bytes
  pub few : length p.1 ≤ length bytes
  pub next : NextToken bytes at p.0.kind (length bytes - p.0.left) (length bytes - length p.1)
  pub moves : is_last p.0.kind ≡ false → at < length bytes - length p.1
  pub stays : p.0.kind ≡ Stray → length bytes - p.0.left ≡ length bytes - length p.1
  pub boundary : IsUtf8 bytes → (p.0.kind ≡ Stray → ⊥) → IsCharBoundary bytes (length bytes - length p.1)

found_next : (bytes : List ℕ) (at : ℕ) → at ≤ length bytes → Found bytes at (next_lexeme (drop at bytes))
unfolding next_lexeme
found_next bytes at inside = record {
  left = rest_short bytes (start bytes at inside) (start_rest bytes at inside);
  few = rest_short bytes (behind bytes at inside) (behind_rest bytes at inside);
  next = is_next bytes at inside;
  moves = λ more. omega (arith, shorter (drop at bytes) more, length-drop at bytes);
  stays = stays bytes at inside;
  boundary = boundary bytes at inside;
}

pub found : (bytes : List ℕ) (at : ℕ) → at ≤ length bytes → (p : Tok × List ℕ) → p ≡ next_lexeme (drop at bytes) → Found bytes at p
found bytes at inside p is = subst (λ (q : Tok × List ℕ). Found bytes at q) (sym is) (found_next bytes at inside)
