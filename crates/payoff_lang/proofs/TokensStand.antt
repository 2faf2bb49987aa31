-- Each token of a text stands where it says: from the position on at which so many bytes are left, the tokens are that token
-- and those behind it.
use Rattle.std.proofs.Common.{◌≡◌, ℕ, zero, suc, ◌-◌, ◌≤◌, Bool, true, false, cond, List, [], ◌∷◌, length, drop, refl, sym, ap, ◌∙◌, subst, arith, inl, inr}
use Rattle.std.specs.Prelude.{◌==◌, not}
use Rattle.std.proofs.lemmas.Bool.{cases_Bool}
use Rattle.contract_grammar.specs.Tokens.{Tok, after_gap, extent_at, is_blank, is_last, next_lexeme, token_at, tokens}
use Rattle.contract_grammar.proofs.TokenFacts.{shorter, tokens_next}
use Rattle.contract_parse.proofs.TokenPositions.{behind, behind_rest, rest_position, start, start_rest}

abbrev pub StandsIn : List ℕ → List Tok → Type 0
StandsIn text [] = Unit {0}
StandsIn text (t ∷ ts) = (tokens (drop (length text - t.left) text) ≡ t ∷ ts) × StandsIn text ts

-- behind a gap there is none
gap_ends : (blank hash : Bool) (b : ℕ) (x y bs : List ℕ) → after_gap false x ≡ x → after_gap false y ≡ y → (blank ≡ false → hash ≡ false → after_gap false (b ∷ bs) ≡ b ∷ bs)
    → after_gap false (cond blank x (cond hash y (b ∷ bs))) ≡ cond blank x (cond hash y (b ∷ bs))
gap_ends true hash b x y bs p q r = p
gap_ends false true b x y bs p q r = q
gap_ends false false b x y bs p q r = r refl refl

no_gap : (b : ℕ) (bs : List ℕ) → is_blank b ≡ false → (b == 35) ≡ false → after_gap false (b ∷ bs) ≡ b ∷ bs
no_gap b bs blank hash =
    ap (λ (t : Bool). cond t (after_gap false bs) (cond (b == 35) (after_gap true bs) (b ∷ bs))) blank
    ∙ ap (λ (t : Bool). cond t (after_gap true bs) (b ∷ bs)) hash

one_gap : (c : Bool) (bytes : List ℕ) → after_gap false (after_gap c bytes) ≡ after_gap c bytes
one_gap true [] = refl
one_gap false [] = refl
one_gap true (b ∷ bs) = one_gap (not (b == 10)) bs
one_gap false (b ∷ bs) = gap_ends (is_blank b) (b == 35) b (after_gap false bs) (after_gap true bs) bs (one_gap false bs) (one_gap true bs) (no_gap b bs)

-- from a token on, the text has the same next token
same_next : (bytes : List ℕ) → next_lexeme (after_gap false bytes) ≡ next_lexeme bytes
unfolding next_lexeme
same_next bytes = ap (λ (s : List ℕ). (token_at s, drop (extent_at s).len s)) (one_gap false bytes)

same_tokens : (bytes : List ℕ) → tokens (after_gap false bytes) ≡ tokens bytes
same_tokens bytes =
    tokens_next (after_gap false bytes)
    ∙ ap (λ (p : Tok × List ℕ). p.0 ∷ cond (is_last p.0.kind) [] (tokens p.1)) (same_next bytes)
    ∙ sym (tokens_next bytes)

module _ (text : List ℕ) where
  first_stands : (at : ℕ) (inside : at ≤ length text) → tokens (drop (length text - (next_lexeme (drop at text)).0.left) text) ≡ tokens (drop at text)
  unfolding next_lexeme
  first_stands at inside =
      ap (λ (bytes : List ℕ). tokens bytes) (rest_position text (start text at inside) (start_rest text at inside)) ∙ same_tokens (drop at text)

  behind_position : (at : ℕ) (inside : at ≤ length text) → drop (length text - length (next_lexeme (drop at text)).1) text ≡ (next_lexeme (drop at text)).1
  unfolding next_lexeme
  behind_position at inside = rest_position text (behind text at inside) (behind_rest text at inside)

  from_position : (n at : ℕ) → at ≤ length text → length (drop at text) ≤ n → StandsIn text (tokens (drop at text))
  from_position zero at inside few =
      let last : is_last (next_lexeme (drop at text)).0.kind ≡ true = elim (cases_Bool (is_last (next_lexeme (drop at text)).0.kind)) [
        | inl last ↦ last
        | inr more ↦ absurd (omega (arith, shorter (drop at text) more))
      ] in
      let one : tokens (drop at text) ≡ (next_lexeme (drop at text)).0 ∷ [] =
      tokens_next (drop at text) ∙ ap (λ (b : Bool). (next_lexeme (drop at text)).0 ∷ cond b [] (tokens (next_lexeme (drop at text)).1)) last in
      subst (λ (ts : List Tok). StandsIn text ts) (sym one) (first_stands at inside ∙ one, tt)
  from_position (suc n) at inside few = elim (cases_Bool (is_last (next_lexeme (drop at text)).0.kind)) [
    | inl last ↦
        let one : tokens (drop at text) ≡ (next_lexeme (drop at text)).0 ∷ [] =
        tokens_next (drop at text) ∙ ap (λ (b : Bool). (next_lexeme (drop at text)).0 ∷ cond b [] (tokens (next_lexeme (drop at text)).1)) last in
        subst (λ (ts : List Tok). StandsIn text ts) (sym one) (first_stands at inside ∙ one, tt)
    | inr more ↦
        let after = (next_lexeme (drop at text)).1 in
        let more_than_one : tokens (drop at text) ≡ (next_lexeme (drop at text)).0 ∷ tokens after =
        tokens_next (drop at text) ∙ ap (λ (b : Bool). (next_lexeme (drop at text)).0 ∷ cond b [] (tokens after)) more in
        let position : drop (length text - length after) text ≡ after = behind_position at inside in
        let few_after : length (drop (length text - length after) text) ≤ n = omega (arith, ap (λ (l : List ℕ). length l) position, shorter (drop at text) more) in
        let rest = subst (λ (l : List ℕ). StandsIn text (tokens l)) position (from_position n (length text - length after) (omega arith) few_after) in
        subst (λ (ts : List Tok). StandsIn text ts) (sym more_than_one) (first_stands at inside ∙ more_than_one, rest)
  ]

  pub stands_in : StandsIn text (tokens text)
  stands_in = from_position (length text) 0 (omega arith) (omega arith)
