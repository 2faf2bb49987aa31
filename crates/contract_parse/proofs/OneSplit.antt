-- The position of a token tells it among the tokens of a text.
use Rattle.std.proofs.Common.{◌≡◌, ℕ, inl, inr, cond, List, [], ◌∷◌, ◌++◌, refl, sym, ap, ◌∙◌, arith}
use Rattle.std.proofs.lemmas.Bool.{cases_Bool}
use Rattle.contract_grammar.specs.Tokens.{Tok, is_last, next_lexeme, tokens}
use Rattle.contract_parse.specs.Reading.{tokens_after}
use Rattle.contract_parse.proofs.OneToken.{tail_same}
use Rattle.contract_grammar.proofs.TokenFacts.{tokens_next}
use Rattle.contract_parse.proofs.TokenOrder.{later_left, no_token}

-- the tokens behind the first are those of the bytes behind it
behind_first : (bytes : List ℕ) (u : Tok) (xs : List Tok) (t : Tok) (ts : List Tok) → tokens bytes ≡ u ∷ xs ++ t ∷ ts → tokens (next_lexeme bytes).1 ≡ xs ++ t ∷ ts
behind_first bytes u xs t ts is =
    let same = tail_same (next_lexeme bytes).0 u (tokens bytes) (tokens_after (next_lexeme bytes).0.kind (next_lexeme bytes).1) (xs ++ t ∷ ts) (tokens_next bytes) is in
    elim (cases_Bool (is_last (next_lexeme bytes).0.kind)) [
      | inl last ↦ absurd (no_token xs t ts (sym (ap (λ b. cond b [] (tokens (next_lexeme bytes).1)) last) ∙ same.1))
      | inr more ↦ sym (ap (λ b. cond b [] (tokens (next_lexeme bytes).1)) more) ∙ same.1
    ]

first_is_not_later : (bytes : List ℕ) (u : Tok) (xs : List Tok) (t v : Tok) (ts us : List Tok) → tokens bytes ≡ u ∷ xs ++ t ∷ ts → tokens bytes ≡ v ∷ us → v.left ≡ t.left → ⊥
first_is_not_later bytes u xs t v ts us e f same =
    let first = tail_same u v (tokens bytes) (xs ++ t ∷ ts) us e f in
    omega (arith, later_left bytes u xs t ts e, ap (λ (x : Tok). x.left) first.0, same)

pub one_split : (b c : List Tok) (bytes : List ℕ) (t u : Tok) (ts us : List Tok) → tokens bytes ≡ b ++ t ∷ ts → tokens bytes ≡ c ++ u ∷ us → t.left ≡ u.left → (b ≡ c) × (t ≡ u)
one_split [] [] bytes t u ts us e f same = (refl, (tail_same t u (tokens bytes) ts us e f).0)
one_split [] (v ∷ c) bytes t u ts us e f same = absurd (first_is_not_later bytes v c u t us ts f e same)
one_split (v ∷ b) [] bytes t u ts us e f same = absurd (first_is_not_later bytes v b t u ts us e f (sym same))
one_split (v ∷ b) (w ∷ c) bytes t u ts us e f same =
    let first = tail_same v w (tokens bytes) (b ++ t ∷ ts) (c ++ u ∷ us) e f in
    let p = one_split b c (next_lexeme bytes).1 t u ts us (behind_first bytes v b t ts e) (behind_first bytes w c u us f) same in
    ((λ i. first.0 i ∷ p.0 i), p.1)
