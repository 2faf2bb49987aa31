-- The position of a token in its text: what is left behind it is the end of the text, and its own bytes stand before that.
use Rattle.std.proofs.Common.{◌≡◌, ℕ, zero, suc, ◌+◌, ◌-◌, ◌≤◌, Bool, true, false, cond, List, [], ◌∷◌, length, take, drop, refl, sym, ap, ◌∙◌, arith, length-drop}
use Rattle.std.specs.Prelude.{◌==◌, not}
use Rattle.std.proofs.lemmas.List.{drop-drop}
use Rattle.contract_grammar.specs.Tokens.{Tok, after_gap, extent_at, is_blank, next_lexeme, token_at}
use Rattle.contract_parse.specs.Reading.{tokens_after}
use Rattle.contract_parse.specs.Cursors.{NextToken, token_between}
use Rattle.contract_grammar.proofs.TokenFacts.{tokens_next}

-- the last bytes of a text
pub record IsRest (bytes rest : List ℕ) : Type 0 where
  pub at : ℕ
  pub is : drop at bytes ≡ rest
  pub all : at + length rest ≡ length bytes

rest_all : (bytes : List ℕ) → IsRest bytes bytes
rest_all bytes = record { at = 0; is = refl; all = omega arith }

rest_more : (b : ℕ) (bytes rest : List ℕ) → IsRest bytes rest → IsRest (b ∷ bytes) rest
rest_more b bytes rest r = record { at = suc r.at; is = r.is; all = omega (arith, r.all) }

rest_cond : (b : Bool) (bytes x y : List ℕ) → IsRest bytes x → IsRest bytes y → IsRest bytes (cond b x y)
rest_cond true bytes x y p q = p
rest_cond false bytes x y p q = q

pub rest_drop : (n : ℕ) (bytes : List ℕ) → IsRest bytes (drop n bytes)
rest_drop zero bytes = rest_all bytes
rest_drop (suc n) [] = record { at = 0; is = refl; all = refl }
rest_drop (suc n) (b ∷ bytes) = rest_more b bytes (drop n bytes) (rest_drop n bytes)

rest_gap : (c : Bool) (bytes : List ℕ) → IsRest bytes (after_gap c bytes)
rest_gap true [] = rest_all []
rest_gap false [] = rest_all []
rest_gap true (b ∷ bytes) = rest_more b bytes (after_gap (not (b == 10)) bytes) (rest_gap (not (b == 10)) bytes)
rest_gap false (b ∷ bytes) =
    rest_cond (is_blank b) (b ∷ bytes) (after_gap false bytes) (cond (b == 35) (after_gap true bytes) (b ∷ bytes))
    (rest_more b bytes (after_gap false bytes) (rest_gap false bytes))
    (rest_cond (b == 35) (b ∷ bytes) (after_gap true bytes) (b ∷ bytes) (rest_more b bytes (after_gap true bytes) (rest_gap true bytes)) (rest_all (b ∷ bytes)))

rest_trans : (bytes xs ys : List ℕ) → IsRest bytes xs → IsRest xs ys → IsRest bytes ys
rest_trans bytes xs ys p q = record {
  at = p.at + q.at;
  is = sym (drop-drop q.at p.at bytes) ∙ ap (λ (l : List ℕ). drop q.at l) p.is ∙ q.is;
  all = omega (arith, p.all, q.all);
}

-- the position of the last bytes is told by how many they are
pub rest_position : (bytes rest : List ℕ) → IsRest bytes rest → drop (length bytes - length rest) bytes ≡ rest
rest_position bytes rest r =
    let e : length bytes - length rest ≡ r.at = omega (arith, r.all) in
    ap (λ (n : ℕ). drop n bytes) e ∙ r.is

pub rest_short : (bytes rest : List ℕ) → IsRest bytes rest → length rest ≤ length bytes
rest_short bytes rest r = omega (arith, r.all)

-- the first bytes are told by how many are left
taken_first : (n : ℕ) (bytes : List ℕ) → take n bytes ≡ take (length bytes - length (drop n bytes)) bytes
taken_first zero bytes = let e : length bytes - length bytes ≡ 0 = omega arith in rw e refl
taken_first (suc n) [] = refl
taken_first (suc n) (b ∷ bytes) =
    let e : length (b ∷ bytes) - length (drop n bytes) ≡ suc (length bytes - length (drop n bytes)) = omega (arith, length-drop n bytes) in
    rw e (ap (λ (l : List ℕ). b ∷ l) (taken_first n bytes))

-- the next token of what stands from a position on
module _ (bytes : List ℕ) (at : ℕ) (inside : at ≤ length bytes) where
  abbrev pub from_here : List ℕ
  from_here = drop at bytes

  abbrev pub start : List ℕ
  start = after_gap false from_here

  abbrev pub behind : List ℕ
  behind = drop (extent_at start).len start

  pub start_rest : IsRest bytes start
  start_rest = rest_trans bytes from_here start (rest_drop at bytes) (rest_gap false from_here)

  pub behind_rest : IsRest bytes behind
  behind_rest = rest_trans bytes start behind start_rest (rest_drop (extent_at start).len start)

  -- its bytes, by the two positions
  text_between : take (extent_at start).len start ≡ take (length bytes - length behind - (length bytes - length start)) (drop (length bytes - length start) bytes)
  text_between =
      let e : length bytes - length behind - (length bytes - length start) ≡ length start - length behind = omega (arith, rest_short bytes start start_rest, rest_short start behind (rest_drop (extent_at start).len start)) in
      rw (e, rest_position bytes start start_rest) (taken_first (extent_at start).len start)

  is_between : token_at start ≡ token_between bytes (extent_at start).kind (length bytes - length start) (length bytes - length behind)
  is_between =
      let left : length start ≡ length bytes - (length bytes - length start) = omega (arith, rest_short bytes start start_rest) in
      λ i. record { kind = (extent_at start).kind; text = text_between i; left = left i }

  pub is_next : NextToken bytes at (next_lexeme from_here).0.kind (length bytes - (next_lexeme from_here).0.left) (length bytes - length (next_lexeme from_here).1)
  unfolding next_lexeme
  is_next = record {
    tokens = tokens_next from_here ∙ ap (λ (t : Tok). t ∷ tokens_after (extent_at start).kind behind) is_between
        ∙ ap (λ (l : List ℕ). token_between bytes (extent_at start).kind (length bytes - length start) (length bytes - length behind) ∷ tokens_after (extent_at start).kind l) (sym (rest_position bytes behind behind_rest));
    behind = omega (arith, rest_short from_here start (rest_gap false from_here), length-drop at bytes);
    forward = omega (arith, rest_short start behind (rest_drop (extent_at start).len start));
    within = omega arith;
  }
