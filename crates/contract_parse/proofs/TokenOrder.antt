-- The tokens of a text stand one behind the other: fewer and fewer bytes are left where they begin.
use Rattle.std.proofs.Common.{◌≡◌, ℕ, zero, suc, ◌+◌, ◌-◌, ◌<◌, ◌≤◌, ◌⊎◌, inl, inr, true, false, cond, List, [], ◌∷◌, ◌++◌, length, drop, refl, sym, ap, subst, ◌∙◌, arith, length-append, length-drop}
use Rattle.std.proofs.lemmas.Bool.{cases_Bool}
use Rattle.std.proofs.lemmas.List.{append_assoc, length-take-le}
use Rattle.contract_grammar.specs.declared.token.LexemeKind.{LexemeKind}
use Rattle.contract_grammar.specs.declared.faults.TextKind.{TextKind}
use Rattle.contract_grammar.specs.Names.{DeclaredNames}
use Rattle.contract_grammar.specs.Tokens.{Tok, is_last, next_lexeme, tokens, tokens_from}
use Rattle.contract_parse.specs.Expecting.{AnyTokens, Next, Open, Expected, Refuse, Step, Stops, run, step}
use Rattle.contract_parse.specs.Reading.{tokens_after}
use Rattle.contract_parse.specs.Cursors.{IsAfter, NextToken, token_between, tokens_at}
use Rattle.contract_parse.proofs.Passing.{run-end}
use Rattle.contract_parse.proofs.Steps.{run-next, run-refuse}
use Rattle.contract_parse.proofs.OneToken.{tail_same}
use Rattle.contract_grammar.proofs.TokenFacts.{behind_shorter, gap_shorter, shorter, tokens_next}

-- ---- how many bytes are left

-- at most this many bytes are left where each token begins
abbrev LeftWithin : ℕ → List Tok → Type 0
LeftWithin n [] = Unit {0}
LeftWithin n (t ∷ ts) = (t.left ≤ n) × LeftWithin n ts

first_left : (bytes : List ℕ) → (next_lexeme bytes).0.left ≤ length bytes
unfolding next_lexeme
first_left bytes = gap_shorter false bytes

from_within : (n fuel : ℕ) (bytes : List ℕ) → length bytes ≤ n → LeftWithin n (tokens_from fuel bytes)
unfolding tokens_from
from_within n zero bytes h = tt
from_within n (suc fuel) bytes h = (
  omega (arith, first_left bytes),
  elim (cases_Bool (is_last (next_lexeme bytes).0.kind)) [
    | inl last ↦ rw last tt
    | inr more ↦ rw more (from_within n fuel (next_lexeme bytes).1 (omega (arith, shorter bytes more)))
  ],
)

tokens_within : (bytes : List ℕ) → LeftWithin (length bytes) (tokens bytes)
unfolding tokens
tokens_within bytes = from_within (length bytes) (suc (length bytes)) bytes (omega arith)

within_at : (n : ℕ) (xs : List Tok) (t : Tok) (ts : List Tok) → LeftWithin n (xs ++ t ∷ ts) → t.left ≤ n
within_at n [] t ts h = h.0
within_at n (x ∷ xs) t ts h = within_at n xs t ts h.1

-- at most as many bytes are left where a token begins as its text has
pub left_inside : (bytes : List ℕ) (xs : List Tok) (t : Tok) (ts : List Tok) → tokens bytes ≡ xs ++ t ∷ ts → t.left ≤ length bytes
left_inside bytes xs t ts is = within_at (length bytes) xs t ts (subst (λ (l : List Tok). LeftWithin (length bytes) l) is (tokens_within bytes))

pub no_token : (xs : List Tok) (t : Tok) (ts : List Tok) → [] ≡ xs ++ t ∷ ts → ⊥
no_token [] t ts e = cc
no_token (x ∷ xs) t ts e = cc

-- a token that stands behind the first has fewer bytes left
pub later_left : (bytes : List ℕ) (u : Tok) (xs : List Tok) (t : Tok) (ts : List Tok) → tokens bytes ≡ u ∷ xs ++ t ∷ ts → t.left < u.left
later_left bytes u xs t ts is =
    let same = tail_same (next_lexeme bytes).0 u (tokens bytes) (tokens_after (next_lexeme bytes).0.kind (next_lexeme bytes).1) (xs ++ t ∷ ts) (tokens_next bytes) is in
    elim (cases_Bool (is_last (next_lexeme bytes).0.kind)) [
      | inl last ↦ absurd (no_token xs t ts (sym (ap (λ b. cond b [] (tokens (next_lexeme bytes).1)) last) ∙ same.1))
      | inr more ↦
          let rest : tokens (next_lexeme bytes).1 ≡ xs ++ t ∷ ts = sym (ap (λ b. cond b [] (tokens (next_lexeme bytes).1)) more) ∙ same.1 in
          let few = within_at (length (next_lexeme bytes).1) xs t ts (subst (λ (l : List Tok). LeftWithin (length (next_lexeme bytes).1) l) rest (tokens_within (next_lexeme bytes).1)) in
          omega (arith, few, behind_shorter bytes more, ap (λ (x : Tok). x.left) same.0)
    ]

-- ---- a fault stands at a token

by_step : (n : ℕ) (kind : TextKind) (left : ℕ) (t : Tok) (ts : List Tok) (s : DeclaredNames) (ps : List Expected) (next : Step) → step s ps t ≡ next → t.left ≤ n → ((s2 : DeclaredNames) (qs : List Expected) → run s2 qs ts ≡ Stops kind left → left ≤ n) → run s ps (t ∷ ts) ≡ Stops kind left → left ≤ n
by_step n kind left t ts s ps (Next s2 qs) is small more stops = more s2 qs (sym (run-next s s2 ps qs t ts is) ∙ stops)
by_step n kind left t ts s ps (Refuse k) is small more stops =
    let same : Stops k t.left ≡ Stops kind left = sym (run-refuse s ps k t ts is) ∙ stops in
    let left_same : t.left ≡ left = cc in
    omega (arith, small, left_same)

stops_within : (n : ℕ) (kind : TextKind) (left : ℕ) (ts : List Tok) → LeftWithin n ts → (s : DeclaredNames) (ps : List Expected) → run s ps ts ≡ Stops kind left → left ≤ n
stops_within n kind left [] h s ps stops = let open_ : Open ps ≡ Stops kind left = sym (run-end s ps) ∙ stops in absurd cc
stops_within n kind left (t ∷ ts) h s ps stops = by_step n kind left t ts s ps (step s ps t) refl h.0 (λ s2 qs. stops_within n kind left ts h.1 s2 qs) stops

pub stop_inside : (bytes : List ℕ) (s : DeclaredNames) (ps : List Expected) (kind : TextKind) (left : ℕ) → run s ps (tokens bytes) ≡ Stops kind left → left ≤ length bytes
stop_inside bytes s ps kind left stops = stops_within (length bytes) kind left (tokens bytes) (tokens_within bytes) s ps stops

-- another grammar takes all
pub any_taken : (s : DeclaredNames) (ps : List Expected) (ts : List Tok) → run s (AnyTokens ∷ ps) ts ≡ Open (AnyTokens ∷ ps)
any_taken s ps [] = run-end s (AnyTokens ∷ ps)
any_taken s ps (t ∷ ts) = run-next s s (AnyTokens ∷ ps) (AnyTokens ∷ ps) t ts refl ∙ any_taken s ps ts

-- ---- on to a token

-- a token and the next after it stand from a position on, or that position is directly between them
abbrev pub IsAhead : List ℕ → Tok → Tok → List Tok → ℕ → Type 0
IsAhead bytes last next rest at =
    ((before : List Tok) × (tokens_at bytes at ≡ before ++ last ∷ next ∷ rest)) ⊎ IsAfter bytes last (next ∷ rest) at

text_length : (bytes : List ℕ) (k : LexemeKind) (from to : ℕ) → from ≤ to → to ≤ length bytes → length (token_between bytes k from to).text ≡ to - from
text_length bytes k from to forward within = length-take-le (to - from) (drop from bytes) (omega (arith, length-drop from bytes))

-- the tokens behind the next one
behind_next : (bytes : List ℕ) (at : ℕ) (k : LexemeKind) (from to : ℕ) → NextToken bytes at k from to → is_last k ≡ false → tokens_at bytes at ≡ token_between bytes k from to ∷ tokens_at bytes to
behind_next bytes at k from to n more = n.tokens ∙ ap (λ b. token_between bytes k from to ∷ cond b [] (tokens_at bytes to)) more

by_before : (bytes : List ℕ) (at : ℕ) (k : LexemeKind) (from to : ℕ) (last next : Tok) (rest before : List Tok) → NextToken bytes at k from to → is_last k ≡ false → tokens_at bytes at ≡ before ++ last ∷ next ∷ rest → IsAhead bytes last next rest to
by_before bytes at k from to last next rest [] n more is =
    let same = tail_same (token_between bytes k from to) last (tokens_at bytes at) (tokens_at bytes to) (next ∷ rest) (behind_next bytes at k from to n more) is in
    let left : length bytes - from ≡ last.left = ap (λ (t : Tok). t.left) same.0 in
    let size : to - from ≡ length last.text = sym (text_length bytes k from to n.forward n.within) ∙ ap (λ (t : Tok). length t.text) same.0 in
    inr (record { tokens = same.1; adjacent = omega (arith, left, size, n.forward, n.within) })
by_before bytes at k from to last next rest (x ∷ before) n more is =
    inl (before, (tail_same (token_between bytes k from to) x (tokens_at bytes at) (tokens_at bytes to) (before ++ last ∷ next ∷ rest) (behind_next bytes at k from to n more) is).1)

-- the token that is looked for is not the next one
by_after : (bytes : List ℕ) (at : ℕ) (k : LexemeKind) (from to : ℕ) (last next : Tok) (rest : List Tok) → NextToken bytes at k from to → from < length bytes - next.left → IsAfter bytes last (next ∷ rest) at → ⊥
by_after bytes at k from to last next rest n before after =
    let same = tail_same (token_between bytes k from to) next (tokens_at bytes at) (tokens_after k (drop to bytes)) rest n.tokens after.tokens in
    let left : length bytes - from ≡ next.left = ap (λ (t : Tok). t.left) same.0 in
    omega (arith, left, before, n.forward, n.within)

pub ahead_on : (bytes : List ℕ) (at : ℕ) (k : LexemeKind) (from to : ℕ) (last next : Tok) (rest : List Tok) → NextToken bytes at k from to → is_last k ≡ false → from < length bytes - next.left → IsAhead bytes last next rest at → IsAhead bytes last next rest to
ahead_on bytes at k from to last next rest n more before (inl (xs, is)) = by_before bytes at k from to last next rest xs n more is
ahead_on bytes at k from to last next rest n more before (inr after) = absurd (by_after bytes at k from to last next rest n before after)

-- where no token begins before the one that is looked for, it comes next
none_before : (bytes : List ℕ) (at : ℕ) (k : LexemeKind) (from to : ℕ) (last next : Tok) (rest before : List Tok) → NextToken bytes at k from to → length bytes - next.left ≤ from → tokens_at bytes at ≡ before ++ last ∷ next ∷ rest → ⊥
none_before bytes at k from to last next rest [] n stop is =
    let same = tail_same (token_between bytes k from to) last (tokens_at bytes at) (tokens_after k (drop to bytes)) (next ∷ rest) n.tokens is in
    omega (arith, later_left (drop at bytes) last [] next rest is, ap (λ (t : Tok). t.left) same.0, stop, n.forward, n.within)
none_before bytes at k from to last next rest (x ∷ before) n stop is =
    let same = tail_same (token_between bytes k from to) x (tokens_at bytes at) (tokens_after k (drop to bytes)) (before ++ last ∷ next ∷ rest) n.tokens is in
    let apart : x ∷ before ++ last ∷ next ∷ rest ≡ x ∷ (before ++ last ∷ []) ++ next ∷ rest = ap (λ (l : List Tok). x ∷ l) (sym (append_assoc before (last ∷ []) (next ∷ rest))) in
    omega (arith, later_left (drop at bytes) x (before ++ last ∷ []) next rest (is ∙ apart), ap (λ (t : Tok). t.left) same.0, stop, n.forward, n.within)

pub ahead_stops : (bytes : List ℕ) (at : ℕ) (k : LexemeKind) (from to : ℕ) (last next : Tok) (rest : List Tok) → NextToken bytes at k from to → length bytes - next.left ≤ from → IsAhead bytes last next rest at → IsAfter bytes last (next ∷ rest) at
ahead_stops bytes at k from to last next rest n stop (inl (xs, is)) = absurd (none_before bytes at k from to last next rest xs n stop is)
ahead_stops bytes at k from to last next rest n stop (inr after) = after

-- nor is there another behind the end
none_behind : (bytes : List ℕ) (at : ℕ) (k : LexemeKind) (from to : ℕ) (last next : Tok) (rest before : List Tok) → NextToken bytes at k from to → is_last k ≡ true → tokens_at bytes at ≡ before ++ last ∷ next ∷ rest → ⊥
none_behind bytes at k from to last next rest before n end is =
    let one : tokens_at bytes at ≡ token_between bytes k from to ∷ [] = n.tokens ∙ ap (λ b. token_between bytes k from to ∷ cond b [] (tokens_at bytes to)) end in
    let size : 1 ≡ length before + length (last ∷ next ∷ rest) = ap length (sym one ∙ is) ∙ length-append before (last ∷ next ∷ rest) in
    omega (arith, size)

pub ahead_ends : (bytes : List ℕ) (at : ℕ) (k : LexemeKind) (from to : ℕ) (last next : Tok) (rest : List Tok) → NextToken bytes at k from to → is_last k ≡ true → IsAhead bytes last next rest at → IsAfter bytes last (next ∷ rest) at
ahead_ends bytes at k from to last next rest n end (inl (xs, is)) = absurd (none_behind bytes at k from to last next rest xs n end is)
ahead_ends bytes at k from to last next rest n end (inr after) = after
