-- Marks that stand for themselves whatever is behind them.
use Rattle.std.proofs.Common.{◌≡◌, ◌≤◌, ◌-◌, ℕ, suc, true, false, List, [], ◌∷◌, length, take, drop, refl, sym, ap, ◌∙◌, inl, inr, arith}
use Rattle.std.specs.Prelude.{◌⊎◌}
use Rattle.std.proofs.Math.ListN.{get_or}
use Rattle.std.proofs.lemmas.List.{take_all}
use Rattle.std.specs.Str.{bytes_eq}
use Rattle.std.proofs.lemmas.Bool.{cases_Bool}
use Rattle.std.proofs.lemmas.Slice.Eq.{bytes_eq-Decides}
use Rattle.std.proofs.lemmas.Bool.Decides.{nat_tests}
use Rattle.contract_grammar.specs.declared.token.LexemeKind.TheVariants.{Mark}
use Rattle.contract_grammar.specs.Tokens.{extent_at, next_lexeme, tokens}
use Rattle.contract_grammar.specs.Words.{Bytes, is_the_mark, is_whole_mark}
use Rattle.contract_parse.specs.Reading.{LacksMark}
use Rattle.contract_grammar.proofs.TokenFacts.{tokens_next}

-- a byte that is a mark whatever stands behind it
abbrev pub Whole : ℕ → Type 0
Whole b = (bytes : List ℕ) → next_lexeme (b ∷ bytes) ≡ (record { kind = Mark; text = b ∷ []; left = suc (length bytes) }, bytes)

open_whole : Whole 40
unfolding next_lexeme extent_at
open_whole [] = refl
open_whole (b ∷ bs) = refl

close_whole : Whole 41
unfolding next_lexeme extent_at
close_whole [] = refl
close_whole (b ∷ bs) = refl

comma_whole : Whole 44
unfolding next_lexeme extent_at
comma_whole [] = refl
comma_whole (b ∷ bs) = refl

semicolon_whole : Whole 59
unfolding next_lexeme extent_at
semicolon_whole [] = refl
semicolon_whole (b ∷ bs) = refl

one_of : (b : ℕ) → is_whole_mark b ≡ true → (b ≡ 40) ⊎ ((b ≡ 41) ⊎ ((b ≡ 44) ⊎ (b ≡ 59)))
one_of b h = grind (arith, nat_tests)

pub is_whole : (b : ℕ) → is_whole_mark b ≡ true → Whole b
is_whole b h = by_byte (one_of b h)
  where
    by_byte : (b ≡ 40) ⊎ ((b ≡ 41) ⊎ ((b ≡ 44) ⊎ (b ≡ 59))) → Whole b
    by_byte (inl e) = rw e open_whole
    by_byte (inr (inl e)) = rw e close_whole
    by_byte (inr (inr (inl e))) = rw e comma_whole
    by_byte (inr (inr (inr e))) = rw e semicolon_whole

-- such a mark is the token at which it stands
pub whole_ahead : (b : ℕ) (bytes : List ℕ) → is_whole_mark b ≡ true
    → tokens (b ∷ bytes) ≡ record { kind = Mark; text = b ∷ []; left = suc (length bytes) } ∷ tokens bytes
whole_ahead b bytes h = tokens_next (b ∷ bytes) ∙ rw (is_whole b h bytes) refl

-- the same of slices
pub whole_here : (rest wanted : List ℕ) → 1 ≤ length rest → length wanted ≡ 1 → get_or rest 0 0 ≡ get_or wanted 0 0
    → is_whole_mark (get_or rest 0 0) ≡ true
    → tokens rest ≡ record { kind = Mark; text = wanted; left = length rest } ∷ tokens (take (length rest - 1) (drop 1 rest))
whole_here (b ∷ bs) (w ∷ []) some one same whole =
    whole_ahead b bs whole ∙ ap (λ u. record { kind = Mark; text = u ∷ []; left = suc (length bs) } ∷ tokens bs) same
    ∙ ap (λ rest. record { kind = Mark; text = w ∷ []; left = suc (length bs) } ∷ tokens rest) (sym (take_all (suc (length bs) - 1) bs (omega arith)))
whole_here [] wanted some one same whole = absurd (omega arith)
whole_here (b ∷ bs) [] some one same whole = absurd (omega arith)
whole_here (b ∷ bs) (w ∷ v ∷ vs) some one same whole = absurd (omega arith)

pub same_mark : (w : Bytes) (left : ℕ) → true ≡ is_the_mark w (record { kind = Mark; text = w; left = left })
same_mark w left = sym ((bytes_eq-Decides w w).1 refl)

other_text : (b w : ℕ) → (b ≡ w → ⊥) → bytes_eq (b ∷ []) (w ∷ []) ≡ false
other_text b w other = elim (cases_Bool (bytes_eq (b ∷ []) (w ∷ []))) [
  | inl e ↦ absurd (other (ap (λ (text : List ℕ). get_or text 0 0) ((bytes_eq-Decides (b ∷ []) (w ∷ [])).0 e)))
  | inr e ↦ e
]

-- another mark than the wanted one stands there
pub other_here : (rest wanted : List ℕ) → 1 ≤ length rest → length wanted ≡ 1 → (get_or rest 0 0 ≡ get_or wanted 0 0 → ⊥)
    → is_whole_mark (get_or rest 0 0) ≡ true → LacksMark wanted (tokens rest)
other_here (b ∷ bs) (w ∷ []) some one other whole = record {
  first = record { kind = Mark; text = b ∷ []; left = suc (length bs) };
  after = tokens bs;
  is = whole_ahead b bs whole;
  other = other_text b w other;
}
other_here [] wanted some one other whole = absurd (omega arith)
other_here (b ∷ bs) [] some one other whole = absurd (omega arith)
other_here (b ∷ bs) (w ∷ v ∷ vs) some one other whole = absurd (omega arith)
