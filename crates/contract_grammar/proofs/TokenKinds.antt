-- What a token is that passes a test.
use Rattle.std.proofs.Common.{◌≡◌, ℕ, ℤ, Bool, true, false, ◌&&◌, Ok, List, refl, sym, ap, subst, inl, inr}
use Rattle.std.specs.Str.{bytes_eq}
use Rattle.std.proofs.lemmas.Slice.Eq.{bytes_eq-Decides}
use Rattle.std.proofs.lemmas.Bool.{cases_Bool, false≢true}
use Rattle.decimal.specs.declared.Decimal.{Decimal}
use Rattle.contract_grammar.specs.Tokens.{Tok}
use Rattle.contract_grammar.specs.Words.{Bytes, is_end, is_end_kind, is_mark_kind, is_name, is_number, is_number_kind, is_the_mark, is_the_word, is_word_kind}
use Rattle.contract_grammar.specs.Judgements.{date_number_at, literal_at, offset_at, variable_at}
use Rattle.contract_grammar.specs.declared.token.LexemeKind.{LexemeKind}
use Rattle.contract_grammar.specs.declared.token.LexemeKind.TheVariants.{Word, Number, Date, Mark, End, Stray}
use Rattle.contract_grammar.proofs.EntryFacts.{and_parts}

word_kind : (k : LexemeKind) → is_word_kind k ≡ true → k ≡ Word
word_kind Word e = refl
word_kind Number e = absurd (false≢true e)
word_kind Date e = absurd (false≢true e)
word_kind Mark e = absurd (false≢true e)
word_kind End e = absurd (false≢true e)
word_kind Stray e = absurd (false≢true e)

mark_kind : (k : LexemeKind) → is_mark_kind k ≡ true → k ≡ Mark
mark_kind Word e = absurd (false≢true e)
mark_kind Number e = absurd (false≢true e)
mark_kind Date e = absurd (false≢true e)
mark_kind Mark e = refl
mark_kind End e = absurd (false≢true e)
mark_kind Stray e = absurd (false≢true e)

number_kind : (k : LexemeKind) → is_number_kind k ≡ true → k ≡ Number
number_kind Word e = absurd (false≢true e)
number_kind Number e = refl
number_kind Date e = absurd (false≢true e)
number_kind Mark e = absurd (false≢true e)
number_kind End e = absurd (false≢true e)
number_kind Stray e = absurd (false≢true e)

end_kind : (k : LexemeKind) → is_end_kind k ≡ true → k ≡ End
end_kind Word e = absurd (false≢true e)
end_kind Number e = absurd (false≢true e)
end_kind Date e = absurd (false≢true e)
end_kind Mark e = absurd (false≢true e)
end_kind End e = refl
end_kind Stray e = absurd (false≢true e)

pub the_word : (w : Bytes) (t : Tok) → is_the_word w t ≡ true → (t.kind ≡ Word) × (t.text ≡ w)
the_word w t e = let p = and_parts (is_word_kind t.kind) (bytes_eq t.text w) e in (word_kind t.kind p.0, (bytes_eq-Decides t.text w).0 p.1)

pub the_mark : (m : Bytes) (t : Tok) → is_the_mark m t ≡ true → (t.kind ≡ Mark) × (t.text ≡ m)
the_mark m t e = let p = and_parts (is_mark_kind t.kind) (bytes_eq t.text m) e in (mark_kind t.kind p.0, (bytes_eq-Decides t.text m).0 p.1)

pub the_number : (t : Tok) → is_number t ≡ true → t.kind ≡ Number
the_number t e = number_kind t.kind e

pub the_name : (t : Tok) → is_name t ≡ true → t.kind ≡ Word
the_name t e = word_kind t.kind (and_parts (is_word_kind t.kind) _ e).0

pub the_end : (t : Tok) → is_end t ≡ true → t.kind ≡ End
the_end t e = end_kind t.kind e

-- what is said of a token of this kind and text
pub of_word : (P : Tok → Type 0) (w : Bytes) (t : Tok) → is_the_word w t ≡ true → P (record { kind = Word; text = w; left = t.left }) → P t
of_word P w t e h =
    let p = the_word w t e in
    let same : record { kind = Word; text = w; left = t.left } ≡ t = λ i. record { kind = sym p.0 i; text = sym p.1 i; left = t.left } in
    subst P same h

pub of_mark : (P : Tok → Type 0) (m : Bytes) (t : Tok) → is_the_mark m t ≡ true → P (record { kind = Mark; text = m; left = t.left }) → P t
of_mark P m t e h =
    let p = the_mark m t e in
    let same : record { kind = Mark; text = m; left = t.left } ≡ t = λ i. record { kind = sym p.0 i; text = sym p.1 i; left = t.left } in
    subst P same h

pub not_word : (v w : Bytes) (t : Tok) → bytes_eq v w ≡ false → is_the_word v t ≡ true → is_the_word w t ≡ false
not_word v w t other e = of_word (λ z. is_the_word w z ≡ false) v t e other

pub end_no_word : (w : Bytes) (t : Tok) → is_end t ≡ true → is_the_word w t ≡ false
end_no_word w t e = ap (λ k. is_word_kind k && bytes_eq t.text w) (the_end t e)

pub number_no_mark : (m : Bytes) (t : Tok) → is_number t ≡ true → is_the_mark m t ≡ false
number_no_mark m t e = ap (λ k. is_mark_kind k && bytes_eq t.text m) (the_number t e)

-- ---- what is a number or a name

pub number_of_literal : (negative : Bool) (t : Tok) (d : Decimal) → literal_at negative t ≡ Ok d → is_number t ≡ true
number_of_literal negative t d e = elim (cases_Bool (is_number t)) [
  | inl is ↦ is
  | inr other ↦ let h = rw other at e in absurd cc
]

pub number_of_offset : (negative : Bool) (t : Tok) (n : ℤ) → offset_at negative t ≡ Ok n → is_number t ≡ true
number_of_offset negative t n e = elim (cases_Bool (is_number t)) [
  | inl is ↦ is
  | inr other ↦ let h = rw other at e in absurd cc
]

pub number_of_date : (negative : Bool) (t : Tok) (n : ℤ) → date_number_at negative t ≡ Ok n → is_number t ≡ true
number_of_date negative t n e = elim (cases_Bool (is_number t)) [
  | inl is ↦ is
  | inr other ↦ let h = rw other at e in absurd cc
]

pub name_of_variable : (names : List Bytes) (t : Tok) (i : ℕ) → variable_at names t ≡ Ok i → is_name t ≡ true
name_of_variable names t i e = elim (cases_Bool (is_name t)) [
  | inl is ↦ is
  | inr other ↦ let h = rw other at e in absurd cc
]
