-- What the value of one token is bounded by.
use Rattle.std.proofs.Common.{◌≡◌, ℕ, ℤ, suc, ◌<◌, ◌≤◌, Bool, true, false, refl, Option, Some, None, Result, Ok, Err, List, [], ◌∷◌, length, inl, inr, arith}
use Rattle.std.proofs.lemmas.Bool.Decides.{nat_tests}
use Rattle.std.specs.Prelude.{option_map}
use Rattle.std.specs.Str.{bytes_eq}
use Rattle.std.proofs.lemmas.List.Quantifiers.{position-Some}
use Rattle.std.proofs.lemmas.Bool.{cases_Bool}
use Rattle.decimal.specs.DecimalText.{signed}
use Rattle.term_model.specs.Limits.{IsOffset}
use Rattle.contract_grammar.specs.Tokens.{Tok}
use Rattle.contract_grammar.specs.Words.{Bytes, is_name, is_integer}
use Rattle.contract_grammar.specs.Names.{back_to, index_in}
use Rattle.contract_grammar.specs.Judgements.{integer_at, offset_at, or_fault, signed_result, up_to, use_at, variable_at, whole}
use Rattle.contract_grammar.specs.Spelling.{valued}
use Rattle.contract_grammar.specs.declared.faults.TextKind.{TextKind}
use Rattle.contract_grammar.specs.declared.faults.TextKind.TheVariants.{Number, Unknown}

-- ---- names

pub found : {X : Type 0} (kind : TextKind) (o : Option X) (x : X) → or_fault kind o ≡ Ok x → o ≡ Some x
found kind None x e = absurd cc
found kind (Some y) x e = cc

-- a declared name has an index among the names
pub use_within : (names : List Bytes) (t : Tok) (k : ℕ) → use_at names t ≡ Ok k → k < length names
use_within names t k e = elim (cases_Bool (is_name t)) [
  | inl is ↦
      let h : or_fault Unknown (index_in names t.text) ≡ Ok k = rw is at e in
      (position-Some (λ name. bytes_eq t.text name) names k [] (found Unknown (index_in names t.text) k h)).0
  | inr other ↦ let h = rw other at e in absurd cc
]

outward : (o : Option ℕ) (n k : ℕ) → ((back : ℕ) → o ≡ Some back → back < n) → option_map (λ (back : ℕ). suc back) o ≡ Some k → k < suc n
outward None n k below h = absurd cc
outward (Some back) n k below h = let at : k ≡ suc back = cc in let b = below back refl in rw at (omega arith)

-- a bound name has its binder
back_within : (names : List Bytes) (name : Bytes) (k : ℕ) → back_to names name ≡ Some k → k < length names
back_within [] name k e = absurd cc
back_within (inner ∷ outer) name k e = elim (cases_Bool (bytes_eq inner name)) [
  | inl same ↦
      let h : Some 0 ≡ Some k = rw same at e in
      let at : k ≡ 0 = cc in
      rw at (omega arith)
  | inr other ↦
      let h : option_map (λ (back : ℕ). suc back) (back_to outer name) ≡ Some k = rw other at e in
      outward (back_to outer name) (length outer) k (λ back is. back_within outer name back is) h
]

pub variable_within : (names : List Bytes) (t : Tok) (k : ℕ) → variable_at names t ≡ Ok k → k < length names
variable_within names t k e = elim (cases_Bool (is_name t)) [
  | inl is ↦
      let h : or_fault Unknown (back_to names t.text) ≡ Ok k = rw is at e in
      back_within names t.text k (found Unknown (back_to names t.text) k h)
  | inr other ↦ let h = rw other at e in absurd cc
]

pub by_value : {X : Type 0} (judge : Tok → Result X TextKind) (x : X) (P : Type 0) (ts rest : List Tok) → ((t : Tok) → judge t ≡ Ok x → P) → valued judge x ts rest → P
by_value judge x P ts rest go (t, is, e) = go t e

-- ---- numbers

pub small : (most m n : ℕ) → up_to most m ≡ Some n → n ≤ most
small most m n e = grind (arith, nat_tests)

pub integer_within : (most : ℕ) (t : Tok) (n : ℕ) → integer_at most t ≡ Ok n → n ≤ most
integer_within most t n e = elim (cases_Bool (is_integer t)) [
  | inl is ↦
      let h : or_fault Number (up_to most (whole t)) ≡ Ok n = rw is at e in
      small most (whole t) n (found Number (up_to most (whole t)) n h)
  | inr other ↦ let h = rw other at e in absurd cc
]

signed_within : (negative : Bool) (n : ℕ) → n ≤ 1_000_000 → IsOffset (signed negative n)
signed_within true n h = (grind arith, grind arith)
signed_within false n h = (grind arith, grind arith)

pub offset_within : (negative : Bool) (t : Tok) (m : ℤ) → offset_at negative t ≡ Ok m → IsOffset m
offset_within negative t m e = by_result (integer_at 1_000_000 t) refl e
  where
    by_result : (r : Result ℕ TextKind) → integer_at 1_000_000 t ≡ r → signed_result negative r ≡ Ok m → IsOffset m
    by_result (Ok n) is h = let at : m ≡ signed negative n = cc in rw at (signed_within negative n (integer_within 1_000_000 t n is))
    by_result (Err kind) is h = absurd cc
