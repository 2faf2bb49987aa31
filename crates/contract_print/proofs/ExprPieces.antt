-- The pieces of canonical texts: operators between their operands, modes, numbers and names.
use Rattle.std.proofs.Common.{◌≡◌, ℕ, ◌≤◌, ◌<◌, Bool, true, false, Result, Ok, List, [], ◌∷◌, ◌++◌, length, refl, sym, subst}
use Rattle.std.specs.Prelude.{codes, nat_lt}
use Rattle.std.specs.List.{list_all}
use Rattle.std.specs.Str.{IsAscii}
use Rattle.std.proofs.lemmas.Bool.{ltb-true}
use Rattle.std.proofs.lemmas.Str.Ascii.{IsAscii-cons, IsAscii-nil}
use Rattle.decimal.specs.declared.Mode.{Mode}
use Rattle.decimal.specs.declared.Mode.TheVariants.{HalfEven, HalfAway, Floor, Ceil}
use Rattle.term_model.specs.declared.terms.NumOp.TheVariants.{Plus, Minus, Times}
use Rattle.term_model.specs.declared.terms.CmpOp.{CmpOp}
use Rattle.term_model.specs.declared.terms.CmpOp.TheVariants.{Less, LessEq, Greater, GreaterEq, Equal, Unequal}
use Rattle.term_model.specs.declared.terms.LogicOp.{LogicOp}
use Rattle.term_model.specs.declared.terms.LogicOp.TheVariants.{And, Or}
use Rattle.contract_grammar.specs.declared.token.LexemeKind.TheVariants.{Mark}
use Rattle.contract_grammar.specs.declared.faults.TextKind.{TextKind}
use Rattle.contract_grammar.specs.declared.terms.Operator.TheVariants.{Arithmetic, Comparison, Logic as Connective}
use Rattle.contract_grammar.specs.Tokens.{Tok, after_gap, extent_at}
use Rattle.contract_grammar.specs.Words.{Bytes}
use Rattle.contract_grammar.specs.Judgements.{binder_at, integer_at, mode_at, operator_at, use_at}
use Rattle.contract_grammar.specs.Spelling.{Part, ◌⨟◌, valued}
use Rattle.contract_grammar.proofs.EntryFacts.{and_parts}
use Rattle.contract_print.specs.TermTexts.{bound_name, comparison_text, connective_text, mode_text, name_at, number_text}
use Rattle.contract_print.specs.Spellable.{are_names}
use Rattle.contract_print.specs.Spelled.{Spells, stops}
use Rattle.contract_print.proofs.DigitFacts.{unsigned}
use Rattle.contract_print.proofs.TokenTexts.{is_first, token}
use Rattle.contract_print.proofs.Joining.{Follows, mark_then, number_valued, word_valued}
use Rattle.contract_print.proofs.Judged.{binder_judged, bound_word, declared_word, integer_judged, use_judged}

pub ascii_of : (bs : List ℕ) → list_all (λ b. nat_lt b 128) bs ≡ true → IsAscii bs
ascii_of [] e = IsAscii-nil
ascii_of (b ∷ bs) e = let p = and_parts (nat_lt b 128) (list_all (λ b. nat_lt b 128) bs) e in IsAscii-cons b bs (ltb-true b 128 p.0) (ascii_of bs p.1)

-- ---- operators

module _ {X : Type 0} {ends : Bytes → Bool} {a : Bytes} {p : Part} (judge : Tok → Result X TextKind) (x : X) where
  op_then : (op : Bytes) → list_all (λ b. nat_lt b 128) op ≡ true → ((bs : List ℕ) → after_gap false (op ++ 32 ∷ bs) ≡ op ++ 32 ∷ bs) → ((bs : List ℕ) → extent_at (op ++ 32 ∷ bs) ≡ record { kind = Mark; len = length op })
      → ((left : ℕ) → judge (token Mark op left) ≡ Ok x) → Spells ends a p → Follows ends (32 ∷ (op ++ (32 ∷ a))) (valued judge x ⨟ p)
  op_then op small gap extent judged y =
      mark_then (valued judge x) op (ascii_of op small)
      (λ bs. (token Mark op (length (op ++ 32 ∷ bs)), is_first op (32 ∷ bs) Mark (length op) refl (gap bs) (extent bs) refl, judged (length (op ++ 32 ∷ bs)))) y

pub comparison_then : {ends : Bytes → Bool} {a : Bytes} {p : Part} (op : CmpOp) → Spells ends a p → Follows ends (comparison_text op ++ a) (valued operator_at (Comparison op) ⨟ p)
unfolding extent_at
comparison_then Less x = op_then operator_at (Comparison Less) (codes "<") refl (λ bs. refl) (λ bs. refl) (λ left. refl) x
comparison_then LessEq x = op_then operator_at (Comparison LessEq) (codes "<=") refl (λ bs. refl) (λ bs. refl) (λ left. refl) x
comparison_then Greater x = op_then operator_at (Comparison Greater) (codes ">") refl (λ bs. refl) (λ bs. refl) (λ left. refl) x
comparison_then GreaterEq x = op_then operator_at (Comparison GreaterEq) (codes ">=") refl (λ bs. refl) (λ bs. refl) (λ left. refl) x
comparison_then Equal x = op_then operator_at (Comparison Equal) (codes "=") refl (λ bs. refl) (λ bs. refl) (λ left. refl) x
comparison_then Unequal x = op_then operator_at (Comparison Unequal) (codes "!=") refl (λ bs. refl) (λ bs. refl) (λ left. refl) x

pub connective_then : {ends : Bytes → Bool} {a : Bytes} {p : Part} (op : LogicOp) → Spells ends a p → Follows ends (connective_text op ++ a) (valued operator_at (Connective op) ⨟ p)
unfolding extent_at
connective_then And x = op_then operator_at (Connective And) (codes "&") refl (λ bs. refl) (λ bs. refl) (λ left. refl) x
connective_then Or x = op_then operator_at (Connective Or) (codes "|") refl (λ bs. refl) (λ bs. refl) (λ left. refl) x

pub plus_then : {ends : Bytes → Bool} {a : Bytes} {p : Part} → Spells ends a p → Follows ends (codes " + " ++ a) (valued operator_at (Arithmetic Plus) ⨟ p)
unfolding extent_at
plus_then x = op_then operator_at (Arithmetic Plus) (codes "+") refl (λ bs. refl) (λ bs. refl) (λ left. refl) x

pub minus_then : {ends : Bytes → Bool} {a : Bytes} {p : Part} → Spells ends a p → Follows ends (codes " - " ++ a) (valued operator_at (Arithmetic Minus) ⨟ p)
unfolding extent_at
minus_then x = op_then operator_at (Arithmetic Minus) (codes "-") refl (λ bs. refl) (λ bs. refl) (λ left. refl) x

pub times_then : {ends : Bytes → Bool} {a : Bytes} {p : Part} → Spells ends a p → Follows ends (codes " * " ++ a) (valued operator_at (Arithmetic Times) ⨟ p)
unfolding extent_at
times_then x = op_then operator_at (Arithmetic Times) (codes "*") refl (λ bs. refl) (λ bs. refl) (λ left. refl) x

pub mode_spells : (m : Mode) → Spells stops (mode_text m) (valued mode_at m)
mode_spells HalfEven = word_valued mode_at HalfEven (codes "half_even") refl (λ left. refl)
mode_spells HalfAway = word_valued mode_at HalfAway (codes "half_away") refl (λ left. refl)
mode_spells Floor = word_valued mode_at Floor (codes "floor") refl (λ left. refl)
mode_spells Ceil = word_valued mode_at Ceil (codes "ceil") refl (λ left. refl)

-- ---- numbers and names

pub integer_spells : (most n : ℕ) → n ≤ most → Spells stops (number_text n) (valued (integer_at most) n)
integer_spells most n small =
    subst (λ (text : Bytes). Spells stops text (valued (integer_at most) n)) (sym (unsigned n 0)) (number_valued (integer_at most) n n 0 (λ left. integer_judged most n left small))

pub name_spells : (names : List Bytes) (i : ℕ) → are_names names ≡ true → i < length names → Spells stops (name_at names i) (valued (use_at names) i)
name_spells names i all h = word_valued (use_at names) i (name_at names i) (declared_word names i all h) (λ left. use_judged names i left all h)

pub binder_spells : (n : ℕ) → n < 1000 → Spells stops (bound_name n) (valued binder_at (bound_name n))
binder_spells n few = word_valued binder_at (bound_name n) (bound_name n) (bound_word n few) (λ left. binder_judged n left)
