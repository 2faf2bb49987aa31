-- The numbers of what is spelled as code are within the limits of texts.
use Rattle.std.proofs.Common.{◌≡◌, ℕ, zero, suc, ℤ, ◌≤◌, Bool, true, false, Result, Ok, Err, List, ◌∷◌, refl, arith, unsigned_abs}
use Rattle.decimal.specs.DecimalText.{signed}
use Rattle.term_model.specs.declared.terms.NumOp.TheVariants.{Plus, Minus, Times, Min, Max}
use Rattle.contract_grammar.specs.Tokens.{Tok}
use Rattle.contract_grammar.specs.Words.{Bytes}
use Rattle.contract_grammar.specs.Names.{DeclaredNames}
use Rattle.contract_grammar.specs.Judgements.{date_number_at, integer_at, literal_at, signed_result}
use Rattle.contract_grammar.specs.declared.faults.TextKind.{TextKind}
use Rattle.contract_print.proofs.NumbersWithin.{integer_within, literal_within}
use Rattle.contract_grammar.proofs.TextClosed.{by_value}
use Rattle.payoff_terms.specs.TemplateDates.{Date}
use Rattle.payoff_terms.specs.Code.{ValueExpression, Lit, Yes, Var, Model, Neg, Num, Cmp, Not, Logic, Cond, Widen, Round, Div, Acc, PayoffCode, Nothing, PayOn, Add, ScaleBy, LetBe, Loop, Cut}
use Rattle.payoff_lang.specs.CodeSpelling.{DatePart, code_part, value_part}
use Rattle.payoff_terms.specs.CodeBooks.{CodeBook}
use Rattle.payoff_lang.specs.CodeFiles.{CodeText}
use Rattle.payoff_lang.specs.CodeTexts.{declared_for_code}
use Rattle.payoff_terms.specs.PrintableCode.{CodeHasNumbersOfTexts, HasNumberOfTexts, IsPrintableCode, ValueHasNumbersOfTexts}
use Rattle.payoff_lang.proofs.CodeClosed.{code_of_text_closed}

-- ---- dates

size_signed : (negative : Bool) (n : ℕ) → unsigned_abs (signed negative n) ≡ n
size_signed true zero = refl
size_signed true (suc n) = refl
size_signed false n = refl

date_within : (negative : Bool) (t : Tok) (days : ℤ) → date_number_at negative t ≡ Ok days → unsigned_abs days ≤ 2_000_000
date_within negative t days e = by_result (integer_at 2_000_000 t) refl e
  where
    by_result : (r : Result ℕ TextKind) → integer_at 2_000_000 t ≡ r → signed_result negative r ≡ Ok days → unsigned_abs days ≤ 2_000_000
    by_result (Ok n) is h = let at : days ≡ signed negative n = cc in rw at (omega (arith, size_signed negative n, integer_within 2_000_000 t n is))
    by_result (Err kind) is h = absurd cc

module _ (s : DeclaredNames) where
  date_number : (q : Date) (ts rest : List Tok) → DatePart s q ts rest → HasNumberOfTexts q
  date_number q ts rest x =
      let number = x.spelled.one in
      by_value (date_number_at number.negative) q.days _ _ _ (λ t e. date_within number.negative t q.days e) number.spelled.two

  -- ---- value expressions

  value_numbers : (ns : List Bytes) (v : ValueExpression) (ts rest : List Tok) → value_part s ns v ts rest → ValueHasNumbersOfTexts v
  value_numbers ns (Lit m k) ts rest x = by_value (literal_at x.negative) (record { mant = m; scale = k }) _ _ _ (λ t e. literal_within x.negative t (record { mant = m; scale = k }) e) x.spelled.two
  value_numbers ns (Yes b) ts rest x = tt
  value_numbers ns (Var back) ts rest x = tt
  value_numbers ns (Model l q) ts rest x = date_number q _ _ x.two.two.two.two.one
  value_numbers ns (Neg v) ts rest x = value_numbers ns v _ _ x.two.two.one
  value_numbers ns (Not v) ts rest x = value_numbers ns v _ _ x.two.two.one
  value_numbers ns (Num Min v w) ts rest x = (value_numbers ns v _ _ x.two.two.one, value_numbers ns w _ _ x.two.two.two.two.one)
  value_numbers ns (Num Max v w) ts rest x = (value_numbers ns v _ _ x.two.two.one, value_numbers ns w _ _ x.two.two.two.two.one)
  value_numbers ns (Num Plus v w) ts rest x = (value_numbers ns v _ _ x.two.one, value_numbers ns w _ _ x.two.two.two.one)
  value_numbers ns (Num Minus v w) ts rest x = (value_numbers ns v _ _ x.two.one, value_numbers ns w _ _ x.two.two.two.one)
  value_numbers ns (Num Times v w) ts rest x = (value_numbers ns v _ _ x.two.one, value_numbers ns w _ _ x.two.two.two.one)
  value_numbers ns (Cmp op v w) ts rest x = (value_numbers ns v _ _ x.two.one, value_numbers ns w _ _ x.two.two.two.one)
  value_numbers ns (Logic op v w) ts rest x = (value_numbers ns v _ _ x.two.one, value_numbers ns w _ _ x.two.two.two.one)
  value_numbers ns (Cond t v w) ts rest x =
      (value_numbers ns t _ _ x.two.two.one, value_numbers ns v _ _ x.two.two.two.two.one, value_numbers ns w _ _ x.two.two.two.two.two.two.one)
  value_numbers ns (Widen k v) ts rest x = (by_value (integer_at 27) k _ _ _ (λ t e. integer_within 27 t k e) x.two.two.one, value_numbers ns v _ _ x.two.two.two.two.one)
  value_numbers ns (Round m k v) ts rest x =
      let y = x.two.two.two.two in
      (by_value (integer_at 27) k _ _ _ (λ t e. integer_within 27 t k e) y.one, value_numbers ns v _ _ y.two.two.one)
  value_numbers ns (Div m k v w) ts rest x =
      let y = x.two.two.two.two in
      (by_value (integer_at 27) k _ _ _ (λ t e. integer_within 27 t k e) y.one, value_numbers ns v _ _ y.two.two.one, value_numbers ns w _ _ y.two.two.two.two.one)
  value_numbers ns (Acc body n first) ts rest x =
      let y = x.spelled.two.two.two.two in
      (by_value (integer_at 100_000) n _ _ _ (λ t e. integer_within 100_000 t n e) y.two.two.one, value_numbers (x.name ∷ ns) body _ _ y.one, value_numbers ns first _ _ y.two.two.two.two.one)

  -- ---- code

  code_numbers : (ns : List Bytes) (k : PayoffCode) (ts rest : List Tok) → code_part s ns k ts rest → CodeHasNumbersOfTexts k
  code_numbers ns Nothing ts rest x = tt
  code_numbers ns (PayOn q a p r) ts rest x = date_number q _ _ x.two.two.one
  code_numbers ns (Add k l) ts rest x = (code_numbers ns k _ _ x.two.two.one, code_numbers ns l _ _ x.two.two.two.two.one)
  code_numbers ns (ScaleBy v k) ts rest x = (value_numbers ns v _ _ x.two.two.one, code_numbers ns k _ _ x.two.two.two.two.one)
  code_numbers ns (LetBe v k) ts rest x = let y = x.spelled.two.two.two in (value_numbers ns v _ _ y.one, code_numbers (x.name ∷ ns) k _ _ y.two.two)
  code_numbers ns (Loop v q k l) ts rest x =
      let y = x.two in
      (value_numbers ns v _ _ y.one, date_number q _ _ y.two.two.one, code_numbers ns k _ _ y.two.two.two.two.one, code_numbers ns l _ _ y.two.two.two.two.two.two)
  code_numbers ns (Cut q k) ts rest x = (date_number q _ _ x.two.two.one, code_numbers ns k _ _ x.two.two.two.two.one)

pub code_of_text_printable : (bytes : List ℕ) (b : CodeBook) → CodeText bytes b → IsPrintableCode b.declarations b.code
code_of_text_printable bytes b text =
    let closed = code_of_text_closed bytes b text in
    let l = text.spelled.two.two.two.two.one.two.two.two in
    record { closed = closed.0; numbers = code_numbers (declared_for_code b.declarations) _ b.code _ _ l.one; shallow = closed.1 }
