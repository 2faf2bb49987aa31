-- A date that stands somewhere is the date that the tokens begin with, where no further template follows.
use Rattle.std.proofs.Common.{◌≡◌, ◌∙◌, ℕ, ℤ, Bool, true, false, Option, Some, None, Ok, List, [], ◌∷◌, refl, sym, ap, inl, inr}
use Rattle.std.specs.Prelude.{codes, nat_le}
use Rattle.std.proofs.lemmas.Bool.{cases_Bool}
use Rattle.decimal.specs.DecimalText.{signed}
use Rattle.contract_grammar.specs.Tokens.{Tok}
use Rattle.contract_grammar.specs.Words.{Bytes, is_integer, is_name, is_the_mark}
use Rattle.contract_grammar.specs.Names.{DeclaredNames, index_in}
use Rattle.contract_grammar.specs.Judgements.{date_number_at, or_fault, use_at, whole}
use Rattle.contract_grammar.specs.Spelling.{◌⨟◌, mark, sign, templates_part, valued}
use Rattle.contract_parse.specs.Reading.{LacksMark}
use Rattle.contract_grammar.specs.declared.faults.TextKind.TheVariants.{Unknown}
use Rattle.contract_grammar.proofs.TokenKinds.{number_no_mark}
use Rattle.contract_grammar.proofs.TokenKinds.{number_of_date}
use Rattle.payoff_terms.specs.TemplateDates.{Date, insert_names}
use Rattle.payoff_lang.specs.CodeSpelling.{DatePart}
use Rattle.payoff_lang.proofs.DatePositions.{behind_days, date_first, days_first, or_first, templates_first}

-- ---- one token

number_value : (negative : Bool) (t : Tok) (d : ℤ) → date_number_at negative t ≡ Ok d → signed negative (whole t) ≡ d
number_value negative t d e = elim (cases_Bool (is_integer t)) [
  | inl is ↦ elim (cases_Bool (nat_le (whole t) 2_000_000)) [
    | inl small ↦ let h = rw (is, small) at e in cc
    | inr large ↦ let h = rw (is, large) at e in absurd cc
  ]
  | inr other ↦ let h = rw other at e in absurd cc
]

index_value : (index : Option ℕ) (i : ℕ) → or_fault Unknown index ≡ Ok i → or_first index ≡ i
index_value (Some n) i e = cc
index_value None i e = absurd cc

template_value : (templates : List Bytes) (t : Tok) (i : ℕ) → use_at templates t ≡ Ok i → or_first (index_in templates t.text) ≡ i
template_value templates t i e = elim (cases_Bool (is_name t)) [
  | inl is ↦ index_value (index_in templates t.text) i (rw is at e)
  | inr other ↦ let h = rw other at e in absurd cc
]

-- ---- templates

none_first : (templates : List Bytes) (t : Tok) (ts : List Tok) → is_the_mark (codes "+") t ≡ false → templates_first templates (t ∷ ts) ≡ []
none_first templates t [] other = refl
none_first templates t (u ∷ us) other = rw other refl

one_first : (templates : List Bytes) (plus t : Tok) (ts : List Tok) → is_the_mark (codes "+") plus ≡ true → templates_first templates (plus ∷ t ∷ ts) ≡ or_first (index_in templates t.text) ∷ templates_first templates ts
one_first templates plus t ts is = rw is refl

more_first : (templates : List Bytes) (i : ℕ) (ts between rest : List Tok) → mark (codes "+") ts between → valued (use_at templates) i between rest → templates_first templates ts ≡ i ∷ templates_first templates rest
more_first templates i ts between rest (plus, e, m) (t, f, v) =
    ap (λ (us : List Tok). templates_first templates us) (e ∙ ap (λ (us : List Tok). plus ∷ us) f)
    ∙ one_first templates plus t rest m
    ∙ ap (λ (n : ℕ). n ∷ templates_first templates rest) (template_value templates t i v)

templates_are : (templates : List Bytes) (written : List ℕ) (ts rest : List Tok) → templates_part templates written ts rest → LacksMark (codes "+") rest → templates_first templates ts ≡ written
templates_are templates [] ts rest x ends = ap (λ (us : List Tok). templates_first templates us) (x ∙ ends.is) ∙ none_first templates ends.first ends.after ends.other
templates_are templates (i ∷ is) ts rest x ends =
    more_first templates i ts x.between x.two.between x.one x.two.one ∙ ap (λ (us : List ℕ). i ∷ us) (templates_are templates is x.two.between rest x.two.two ends)

-- ---- the number, and the whole date

number_is : (negative : Bool) (d : ℤ) (ts rest : List Tok) → (sign negative ⨟ valued (date_number_at negative) d) ts rest → (days_first ts ≡ d) × (behind_days ts ≡ rest)
number_is true d ts rest x = by_tokens x.one x.two
  where
    by_tokens : mark (codes "-") ts x.between → valued (date_number_at true) d x.between rest → (days_first ts ≡ d) × (behind_days ts ≡ rest)
    by_tokens (minus, e, m) (t, f, v) =
        let is : ts ≡ minus ∷ t ∷ rest = e ∙ ap (λ (us : List Tok). minus ∷ us) f in
        rw (is, m) (number_value true t d v, refl)
number_is false d ts rest x = by_token x.two
  where
    by_token : valued (date_number_at false) d x.between rest → (days_first ts ≡ d) × (behind_days ts ≡ rest)
    by_token (t, f, v) =
        let is : ts ≡ t ∷ rest = x.one ∙ f in
        rw (is, number_no_mark (codes "-") t (number_of_date false t d v)) (number_value false t d v, refl)

pub date_is : (s : DeclaredNames) (x : Date) (ts rest : List Tok) → DatePart s x ts rest → LacksMark (codes "+") rest → date_first s.templates ts ≡ x
date_is s x ts rest part ends =
    let number = number_is part.spelled.one.negative x.days ts part.spelled.between part.spelled.one.spelled in
    let names : insert_names (templates_first s.templates (behind_days ts)) [] ≡ x.names =
    ap (λ (us : List Tok). insert_names (templates_first s.templates us) []) number.1
    ∙ ap (λ (ns : List ℕ). insert_names ns []) (templates_are s.templates part.written part.spelled.between rest part.spelled.two ends)
    ∙ sym part.is in
    λ k. record { days = number.0 k; names = names k }
