-- Worked rows of the canonical texts of code: a loan, a touch and an option, and the forms of dates and value expressions.
use Rattle.std.proofs.Common.{◌≡◌, pos, neg_ℤ, true, [], ◌∷◌, refl}
use Rattle.std.specs.Prelude.{codes}
use Rattle.decimal.specs.Text.{text_of}
use Rattle.decimal.specs.declared.Mode.TheVariants.{Floor}
use Rattle.term_model.specs.declared.terms.NumOp.TheVariants.{Plus, Max}
use Rattle.term_model.specs.declared.terms.CmpOp.TheVariants.{Unequal}
use Rattle.term_model.specs.declared.terms.LogicOp.TheVariants.{And}
use Rattle.term_model.specs.DayCounts.{Num as Count, Named}
use Rattle.contract_grammar.specs.Names.{DeclaredNames}
use Rattle.contract_print.specs.TermTexts.{◌⊕◌}
use Rattle.contract_print.specs.Canon.{amounts_text, line, start_text}
use Rattle.payoff_terms.specs.Code.{Lit, Yes, Var, Model, Neg, Num, Cmp, Not, Logic, Cond, Widen, Div, Acc, Nothing, PayOn, ScaleBy, LetBe}
use Rattle.payoff_terms.specs.CodeBooks.{CodeBook}
use Rattle.payoff_lang.specs.CodeTexts.{code_text, date_text, declared_for_code, test_text, value_text}
use Rattle.payoff_lang.specs.CodeCanon.{code_book_text, code_header_text, code_line_text}
use Rattle.payoff_terms.specs.Compiled.{code_of, cut_code}
use Rattle.payoff_terms.proofs.RowsSample.{days, decls}
use Rattle.payoff_terms.proofs.RowsCode.{delayed, loan, option, touch}

abbrev declared : DeclaredNames
declared = declared_for_code decls

abbrev loan_file : CodeBook
loan_file = record {
  declarations = record decls { labels = []; templates = [] };
  name = codes "loan";
  code = cut_code (code_of (loan (Count 90)));
}

loan_lines : code_book_text [] loan_file
    ≡ codes "payoff 1;" ⊕ 10 ∷ codes "amounts 2;" ⊕ 10 ∷ codes "start 0;" ⊕ 10 ∷ codes "party A, B, C;" ⊕ 10 ∷ codes "asset EUR;" ⊕ 10 ∷ codes "code loan = add(scale(100.00, cut(0, pay(0, EUR, A, B))), scale(105.00, cut(90, pay(90, EUR, B, A))));" ⊕ 10 ∷ []
unfolding text_of amounts_text start_text code_header_text date_text
loan_lines = refl

-- after a template's days
named_loan_line : code_line_text declared (codes "loan") (cut_code (code_of (loan (Named 0))))
    ≡ codes "code loan = add(scale(100.00, cut(0, pay(0, EUR, A, B))), scale(105.00, cut(0 + T, pay(0 + T, EUR, B, A))))" ⊕ line
unfolding text_of date_text
named_loan_line = refl

-- after 30 days and a template's days
delayed_line : code_line_text declared (codes "c") (cut_code (code_of delayed))
    ≡ codes "code c = scale(105.00, cut(30 + T, pay(30 + T, EUR, B, A)))" ⊕ line
unfolding text_of date_text
delayed_line = refl

touch_line : code_line_text declared (codes "touch") (cut_code (code_of touch))
    ≡ codes "code touch = loop (model(FX, 0) > 1.1000) upto 3 then scale(1.00, cut(0, pay(0, EUR, A, B))) else scale(2.00, cut(3, pay(3, EUR, B, A)))" ⊕ line
unfolding text_of date_text test_text
touch_line = refl

plain_touch_line : code_line_text declared (codes "touch") (code_of touch)
    ≡ codes "code touch = loop (model(FX, 0) > 1.1000) upto 3 then scale(1.00, pay(0, EUR, A, B)) else scale(2.00, pay(3, EUR, B, A))" ⊕ line
unfolding text_of date_text test_text
plain_touch_line = refl

option_code : code_text declared 0 (cut_code (code_of option))
    ≡ codes "loop (model(FX, 90) > 1.1000) upto 0 then scale(round(half_even, 2, ((model(FX, 90) - 1.1000) * 100000.00)), cut(90, pay(90, EUR, A, B))) else none"
unfolding text_of date_text test_text
option_code = refl

-- a template stands as often as it counts, behind a number of 0 too, and a number below 0 has its sign
counted_twice : date_text declared (record { days = pos 30; names = 0 ∷ 0 ∷ [] }) ≡ codes "30 + T + T"
unfolding text_of date_text
counted_twice = refl

before_today : code_text declared 0 (PayOn (days (neg_ℤ (pos 5))) 0 0 1) ≡ codes "pay(-5, EUR, A, B)"
unfolding text_of date_text
before_today = refl

-- a name counts the binders round its own, of lets and accumulators alike
names_by_binders : code_text declared 0 (LetBe (Acc (Num Plus (Var 0) (Neg (Lit (neg_ℤ (pos 150)) 2))) 30 (Lit (pos 0) 0)) (LetBe (Num Max (Var 0) (Widen 4 (Var 0))) (ScaleBy (Div Floor 2 (Var 0) (Var 1)) Nothing)))
    ≡ codes "let v0 = acc(v0, (v0 + neg(-1.50)), 30, 0) in let v1 = max(v0, widen(4, v0)) in scale(div(floor, 2, v1, v0), none)"
unfolding text_of
names_by_binders = refl

tests : value_text declared 0 (Cond (Logic And (Not (Yes true)) (Cmp Unequal (Model 0 (record { days = pos 0; names = 0 ∷ [] })) (Lit (pos 2) 0))) (Lit (pos 1) 0) (Lit (pos 0) 0))
    ≡ codes "if((not(true) & (model(FX, 0 + T) != 2)), 1, 0)"
unfolding text_of date_text
tests = refl
