-- The canonical text of payoff code, in ASCII: a function from trees to bytes, by cases, over the names that are declared.
-- What is common to contracts and code has the words and the numbers of contracts.
use Rattle.std.specs.Prelude.{ℕ, suc, ◌-◌, true, false, List, [], ◌∷◌, codes}
use Rattle.decimal.specs.Text.{text_of}
use Rattle.term_model.specs.Declarations.{Declarations}
use Rattle.contract_grammar.specs.Words.{Bytes}
use Rattle.contract_grammar.specs.Names.{DeclaredNames, declared_by}
use Rattle.contract_print.specs.TermTexts.{◌⊕◌, bound_name, comparison_text, connective_text, mode_text, name_at, number_text, operation_head, operation_text}
use Rattle.payoff_terms.specs.TemplateDates.{Date}
use Rattle.payoff_terms.specs.Code.{ValueExpression, Lit, Yes, Var, Model, Neg, Num, Cmp, Not, Logic, Cond, Widen, Round, Div, Acc, PayoffCode, Nothing, PayOn, Add, ScaleBy, LetBe, Loop, Cut}

-- the names that code can use
abbrev pub declared_for_code : Declarations → DeclaredNames
declared_for_code d = declared_by d []

-- the templates of a date, each as often as it stands there
abbrev pub names_text : DeclaredNames → List ℕ → Bytes
names_text s [] = []
names_text s (t ∷ ts) = codes " + " ⊕ name_at s.templates t ⊕ names_text s ts

-- a date: its number, and then its templates
unfoldable pub date_text : DeclaredNames → Date → Bytes
date_text s x = text_of x.days 0 ⊕ names_text s x.names

-- an observable, on a date of that text
abbrev pub modelled : DeclaredNames → ℕ → Bytes → Bytes
modelled s label date = codes "model(" ⊕ name_at s.labels label ⊕ codes ", " ⊕ date ⊕ codes ")"

-- a value expression under n binders
abbrev pub value_text : DeclaredNames → ℕ → ValueExpression → Bytes
value_text s n (Lit m k) = text_of m k
value_text s n (Yes true) = codes "true"
value_text s n (Yes false) = codes "false"
value_text s n (Var back) = bound_name (n - suc back)
value_text s n (Model label x) = modelled s label (date_text s x)
value_text s n (Neg v) = codes "neg(" ⊕ value_text s n v ⊕ codes ")"
value_text s n (Not v) = codes "not(" ⊕ value_text s n v ⊕ codes ")"
value_text s n (Num op v w) = operation_head op ⊕ value_text s n v ⊕ operation_text op ⊕ value_text s n w ⊕ codes ")"
value_text s n (Cmp op v w) = codes "(" ⊕ value_text s n v ⊕ comparison_text op ⊕ value_text s n w ⊕ codes ")"
value_text s n (Logic op v w) = codes "(" ⊕ value_text s n v ⊕ connective_text op ⊕ value_text s n w ⊕ codes ")"
value_text s n (Cond t v w) =
    codes "if(" ⊕ value_text s n t ⊕ codes ", " ⊕ value_text s n v ⊕ codes ", " ⊕ value_text s n w ⊕ codes ")"
value_text s n (Widen k v) = codes "widen(" ⊕ number_text k ⊕ codes ", " ⊕ value_text s n v ⊕ codes ")"
value_text s n (Round m k v) =
    codes "round(" ⊕ mode_text m ⊕ codes ", " ⊕ number_text k ⊕ codes ", " ⊕ value_text s n v ⊕ codes ")"
value_text s n (Div m k v w) =
    codes "div(" ⊕ mode_text m ⊕ codes ", " ⊕ number_text k ⊕ codes ", " ⊕ value_text s n v ⊕ codes ", " ⊕ value_text s n w ⊕ codes ")"
value_text s n (Acc body days first) =
    codes "acc(" ⊕ bound_name n ⊕ codes ", " ⊕ value_text s (suc n) body ⊕ codes ", " ⊕ number_text days ⊕ codes ", "
    ⊕ value_text s n first ⊕ codes ")"

-- what is paid, by whom and to whom
abbrev pub transfer_text : DeclaredNames → ℕ → ℕ → ℕ → Bytes
transfer_text s a p q =
    name_at s.assets a ⊕ codes ", " ⊕ name_at s.parties p ⊕ codes ", " ⊕ name_at s.parties q ⊕ codes ")"

-- what a loop tests, and up to which date
unfoldable pub test_text : DeclaredNames → ℕ → ValueExpression → Date → Bytes
test_text s n v x = value_text s n v ⊕ codes " upto " ⊕ date_text s x

-- code under n binders
abbrev pub code_text : DeclaredNames → ℕ → PayoffCode → Bytes
code_text s n Nothing = codes "none"
code_text s n (PayOn x a p q) = codes "pay(" ⊕ date_text s x ⊕ codes ", " ⊕ transfer_text s a p q
code_text s n (Add k l) = codes "add(" ⊕ code_text s n k ⊕ codes ", " ⊕ code_text s n l ⊕ codes ")"
code_text s n (ScaleBy v k) = codes "scale(" ⊕ value_text s n v ⊕ codes ", " ⊕ code_text s n k ⊕ codes ")"
code_text s n (LetBe v k) =
    codes "let " ⊕ bound_name n ⊕ codes " = " ⊕ value_text s n v ⊕ codes " in " ⊕ code_text s (suc n) k
code_text s n (Loop v x k l) =
    codes "loop " ⊕ test_text s n v x ⊕ codes " then " ⊕ code_text s n k ⊕ codes " else " ⊕ code_text s n l
code_text s n (Cut x k) = codes "cut(" ⊕ date_text s x ⊕ codes ", " ⊕ code_text s n k ⊕ codes ")"
