-- A value expression as an expression with its dates in a list: each observable has the index of its date for an offset.
-- So value expressions are printed by the printer of expressions, whose leaf writes the date at an index.
use Rattle.std.specs.Prelude.{ℕ, ℤ, pos, negsuc, List, [], ◌∷◌, ◌++◌, length, map, Some, None, slice_get}
use denote.Ref.{Bor}
use Rattle.contract_grammar.specs.Words.{Bytes}
use Rattle.contract_grammar.specs.Names.{DeclaredNames}
use Rattle.term_model.specs.Terms.{Expression, Lit as Lit', Yes as Yes', Var as Var', Obs as Obs', Neg as Neg', Num as Num', Cmp as Cmp', Not as Not', Logic as Logic', Cond as Cond', Widen as Widen', Round as Round', Div as Div', Acc as Acc'}
use Rattle.payoff_terms.specs.declared.code.DateExpr.{DateExpr}
use Rattle.payoff_terms.specs.TemplateDates.{Date, date}
use Rattle.payoff_lang.specs.CodeTexts.{date_text, modelled}
use Rattle.payoff_terms.specs.Code.{ValueExpression, Lit, Yes, Var, Model, Neg, Num, Cmp, Not, Logic, Cond, Widen, Round, Div, Acc}

-- the dates that are lent
abbrev pub dates_lent : List (Bor DateExpr) → List Date
dates_lent refs = map (λ x. date x.now) refs

-- dates, and those of a value expression behind them
abbrev pub with_dates : List Date → ValueExpression → List Date
with_dates dates (Lit m k) = dates
with_dates dates (Yes b) = dates
with_dates dates (Var back) = dates
with_dates dates (Model l x) = dates ++ x ∷ []
with_dates dates (Neg v) = with_dates dates v
with_dates dates (Num op v w) = with_dates (with_dates dates v) w
with_dates dates (Cmp op v w) = with_dates (with_dates dates v) w
with_dates dates (Not v) = with_dates dates v
with_dates dates (Logic op v w) = with_dates (with_dates dates v) w
with_dates dates (Cond t v w) = with_dates (with_dates (with_dates dates t) v) w
with_dates dates (Widen k v) = with_dates dates v
with_dates dates (Round m k v) = with_dates dates v
with_dates dates (Div m k v w) = with_dates (with_dates dates v) w
with_dates dates (Acc body days first) = with_dates (with_dates dates body) first

-- the expression, where its dates stand behind those
abbrev pub numbered : List Date → ValueExpression → Expression
numbered dates (Lit m k) = Lit' m k
numbered dates (Yes b) = Yes' b
numbered dates (Var back) = Var' back
numbered dates (Model l x) = Obs' l (pos (length dates))
numbered dates (Neg v) = Neg' (numbered dates v)
numbered dates (Num op v w) = Num' op (numbered dates v) (numbered (with_dates dates v) w)
numbered dates (Cmp op v w) = Cmp' op (numbered dates v) (numbered (with_dates dates v) w)
numbered dates (Not v) = Not' (numbered dates v)
numbered dates (Logic op v w) = Logic' op (numbered dates v) (numbered (with_dates dates v) w)
numbered dates (Cond t v w) =
    Cond' (numbered dates t) (numbered (with_dates dates t) v) (numbered (with_dates (with_dates dates t) v) w)
numbered dates (Widen k v) = Widen' k (numbered dates v)
numbered dates (Round m k v) = Round' m k (numbered dates v)
numbered dates (Div m k v w) = Div' m k (numbered dates v) (numbered (with_dates dates v) w)
numbered dates (Acc body days first) = Acc' (numbered dates body) days (numbered (with_dates dates body) first)

-- the text of the date at an index
abbrev pub text_at : DeclaredNames → List Date → ℤ → Bytes
text_at s dates (pos i) = elim (slice_get dates i) [ Some x ↦ date_text s x | None ↦ [] ]
text_at s dates (negsuc i) = []

-- an observable, with the date at an index
abbrev pub modelled_at : DeclaredNames → List Date → ℕ → ℤ → Bytes
modelled_at s dates label i = modelled s label (text_at s dates i)
