-- Payoff code is well formed under some binders if every index that it holds is declared, every name has its binder, and
-- the templates of each date are declared and stand in rising order. So one list of templates stands for one date, and
-- the text of a date can be read back as the same date.
use Rattle.std.specs.Prelude.{ℕ, ◌+◌, ◌<◌, List, length}
use Rattle.term_model.specs.Declarations.{Declarations}
use Rattle.term_model.specs.WellFormed.{AreBelow}
use Rattle.payoff_terms.specs.TemplateDates.{Date, AreInOrder}
use Rattle.payoff_terms.specs.Code.{ValueExpression, Lit, Yes, Var, Model, Neg, Num, Cmp, Not, Logic, Cond, Widen, Round, Div, Acc, PayoffCode, Nothing, PayOn, Add, ScaleBy, LetBe, Loop, Cut}

abbrev pub AreTemplates : Declarations → List ℕ → Type 0
AreTemplates d ts = AreBelow (length d.templates) ts

abbrev pub IsWellFormedDate : Declarations → Date → Type 0
IsWellFormedDate d x = AreTemplates d x.names × AreInOrder x.names

-- a value expression under n binders
abbrev pub IsWellFormedValue : Declarations → ℕ → ValueExpression → Type 0
IsWellFormedValue d n (Lit m s) = Unit {0}
IsWellFormedValue d n (Yes b) = Unit {0}
IsWellFormedValue d n (Var back) = back < n
IsWellFormedValue d n (Model l x) = (l < length d.labels) × IsWellFormedDate d x
IsWellFormedValue d n (Neg v) = IsWellFormedValue d n v
IsWellFormedValue d n (Num op v w) = IsWellFormedValue d n v × IsWellFormedValue d n w
IsWellFormedValue d n (Cmp op v w) = IsWellFormedValue d n v × IsWellFormedValue d n w
IsWellFormedValue d n (Not v) = IsWellFormedValue d n v
IsWellFormedValue d n (Logic op v w) = IsWellFormedValue d n v × IsWellFormedValue d n w
IsWellFormedValue d n (Cond t v w) = IsWellFormedValue d n t × IsWellFormedValue d n v × IsWellFormedValue d n w
IsWellFormedValue d n (Widen s v) = IsWellFormedValue d n v
IsWellFormedValue d n (Round mode s v) = IsWellFormedValue d n v
IsWellFormedValue d n (Div mode s v w) = IsWellFormedValue d n v × IsWellFormedValue d n w
IsWellFormedValue d n (Acc body days first) = IsWellFormedValue d (n + 1) body × IsWellFormedValue d n first

-- code under n binders
abbrev pub IsWellFormedCode : Declarations → ℕ → PayoffCode → Type 0
IsWellFormedCode d n Nothing = Unit {0}
IsWellFormedCode d n (PayOn x a p q) =
    IsWellFormedDate d x × (a < length d.assets) × (p < length d.parties) × (q < length d.parties)
IsWellFormedCode d n (Add k l) = IsWellFormedCode d n k × IsWellFormedCode d n l
IsWellFormedCode d n (ScaleBy v k) = IsWellFormedValue d n v × IsWellFormedCode d n k
IsWellFormedCode d n (LetBe v k) = IsWellFormedValue d n v × IsWellFormedCode d (n + 1) k
IsWellFormedCode d n (Loop v x k l) =
    IsWellFormedValue d n v × IsWellFormedDate d x × IsWellFormedCode d n k × IsWellFormedCode d n l
IsWellFormedCode d n (Cut x k) = IsWellFormedDate d x × IsWellFormedCode d n k

-- code under no binders
abbrev pub IsClosedCode : Declarations → PayoffCode → Type 0
IsClosedCode d k = IsWellFormedCode d 0 k
