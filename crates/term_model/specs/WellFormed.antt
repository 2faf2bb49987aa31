-- A term is well formed under some binders if every index that it holds is declared, every name has its binder, and
-- every offset of an observable is at most 1,000,000 days. A closed contract is well formed under none.
use Rattle.std.specs.Prelude.{ℕ, ◌+◌, ◌<◌, List, [], ◌∷◌, length}
use Rattle.term_model.specs.Limits.{IsOffset}
use Rattle.term_model.specs.Declarations.{Declarations}
use Rattle.term_model.specs.DayCounts.{Days}
use Rattle.term_model.specs.DayCounts.{Num as Count, Named, Sum}
use Rattle.term_model.specs.Terms.{Expression, Lit, Yes, Var, Obs, Neg, Num, Cmp, Not, Logic, Cond, Widen, Round, Div, Acc}
use Rattle.term_model.specs.Terms.{Contract, Zero, Pay, Both, Scale, After, Let, Within}

-- an expression under k binders
abbrev pub IsWellFormed : Declarations → ℕ → Expression → Type 0
IsWellFormed d k (Lit m s) = Unit {0}
IsWellFormed d k (Yes b) = Unit {0}
IsWellFormed d k (Var back) = back < k
IsWellFormed d k (Obs l t) = (l < length d.labels) × IsOffset t
IsWellFormed d k (Neg e) = IsWellFormed d k e
IsWellFormed d k (Num op a b) = IsWellFormed d k a × IsWellFormed d k b
IsWellFormed d k (Cmp op a b) = IsWellFormed d k a × IsWellFormed d k b
IsWellFormed d k (Not e) = IsWellFormed d k e
IsWellFormed d k (Logic op a b) = IsWellFormed d k a × IsWellFormed d k b
IsWellFormed d k (Cond t a b) = IsWellFormed d k t × IsWellFormed d k a × IsWellFormed d k b
IsWellFormed d k (Widen s e) = IsWellFormed d k e
IsWellFormed d k (Round mode s e) = IsWellFormed d k e
IsWellFormed d k (Div mode s a b) = IsWellFormed d k a × IsWellFormed d k b
IsWellFormed d k (Acc body n first) = IsWellFormed d (k + 1) body × IsWellFormed d k first

abbrev pub AreBelow : ℕ → List ℕ → Type 0
AreBelow n [] = Unit {0}
AreBelow n (t ∷ ts) = (t < n) × AreBelow n ts

-- each name of a template is declared
abbrev pub IsDeclared : Declarations → Days → Type 0
IsDeclared d (Count n) = Unit {0}
IsDeclared d (Named t) = t < length d.templates
IsDeclared d (Sum n ts) = AreBelow (length d.templates) ts

-- a contract under k binders
abbrev pub IsWellFormedContract : Declarations → ℕ → Contract → Type 0
IsWellFormedContract d k Zero = Unit {0}
IsWellFormedContract d k (Pay a p q) = (a < length d.assets) × (p < length d.parties) × (q < length d.parties)
IsWellFormedContract d k (Both a b) = IsWellFormedContract d k a × IsWellFormedContract d k b
IsWellFormedContract d k (Scale e c) = IsWellFormed d k e × IsWellFormedContract d k c
IsWellFormedContract d k (After n c) = IsDeclared d n × IsWellFormedContract d k c
IsWellFormedContract d k (Let e c) = IsWellFormed d k e × IsWellFormedContract d (k + 1) c
IsWellFormedContract d k (Within e n a b) =
    IsWellFormed d k e × IsDeclared d n × IsWellFormedContract d k a × IsWellFormedContract d k b

abbrev pub IsClosed : Declarations → Contract → Type 0
IsClosed d c = IsWellFormedContract d 0 c

abbrev pub IsNumber : Days → Type 0
IsNumber (Count n) = Unit {0}
IsNumber (Named t) = ⊥
IsNumber (Sum n ts) = ⊥

-- each day count is a number and no name of a template
abbrev pub HasOnlyNumbers : Contract → Type 0
HasOnlyNumbers Zero = Unit {0}
HasOnlyNumbers (Pay a p q) = Unit {0}
HasOnlyNumbers (Both a b) = HasOnlyNumbers a × HasOnlyNumbers b
HasOnlyNumbers (Scale e c) = HasOnlyNumbers c
HasOnlyNumbers (After n c) = IsNumber n × HasOnlyNumbers c
HasOnlyNumbers (Let e c) = HasOnlyNumbers c
HasOnlyNumbers (Within e n a b) = IsNumber n × HasOnlyNumbers a × HasOnlyNumbers b
