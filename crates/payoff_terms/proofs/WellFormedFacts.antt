-- The code of a closed contract is closed: templates go among others in rising order, and stay declared.
use Rattle.std.proofs.Common.{ℕ, ◌+◌, [], arith}
use Rattle.term_model.specs.Declarations.{Declarations}
use Rattle.term_model.specs.DayCounts.{Days}
use Rattle.term_model.specs.DayCounts.{Num as Count, Named, Sum}
use Rattle.term_model.specs.Terms.{Expression, Lit as Lit', Yes as Yes', Var as Var', Obs as Obs', Neg as Neg', Num as Num', Cmp as Cmp', Not as Not', Logic as Logic', Cond as Cond', Widen as Widen', Round as Round', Div as Div', Acc as Acc', Contract, Zero, Pay, Both, Scale, After, Let, Within}
use Rattle.term_model.specs.WellFormed.{IsDeclared, IsWellFormed, IsWellFormedContract}
use Rattle.payoff_terms.specs.TemplateDates.{Date, date_of_days, plus, no_date}
use Rattle.payoff_terms.specs.Code.{PayoffCode, Nothing, PayOn, Add, ScaleBy, LetBe, Loop, Cut}
use Rattle.payoff_terms.specs.Compiled.{compiled, compiled_value, code_of, cut_code}
use Rattle.payoff_terms.specs.WellFormedCode.{IsWellFormedDate, IsWellFormedValue, IsWellFormedCode}
use Rattle.payoff_terms.specs.LawsCode.{CodeIsWellFormed}
use Rattle.payoff_terms.proofs.RisingFacts.{inserts_declared, inserts_in_order}

pub count_formed : (d : Declarations) (m : Days) → IsDeclared d m → IsWellFormedDate d (date_of_days m)
count_formed d (Count n) h = (tt, tt)
count_formed d (Named t) h = ((h, tt), (omega arith, tt))
count_formed d (Sum n ts) h = (inserts_declared d ts [] h tt, inserts_in_order ts [] tt)

pub plus_formed : (d : Declarations) (x y : Date) → IsWellFormedDate d x → IsWellFormedDate d y → IsWellFormedDate d (plus x y)
plus_formed d x y h k = (inserts_declared d y.names x.names k.0 h.0, inserts_in_order y.names x.names h.1)

value_formed : (d : Declarations) (n : ℕ) (x : Date) (e : Expression) → IsWellFormedDate d x → IsWellFormed d n e → IsWellFormedValue d n (compiled_value x e)
value_formed d n x (Lit' m s) f h = tt
value_formed d n x (Yes' b) f h = tt
value_formed d n x (Var' back) f h = h
value_formed d n x (Obs' l t) f h = (h.0, f)
value_formed d n x (Neg' e) f h = value_formed d n x e f h
value_formed d n x (Num' op a b) f h = (value_formed d n x a f h.0, value_formed d n x b f h.1)
value_formed d n x (Cmp' op a b) f h = (value_formed d n x a f h.0, value_formed d n x b f h.1)
value_formed d n x (Not' e) f h = value_formed d n x e f h
value_formed d n x (Logic' op a b) f h = (value_formed d n x a f h.0, value_formed d n x b f h.1)
value_formed d n x (Cond' t a b) f h = (value_formed d n x t f h.0, value_formed d n x a f h.1, value_formed d n x b f h.2)
value_formed d n x (Widen' s e) f h = value_formed d n x e f h
value_formed d n x (Round' mode s e) f h = value_formed d n x e f h
value_formed d n x (Div' mode s a b) f h = (value_formed d n x a f h.0, value_formed d n x b f h.1)
value_formed d n x (Acc' body m first) f h = (value_formed d (n + 1) x body f h.0, value_formed d n x first f h.1)

code_formed : (d : Declarations) (n : ℕ) (x : Date) (c : Contract) → IsWellFormedDate d x → IsWellFormedContract d n c → IsWellFormedCode d n (compiled x c)
code_formed d n x Zero f h = tt
code_formed d n x (Pay a p q) f h = (f, h.0, h.1, h.2)
code_formed d n x (Both a b) f h = (code_formed d n x a f h.0, code_formed d n x b f h.1)
code_formed d n x (Scale e c) f h = (value_formed d n x e f h.0, code_formed d n x c f h.1)
code_formed d n x (After m c) f h =
    code_formed d n (plus x (date_of_days m)) c (plus_formed d x (date_of_days m) f (count_formed d m h.0)) h.1
code_formed d n x (Let e c) f h = (value_formed d n x e f h.0, code_formed d (n + 1) x c f h.1)
code_formed d n x (Within e m a b) f h =
    let count = count_formed d m h.1 in
    (value_formed d n x e f h.0, count, code_formed d n x a f h.2, code_formed d n (plus x (date_of_days m)) b (plus_formed d x (date_of_days m) f count) h.3)

pub cut_formed : (d : Declarations) (n : ℕ) (k : PayoffCode) → IsWellFormedCode d n k → IsWellFormedCode d n (cut_code k)
cut_formed d n Nothing h = tt
cut_formed d n (PayOn x a p q) h = (h.0, h)
cut_formed d n (Add k l) h = (cut_formed d n k h.0, cut_formed d n l h.1)
cut_formed d n (ScaleBy v k) h = (h.0, cut_formed d n k h.1)
cut_formed d n (LetBe v k) h = (h.0, cut_formed d (n + 1) k h.1)
cut_formed d n (Loop v x k l) h = (h.0, h.1, cut_formed d n k h.2, cut_formed d n l h.3)
cut_formed d n (Cut x k) h = (h.0, cut_formed d n k h.1)

pub codes_formed : CodeIsWellFormed
codes_formed d c h = let whole = code_formed d 0 no_date c (tt, tt) h in (whole, cut_formed d 0 (code_of c) whole)
