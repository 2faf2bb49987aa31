-- Code that a text can stand for may be printed.
use Rattle.std.proofs.Common.{◌≡◌, ℕ, suc, ◌+◌, subst, arith}
use Rattle.term_model.specs.Declarations.{Declarations}
use Rattle.payoff_terms.specs.Code.{ValueExpression, Lit, Yes, Var, Model, Neg, Num, Cmp, Not, Logic, Cond, Widen, Round, Div, Acc, PayoffCode, Nothing, PayOn, Add, ScaleBy, LetBe, Loop, Cut}
use Rattle.payoff_terms.specs.LawsCode.{PrintableIsWritable}
use Rattle.payoff_terms.specs.PrintableCode.{ValueHasNumbersOfTexts, CodeHasNumbersOfTexts}
use Rattle.payoff_terms.specs.WellFormedCode.{IsWellFormedValue, IsWellFormedCode}
use Rattle.payoff_terms.specs.WritableCode.{IsWritableValue, IsWritableUnder}

one_more : (n : ℕ) → n + 1 ≡ suc n
one_more n = omega arith

value_writable : (d : Declarations) (n : ℕ) (v : ValueExpression) → IsWellFormedValue d n v → ValueHasNumbersOfTexts v → IsWritableValue n v
value_writable d n (Lit m k) f h = h
value_writable d n (Yes b) f h = tt
value_writable d n (Var back) f h = f
value_writable d n (Model l x) f h = h
value_writable d n (Neg v) f h = value_writable d n v f h
value_writable d n (Num op v w) f h = (value_writable d n v f.0 h.0, value_writable d n w f.1 h.1)
value_writable d n (Cmp op v w) f h = (value_writable d n v f.0 h.0, value_writable d n w f.1 h.1)
value_writable d n (Not v) f h = value_writable d n v f h
value_writable d n (Logic op v w) f h = (value_writable d n v f.0 h.0, value_writable d n w f.1 h.1)
value_writable d n (Cond t v w) f h =
    (value_writable d n t f.0 h.0, value_writable d n v f.1 h.1, value_writable d n w f.2 h.2)
value_writable d n (Widen k v) f h = value_writable d n v f h.1
value_writable d n (Round m k v) f h = value_writable d n v f h.1
value_writable d n (Div m k v w) f h = (value_writable d n v f.0 h.1, value_writable d n w f.1 h.2)
value_writable d n (Acc body days first) f h =
    (value_writable d (suc n) body (subst (λ (m : ℕ). IsWellFormedValue d m body) (one_more n) f.0) h.1, value_writable d n first f.1 h.2)

code_writable : (d : Declarations) (n : ℕ) (k : PayoffCode) → IsWellFormedCode d n k → CodeHasNumbersOfTexts k → IsWritableUnder n k
code_writable d n Nothing f h = tt
code_writable d n (PayOn x a p q) f h = h
code_writable d n (Add k l) f h = (code_writable d n k f.0 h.0, code_writable d n l f.1 h.1)
code_writable d n (ScaleBy v k) f h = (value_writable d n v f.0 h.0, code_writable d n k f.1 h.1)
code_writable d n (LetBe v k) f h =
    (value_writable d n v f.0 h.0, code_writable d (suc n) k (subst (λ (m : ℕ). IsWellFormedCode d m k) (one_more n) f.1) h.1)
code_writable d n (Loop v x k l) f h =
    (value_writable d n v f.0 h.0, h.1, code_writable d n k f.2 h.2, code_writable d n l f.3 h.3)
code_writable d n (Cut x k) f h = (h.0, code_writable d n k f.1 h.1)

pub printable_writable : PrintableIsWritable
printable_writable d k h = record { writable = code_writable d 0 k h.closed h.numbers; shallow = h.shallow }
