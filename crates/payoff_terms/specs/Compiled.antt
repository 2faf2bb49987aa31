-- The code of a contract: what stands under an `after`, or in the other branch of an `if .. within`, has a later date; the
-- rest goes to the same words.
use Rattle.term_model.specs.Terms.{Expression, Contract, Zero, Pay, Both, Scale, After, Let, Within}
use Rattle.payoff_terms.specs.TemplateDates.{Date, date_of_days, plus, plus_days, no_date}
use Rattle.payoff_terms.specs.Dating.{with_date}
use Rattle.payoff_terms.specs.Code.{ValueExpression, PayoffCode, Nothing, PayOn, Add, ScaleBy, LetBe, Loop, Cut}

-- the value expression of an expression that stands on a date
abbrev pub compiled_value : Date → Expression → ValueExpression
compiled_value x e = with_date (plus_days x) e

abbrev pub compiled : Date → Contract → PayoffCode
compiled x Zero = Nothing
compiled x (Pay a p q) = PayOn x a p q
compiled x (Both a b) = Add (compiled x a) (compiled x b)
compiled x (Scale e c) = ScaleBy (compiled_value x e) (compiled x c)
compiled x (After m c) = compiled (plus x (date_of_days m)) c
compiled x (Let e c) = LetBe (compiled_value x e) (compiled x c)
compiled x (Within e m a b) =
    Loop (compiled_value x e) (date_of_days m) (compiled x a) (compiled (plus x (date_of_days m)) b)

-- the code of a whole contract
abbrev pub code_of : Contract → PayoffCode
code_of c = compiled no_date c

-- each payment is cut once its day is gone by
abbrev pub cut_code : PayoffCode → PayoffCode
cut_code Nothing = Nothing
cut_code (PayOn x a p q) = Cut x (PayOn x a p q)
cut_code (Add k l) = Add (cut_code k) (cut_code l)
cut_code (ScaleBy v k) = ScaleBy v (cut_code k)
cut_code (LetBe v k) = LetBe v (cut_code k)
cut_code (Loop v x k l) = Loop v x (cut_code k) (cut_code l)
cut_code (Cut x k) = Cut x (cut_code k)
