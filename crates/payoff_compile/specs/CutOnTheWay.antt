-- The code of a contract by one walk, as it is or with each payment cut once its day is gone by.
use Rattle.std.specs.Prelude.{ℕ, Bool, true, false}
use Rattle.term_model.specs.Terms.{Contract, Zero, Pay, Both, Scale, After, Let, Within}
use Rattle.payoff_terms.specs.TemplateDates.{Date, date_of_days, plus}
use Rattle.payoff_terms.specs.Code.{PayoffCode, Nothing, PayOn, Add, ScaleBy, LetBe, Loop, Cut}
use Rattle.payoff_terms.specs.Compiled.{code_of, compiled_value, cut_code}

abbrev pub payment : Bool → Date → ℕ → ℕ → ℕ → PayoffCode
payment false x a p q = PayOn x a p q
payment true x a p q = Cut x (PayOn x a p q)

abbrev pub compiled_with : Bool → Date → Contract → PayoffCode
compiled_with cuts x Zero = Nothing
compiled_with cuts x (Pay a p q) = payment cuts x a p q
compiled_with cuts x (Both a b) = Add (compiled_with cuts x a) (compiled_with cuts x b)
compiled_with cuts x (Scale e c) = ScaleBy (compiled_value x e) (compiled_with cuts x c)
compiled_with cuts x (After m c) = compiled_with cuts (plus x (date_of_days m)) c
compiled_with cuts x (Let e c) = LetBe (compiled_value x e) (compiled_with cuts x c)
compiled_with cuts x (Within e m a b) =
    Loop (compiled_value x e) (date_of_days m) (compiled_with cuts x a)
    (compiled_with cuts (plus x (date_of_days m)) b)

-- the code of a whole contract
abbrev pub code_with : Bool → Contract → PayoffCode
code_with false c = code_of c
code_with true c = cut_code (code_of c)
