-- The code that one walk finds is the code of the contract, and where it cuts the cut code of that.
use Rattle.std.proofs.Common.{◌≡◌, Bool, true, false, refl, ap, ap₂}
use Rattle.term_model.specs.Terms.{Contract, Zero, Pay, Both, Scale, After, Let, Within}
use Rattle.payoff_terms.specs.TemplateDates.{Date, date_of_days, no_date, plus}
use Rattle.payoff_terms.specs.Code.{PayoffCode, Add, ScaleBy, LetBe, Loop}
use Rattle.payoff_terms.specs.Compiled.{compiled, compiled_value, cut_code}
use Rattle.payoff_compile.specs.CutOnTheWay.{compiled_with, code_with}

uncut : (x : Date) (c : Contract) → compiled_with false x c ≡ compiled x c
uncut x Zero = refl
uncut x (Pay a p q) = refl
uncut x (Both a b) = ap₂ (λ (k l : PayoffCode). Add k l) (uncut x a) (uncut x b)
uncut x (Scale e c) = ap (λ (k : PayoffCode). ScaleBy (compiled_value x e) k) (uncut x c)
uncut x (After m c) = uncut (plus x (date_of_days m)) c
uncut x (Let e c) = ap (λ (k : PayoffCode). LetBe (compiled_value x e) k) (uncut x c)
uncut x (Within e m a b) =
    ap₂ (λ (k l : PayoffCode). Loop (compiled_value x e) (date_of_days m) k l) (uncut x a)
    (uncut (plus x (date_of_days m)) b)

cut_there : (x : Date) (c : Contract) → compiled_with true x c ≡ cut_code (compiled x c)
cut_there x Zero = refl
cut_there x (Pay a p q) = refl
cut_there x (Both a b) = ap₂ (λ (k l : PayoffCode). Add k l) (cut_there x a) (cut_there x b)
cut_there x (Scale e c) = ap (λ (k : PayoffCode). ScaleBy (compiled_value x e) k) (cut_there x c)
cut_there x (After m c) = cut_there (plus x (date_of_days m)) c
cut_there x (Let e c) = ap (λ (k : PayoffCode). LetBe (compiled_value x e) k) (cut_there x c)
cut_there x (Within e m a b) =
    ap₂ (λ (k l : PayoffCode). Loop (compiled_value x e) (date_of_days m) k l) (cut_there x a)
    (cut_there (plus x (date_of_days m)) b)

pub whole_code : (cuts : Bool) (c : Contract) → compiled_with cuts no_date c ≡ code_with cuts c
whole_code false c = uncut no_date c
whole_code true c = cut_there no_date c
