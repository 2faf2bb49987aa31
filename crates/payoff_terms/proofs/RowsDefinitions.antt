-- Worked rows of the definitions of code: the cases of the values of value expressions, code that is written by hand, and
-- dates that the rules refuse.
use Rattle.std.proofs.Common.{◌≡◌, ℕ, ℤ, pos, neg_ℤ, ◌+ℤ◌, ◌-ℤ◌, max, true, false, List, [], ◌∷◌, if◌then◌else◌, refl, arith}
use Rattle.term_model.specs.Declarations.{Declarations}
use Rattle.term_model.specs.Environments.{Environment, observed}
use Rattle.term_model.specs.Kinds.{kind_of, scale_of, scale_of_kind}
use Rattle.term_model.specs.Values.{Entry, kinds, kind_or, truth, widened, days_run}
use Rattle.payoff_terms.specs.TemplateDates.{Date, day_of, AreInOrder}
use Rattle.payoff_terms.specs.Dating.{at_setting}
use Rattle.payoff_terms.specs.Code.{ValueExpression, Yes, Model, Cond, Acc, Nothing, PayOn, Loop, Cut}
use Rattle.payoff_terms.specs.CodeValues.{value_at}
use Rattle.payoff_terms.specs.CodeSites.{AtCode}
use Rattle.payoff_terms.specs.CodeAcceptance.{is_date, is_upto, code_is_small}
use Rattle.payoff_terms.proofs.RowsSample.{worth, days}

-- ---- value expressions at a base

-- `model` reads the observable on the day that its date is after the base
modelled : (d : Declarations) (l : ℕ) (x : Date) (g : List Entry) (env : Environment) (xs : List ℕ) (b : ℤ) → value_at d (Model l x) g env xs b ≡ observed d env l (b +ℤ day_of xs x)
modelled d l x g env xs b = refl

-- an accumulator of n days starts at the base n days before, and has the bases of its days for its body
accumulated : (d : Declarations) (body first : ValueExpression) (n : ℕ) (g : List Entry) (env : Environment) (xs : List ℕ) (b : ℤ) → value_at d (Acc body n first) g env xs b ≡ (let k = kind_or (kind_of d (at_setting xs first) (kinds g)) in days_run n (λ i v. widened (scale_of d (at_setting xs body) (k ∷ kinds g)) (scale_of_kind k) (value_at d body (record { value = v; kind = k } ∷ g) env xs (b -ℤ pos n +ℤ pos i))) (value_at d first g env xs (b -ℤ pos n)))
accumulated d body first n g env xs b = refl

-- of an `if` the branch that is chosen, at the greater scale
chosen : (d : Declarations) (t v w : ValueExpression) (g : List Entry) (env : Environment) (xs : List ℕ) (b : ℤ) → value_at d (Cond t v w) g env xs b ≡ (let i = scale_of d (at_setting xs v) (kinds g) in let j = scale_of d (at_setting xs w) (kinds g) in if truth (value_at d t g env xs b) then widened i (max i j) (value_at d v g env xs b) else widened j (max i j) (value_at d w g env xs b))
chosen d t v w g env xs b = refl

-- ---- code by hand, on a day before the start

gone_at_face : worth (PayOn (days (neg_ℤ (pos 5))) 0 0 1) [] [] (pos 0) ≡ pos 100_000_000_000
gone_at_face = refl

gone_and_cut : worth (Cut (days (neg_ℤ (pos 5))) (PayOn (days (neg_ℤ (pos 5))) 0 0 1)) [] [] (pos 0) ≡ pos 0
gone_and_cut = refl

-- ---- dates

latest_date : is_date (pos 2_000_000) ≡ true
latest_date = refl

too_late : is_date (pos 2_000_001) ≡ false
too_late = refl

too_early : is_date (neg_ℤ (pos 2_000_001)) ≡ false
too_early = refl

longest_loop : is_upto (pos 100_000) ≡ true
longest_loop = refl

too_long : is_upto (pos 100_001) ≡ false
too_long = refl

no_days_at_all : code_is_small [] (AtCode 0 (Loop (Yes true) (days (neg_ℤ (pos 1))) Nothing Nothing) []) ≡ false
no_days_at_all = refl

-- a template that counts twice
twice : day_of (30 ∷ 7 ∷ []) (record { days = pos 1; names = 0 ∷ 0 ∷ 1 ∷ [] }) ≡ pos 68
twice = refl

falling : AreInOrder (1 ∷ 0 ∷ []) → ⊥
falling h = omega (arith, h.1.0)
