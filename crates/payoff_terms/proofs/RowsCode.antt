-- Worked rows of contracts and their code: what a loan, a touch, an average and an option compile to, and what their code
-- is worth.
use Rattle.std.proofs.Common.{◌≡◌, pos, neg_ℤ, [], ◌∷◌, Some, refl}
use Rattle.decimal.specs.Rounding.{at_scale, divided}
use Rattle.decimal.specs.declared.Mode.TheVariants.{HalfEven}
use Rattle.term_model.specs.declared.terms.NumOp.TheVariants.{Plus, Minus, Times}
use Rattle.term_model.specs.declared.terms.CmpOp.TheVariants.{Greater}
use Rattle.term_model.specs.DayCounts.{Days}
use Rattle.term_model.specs.DayCounts.{Num as Count, Named, Sum}
use Rattle.term_model.specs.Terms.{Lit, Var, Obs, Num, Cmp, Round, Div, Acc, Contract, Zero, Pay, Both, Scale, After, Within}
use Rattle.term_model.specs.Environments.{Environment}
use Rattle.term_model.specs.Reads.{first_unfixed}
use Rattle.payoff_terms.specs.TemplateDates.{Date}
use Rattle.payoff_terms.specs.Code.{Lit as Lit', Model, Cmp as Cmp', PayoffCode, PayOn, Add, ScaleBy, Loop, Cut}
use Rattle.payoff_terms.specs.CodeReads.{reads_of_code}
use Rattle.payoff_terms.specs.Compiled.{code_of, cut_code}
use Rattle.payoff_terms.specs.PresentValues.{present_value}
use Rattle.payoff_terms.proofs.RowsSample.{decls, curve, asked, worth, days, fx}

-- ---- a loan after a count of days

abbrev pub loan : Days → Contract
loan m = Both (Scale (Lit (pos 10000) 2) (Pay 0 0 1)) (After m (Scale (Lit (pos 10500) 2) (Pay 0 1 0)))

abbrev left_of_loan : PayoffCode
left_of_loan = cut_code (code_of (loan (Count 90)))

loan_code : left_of_loan ≡ Add (ScaleBy (Lit' (pos 10000) 2) (Cut (days (pos 0)) (PayOn (days (pos 0)) 0 0 1))) (ScaleBy (Lit' (pos 10500) 2) (Cut (days (pos 90)) (PayOn (days (pos 90)) 0 1 0)))
loan_code = refl

loan_today : worth left_of_loan [] [] (pos 0) ≡ neg_ℤ (pos 395_000_000_000)
loan_today = refl

loan_next_day : worth left_of_loan [] [] (pos 1) ≡ neg_ℤ (pos 10_500_000_000_000)
loan_next_day = refl

-- cut code counts a payment on its own day, and not on the day after
loan_last_day : worth left_of_loan [] [] (pos 90) ≡ neg_ℤ (pos 10_500_000_000_000)
loan_last_day = refl

loan_after : worth left_of_loan [] [] (pos 91) ≡ pos 0
loan_after = refl

loan_present : present_value decls (loan (Count 90)) [] (pos 0) (record { now = pos 1; curve = curve; gone = pos 0; flow = record { from = 0; to = 1; asset = 0 } }) ≡ neg_ℤ (pos 10_500_000_000_000)
loan_present = refl

-- after a template's days
abbrev named_loan : PayoffCode
named_loan = cut_code (code_of (loan (Named 0)))

named_90 : worth named_loan [] (90 ∷ []) (pos 0) ≡ neg_ℤ (pos 395_000_000_000)
named_90 = refl

named_30 : worth named_loan [] (30 ∷ []) (pos 0) ≡ neg_ℤ (pos 500_000_000_000)
named_30 = refl

named_0 : worth named_loan [] (0 ∷ []) (pos 0) ≡ neg_ℤ (pos 500_000_000_000)
named_0 = refl

-- ---- a payment after 30 days and a template's days

abbrev pub delayed : Contract
delayed = After (Sum 30 (0 ∷ [])) (Scale (Lit (pos 10500) 2) (Pay 0 1 0))

abbrev thirty_and_t : Date
thirty_and_t = record { days = pos 30; names = 0 ∷ [] }

delayed_code : cut_code (code_of delayed) ≡ ScaleBy (Lit' (pos 10500) 2) (Cut thirty_and_t (PayOn thirty_and_t 0 1 0))
delayed_code = refl

delayed_60 : worth (cut_code (code_of delayed)) [] (60 ∷ []) (pos 0) ≡ neg_ℤ (pos 10_395_000_000_000)
delayed_60 = refl

delayed_59 : worth (cut_code (code_of delayed)) [] (59 ∷ []) (pos 0) ≡ neg_ℤ (pos 10_500_000_000_000)
delayed_59 = refl

-- names in rising order, whatever the sum has
sorted_code : code_of (After (Sum 0 (1 ∷ 0 ∷ 1 ∷ [])) (Pay 0 0 1)) ≡ PayOn (record { days = pos 0; names = 0 ∷ 1 ∷ 1 ∷ [] }) 0 0 1
sorted_code = refl

-- ---- a touch

abbrev pub touch : Contract
touch =
    Within (Cmp Greater (Obs 0 (pos 0)) (Lit (pos 11000) 4)) (Count 3) (Scale (Lit (pos 100) 2) (Pay 0 0 1)) (Scale (Lit (pos 200) 2) (Pay 0 1 0))

touch_code : code_of touch ≡ Loop (Cmp' Greater (Model 0 (days (pos 0))) (Lit' (pos 11000) 4)) (days (pos 3)) (ScaleBy (Lit' (pos 100) 2) (PayOn (days (pos 0)) 0 0 1)) (ScaleBy (Lit' (pos 200) 2) (PayOn (days (pos 3)) 0 1 0))
touch_code = refl

abbrev rates : Environment
rates = fx (pos 0) (pos 10000) (fx (pos 1) (pos 10000) (fx (pos 2) (pos 12000) []))

touch_stops : worth (cut_code (code_of touch)) rates [] (pos 0) ≡ pos 100_000_000_000
touch_stops = refl

touch_gone : worth (cut_code (code_of touch)) rates [] (pos 3) ≡ pos 0
touch_gone = refl

-- true on the last day for the first time: it is entered on that day, and seen the day after it is gone by
abbrev late : Environment
late = fx (pos 0) (pos 10000) (fx (pos 1) (pos 10000) (fx (pos 2) (pos 10000) (fx (pos 3) (pos 12000) [])))

touch_on_last_day : worth (cut_code (code_of touch)) late [] (pos 3) ≡ pos 100_000_000_000
touch_on_last_day = refl

touch_day_after : worth (cut_code (code_of touch)) late [] (pos 4) ≡ pos 0
touch_day_after = refl

touch_day_after_at_face : worth (code_of touch) late [] (pos 4) ≡ pos 100_000_000_000
touch_day_after_at_face = refl

-- and never true: the other branch stands on the last day, counted from the base
abbrev level : Environment
level = fx (pos 0) (pos 10000) (fx (pos 1) (pos 10000) (fx (pos 2) (pos 10000) (fx (pos 3) (pos 10000) [])))

touch_never : worth (cut_code (code_of touch)) level [] (pos 3) ≡ neg_ℤ (pos 200_000_000_000)
touch_never = refl

-- the tests are read though the payment is cut later
touch_reads : first_unfixed [] (reads_of_code decls (cut_code (code_of touch)) [] [] [] [] (asked (pos 3)) (pos 0)) ≡ Some (record { label = 0; day = pos 0 })
touch_reads = refl

-- ---- an option

abbrev pub option : Contract
option =
    After (Count 90) (Within (Cmp Greater (Obs 0 (pos 0)) (Lit (pos 11000) 4)) (Count 0) (Scale (Round HalfEven 2 (Num Times (Num Minus (Obs 0 (pos 0)) (Lit (pos 11000) 4)) (Lit (pos 10000000) 2))) (Pay 0 0 1)) Zero)

option_pays : worth (cut_code (code_of option)) (fx (pos 90) (pos 11234) []) [] (pos 0) ≡ pos 231_660_000_000_000
unfolding at_scale
option_pays = refl

-- ---- an average of three days, which ends on the day on which it is paid

abbrev average : Contract
average =
    After (Count 3) (Scale (Div HalfEven 2 (Acc (Num Plus (Var 0) (Obs 0 (pos 0))) 3 (Lit (pos 0) 4)) (Lit (pos 3) 0)) (Pay 0 0 1))

average_pays : worth (cut_code (code_of average)) (fx (pos 1) (pos 10000) (fx (pos 2) (pos 11000) (fx (pos 3) (pos 12000) []))) [] (pos 0) ≡ pos 110_000_000_000
unfolding divided
average_pays = refl

average_reads : first_unfixed [] (reads_of_code decls (code_of average) [] [] [] [] (asked (pos 0)) (pos 0)) ≡ Some (record { label = 0; day = pos 1 })
average_reads = refl
